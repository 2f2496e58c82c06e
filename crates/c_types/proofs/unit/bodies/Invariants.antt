-- The names so far, and those of what is left, are all.
use Rattle.std.proofs.Common.{◌≡◌, ◌||◌, length, map}
use Rattle.std.specs.List.{filter_map}
use Rattle.std.specs.HashSet.{contains_text}
use Rattle.c_values.specs.Name.{Name, is_among}
use Rattle.c_grammar.specs.CodeTree.{decl_of}
use Rattle.typing_rules.specs.Unit.{body_name}
use Rattle.c_types.proofs.unit.bodies.Given as goal

abbrev pub invariant-loop-external : goal.invariant-loop-external
invariant-loop-external l =
    (x : Name) → is_among x (filter_map body_name (map decl_of l.fn.externals)) ≡ (is_among x (filter_map body_name (map decl_of l.rest)) || contains_text l.names x)

abbrev pub decreases-loop-external : goal.decreases-loop-external
decreases-loop-external l = length l.rest
