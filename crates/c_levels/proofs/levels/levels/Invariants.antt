-- The levels so far, and then those of the functions that are left.
use Rattle.std.proofs.Common.{◌≡◌, ◌++◌, map, length}
use Rattle.std.specs.HashSet.{contains_text}
use Rattle.c_lang.specs.CodeTyped.{function_of}
use Rattle.expression_lang.specs.CodeExpression.{level_of}
use Rattle.c_levels.specs.CodeModes.{default_levels}
use Rattle.c_levels.proofs.levels.levels.Given as goal

abbrev pub invariant-functions : goal.invariant-functions
invariant-functions l =
    map level_of l.levels.items ++ default_levels (λ q. contains_text l.words q) (map function_of l.functions) l.marks
    ≡ default_levels (λ q. contains_text l.words q) (map function_of l.initial.functions) l.initial.marks

abbrev pub decreases-functions : goal.decreases-functions
decreases-functions l = length l.functions
