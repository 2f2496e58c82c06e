-- What is found, or is behind, is what is there.
use Rattle.std.proofs.Common.{◌≡◌, None, map, length}
use Rattle.std.specs.Option.{option_map}
use Rattle.expression_lang.specs.CodeExpression.{kind_of}
use Rattle.monad_lang.specs.CodeProgram.{start_of}
use Rattle.monad_lang.specs.Run.{start_names}
use Rattle.rule_word.specs.CodeNames.{kind_among}
use Rattle.rule_word.proofs.kinds.among_starts.Given as goal

abbrev pub invariant-starts : goal.invariant-starts
invariant-starts l =
    kind_among (start_names (map start_of l.rest)) (map kind_of l.left) l.name (option_map kind_of l.found)
    ≡ kind_among (start_names (map start_of l.starts)) (map kind_of l.kinds) l.name None

abbrev pub decreases-starts : goal.decreases-starts
decreases-starts l = length l.rest
