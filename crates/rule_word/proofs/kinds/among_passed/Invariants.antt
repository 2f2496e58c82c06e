-- What is found, or is behind, is what is there.
use Rattle.std.proofs.Common.{◌≡◌, None}
use Rattle.std.specs.Option.{option_map}
use Rattle.expression_lang.specs.CodeExpression.{kind_of}
use Rattle.monad_lang.specs.CodeProgram.{mon_of}
use Rattle.rule_word.specs.CodeNames.{kind_passed}
use Rattle.rule_word.specs.CodeRule.{tree_of}
use Rattle.rule_word.proofs.kinds.among_passed.Given as goal

abbrev pub invariant-along : goal.invariant-along
invariant-along l =
    kind_passed l.left (tree_of l.tree) (mon_of l.parts) l.name (option_map kind_of l.found)
    ≡ kind_passed l.count (tree_of l.initial.tree) (mon_of l.initial.parts) l.name None

abbrev pub decreases-along : goal.decreases-along
decreases-along l = l.left
