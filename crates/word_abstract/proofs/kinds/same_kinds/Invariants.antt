-- Those that are left are the same where all are.
use Rattle.std.proofs.Common.{◌≡◌, length, map}
use Rattle.expression_lang.specs.CodeExpression.{kind_of}
use Rattle.rule_word.specs.ProgramsAbstracted as P
use Rattle.word_abstract.proofs.kinds.same_kinds.Given as goal

abbrev pub invariant-along : goal.invariant-along
invariant-along l = P.same_kinds (map kind_of l.left) (map kind_of l.right) ≡ P.same_kinds (map kind_of l.a) (map kind_of l.b)

abbrev pub decreases-along : goal.decreases-along
decreases-along l = length l.left
