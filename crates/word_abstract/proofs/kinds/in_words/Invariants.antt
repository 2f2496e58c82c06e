-- Those that are listed, and those that are left, are all.
use Rattle.std.proofs.Common.{◌≡◌, ◌++◌, length, map}
use Rattle.expression_lang.specs.CodeExpression.{kind_of}
use Rattle.rule_word.specs.ProgramsAbstracted as P
use Rattle.word_abstract.proofs.kinds.in_words.Given as goal

abbrev pub invariant-along : goal.invariant-along
invariant-along l = map kind_of l.words.items ++ P.in_words (map kind_of l.rest) ≡ P.in_words (map kind_of l.kinds)

abbrev pub decreases-along : goal.decreases-along
decreases-along l = length l.rest
