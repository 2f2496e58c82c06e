-- What the code's abstracted expressions stand for.
use Rattle.expression_lang.specs.CodeExpression.{exp_of}
use Rattle.rule_word.specs.CodeRule.{tree_of}
use Rattle.rule_word.specs.WordsAbstracted.{Abstracted}
use Rattle.word_abstract.specs.declared.abstracted.Abstracted as A

abbrev pub abstracted_in : A.Abstracted → Abstracted
abstracted_in x = record { right = exp_of x.right.value; tree = tree_of x.tree }
