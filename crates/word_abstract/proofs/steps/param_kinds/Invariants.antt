-- Those that are listed, and those that are left, are all.
use Rattle.std.proofs.Common.{◌≡◌, ◌++◌, length, map}
use Rattle.expression_lang.specs.CodeExpression.{kind_of}
use Rattle.expression_lang.specs.CodeSignature.{binder_of}
use Rattle.expression_lang.specs.Signature.{kinds_of}
use Rattle.word_abstract.proofs.steps.param_kinds.Given as goal

abbrev pub invariant-along : goal.invariant-along
invariant-along l = map kind_of l.kinds.items ++ kinds_of (map binder_of l.rest) ≡ kinds_of (map binder_of l.params)

abbrev pub decreases-along : goal.decreases-along
decreases-along l = length l.rest
