-- The fronts that are left, around what is built, are the whole.
use Rattle.std.proofs.Common.{◌≡◌, vec_len}
use Rattle.expression_lang.specs.CodeExpression.{exp_of}
use Rattle.expression_lang.specs.CodeShapeView.{with_fronts}
use Rattle.expression_lang.proofs.copies.closed.Given as goal

abbrev pub invariant-back : goal.invariant-back
invariant-back l = with_fronts l.fronts.items (exp_of l.copy.value) ≡ with_fronts l.initial.fronts.items (exp_of l.initial.copy.value)

abbrev pub decreases-back : goal.decreases-back
decreases-back l = vec_len l.fronts
