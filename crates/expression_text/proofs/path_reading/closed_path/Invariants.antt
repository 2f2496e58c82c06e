-- The steps that are left, before what is built, are the whole.
use Rattle.std.proofs.Common.{◌≡◌, vec_len}
use Rattle.expression_lang.specs.Expression.{Here}
use Rattle.expression_lang.specs.CodeExpression.{path_of}
use Rattle.expression_lang.specs.CodeShapeView.{with_steps}
use Rattle.expression_text.proofs.path_reading.closed_path.Given as goal

abbrev pub invariant-back : goal.invariant-back
invariant-back l = with_steps l.fronts.items (path_of l.path) ≡ with_steps l.initial.fronts.items Here

abbrev pub decreases-back : goal.decreases-back
decreases-back l = vec_len l.fronts
