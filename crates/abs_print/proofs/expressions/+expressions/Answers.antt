use Rattle.std.proofs.Common.{◌++◌, arith, ap, sym, ◌∙◌}
use Rattle.expression_lang.specs.CodeExpression.{exp_of}
use Rattle.expression_lang.specs.CodeShape.{shape_of}
use Rattle.abs_print.specs.CodeFronts.{front}
use Rattle.abs_print.proofs.Along.{ending_put_aside, front_written}
use Rattle.abs_print.proofs.Shapes.{behind_front}
use Rattle.abs_print.proofs.expressions.+expressions.Goals as goal

pub push_exp-along-preserved : goal.push_exp-along-preserved
push_exp-along-preserved t c =
    let whole = exp_of c.along.rest.now in
    record {
      same =
          ending_put_aside _ _ _ _ _ _ _ _ c.along.invariant.same c.in_ok-push-in-Last.ensures.items
          (front_written _ _ (front (shape_of whole)) _ _ c.in_ok-push_front.ensures
          (behind_front whole ∙ ap (λ r. front (shape_of whole) ++ r) (sym c.in-Last.ensures.same)));
      smaller = omega (arith, c.in-Last.ensures.smaller, c.along.invariant.smaller);
    }
