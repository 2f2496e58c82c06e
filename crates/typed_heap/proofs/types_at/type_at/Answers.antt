-- Each step leads to the type of the next part.
use Rattle.std.proofs.Common.{◌+◌, map, drop, ap, ◌∙◌}
use Rattle.c_values.specs.Layout.{shape_of}
use Rattle.c_values.specs.Path.{spot}
use Rattle.c_values.specs.CodeTypes.{type_of}
use Rattle.c_memory.specs.CodeStep.{step_of}
use Rattle.c_memory.proofs.Walks.{next_steps}
use Rattle.typed_heap.proofs.Typed.{shape_at, next_shape}
use Rattle.typed_heap.proofs.types_at.type_at.Goals as goal

pub loop-step-preserved : goal.loop-step-preserved
loop-step-preserved c =
    let l = c.args.l.now in
    let path = c.args.path.now in
    let i = c.loop-step.step-index in
    let s = shape_of l (type_of c.loop-step.ty.now) in
    record {
      object = c.in_ok-ty.ensures.object;
      rest =
          c.loop-step.invariant.rest
          ∙ ap (λ ps. shape_at (spot s ps)) (next_steps step_of path i c.step-item.result c.loop-step-test.true c.step-item.is)
          ∙ next_shape s (step_of c.step-item.result) (map step_of (drop (i + 1) path)) (shape_of l (type_of c.in_ok-ty.ty.now)) c.in_ok-ty.ensures.shape;
    }
