use Rattle.std.proofs.Common.{◌∙◌, map, drop, ap, sym, ◌+◌}
use Rattle.c_values.specs.Layout.{shape_of, space}
use Rattle.c_values.specs.Path.{spot}
use Rattle.c_values.specs.CodeTypes.{type_of}
use Rattle.c_memory.specs.CodeStep.{step_of}
use Rattle.c_memory.specs.CodePlace.{place_from}
use Rattle.c_memory.proofs.Walks.{next_place, next_steps}
use Rattle.c_memory.proofs.Objects.{some_space}
use Rattle.c_memory.proofs.paths.place_at.Goals as goal

pub loop-step-preserved : goal.loop-step-preserved
loop-step-preserved c =
    let l = c.args.l.now in
    let here = c.loop-step.part in
    let next = c.in_ok-part.part in
    let path = c.args.path.now in
    let i = c.loop-step.step-index in
    let s = shape_of l (type_of here.ty.now) in
    record {
      object = c.in_ok-part.ensures.object;
      address = c.in_ok-part.ensures.address;
      size = c.in_ok-part.ensures.size;
      rest =
          c.loop-step.invariant.rest
          ∙ ap (λ ps. place_from (space l) here.address (spot s ps)) (next_steps step_of path i c.step-item.result c.loop-step-test.true c.step-item.is)
          ∙ next_place (space l) s here.address (step_of c.step-item.result) (map step_of (drop (i + 1) path)) next.address (shape_of l (type_of next.ty.now)) (some_space l) (sym c.in_ok-part.ensures.place);
    }
