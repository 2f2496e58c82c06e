-- Each step leads from the part to the next, and shortens the way.
use Rattle.std.proofs.Common.{◌∙◌, ◌<◌, ap, subst, sym}
use Rattle.std.specs.Prelude.{IsSomeAnd}
use Rattle.c_values.specs.CodeValue.{value_of}
use Rattle.c_memory.specs.CodeStep.{step_of}
use Rattle.c_values.specs.CodeFollow.{CanFollow}
use Rattle.typed_heap.specs.CodeWays.{steps_of, many_steps}
use Rattle.typed_heap.proofs.Steps.{sel_found, first_follows, rest_follows, rest_selects, rest_shorter, end_selects, selected}
use Rattle.typed_heap.proofs.selecting.select.Goals as goal

pub part_by-part-requires : goal.part_by-part-requires
part_by-part-requires c =
    let l = c.args.l.now in
    let v = value_of c.steps.part.now in
    first_follows v (step_of c.in-Some.step) (steps_of l c.in-Some.rest) (subst (λ o. IsSomeAnd o (CanFollow v)) c.in-Some.ensures.some c.steps.invariant.follows)

pub steps-smaller : goal.steps-smaller
steps-smaller c =
    let l = c.args.l.now in
    let v = value_of c.steps.part.now in
    let e = c.in-Some.ensures.some in
    let h = rest_shorter v (step_of c.in-Some.step) (steps_of l c.in-Some.rest) (subst (λ o. IsSomeAnd o (CanFollow v)) e c.steps.invariant.follows) in
    subst (λ o. many_steps (steps_of l c.in-Some.rest) < many_steps o) (sym e) h

pub steps-preserved : goal.steps-preserved
steps-preserved c =
    let l = c.args.l.now in
    let v = value_of c.steps.part.now in
    let p = step_of c.in-Some.step in
    let rest = steps_of l c.in-Some.rest in
    let e = c.in-Some.ensures.some in
    record {
      object = c.in-Some.ensures.object;
      follows = rest_follows v p rest (value_of c.part_by-part.result.now) c.part_by-part.ensures (subst (λ o. IsSomeAnd o (CanFollow v)) e c.steps.invariant.follows);
      rest = rest_selects v p rest (value_of c.part_by-part.result.now) c.part_by-part.ensures ∙ ap (λ o. sel_found v o) (sym e) ∙ c.steps.invariant.rest;
    }

pub returns : goal.returns
returns c =
    let l = c.args.l.now in
    let v = value_of c.steps.part.now in
    selected v (value_of c.args.value.now) (steps_of l c.args.way) (end_selects v (steps_of l c.steps.way) c.in_default.ensures.none c.steps.invariant.follows ∙ c.steps.invariant.rest)
