-- A way whose root is the object itself goes on along its path.
use Rattle.std.proofs.Common.{◌≡◌, ◌∙◌, [], map, Some, IfSome, ap, sym, subst}
use Rattle.c_values.specs.Layout.{Layout, shape_of}
use Rattle.c_values.specs.CodeTypes.{type_of}
use Rattle.c_memory.specs.declared.steps.Step as S
use Rattle.c_memory.specs.CodeStep.{step_of}
use Rattle.c_memory.specs.Tags.{root_path, prefixed}
use Rattle.c_memory.proofs.Inside.{root_here}
use Rattle.typed_heap.specs.declared.ways.Way as W
use Rattle.typed_heap.specs.CodeWays.{steps_of, IsWay}
use Rattle.typed_heap.proofs.Steps.{mapped_here, if_none_so, if_some}
use Rattle.typed_heap.proofs.ways.first_step.Goals as goal

here : (c : goal.After-first_along) → steps_of c.args.l.now c.args.way ≡ Some (map step_of c.in-ToRoot.path.now)
here c =
    let l = c.args.l.now in
    let u = type_of c.in-ToRoot.whole.now in
    let t = type_of c.in-ToRoot.root.now in
    ap (λ w. steps_of l w) c.in-ToRoot.is
    ∙ mapped_here (root_path (shape_of l u) t c.in-ToRoot.offset) (map step_of c.in-ToRoot.path.now)
    (root_here l c.requires.layout u (subst (λ w. IsWay l w) c.in-ToRoot.is c.requires.object).0 t c.in-ToRoot.offset (sym c.is_root_here.ensures ∙ c.if-is_root_here.true))

pub returns-then-is_root_here-clause-none : goal.returns-then-is_root_here-clause-none
returns-then-is_root_here-clause-none c =
    if_none_so c.first_along.result (λ none. subst (λ o. IfSome o (λ steps. steps ≡ [])) (sym (here c)) none) c.first_along.ensures.none

pub returns-then-is_root_here-clause-some : goal.returns-then-is_root_here-clause-some
returns-then-is_root_here-clause-some c =
    if_some c.first_along.result
    (λ (r : S.Step × W.Way). (l : Layout) → Some (map step_of c.in-ToRoot.path.now) ≡ prefixed (step_of r.0) (steps_of l r.1))
    (λ (r : S.Step × W.Way). steps_of c.args.l.now c.args.way ≡ prefixed (step_of r.0) (steps_of c.args.l.now r.1))
    (λ r h. here c ∙ h c.args.l.now) c.first_along.ensures.some

pub returns-then-is_root_here-clause-object : goal.returns-then-is_root_here-clause-object
returns-then-is_root_here-clause-object c =
    if_some c.first_along.result (λ (r : S.Step × W.Way). (l : Layout) → IsWay l r.1) (λ (r : S.Step × W.Way). IsWay c.args.l.now r.1)
    (λ r h. h c.args.l.now) c.first_along.ensures.object

pub returns-in-Along-clause-object : goal.returns-in-Along-clause-object
returns-in-Along-clause-object c =
    if_some c.first_along-in-Along.result (λ (r : S.Step × W.Way). (l : Layout) → IsWay l r.1) (λ (r : S.Step × W.Way). IsWay c.args.l.now r.1)
    (λ r h. h c.args.l.now) c.first_along-in-Along.ensures.object
