-- The value at the end of the way from the covering tag is that of the place, and of its shape.
use Rattle.std.proofs.Common.{◌≡◌, ◌∙◌, ◌<◌, map, IfSome, subst, sym}
use Rattle.std.proofs.lemmas.Option.{slice_get_within}
use Rattle.std.specs.Prelude.{IsSomeAnd}
use Rattle.c_values.specs.Layout.{shape_of}
use Rattle.c_values.specs.Path.{spot, sel, HasShape}
use Rattle.c_values.specs.CodeTypes.{type_of}
use Rattle.c_values.specs.CodeValue.{value_of}
use Rattle.c_memory.specs.Tags.{AreTags}
use Rattle.c_memory.specs.CodeStep.{step_of}
use Rattle.c_memory.proofs.Neighbours.{tag_at}
use Rattle.c_values.specs.CodeFollow.{CanFollow}
use Rattle.typed_heap.specs.CodeWays.{steps_of}
use Rattle.typed_heap.proofs.Steps.{if_none}
use Rattle.typed_heap.proofs.Found.{tags_from, found, read_at, place_ends, value_fits, spot_of_some}
use Rattle.typed_heap.proofs.tagged_values.value_at.Goals as goal

pub find-requires : goal.find-requires
find-requires c = subst (λ ts. AreTags c.args.l.now ts) (tags_from c.args.h.now.tags c.args.h.now.values.items c.args.h.now.each) c.requires.heap.0

pub returns-in_err-k-clause-none : goal.returns-in_err-k-clause-none
returns-in_err-k-clause-none c = if_none c.from_residual.result c.in_err-k.ensures.none

pub way_to-way-requires-clause-tags : goal.way_to-way-requires-clause-tags
way_to-way-requires-clause-tags c = subst (λ ts. AreTags c.args.l.now ts) (tags_from c.args.h.now.tags c.args.h.now.values.items c.args.h.now.each) c.requires.heap.0

pub select-requires-clause-follows : goal.select-requires-clause-follows
select-requires-clause-follows c =
    let l = c.args.l.now in
    let h = c.args.h.now in
    let t = type_of c.args.t.now in
    let path = map step_of c.args.path.now in
    let v = c.index.result.now in
    let u = c.in_ok-k.ensures.some in
    let tags = subst (λ ts. AreTags l ts) (tags_from h.tags h.values.items h.each) c.requires.heap.0 in
    let q = spot_of_some (spot (shape_of l t) path) c.requires.place in
    let f = found l h.tags t c.args.address c.in_ok-k.k path (steps_of l c.way_to-way.result) u c.way_to-way.ensures.steps in
    let lt = subst (λ n. c.in_ok-k.k < n) (sym h.each) (slice_get_within h.tags c.in_ok-k.k u.tag u.is) in
    let fits = value_fits l h.tags h.values.items c.in_ok-k.k u.tag v c.requires.heap.1 u.is lt c.index.ensures in
    let ends = place_ends l c.way_to-way.ensures.layout t c.args.address path u.tag f.root f.finds (value_of v) q.0 (tag_at l h.tags c.in_ok-k.k u.tag tags u.is) fits q.1 in
    subst (λ o. IsSomeAnd o (CanFollow (value_of v))) (sym f.are) ends.0

pub returns-clause-some : goal.returns-clause-some
returns-clause-some c =
    let l = c.args.l.now in
    let h = c.args.h.now in
    let t = type_of c.args.t.now in
    let path = map step_of c.args.path.now in
    let v = c.index.result.now in
    let u = c.in_ok-k.ensures.some in
    let tags = subst (λ ts. AreTags l ts) (tags_from h.tags h.values.items h.each) c.requires.heap.0 in
    let f = found l h.tags t c.args.address c.in_ok-k.k path (steps_of l c.way_to-way.result) u c.way_to-way.ensures.steps in
    let lt = subst (λ n. c.in_ok-k.k < n) (sym h.each) (slice_get_within h.tags c.in_ok-k.k u.tag u.is) in
    let selects = subst (λ o. IfSome o (λ steps. value_of c.select.result.now ≡ sel (value_of v) steps)) f.are c.select.ensures in
    selects ∙ read_at l c.way_to-way.ensures.layout t c.args.address path u.tag f.root f.finds h.tags h.values.items c.in_ok-k.k v tags h.each u.is lt c.index.ensures

pub returns-clause-shape : goal.returns-clause-shape
returns-clause-shape c =
    let l = c.args.l.now in
    let h = c.args.h.now in
    let t = type_of c.args.t.now in
    let path = map step_of c.args.path.now in
    let v = c.index.result.now in
    let u = c.in_ok-k.ensures.some in
    let tags = subst (λ ts. AreTags l ts) (tags_from h.tags h.values.items h.each) c.requires.heap.0 in
    let q = spot_of_some (spot (shape_of l t) path) c.requires.place in
    let f = found l h.tags t c.args.address c.in_ok-k.k path (steps_of l c.way_to-way.result) u c.way_to-way.ensures.steps in
    let lt = subst (λ n. c.in_ok-k.k < n) (sym h.each) (slice_get_within h.tags c.in_ok-k.k u.tag u.is) in
    let fits = value_fits l h.tags h.values.items c.in_ok-k.k u.tag v c.requires.heap.1 u.is lt c.index.ensures in
    let ends = place_ends l c.way_to-way.ensures.layout t c.args.address path u.tag f.root f.finds (value_of v) q.0 (tag_at l h.tags c.in_ok-k.k u.tag tags u.is) fits q.1 in
    let selects = subst (λ o. IfSome o (λ steps. value_of c.select.result.now ≡ sel (value_of v) steps)) f.are c.select.ensures in
    subst (λ o. IfSome o (λ r. HasShape r.shape (value_of c.select.result.now))) (sym q.1) (subst (λ w. HasShape q.0.shape w) (sym selects) ends.1)
