-- The value at a place of a tag's object is written over in place.
use Rattle.std.proofs.Common.{◌≡◌, ◌<◌, IsSome, IfSome, map, refl, subst, sym, arith}
use Rattle.std.proofs.lemmas.Option.{slice_get_within}
use Rattle.c_values.specs.Path.{upd}
use Rattle.c_values.specs.CodeTypes.{type_of}
use Rattle.c_values.specs.CodeValue.{value_of}
use Rattle.c_memory.specs.Tags.{AreTags}
use Rattle.c_memory.specs.CodeStep.{step_of}
use Rattle.typed_heap.specs.CodeWays.{steps_of}
use Rattle.typed_heap.proofs.Found.{tags_from, found, write_at}
use Rattle.typed_heap.proofs.tagged_values.put.Goals as goal

pub way_to-way-requires-clause-tags : goal.way_to-way-requires-clause-tags
way_to-way-requires-clause-tags c = let h = c.args.h.now in subst (λ ts. AreTags c.args.l.now ts) (tags_from h.tags h.values.items h.each) c.requires.heap.0

pub index_mut-requires : goal.index_mut-requires
index_mut-requires c =
    let h = c.args.h.now in
    let u = c.requires.covers in
    let lt = subst (λ n. c.args.k < n) (sym h.each) (slice_get_within h.tags c.args.k u.tag u.is) in
    omega (arith, lt, h.values.ok.0)

pub replace-requires-clause-some : goal.replace-requires-clause-some
replace-requires-clause-some c =
    let l = c.args.l.now in
    let h = c.args.h.now in
    let f = found l h.tags (type_of c.args.t.now) c.args.address c.args.k (map step_of c.args.path.now) (steps_of l c.way_to-way.result) c.requires.covers c.way_to-way.ensures.steps in
    subst IsSome (sym f.are) refl

pub returns : goal.returns
returns c =
    let l = c.args.l.now in
    let h = c.args.h.now in
    let t = type_of c.args.t.now in
    let path = map step_of c.args.path.now in
    let w = value_of c.args.value in
    let u = c.requires.covers in
    let tags = subst (λ ts. AreTags l ts) (tags_from h.tags h.values.items h.each) c.requires.heap.0 in
    let f = found l h.tags t c.args.address c.args.k path (steps_of l c.way_to-way.result) u c.way_to-way.ensures.steps in
    let lt = subst (λ n. c.args.k < n) (sym h.each) (slice_get_within h.tags c.args.k u.tag u.is) in
    let old = c.index_mut.result.now in
    let replaces = subst (λ o. IfSome o (λ steps. value_of c.replace.new.whole ≡ upd (value_of old) steps w)) f.are c.replace.ensures in
    write_at l c.way_to-way.ensures.layout t c.args.address path u.tag f.root f.finds h.tags h.values.items c.args.k old c.replace.new.whole w tags h.each u.is lt c.index_mut.ensures.value replaces
