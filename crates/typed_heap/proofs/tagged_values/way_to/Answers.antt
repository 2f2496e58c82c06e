-- The way from a tag's object goes to the root that it covers, and on along the path.
use Rattle.std.proofs.Common.{◌≡◌, ◌∙◌, ◌++◌, ◌-◌, true, map, subst, sym, ap, arith}
use Rattle.std.specs.Option.{option_map}
use Rattle.c_values.specs.Layout.{is_object, shape_of}
use Rattle.c_values.specs.CodeTypes.{type_of}
use Rattle.c_memory.specs.Memory.{Tag}
use Rattle.c_memory.specs.Tags.{root_path, path_from}
use Rattle.c_memory.specs.CodeTag.{tag_of}
use Rattle.c_memory.specs.CodeStep.{step_of}
use Rattle.c_memory.proofs.Neighbours.{tag_at, item_at, within_list, path_of}
use Rattle.typed_heap.proofs.Found.{path_of_some, same_item, root_within}
use Rattle.typed_heap.proofs.tagged_values.way_to.Goals as goal

pub bounds-tags-k : goal.bounds-tags-k
bounds-tags-k c = let u = c.requires.covers in within_list tag_of c.tags.result.now c.args.tags.now c.args.k u.tag c.tags.ensures u.is

pub overflow_sub-result : goal.overflow_sub-result
overflow_sub-result c =
    let l = c.args.l.now in
    let u = c.requires.covers in
    let same = item_at tag_of c.tags.result.now c.args.tags.now c.args.k c.index-tags-k.result u.tag c.tags.ensures u.is c.index-tags-k.is in
    let start : c.index-tags-k.result.0 ≡ u.tag.address = ap (λ t. t.address) same in
    let root = path_of_some (path_from l u.tag (type_of c.args.t.now) c.args.address) u.path in
    let tag = tag_at l c.args.tags.now c.args.k u.tag c.requires.tags u.is in
    let within = root_within l c.size_of.ensures.layout u.tag (type_of c.args.t.now) c.args.address root.0 tag root.1 in
    omega (arith, start, within.0)

pub returns-clause-steps : goal.returns-clause-steps
returns-clause-steps c v e =
    let l = c.args.l.now in
    let t = type_of c.args.t.now in
    let u = c.requires.covers in
    let same = item_at tag_of c.tags.result.now c.args.tags.now c.args.k c.index-tags-k.result u.tag c.tags.ensures u.is c.index-tags-k.is in
    let root = path_of_some (path_from l u.tag t c.args.address) u.path in
    let tag = tag_at l c.args.tags.now c.args.k u.tag c.requires.tags u.is in
    let within = root_within l c.size_of.ensures.layout u.tag t c.args.address root.0 tag root.1 in
    let path = map step_of c.args.path.now in
    ap (λ o. option_map (λ steps. steps ++ path) o)
    (ap (λ (w : Tag). root_path (shape_of l w.type) t (c.args.address - w.address)) same
    ∙ sym (path_of l u.tag t c.args.address within.0)
    ∙ ap (λ w. path_from l w t c.args.address) (same_item c.args.tags.now c.args.k u.tag v u.is e))

pub returns-clause-object : goal.returns-clause-object
returns-clause-object c =
    let l = c.args.l.now in
    let u = c.requires.covers in
    let same = item_at tag_of c.tags.result.now c.args.tags.now c.args.k c.index-tags-k.result u.tag c.tags.ensures u.is c.index-tags-k.is in
    (subst (λ (w : Tag). is_object l w.type ≡ true) (sym same) (tag_at l c.args.tags.now c.args.k u.tag c.requires.tags u.is).object, c.size_of.ensures.value)

pub size_of-requires : goal.size_of-requires
size_of-requires c =
    let l = c.args.l.now in
    let u = c.requires.covers in
    let same = item_at tag_of c.tags.result.now c.args.tags.now c.args.k c.index-tags-k.result u.tag c.tags.ensures u.is c.index-tags-k.is in
    subst (λ (w : Tag). is_object l w.type ≡ true) (sym same) (tag_at l c.args.tags.now c.args.k u.tag c.requires.tags u.is).object
