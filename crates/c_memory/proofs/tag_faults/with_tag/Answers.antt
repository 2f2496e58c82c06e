use Rattle.std.proofs.Common.{◌≡◌, ◌++◌, ◌∷◌, [], ◌∙◌, List, ap₂, sym, subst, Some, slice_get}
use Rattle.c_values.specs.CodeTypes.{type_of}
use Rattle.c_memory.specs.Memory.{Tag}
use Rattle.c_memory.specs.Tags.{AreTags}
use Rattle.c_memory.proofs.Sound.{fault_address, sound_tags}
use Rattle.c_memory.proofs.tag_faults.with_tag.Goals as goal

pub with-requires : goal.with-requires
with-requires c =
    let t : Tag = record { address = c.args.address; type = type_of c.args.ty.now } in
    λ j u e. fault_address c.args.l.now c.args.table c.args.k t c.in-None.ensures.layout c.requires.tags c.requires.root.object (sym c.in-None.ensures.fault) j u
    (subst (λ (ts : List Tag). slice_get ts j ≡ Some u) c.table.view_is e)

pub returns-in_ok-with-in-None-clause-well_tagged : goal.returns-in_ok-with-in-None-clause-well_tagged
returns-in_ok-with-in-None-clause-well_tagged c =
    let t : Tag = record { address = c.args.address; type = type_of c.args.ty.now } in
    let same = c.in_ok-with-in-None.ensures ∙ ap₂ (λ (ts : List Tag) u. ts ++ record { address = c.args.address; type = u } ∷ []) c.table.view_is c.in_ok-copy_of-in-None.ensures in
    subst (λ (ts : List Tag). AreTags c.args.l.now ts) (sym same)
    (sound_tags c.args.l.now c.args.table c.args.k t c.requires.tags c.requires.root (sym c.in-None.ensures.fault))
