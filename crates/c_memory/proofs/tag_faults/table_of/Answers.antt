use Rattle.std.proofs.Common.{◌∙◌, ap, sym, Some}
use Rattle.std.proofs.lemmas.Option.{slice_get-map, slice_get-get_or}
use Rattle.std.specs.Option.{option_map}
use Rattle.c_memory.specs.CodeTag.{tag_of}
use Rattle.c_memory.proofs.tag_faults.table_of.Goals as goal

pub with_tag-requires-clause-root : goal.with_tag-requires-clause-root
with_tag-requires-clause-root c =
    let xs = c.args.tags.now in
    let k = c.loop-k.k in
    let x = c.index-tags-k.result in
    c.requires k (tag_of x) (slice_get-map tag_of xs k ∙ ap (option_map tag_of) (slice_get-get_or xs k x c.loop-k-test.true ∙ ap Some (sym c.index-tags-k.is)))
