-- Each tag's value is what memory has there.
use Rattle.std.proofs.Common.{◌≡◌, ◌+◌, ◌∙◌, List, length, map, take, ap, ap₂, sym, arith}
use Rattle.std.proofs.lemmas.List.{length-map, length-take, length_push}
use Rattle.c_memory.specs.Memory.{Tag}
use Rattle.c_memory.specs.CodeTag.{tag_of}
use Rattle.c_memory.specs.CodePages.{byte_at}
use Rattle.c_memory.proofs.Pieces.{one_longer}
use Rattle.typed_heap.specs.CodeCells.{cells_from}
use Rattle.typed_heap.proofs.Cells.{cell_of, cell_made, tag_of_item, tag_in_space, root_loaded}
use Rattle.typed_heap.proofs.viewing.view.Goals as goal

pub read_value-requires-clause-object : goal.read_value-requires-clause-object
read_value-requires-clause-object c =
    (tag_of_item c.args.l.now c.tags-address-items.result.now c.args.h.now.tags c.loop-address.address-index c.loop-address-item.result c.tags-address-items.ensures c.loop-address-test.true c.loop-address-item.is c.requires.tags).object

pub read_value-requires-clause-address : goal.read_value-requires-clause-address
read_value-requires-clause-address c =
    tag_in_space c.args.l.now (tag_of c.loop-address-item.result) c.target.ensures.layout
    (tag_of_item c.args.l.now c.tags-address-items.result.now c.args.h.now.tags c.loop-address.address-index c.loop-address-item.result c.tags-address-items.ensures c.loop-address-test.true c.loop-address-item.is c.requires.tags)

pub loop-address-preserved : goal.loop-address-preserved
loop-address-preserved c =
    let l = c.args.l.now in
    let xs = c.tags-address-items.result.now in
    let k = c.loop-address.address-index in
    let x = c.loop-address-item.result in
    let bytes = byte_at c.args.h.now.pages in
    let ts = map tag_of (take k xs) in
    let longer = one_longer tag_of xs k x c.loop-address-test.true c.loop-address-item.is in
    let many : length c.loop-address.values.items ≡ length ts = omega (arith, c.loop-address.invariant.many, length-map (take k xs) tag_of, length-take k xs, c.loop-address-test.true) in
    record {
      many = ap length c.in_ok-push.ensures.items ∙ length_push c.loop-address.values.items c.in_ok-read_value.field-0 ∙ ap (λ n. n + 1) c.loop-address.invariant.many;
      cells =
          ap₂ (λ (us : List Tag) vs. cells_from us vs) longer c.in_ok-push.ensures.items
          ∙ cell_made l bytes ts c.loop-address.values.items (tag_of x) c.in_ok-read_value.field-0 many c.loop-address.invariant.cells (c.in_ok-read_value.ensures ∙ root_loaded l bytes (tag_of x))
          ∙ sym (ap (λ (us : List Tag). map (cell_of l bytes) us) longer);
    }
