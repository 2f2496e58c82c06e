use Rattle.std.proofs.Common.{◌∙◌, ◌^◌, ap, ap₂, sym}
use Rattle.c_values.specs.Types.{address_width}
use Rattle.c_values.specs.Layout.{shape_of, space}
use Rattle.c_values.specs.CodeTypes.{type_of}
use Rattle.c_values.specs.CodeValue.{value_of}
use Rattle.c_memory.specs.Memory.{store, with_bytes}
use Rattle.c_memory.specs.CodePages.{byte_at}
use Rattle.c_memory.proofs.Put.{word_stored}
use Rattle.c_memory.proofs.stores.store_word.Goals as goal

pub returns-in-Word-clause-bytes : goal.returns-in-Word-clause-bytes
returns-in-Word-clause-bytes c =
    let l = c.args.l.now in
    let t = type_of c.args.t.now in
    let old = byte_at c.args.pages.now in
    c.put_bits.ensures.bytes
    ∙ ap (λ w. with_bytes (2 ^ address_width w) c.args.address c.from-size.result c.bits.result old) c.target.ensures.value
    ∙ ap₂ (λ n b. with_bytes (space l) c.args.address n b old) (c.from-size.ensures ∙ c.size_of.ensures.value) c.bits.ensures.value
    ∙ sym (word_stored l t (space l) c.args.address c.in-Word.word old c.requires.scalar)
    ∙ sym (ap (λ v. store (space l) (shape_of l t) c.args.address (value_of v) old) c.in-Word.is)
