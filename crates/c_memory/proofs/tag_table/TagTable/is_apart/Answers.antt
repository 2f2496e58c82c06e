use Rattle.std.proofs.Common.{◌≡◌, ◌∙◌, true, false, Bool, MatchBool, sym, subst}
use Rattle.c_values.specs.CodeTypes.{type_of}
use Rattle.c_memory.specs.Memory.{Tag}
use Rattle.c_memory.specs.CodeTagIndex.{AllBeginAfter, OneBeginsWithin}
use Rattle.c_memory.specs.TagFault.{is_apart}
use Rattle.c_memory.proofs.Rows.{object_some}
use Rattle.c_memory.proofs.Neighbours.{apart_from_neighbours, over_one, into_one}
use Rattle.c_memory.proofs.tag_table.TagTable.is_apart.Goals as goal

by_test : (P Q : Type 0) (b c : Bool) → MatchBool b P Q → (P → c ≡ true) → (Q → c ≡ false) → b ≡ c
by_test P Q true c h f g = sym (f h)
by_test P Q false c h f g = sym (g h)

pub returns-then-all_end_by : goal.returns-then-all_end_by
returns-then-all_end_by c =
    let l = c.args.l.now in
    let ts = c.args.self.now in
    let t : Tag = record { address = c.args.address; type = type_of c.args.t.now } in
    let some = object_some l t.type c.size_of-size.ensures.layout c.requires.object in
    let n = c.size_of-size.ensures.value in
    by_test (AllBeginAfter ts t.address c.size_of-size.result) (OneBeginsWithin ts t.address c.size_of-size.result) c.all_begin_after.result (is_apart l t ts) c.all_begin_after.ensures
    (λ after. apart_from_neighbours l ts t some c.if-all_end_by.ensures (subst (λ k. AllBeginAfter ts t.address k) n after))
    (λ within. into_one l ts t some (subst (λ k. OneBeginsWithin ts t.address k) n within))

pub returns-else-all_end_by : goal.returns-else-all_end_by
returns-else-all_end_by c =
    let l = c.args.l.now in
    let t : Tag = record { address = c.args.address; type = type_of c.args.t.now } in
    let some = object_some l t.type c.size_of-size.ensures.layout c.requires.object in
    c.if-all_end_by.false ∙ sym (over_one l c.args.self.now t some c.if-all_end_by.ensures)
