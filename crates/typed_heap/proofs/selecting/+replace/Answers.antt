-- A part is replaced in place, along the steps of a way.
use Rattle.std.proofs.Common.{◌≡◌, ◌∙◌, ◌∷◌, length, slice_set, Some, ap, sym, arith}
use borrow.Enum.Total.{values_d, values_d_at, values_o, values_o_at}
use Rattle.c_values.specs.contracts.values.Value.{enum}
use Rattle.c_values.specs.Value.{Parts, with_part}
use Rattle.c_values.specs.Path.{place_of, upd}
use Rattle.c_values.specs.CodeValue.{value_of}
use Rattle.c_memory.specs.CodeStep.{step_of}
use Rattle.c_values.specs.CodeParts.{values_in}
use Rattle.c_values.proofs.Listed.{parts_value}
use Rattle.typed_heap.specs.CodeWays.{steps_of}
use Rattle.c_values.proofs.Follow.{set_in, part_in, place_below, upd_at, upd_nowhere}
use Rattle.typed_heap.proofs.Steps.{if_some, each_some}
use Rattle.typed_heap.specs.CodeTurned.{turned_back}
use Rattle.typed_heap.proofs.Turned.{found, as_replaced}
use Rattle.typed_heap.proofs.selecting.+replace.Goals as goal

pub replace-returns : goal.replace-returns
replace-returns t c =
    let l = c.args.l.now in
    let w = value_of c.args.value in
    let there =
    as_replaced (value_of c.take_out-way.new.whole) w (value_of c.replace_there.new.whole) (steps_of l c.take_out-way.result)
    c.take_out-way.ensures.some c.replace_there.ensures in
    found (value_of c.args.whole.now) w (value_of c.put_back.new.whole) (steps_of l c.args.way)
    (c.put_back.ensures ∙ ap (λ v. turned_back (value_of c.take_out-way.new.outer) v) there ∙ c.take_out-way.ensures.whole w)

pub replace_in-returns-in-Some : goal.replace_in-returns-in-Some
replace_in-returns-in-Some t c =
    let p = step_of c.args.step in
    let w = value_of c.args.value in
    let k = c.in-Some.k in
    let parts = c.in-Parts.parts in
    let xs = parts.items in
    let d = ap (values_d enum 3 (parts, tt)) c.in-Parts.is ∙ values_d_at enum 3 (parts, tt) (parts, tt) in
    let o = ap (values_o enum 3) c.in-Parts.is ∙ values_o_at enum 3 (parts, tt) in
    let len = rw d at c.len.ensures in
    let many : c.len.result ≡ length xs = omega (arith, len, parts.ok.0) in
    let whole = ap value_of c.in-Parts.is ∙ parts_value parts in
    let place : place_of p (length xs) ≡ Some k = sym (c.in-Some.ensures ∙ ap (λ n. place_of p n) many) in
    let is = part_in xs k c.index_mut.result.now (place_below p (length xs) k place) (rw d at c.index_mut.ensures.value) in
    rw o
    (if_some (steps_of c.args.l.now c.args.rest)
    (λ steps. value_of c.replace.new.whole ≡ upd (value_of c.index_mut.result.now) steps w)
    _
    (λ steps h. parts_value _
    ∙ ap (λ v. Parts (values_in (slice_set v.0.items k c.replace.new.whole))) d
    ∙ ap (λ vs. Parts vs) (set_in xs k c.replace.new.whole ∙ ap (λ v. with_part (values_in xs) k v) (h ∙ ap (λ v. upd v steps w) (sym is)))
    ∙ sym (upd_at xs p steps w k place)
    ∙ sym (ap (λ v. upd v (p ∷ steps) w) whole))
    c.replace.ensures)

pub replace_in-returns-in_default-place_of : goal.replace_in-returns-in_default-place_of
replace_in-returns-in_default-place_of t c =
    let p = step_of c.args.step in
    let w = value_of c.args.value in
    let parts = c.in-Parts.parts in
    let d = ap (values_d enum 3 (parts, tt)) c.in-Parts.is ∙ values_d_at enum 3 (parts, tt) (parts, tt) in
    let o = ap (values_o enum 3) c.in-Parts.is ∙ values_o_at enum 3 (parts, tt) in
    let len = rw d at c.len.ensures in
    let many : c.len.result ≡ length parts.items = omega (arith, len, parts.ok.0) in
    let whole = ap value_of c.in-Parts.is ∙ parts_value parts in
    rw o
    (each_some (steps_of c.args.l.now c.args.rest) _
    (λ steps. parts_value (values_d enum 3 (parts, tt) c.args.whole.now).0
    ∙ ap (λ v. Parts (values_in v.0.items)) d
    ∙ sym (upd_nowhere parts.items p steps w (sym (c.in_default-place_of.ensures ∙ ap (λ n. place_of p n) many)))
    ∙ sym (ap (λ v. upd v (p ∷ steps) w) whole)))
