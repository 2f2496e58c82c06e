-- The part of a value of one part is swapped in place.
use Rattle.std.proofs.Common.{◌≡◌, ◌∙◌, length, slice_set, ap, sym, arith}
use borrow.Enum.Total.{values_d, values_d_at, values_o, values_o_at}
use Rattle.c_values.specs.contracts.values.Value.{enum}
use Rattle.c_values.specs.Value.{Parts}
use Rattle.c_values.specs.CodeLone.{lone}
use Rattle.c_values.specs.CodeParts.{values_in}
use Rattle.c_values.specs.CodeValue.{value_of}
use Rattle.c_values.proofs.Listed.{parts_value}
use Rattle.c_values.proofs.Follow.{part_in}
use Rattle.typed_heap.proofs.Turned.{one_part, one_set, one_long}
use Rattle.typed_heap.proofs.selecting.swap_one_part.Goals as goal

pub returns-then-len-ne1-clause-none : goal.returns-then-len-ne1-clause-none
returns-then-len-ne1-clause-none c v e =
    let parts = c.in-Parts.parts in
    let d = ap (values_d enum 3 (parts, tt)) c.in-Parts.is ∙ values_d_at enum 3 (parts, tt) (parts, tt) in
    let len = rw d at c.len.ensures in
    let whole = ap value_of c.in-Parts.is ∙ parts_value parts in
    let one = one_long parts.items v (sym whole ∙ e) in
    absurd (omega (arith, len, one, parts.ok.0, c.if-len-ne1.true))

pub returns-clause-part : goal.returns-clause-part
returns-clause-part c =
    let parts = c.in-Parts.parts in
    let xs = parts.items in
    let d = ap (values_d enum 3 (parts, tt)) c.in-Parts.is ∙ values_d_at enum 3 (parts, tt) (parts, tt) in
    let len = rw d at c.len.ensures in
    let one : length xs ≡ 1 = omega (arith, len, parts.ok.0, c.if-len-ne1.false) in
    let whole = ap value_of c.in-Parts.is ∙ parts_value parts in
    let is = part_in xs 0 c.index_mut.result.now (omega (arith, one)) (rw d at c.index_mut.ensures.value) in
    whole ∙ one_part xs one ∙ ap (λ v. lone v) (is ∙ ap value_of (sym c.swap.ensures.y_after))

pub returns-clause-whole : goal.returns-clause-whole
returns-clause-whole c =
    let parts = c.in-Parts.parts in
    let xs = parts.items in
    let d = ap (values_d enum 3 (parts, tt)) c.in-Parts.is ∙ values_d_at enum 3 (parts, tt) (parts, tt) in
    let o = ap (values_o enum 3) c.in-Parts.is ∙ values_o_at enum 3 (parts, tt) in
    let len = rw d at c.len.ensures in
    let one : length xs ≡ 1 = omega (arith, len, parts.ok.0, c.if-len-ne1.false) in
    rw o
    (parts_value _
    ∙ ap (λ v. Parts (values_in (slice_set v.0.items 0 c.swap.new.x))) d
    ∙ one_set xs c.swap.new.x one
    ∙ ap (λ v. lone (value_of v)) c.swap.ensures.x_after)
