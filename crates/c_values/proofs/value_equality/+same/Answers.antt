-- Parts are the same where their lists are, and there is less in them than in the whole.
use Rattle.std.proofs.Common.{◌≡◌, ◌-◌, suc, length, drop, ◌∙◌, ap, ap₂, sym, arith}
use Rattle.c_values.specs.Value.{same_value, same_values}
use Rattle.c_values.specs.CodeValue.{value_of}
use Rattle.c_values.specs.CodeParts.{values_in, rank, ranks}
use Rattle.c_values.proofs.Listed.{parts_value}
use Rattle.c_values.proofs.Unequal.{unequal_lengths}
use Rattle.c_values.proofs.Compared.{rank_in, smaller_than, some_there, last_pair}
use Rattle.c_values.proofs.value_equality.+same.Goals as goal

pub compared-returns-after-width-clause-smaller : goal.compared-returns-after-width-clause-smaller
compared-returns-after-width-clause-smaller t c = c.decided.ensures.smaller _

pub compared-returns-in-Number-b-2-clause-smaller : goal.compared-returns-in-Number-b-2-clause-smaller
compared-returns-in-Number-b-2-clause-smaller t c = c.decided-in-Number-b-2.ensures.smaller _

pub compared-returns-in-Truth-b-clause-smaller : goal.compared-returns-in-Truth-b-clause-smaller
compared-returns-in-Truth-b-clause-smaller t c = c.decided-in-Truth-b.ensures.smaller _

pub compared-returns-in-Parts-b-clause-verdict : goal.compared-returns-in-Parts-b-clause-verdict
compared-returns-in-Parts-b-clause-verdict t c =
    let a = ap value_of c.in-Parts.is ∙ parts_value c.in-Parts.parts in
    let b = ap value_of c.in-Parts-b.is ∙ parts_value c.in-Parts-b.others in
    c.compared_parts.ensures.verdict
    ∙ ap₂ (λ xs ys. same_values (values_in xs) (values_in ys)) c.deref.ensures.value c.deref-in-Parts-b.ensures.value
    ∙ sym (ap₂ same_value a b)

pub compared-returns-in-Parts-b-clause-smaller : goal.compared-returns-in-Parts-b-clause-smaller
compared-returns-in-Parts-b-clause-smaller t c =
    let whole : rank (value_of c.args.a.now) ≡ suc (ranks (values_in c.in-Parts.parts.items)) = ap rank (ap value_of c.in-Parts.is ∙ parts_value c.in-Parts.parts) in
    let parts : ranks (values_in c.deref.result.now) ≡ ranks (values_in c.in-Parts.parts.items) = ap (λ xs. ranks (values_in xs)) c.deref.ensures.value in
    smaller_than c.compared_parts.result _ _ c.compared_parts.ensures.smaller (omega (arith, whole, parts))

pub compared_parts-returns-then-xs-ys-clause-verdict : goal.compared_parts-returns-then-xs-ys-clause-verdict
compared_parts-returns-then-xs-ys-clause-verdict t c = sym (unequal_lengths c.args.xs.now c.args.ys.now (λ e. absurd (omega arith)))

pub compared_parts-returns-clause-verdict : goal.compared_parts-returns-clause-verdict
compared_parts-returns-clause-verdict t c =
    let xs = c.args.xs.now in
    let ys = c.args.ys.now in
    let some = some_there (length xs) c.is_empty.result c.is_empty.ensures c.if-is_empty.false in
    let at : length xs - 1 ≡ c.front.k = omega arith in
    last_pair xs ys (length xs - 1) c.index-xs-last.result c.index-ys-last.result (omega (arith, some)) (omega arith) c.index-xs-last.is c.index-ys-last.is
    ∙ ap (λ k. same_values (values_in (drop k xs)) (values_in (drop k ys))) at
    ∙ c.front.invariant

pub compared_parts-returns-clause-smaller : goal.compared_parts-returns-clause-smaller
compared_parts-returns-clause-smaller t c =
    let some = some_there (length c.args.xs.now) c.is_empty.result c.is_empty.ensures c.if-is_empty.false in
    rank_in c.args.xs.now (length c.args.xs.now - 1) c.index-xs-last.result (omega (arith, some)) c.index-xs-last.is

pub same_value-last-smaller : goal.same_value-last-smaller
same_value-last-smaller t c = c.in-AsLast.ensures.smaller

pub compared-compared_parts-requires : goal.compared-compared_parts-requires
compared-compared_parts-requires t c =
    let whole : rank (value_of c.args.a.now) ≡ suc (ranks (values_in c.in-Parts.parts.items)) = ap rank (ap value_of c.in-Parts.is ∙ parts_value c.in-Parts.parts) in
    let parts : ranks (values_in c.deref.result.now) ≡ ranks (values_in c.in-Parts.parts.items) = ap (λ xs. ranks (values_in xs)) c.deref.ensures.value in
    (omega (arith, whole, parts, c.decreases), tt)

pub compared_parts-same_value-requires : goal.compared_parts-same_value-requires
compared_parts-same_value-requires t c =
    let less = rank_in c.args.xs.now c.front.k c.index-xs-k.result (omega arith) c.index-xs-k.is in
    (omega (arith, less, c.decreases), tt)
