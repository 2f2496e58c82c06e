-- A front and a last part are the whole, and each is less than it.
use Rattle.std.proofs.Common.{◌≡◌, ◌+◌, suc, ◌∙◌, ap, arith}
use Rattle.c_values.specs.CodeValue.{value_of}
use Rattle.c_values.specs.CodeParts.{values_in, with_fronts, rank, ranks}
use Rattle.c_values.proofs.Joined.{one_copied, all_taken, with_fronts_push, ranks_push, front_copied}
use Rattle.c_values.proofs.Compared.{rank_in}
use Rattle.c_values.proofs.value_copies.+copy.Goals as goal

pub copies_of-loop-value-preserved : goal.copies_of-loop-value-preserved
copies_of-loop-value-preserved t c =
    one_copied c.args.values.now c.loop-value.copies.items c.loop-value.value-index c.value-item.result c.in_ok-copy_of.field-0 c.push.new.self.items
    c.loop-value-test.true c.value-item.is c.loop-value.invariant c.in_ok-copy_of.ensures c.in_ok-push.ensures.items

pub copies_of-returns : goal.copies_of-returns
copies_of-returns t c = c.loop-value.invariant ∙ all_taken c.args.values.now c.loop-value.value-index c.loop-value-test.false

pub copies_of-copy_of-requires : goal.copies_of-copy_of-requires
copies_of-copy_of-requires t c =
    let less = rank_in c.args.values.now c.loop-value.value-index c.value-item.result c.loop-value-test.true c.value-item.is in
    (omega (arith, less, c.decreases), tt)

pub copy_of-down-smaller : goal.copy_of-down-smaller
copy_of-down-smaller t c =
    let whole : rank (value_of c.down.inner.now) ≡ suc (ranks (values_in c.in-Some.front.now) + suc (rank (value_of c.in-Some.last.now))) = ap rank c.in-Some.ensures.some ∙ ap suc (ranks_push c.in-Some.front.now c.in-Some.last.now) in
    omega (arith, whole)

pub copy_of-copies_of-requires : goal.copy_of-copies_of-requires
copy_of-copies_of-requires t c =
    let whole : rank (value_of c.down.inner.now) ≡ suc (ranks (values_in c.in-Some.front.now) + suc (rank (value_of c.in-Some.last.now))) = ap rank c.in-Some.ensures.some ∙ ap suc (ranks_push c.in-Some.front.now c.in-Some.last.now) in
    let less = c.down.invariant.less in
    (omega (arith, whole, less, c.decreases), tt)

pub copy_of-down-preserved : goal.copy_of-down-preserved
copy_of-down-preserved t c =
    let whole : rank (value_of c.down.inner.now) ≡ suc (ranks (values_in c.in-Some.front.now) + suc (rank (value_of c.in-Some.last.now))) = ap rank c.in-Some.ensures.some ∙ ap suc (ranks_push c.in-Some.front.now c.in-Some.last.now) in
    let less = c.down.invariant.less in
    record {
      less = omega (arith, whole, less);
      whole =
          ap (λ fs. with_fronts fs (value_of c.in-Some.last.now)) c.in_ok-push.ensures.items
          ∙ with_fronts_push c.down.fronts.items c.in_ok-copies_of.field-0 (value_of c.in-Some.last.now)
          ∙ ap (λ w. with_fronts c.down.fronts.items w)
          (front_copied c.in-Some.front.now c.in-Some.last.now c.in_ok-copies_of.field-0 (value_of c.down.inner.now) c.in_ok-copies_of.ensures c.in-Some.ensures.some)
          ∙ c.down.invariant.whole;
    }
