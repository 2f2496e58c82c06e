use Rattle.std.proofs.Common.{◌+◌, ◌^◌, ◌≤◌, ◌∙◌, ℕ, List, map, take, drop, length, ap, sym, subst}
use Rattle.c_memory.specs.CodePages.{byte_at}
use Rattle.c_memory.specs.Ranges.{Run, run_of, run_byte, AreRuns}
use Rattle.c_memory.proofs.Pieces.{Here, Elsewhere, around, one_longer, run_fits, run_put}
use Rattle.c_memory.proofs.ranges.pages_of.Goals as goal

pub put_range-requires : goal.put_range-requires
put_range-requires c =
    let rs = c.args.ranges.now in
    let k = c.loop-address.address-index in
    let r : Run = run_of c.loop-address-item.result in
    let all = subst (λ (xs : List Run). AreRuns 0 (2 ^ 64) xs) (around run_of rs k c.loop-address-item.result c.loop-address-test.true c.loop-address-item.is) c.requires in
    subst (λ n. r.address + n ≤ 2 ^ 64) (ap length (sym c.deref.ensures.value)) (run_fits (2 ^ 64) (map run_of (take k rs)) r (map run_of (drop (k + 1) rs)) all)

pub loop-address-preserved : goal.loop-address-preserved
loop-address-preserved c =
    let rs = c.args.ranges.now in
    let k = c.loop-address.address-index in
    let r : Run = run_of c.loop-address-item.result in
    let all = subst (λ (xs : List Run). AreRuns 0 (2 ^ 64) xs) (around run_of rs k c.loop-address-item.result c.loop-address-test.true c.loop-address-item.is) c.requires in
    let new = byte_at c.put_range.new.pages in
    let old = byte_at c.loop-address.pages in
    let here : Here new r.address (length r.bytes) r.bytes = subst (λ xs. Here new r.address (length xs) xs) c.deref.ensures.value c.in_ok-put_range.ensures.here in
    let elsewhere : Elsewhere new old r.address (length r.bytes) = subst (λ (xs : List ℕ). Elsewhere new old r.address (length xs)) c.deref.ensures.value c.in_ok-put_range.ensures.elsewhere in
    record {
      value =
          run_put (2 ^ 64) (map run_of (take k rs)) r (map run_of (drop (k + 1) rs)) all new old c.loop-address.invariant.value here elsewhere
          ∙ sym (ap run_byte (one_longer run_of rs k c.loop-address-item.result c.loop-address-test.true c.loop-address-item.is));
      bytes = c.in_ok-put_range.ensures.bytes c.loop-address.invariant.bytes;
    }
