use Rattle.std.proofs.Common.{◌≡◌, ℕ, ◌+◌, ◌-◌, ◌<◌, ◌≤◌, ◌⊎◌, length, slice_index}
use Rattle.c_memory.specs.CodePages.{byte_at}
use Rattle.c_memory.proofs.ranges.put_range.Given as goal

abbrev pub invariant-loop-done : goal.invariant-loop-done
invariant-loop-done l = record {
  few : l.done ≤ length l.bytes;
  here : (i : ℕ) → i < l.done → byte_at l.pages (l.address + i) ≡ slice_index l.bytes i;
  elsewhere : (x : ℕ) → (x < l.address) ⊎ (l.address + l.done ≤ x) → byte_at l.pages x ≡ byte_at l.fn.pages x;
}

abbrev pub decreases-loop-done : goal.decreases-loop-done
decreases-loop-done l = length l.bytes - l.done
