use Rattle.std.proofs.Common.{◌≡◌, ◌≤◌, ◌+◌, ◌-◌, ℕ, List, vec_len}
use Rattle.ac_base.proofs.Front.{AreFront}
use Rattle.ac_base.proofs.reading.read_whole.Given as goal

-- the front of the file was read
abbrev pub invariant-loop-bytes : goal.invariant-loop-bytes
invariant-loop-bytes g l =
    let shelf = g.H.Shelf in
    record {
      contents : (n : List ℕ) → shelf.contents l.shelf n ≡ shelf.contents l.fn.shelf n;
      counts : (n : List ℕ) → shelf.faults l.fn.shelf n ≤ shelf.faults l.shelf n;
      within : vec_len l.bytes ≤ l.limit;
      front : AreFront (shelf.contents l.fn.shelf l.name) l.bytes.items;
    }

abbrev pub decreases-loop-bytes : goal.decreases-loop-bytes
decreases-loop-bytes g l = l.limit + 1 - vec_len l.bytes
