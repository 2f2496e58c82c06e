-- Bytes that are the front of a file, where its contents are told.
use Rattle.std.proofs.Common.{◌≡◌, ℕ, ◌+◌, ◌≤◌, List, ◌++◌, length, take, drop, Option, Some, None, IfSome, sym, ap, ◌∙◌, arith, length-append, length-take}
use Rattle.std.proofs.lemmas.List.{take-append-le}
use Rattle.std.proofs.Math.Seq.{take-add}
use Rattle.ac_base.specs.Shelf.{AreBytesAt}

-- the bytes are the first of the contents
abbrev pub AreFront : Option (List ℕ) → List ℕ → Type 0
AreFront contents bytes = IfSome contents (λ file. bytes ≡ take (length bytes) file)

-- and so they are with the next k bytes behind them
AreFront-append : (contents : Option (List ℕ)) (bytes room : List ℕ) (k : ℕ) → k ≤ length room → AreFront contents bytes → AreBytesAt contents (length bytes) k room → AreFront contents (bytes ++ take k room)
AreFront-append None bytes room k within front next = tt
AreFront-append (Some file) bytes room k within front next =
    ap (λ (l : List ℕ). bytes ++ l) next
    ∙ ap (λ (l : List ℕ). l ++ take k (drop (length bytes) file)) front
    ∙ sym (take-add (length bytes) k file)
    ∙ ap (λ (n : ℕ). take n file) (sym all)
  where
    all : length (bytes ++ take k room) ≡ length bytes + k
    all = omega (arith, length-append bytes (take k room), length-take k room)

-- a call gave k bytes at the front of a room, which are added to the bytes so far
pub AreFront-next : (told now : Option (List ℕ)) (bytes after room past : List ℕ) (at k : ℕ) → now ≡ told → at ≡ length bytes → k ≤ length room → AreFront told bytes → AreBytesAt now at k room → after ≡ bytes ++ take k (room ++ past) → AreFront told after
AreFront-next told now bytes after room past at k same here within front next grew =
    rw (grew, take-append-le k room past within) (AreFront-append told bytes room k within front (rw (same, here) at next))
