-- A list from a position on.
use Rattle.std.proofs.Common.{◌≡◌, ℕ, zero, suc, ◌+◌, ◌<◌, List, [], ◌∷◌, length, drop, slice_get, Some, refl, ap, ◌∙◌, arith}
use Rattle.std.proofs.lemmas.Option.{slice_get_within, get_or_from_slice_get}
use Rattle.std.proofs.Math.Seq.{drop-cons}

pub item_there : {X : Type 0} (xs : List X) (at : ℕ) → at < length xs → (x : X) × (slice_get xs at ≡ Some x)
item_there [] at lt = absurd (omega (arith, lt))
item_there (x ∷ xs) zero lt = (x, refl)
item_there (x ∷ xs) (suc at) lt = item_there xs at (omega (arith, lt))

pub from_item : {X : Type 0} (xs : List X) (at : ℕ) (x : X) → slice_get xs at ≡ Some x → drop at xs ≡ x ∷ drop (at + 1) xs
from_item xs at x e =
    let next : suc at ≡ at + 1 = omega arith in
    drop-cons xs at x (slice_get_within xs at x e) ∙ ap (λ y. y ∷ drop (suc at) xs) (get_or_from_slice_get xs at x x e) ∙ ap (λ n. x ∷ drop n xs) next
