-- Scalars that are found to be the same.
use Rattle.std.proofs.Common.{◌≡◌, true, refl, ap, List, [], ◌∷◌, ap₂}
use Rattle.std.proofs.lemmas.Bool.{eqb-true, and_parts, and_from}
use Rattle.std.proofs.lemmas.Bool.Decides.{Decides-eqb}
use Rattle.expression_lang.specs.Sort.{Scalar, WordSort, NumberSort, TruthSort, same_scalar}
use Rattle.expression_lang.specs.Sorted.{same_scalars}

pub same_scalar_is : (a b : Scalar) → same_scalar a b ≡ true → a ≡ b
same_scalar_is (WordSort m) (WordSort n) h = ap (λ k. WordSort k) (eqb-true m n h)
same_scalar_is NumberSort NumberSort h = refl
same_scalar_is TruthSort TruthSort h = refl
same_scalar_is _ _ h = absurd cc

pub same_scalars_are : (as' bs : List Scalar) → same_scalars as' bs ≡ true → as' ≡ bs
same_scalars_are [] [] h = refl
same_scalars_are [] (b ∷ bs) h = absurd cc
same_scalars_are (a ∷ as') [] h = absurd cc
same_scalars_are (a ∷ as') (b ∷ bs) h =
    let r = and_parts (same_scalar a b) (same_scalars as' bs) h in ap₂ (λ x xs. x ∷ xs) (same_scalar_is a b r.0) (same_scalars_are as' bs r.1)

pub same_scalar-refl : (c : Scalar) → same_scalar c c ≡ true
same_scalar-refl (WordSort n) = (Decides-eqb n n).1 refl
same_scalar-refl _ = refl

pub same_scalars-refl : (cs : List Scalar) → same_scalars cs cs ≡ true
same_scalars-refl [] = refl
same_scalars-refl (c ∷ cs) = and_from (same_scalar c c) (same_scalars cs cs) (same_scalar-refl c) (same_scalars-refl cs)
