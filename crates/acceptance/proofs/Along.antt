-- One function further along a unit: what is known of the whole is known of what is left.
use Rattle.std.proofs.Common.{◌≡◌, ℕ, ◌+◌, suc, true, List, ◌∷◌, length, inl, inr, Ok, Err, refl, sym, subst, ap, arith}
use Rattle.expression_lang.specs.Signature.{Signature}
use Rattle.simpl_lang.specs.Command.{SimplFn, SimplUnit}
use Rattle.acceptance.specs.Certificate.{Steps}
use Rattle.acceptance.specs.CodeReady.{are_ready}
use Rattle.acceptance.specs.Verdict.{Place, IsFunctionVerdict}
use Rattle.acceptance.specs.UnitVerdict.{UnitAnswer, of_function, listed, AreFunctionsVerdict}
use Rattle.acceptance.proofs.UnitVerdicts.{listed_parts}
use Rattle.acceptance.proofs.WellFormed.{ready_parts}

pub counted_on : {X : Type 0} (at n : ℕ) (x : X) (left xs : List X) → left ≡ x ∷ xs → at + length left ≡ n → at + 1 + length xs ≡ n
counted_on at n x left xs p h = let e : length left ≡ suc (length xs) = ap length p in omega arith

module _ (u : SimplUnit) (at : ℕ) (left fs : List SimplFn) (f : SimplFn) (signed ss : List Signature) (s : Signature)
    (right cs : List Steps) (c : Steps) (p : left ≡ f ∷ fs) (q : signed ≡ s ∷ ss) (r : right ≡ c ∷ cs) where
  pub listed_on : listed at left right ≡ Ok tt → listed (at + 1) fs cs ≡ Ok tt
  listed_on h =
      (listed_parts at f fs c cs
      (subst (λ zs. listed at (f ∷ fs) zs ≡ Ok tt) r (subst (λ xs. listed at xs right ≡ Ok tt) p h))).1

  pub ready_on : are_ready left signed ≡ true → are_ready fs ss ≡ true
  ready_on h =
      (ready_parts f s fs ss
      (subst (λ ys. are_ready (f ∷ fs) ys ≡ true) q (subst (λ xs. are_ready xs signed ≡ true) p h))).2

  module _ (Whole : UnitAnswer → Type 0) (whole : (a : UnitAnswer) → AreFunctionsVerdict u at left signed right a → Whole a) where
    here : (a : UnitAnswer) → AreFunctionsVerdict u at (f ∷ fs) (s ∷ ss) (c ∷ cs) a → Whole a
    here a h =
        whole a (subst (λ xs. AreFunctionsVerdict u at xs signed right a) (sym p)
        (subst (λ ys. AreFunctionsVerdict u at (f ∷ fs) ys right a) (sym q)
        (subst (λ zs. AreFunctionsVerdict u at (f ∷ fs) (s ∷ ss) zs a) (sym r) h)))

    pub refused_here : (place : Place) → IsFunctionVerdict u f s c (Err place) → Whole (Err (of_function at place))
    refused_here place h = here (Err (of_function at place)) (inl (place, h, refl))

    pub whole_on : IsFunctionVerdict u f s c (Ok tt) → (a : UnitAnswer) → AreFunctionsVerdict u (at + 1) fs ss cs a → Whole a
    whole_on h a k = here a (inr (h, k))
