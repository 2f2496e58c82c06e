-- What holds of every answer of a loop that keeps something from turn to turn, of a choice and of a call.
use Rattle.std.proofs.Common.{◌≡◌, ℕ, zero, suc, Bool, true, false, List, [], ◌∷◌, Option, Some, None, ◌⊎◌, inl, inr, refl, sym, subst}
use Rattle.correspondence.specs.Always.{Always}
use Rattle.correspondence.specs.Bound.{Functions, called}
use Rattle.correspondence.specs.Outcome.{Ends, choose, continued, loop}
use Rattle.correspondence.proofs.Always.{then_always}

-- another turn from where I holds, or an answer with P
abbrev pub Keeps : {X A : Type 0} → (X → Type 0) → (A → Type 0) → X ⊎ A → Type 0
Keeps I P (inl x) = I x
Keeps I P (inr a) = P a

-- a loop that keeps I from turn to turn, over functions of which Q holds at each bound
module _ {Function : Type 1} {X A F : Type 0} (Q : List Function → Type 0) (rest : (f : Function) (fs : List Function) → Q (f ∷ fs) → Q fs) (I : X → Type 0) (P : A → Type 0)
    (enter : X → Ends (X ⊎ A) F) (body : List Function → X → Ends (X ⊎ A) F)
    (enters : (x : X) → I x → Always (Keeps I P) (enter x)) (turn : (fs : List Function) → Q fs → (x : X) → I x → Always (Keeps I P) (body fs x)) where
  kept_always : (r : X → Ends A F) → ((x : X) → I x → Always P (r x)) → (z : X ⊎ A) → Keeps I P z → Always P (continued r z)
  kept_always r h (inl x) e = h x e
  kept_always r h (inr a) e = λ b e'. subst P (sym e') e

  pub loop_keeps : (fs : List Function) → Q fs → (x : X) → I x → Always P (loop enter body fs x)
  loop_keeps [] q x i = then_always (Keeps I P) P _ _ (enters x i) (kept_always _ (λ y j a e. absurd e))
  loop_keeps (f ∷ fs) q x i =
      then_always (Keeps I P) P _ _ (enters x i) (kept_always _ (λ y j. then_always (Keeps I P) P _ _ (turn fs (rest f fs q) y j) (kept_always _ (λ z k. loop_keeps fs (rest f fs q) z k))))

-- what one of two does
pub choose_always : {A F : Type 0} (P : A → Type 0) (b : Bool) (p q : Ends A F) → (b ≡ true → Always P p) → (b ≡ false → Always P q) → Always P (choose b p q)
choose_always P true p q h k = h refl
choose_always P false p q h k = k refl

pub done_always : {A : Type 0} (P : A → Type 0) (a : A) → P a → (b : A) → b ≡ a → P b
done_always P a h b e = subst P (sym e) h

-- calls
pub called_always : {Call A F : Type 0} (P : Call → Type 0) (R : Call → A → Type 0) (Q : List (Functions Call A F) → Type 0) →
    ((f : Functions Call A F) (fs : List (Functions Call A F)) → Q (f ∷ fs) → (depth : Option ℕ) (c : Call) → P c → Always (R c) (f depth c)) →
    (fs : List (Functions Call A F)) → Q fs → (depth : Option ℕ) (c : Call) → P c → Always (R c) (called fs depth c)
called_always P R Q h [] q depth c p = λ b e. absurd e
called_always P R Q h (f ∷ fs) q None c p = h f fs q None c p
called_always P R Q h (f ∷ fs) q (Some zero) c p = λ b e. absurd e
called_always P R Q h (f ∷ fs) q (Some (suc depth)) c p = h f fs q (Some depth) c p
