-- What holds of every answer of a run, whatever its other side.
use Rattle.std.proofs.Common.{List, [], ◌∷◌, ◌⊎◌, inl, inr, sym, subst}
use Rattle.correspondence.specs.Always.{Always}
use Rattle.correspondence.specs.Outcome.{Ends, Then, goes_on, continued, loop}

pub then_always : {A B F : Type 0} (P : A → Type 0) (Q : B → Type 0) (p : Ends A F) (r : A → Ends B F) → Always P p → ((a : A) → P a → Always Q (r a)) → Always Q (Then p r)
then_always P Q p r h k b (goes_on {a} x y) = k a (h a x) b y

-- the loop has not ended, or its answer has P
abbrev pub Ended : {X A : Type 0} → (A → Type 0) → X ⊎ A → Type 0
Ended P (inl x) = Unit {0}
Ended P (inr a) = P a

module _ {Function : Type 1} {X A F : Type 0} (P : A → Type 0) (enter : X → Ends (X ⊎ A) F) (body : List Function → X → Ends (X ⊎ A) F)
    (enters : (x : X) → Always (Ended P) (enter x)) (turn : (fs : List Function) (x : X) → Always (Ended P) (body fs x)) where
  continued_always : (r : X → Ends A F) → ((x : X) → Always P (r x)) → (z : X ⊎ A) → Ended P z → Always P (continued r z)
  continued_always r h (inl x) e = h x
  continued_always r h (inr a) e = λ b e'. subst P (sym e') e

  pub loop_always : (fs : List Function) (x : X) → Always P (loop enter body fs x)
  loop_always [] x = then_always (Ended P) P _ _ (enters x) (continued_always _ (λ y a e. absurd e))
  loop_always (f ∷ fs) x =
      then_always (Ended P) P _ _ (enters x) (continued_always _ (λ y. then_always (Ended P) P _ _ (turn fs y) (continued_always _ (loop_always fs))))
