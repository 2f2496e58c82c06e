-- One end of a run, computed: where nothing is chosen, each of the words that runs are put together by has one, which is
-- an end of the run. A case of a test waits until the test is known.
use Rattle.std.proofs.Common.{ℕ, zero, suc, Option, Some, None, Bool, true, false, List, [], ◌∷◌, ◌⊎◌, inl, inr, Result, Ok, Err, refl}
use Rattle.correspondence.specs.Outcome.{Turns, Depth, Outcome, Done, Failed, Stopped, Ends, given, Then, goes_on, fails, stops, choose, continued, loop}
use Rattle.correspondence.specs.Bound.{Functions, called, below}

abbrev pub given_end : {A F : Type 0} → Result A F → Outcome A F
given_end (Ok a) = Done a
given_end (Err f) = Failed f

pub given_ends : {A F : Type 0} (r : Result A F) → given r (given_end r)
given_ends (Ok a) = refl
given_ends (Err f) = refl

abbrev pub then_end : {A B F : Type 0} → Outcome A F → (A → Outcome B F) → Outcome B F
then_end (Done a) k = k a
then_end (Failed f) k = Failed f
then_end (Stopped w) k = Stopped w

pub then_ends : {A B F : Type 0} (p : Ends A F) (r : A → Ends B F) (o : Outcome A F) (k : A → Outcome B F) → p o → ((a : A) → r a (k a)) → Then p r (then_end o k)
then_ends p r (Done a) k h g = goes_on h (g a)
then_ends p r (Failed f) k h g = fails h
then_ends p r (Stopped w) k h g = stops h

pub choose_ends : {A F : Type 0} (t : Bool) (p q : Ends A F) (a b : Outcome A F) → p a → q b → choose t p q (elim t as (λ _. Outcome A F) [ true ↦ a | false ↦ b ])
choose_ends true p q a b h k = h
choose_ends false p q a b h k = k

abbrev pub continued_end : {X A F : Type 0} → (X → Outcome A F) → X ⊎ A → Outcome A F
continued_end next (inl x) = next x
continued_end next (inr a) = Done a

pub continued_ends : {X A F : Type 0} (r : X → Ends A F) (k : X → Outcome A F) → ((x : X) → r x (k x)) → (z : X ⊎ A) → continued r z (continued_end k z)
continued_ends r k h (inl x) = h x
continued_ends r k h (inr a) = refl

-- the one end of each call, at one bound
abbrev pub FunctionsEnd : Type 0 → Type 0 → Type 0 → Type 0
FunctionsEnd Call A F = Option ℕ → Call → Outcome A F

abbrev pub AllEnd : {Call A F : Type 0} → List (Functions Call A F) → List (FunctionsEnd Call A F) → Type 0
AllEnd [] [] = Unit {0}
AllEnd {Call} (f ∷ fs) (e ∷ es) = ((depth : Option ℕ) (c : Call) → f depth c (e depth c)) × AllEnd fs es
AllEnd [] (e ∷ es) = ⊥
AllEnd (f ∷ fs) [] = ⊥

abbrev pub loop_end : {E X A F : Type 0} → (X → Outcome (X ⊎ A) F) → (List E → X → Outcome (X ⊎ A) F) → List E → X → Outcome A F
loop_end enter body [] x = then_end (enter x) (continued_end (λ _. Stopped Turns))
loop_end enter body (e ∷ es) x = then_end (enter x) (continued_end (λ y. then_end (body es y) (continued_end (loop_end enter body es))))

module _ {Call A' F' X A F : Type 0} (enter : X → Ends (X ⊎ A) F) (body : List (Functions Call A' F') → X → Ends (X ⊎ A) F)
    (enter' : X → Outcome (X ⊎ A) F) (body' : List (FunctionsEnd Call A' F') → X → Outcome (X ⊎ A) F)
    (enters : (x : X) → enter x (enter' x))
    (turn : (fs : List (Functions Call A' F')) (es : List (FunctionsEnd Call A' F')) → AllEnd fs es → (x : X) → body fs x (body' es x)) where
  pub loop_ends : (fs : List (Functions Call A' F')) (es : List (FunctionsEnd Call A' F')) → AllEnd fs es → (x : X) → loop enter body fs x (loop_end enter' body' es x)
  loop_ends [] [] h x = then_ends _ _ _ _ (enters x) (continued_ends _ _ (λ y. refl))
  loop_ends (f ∷ fs) (e ∷ es) h x =
      then_ends _ _ _ _ (enters x) (continued_ends _ _ (λ y. then_ends _ _ _ _ (turn fs es h.1 y) (continued_ends _ _ (loop_ends fs es h.1))))
  loop_ends [] (e ∷ es) h x = absurd h
  loop_ends (f ∷ fs) [] h x = absurd h

abbrev pub called_end : {Call A F : Type 0} → List (FunctionsEnd Call A F) → Option ℕ → Call → Outcome A F
called_end [] depth c = Stopped Turns
called_end (e ∷ es) None c = e None c
called_end (e ∷ es) (Some zero) c = Stopped Depth
called_end (e ∷ es) (Some (suc depth)) c = e (Some depth) c

pub called_ends : {Call A F : Type 0} (fs : List (Functions Call A F)) (es : List (FunctionsEnd Call A F)) → AllEnd fs es → (depth : Option ℕ) (c : Call) → called fs depth c (called_end es depth c)
called_ends [] [] h depth c = refl
called_ends (f ∷ fs) (e ∷ es) h None c = h.0 None c
called_ends (f ∷ fs) (e ∷ es) h (Some zero) c = refl
called_ends (f ∷ fs) (e ∷ es) h (Some (suc depth)) c = h.0 (Some depth) c
called_ends [] (e ∷ es) h depth c = absurd h
called_ends (f ∷ fs) [] h depth c = absurd h

abbrev pub below_end : {Call A F : Type 0} → (List (FunctionsEnd Call A F) → FunctionsEnd Call A F) → ℕ → List (FunctionsEnd Call A F)
below_end bodies zero = []
below_end bodies (suc n) = let es = below_end bodies n in bodies es ∷ es

pub below_ends : {Call A F : Type 0} (bodies : List (Functions Call A F) → Functions Call A F) (bodies' : List (FunctionsEnd Call A F) → FunctionsEnd Call A F) →
    ((fs : List (Functions Call A F)) (es : List (FunctionsEnd Call A F)) → AllEnd fs es → (depth : Option ℕ) (c : Call) → bodies fs depth c (bodies' es depth c)) →
    (n : ℕ) → AllEnd (below bodies n) (below_end bodies' n)
below_ends bodies bodies' h zero = tt
below_ends bodies bodies' h (suc n) =
    let k : AllEnd (below bodies n) (below_end bodies' n) = below_ends bodies bodies' h n in (h _ _ k, k)
