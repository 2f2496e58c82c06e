-- Runs with fewer choices, put together.
use Rattle.std.proofs.Common.{ℕ, zero, suc, Option, Some, None, Bool, true, false, List, [], ◌∷◌, ◌⊎◌, inl, inr, sym, subst}
use Rattle.correspondence.specs.Outcome.{Outcome, Done, Failed, Stopped, Ends, done, Then, goes_on, fails, stops, choose, continued, loop}
use Rattle.correspondence.specs.Bound.{Functions, called, below}
use Rattle.correspondence.specs.Included.{Included, AllIncluded}

pub included_itself : {A F : Type 0} (p : Ends A F) → Included p p
included_itself p = record { each = λ o h. h }

module _ {A B F : Type 0} (p p' : Ends A F) (r r' : A → Ends B F) (first : Included p p') (rest : (a : A) → Included (r a) (r' a)) where
  then_each : (o : Outcome B F) → Then p r o → Then p' r' o
  then_each o (goes_on {a} h k) = goes_on (first.each (Done a) h) ((rest a).each o k)
  then_each (Failed f) (fails h) = fails (first.each (Failed f) h)
  then_each (Stopped w) (stops h) = stops (first.each (Stopped w) h)

  pub then_included : Included (Then p r) (Then p' r')
  then_included = record { each = then_each }

pub choose_included : {A F : Type 0} (t : Bool) (p q p' q' : Ends A F) → Included p p' → Included q q' → Included (choose t p q) (choose t p' q')
choose_included true p q p' q' h k = h
choose_included false p q p' q' h k = k

pub continued_included : {X A F : Type 0} (r r' : X → Ends A F) → ((x : X) → Included (r x) (r' x)) → (z : X ⊎ A) → Included (continued r z) (continued r' z)
continued_included r r' h (inl x) = h x
continued_included r r' h (inr a) = included_itself (done a)

module _ {Call A' F' X A F : Type 0} (enter enter' : X → Ends (X ⊎ A) F) (body body' : List (Functions Call A' F') → X → Ends (X ⊎ A) F)
    (enters : (x : X) → Included (enter x) (enter' x))
    (turn : (fs gs : List (Functions Call A' F')) → AllIncluded fs gs → (x : X) → Included (body fs x) (body' gs x)) where
  pub loop_included : (fs gs : List (Functions Call A' F')) → AllIncluded fs gs → (x : X) → Included (loop enter body fs x) (loop enter' body' gs x)
  loop_included [] [] h x = then_included _ _ _ _ (enters x) (continued_included _ _ (λ y. included_itself _))
  loop_included (f ∷ fs) (g ∷ gs) h x =
      then_included _ _ _ _ (enters x) (continued_included _ _ (λ y.
      then_included _ _ _ _ (turn fs gs h.1 y) (continued_included _ _ (loop_included fs gs h.1))))
  loop_included [] (g ∷ gs) h x = absurd h
  loop_included (f ∷ fs) [] h x = absurd h

pub called_included : {Call A F : Type 0} (fs gs : List (Functions Call A F)) → AllIncluded fs gs → (d : Option ℕ) (c : Call) → Included (called fs d c) (called gs d c)
called_included [] [] h d c = included_itself _
called_included (f ∷ fs) (g ∷ gs) h None c = h.0 None c
called_included (f ∷ fs) (g ∷ gs) h (Some zero) c = included_itself _
called_included (f ∷ fs) (g ∷ gs) h (Some (suc d)) c = h.0 (Some d) c
called_included [] (g ∷ gs) h d c = absurd h
called_included (f ∷ fs) [] h d c = absurd h

module _ {Call A F : Type 0} (bodies bodies' : List (Functions Call A F) → Functions Call A F)
    (over : (fs gs : List (Functions Call A F)) → AllIncluded fs gs → (d : Option ℕ) (c : Call) → Included (bodies fs d c) (bodies' gs d c)) where
  pub below_included : (n : ℕ) → AllIncluded (below bodies n) (below bodies' n)
  below_included zero = tt
  below_included (suc n) = let k : AllIncluded (below bodies n) (below bodies' n) = below_included n in (over _ _ k, k)

pub then_within : {A B F : Type 0} (p q : Ends A F) (r : A → Ends B F) → Included p q → Included (Then p r) (Then q r)
then_within {A} {B} {F} p q r h = record { each = at }
  where
    at : (o : Outcome B F) → Then p r o → Then q r o
    at o (goes_on x y) = goes_on (h.each _ x) y
    at (Failed f) (fails x) = fails (h.each _ x)
    at (Stopped w) (stops x) = stops (h.each _ x)

pub done_within : {A F : Type 0} (a : A) (p : Ends A F) → p (Done a) → Included (done a) p
done_within {A} {F} a p h = record { each = at }
  where
    at : (o : Outcome A F) → done a o → p o
    at (Done b) e = subst (λ c. p (Done c)) (sym e) h
    at _ e = absurd e
