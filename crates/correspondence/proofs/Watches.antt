-- A run that watches for more faults than another, and does the same where it meets none of these; put together.
use Rattle.std.proofs.Common.{◌≡◌, ℕ, zero, suc, Option, Some, None, Bool, true, false, List, [], ◌∷◌, ◌⊎◌, inl, inr, refl}
use Rattle.correspondence.specs.Outcome.{Limit, Outcome, Done, Failed, Stopped, Ends, done, Then, goes_on, fails, stops, choose, continued, loop}
use Rattle.correspondence.specs.Bound.{Functions, called, below}
use Rattle.correspondence.specs.Corresponds.{Corresponds, Paired}

-- a fault that the plain run doesn't watch for
abbrev MeetsExtra : {A F : Type 0} → (F → Type 0) → Ends A F → Type 0
MeetsExtra {A} {F} extra w = (f : F) × extra f × w (Failed f)

-- Each end of the watching run is one of the plain run, or an extra fault. Each end of the plain run is one of the
-- watching run, or that one meets an extra fault.
pub record Watches {A F : Type 0} (extra : F → Type 0) (w p : Ends A F) : Type 0 where
  pub done : (a : A) → w (Done a) → p (Done a)
  pub failed : (f : F) → w (Failed f) → p (Failed f) ⊎ extra f
  pub stopped : (v : Limit) → w (Stopped v) → p (Stopped v)
  pub covered : (o : Outcome A F) → p o → w o ⊎ MeetsExtra extra w

module _ {A F : Type 0} (extra : F → Type 0) where
  pub watches_itself : (p : Ends A F) → Watches extra p p
  watches_itself p = record { done = λ a h. h; failed = λ f h. inl h; stopped = λ v h. h; covered = λ o h. inl h }

  -- Without extra faults both have the same ends.
  pub watches_same : (w p : Ends A F) → Watches extra w p → ((f : F) → extra f → w (Failed f) → ⊥) → Corresponds (λ a b. a ≡ b) (λ f g. f ≡ g) w p
  watches_same w p h none = record {
    done = λ a x. (a, refl, h.done a x);
    done_back = λ a x. (a, refl, there (Done a) (h.covered (Done a) x));
    failed = λ f x. (f, refl, also f x (h.failed f x));
    failed_back = λ f x. (f, refl, there (Failed f) (h.covered (Failed f) x));
    stopped = h.stopped;
    stopped_back = λ v x. there (Stopped v) (h.covered (Stopped v) x);
  }
    where
      there : (o : Outcome A F) → w o ⊎ MeetsExtra extra w → w o
      there o (inl x) = x
      there o (inr e) = absurd (none e.0 e.1 e.2)

      also : (f : F) → w (Failed f) → p (Failed f) ⊎ extra f → p (Failed f)
      also f x (inl y) = y
      also f x (inr e) = absurd (none f e x)

module _ {A B F : Type 0} (extra : F → Type 0) (w p : Ends A F) (r s : A → Ends B F) (first : Watches extra w p) (rest : (a : A) → Watches extra (r a) (s a)) where
  then_done : (b : B) → Then w r (Done b) → Then p s (Done b)
  then_done b (goes_on {a} h k) = goes_on (first.done a h) ((rest a).done b k)

  failed_later : (a : A) (f : F) → w (Done a) → s a (Failed f) ⊎ extra f → Then p s (Failed f) ⊎ extra f
  failed_later a f h (inl x) = inl (goes_on (first.done a h) x)
  failed_later a f h (inr e) = inr e

  failed_first : (f : F) → p (Failed f) ⊎ extra f → Then p s (Failed f) ⊎ extra f
  failed_first f (inl x) = inl (fails x)
  failed_first f (inr e) = inr e

  then_failed : (f : F) → Then w r (Failed f) → Then p s (Failed f) ⊎ extra f
  then_failed f (goes_on {a} h k) = failed_later a f h ((rest a).failed f k)
  then_failed f (fails h) = failed_first f (first.failed f h)

  then_stopped : (v : Limit) → Then w r (Stopped v) → Then p s (Stopped v)
  then_stopped v (goes_on {a} h k) = goes_on (first.done a h) ((rest a).stopped v k)
  then_stopped v (stops h) = stops (first.stopped v h)

  covered_later : (a : A) (o : Outcome B F) → w (Done a) → r a o ⊎ MeetsExtra extra (r a) → Then w r o ⊎ MeetsExtra extra (Then w r)
  covered_later a o h (inl x) = inl (goes_on h x)
  covered_later a o h (inr e) = inr (e.0, e.1, goes_on h e.2)

  covered_first : (a : A) (o : Outcome B F) → s a o → w (Done a) ⊎ MeetsExtra extra w → Then w r o ⊎ MeetsExtra extra (Then w r)
  covered_first a o k (inl h) = covered_later a o h ((rest a).covered o k)
  covered_first a o k (inr e) = inr (e.0, e.1, fails e.2)

  covered_fault : (f : F) → w (Failed f) ⊎ MeetsExtra extra w → Then w r (Failed f) ⊎ MeetsExtra extra (Then w r)
  covered_fault f (inl h) = inl (fails h)
  covered_fault f (inr e) = inr (e.0, e.1, fails e.2)

  covered_stop : (v : Limit) → w (Stopped v) ⊎ MeetsExtra extra w → Then w r (Stopped v) ⊎ MeetsExtra extra (Then w r)
  covered_stop v (inl h) = inl (stops h)
  covered_stop v (inr e) = inr (e.0, e.1, fails e.2)

  then_covered : (o : Outcome B F) → Then p s o → Then w r o ⊎ MeetsExtra extra (Then w r)
  then_covered o (goes_on {a} h k) = covered_first a o k (first.covered (Done a) h)
  then_covered _ (fails {f} h) = covered_fault f (first.covered (Failed f) h)
  then_covered _ (stops {w = v} h) = covered_stop v (first.covered (Stopped v) h)

  pub then_watches : Watches extra (Then w r) (Then p s)
  then_watches = record { done = then_done; failed = then_failed; stopped = then_stopped; covered = then_covered }

pub choose_watches : {A F : Type 0} (extra : F → Type 0) (t : Bool) (w w' p p' : Ends A F) → Watches extra w p → Watches extra w' p' → Watches extra (choose t w w') (choose t p p')
choose_watches extra true w w' p p' h k = h
choose_watches extra false w w' p p' h k = k

pub continued_watches : {X A F : Type 0} (extra : F → Type 0) (r s : X → Ends A F) → ((x : X) → Watches extra (r x) (s x)) → (z : X ⊎ A) → Watches extra (continued r z) (continued s z)
continued_watches extra r s h (inl x) = h x
continued_watches extra r s h (inr a) = watches_itself extra (done a)

-- the functions of both, at each bound
abbrev pub AllWatch : {Call A F : Type 0} → (F → Type 0) → List (Functions Call A F) → List (Functions Call A F) → Type 0
AllWatch {Call} extra = Paired (λ f g. (depth : Option ℕ) (c : Call) → Watches extra (f depth c) (g depth c))

module _ {Call A' F X A : Type 0} (extra : F → Type 0) (enter enter' : X → Ends (X ⊎ A) F) (body body' : List (Functions Call A' F) → X → Ends (X ⊎ A) F)
    (enters : (x : X) → Watches extra (enter x) (enter' x))
    (turn : (fs gs : List (Functions Call A' F)) → AllWatch extra fs gs → (x : X) → Watches extra (body fs x) (body' gs x)) where
  pub loop_watches : (fs gs : List (Functions Call A' F)) → AllWatch extra fs gs → (x : X) → Watches extra (loop enter body fs x) (loop enter' body' gs x)
  loop_watches [] [] h x = then_watches extra _ _ _ _ (enters x) (continued_watches extra _ _ (λ y. watches_itself extra _))
  loop_watches (f ∷ fs) (g ∷ gs) h x =
      then_watches extra _ _ _ _ (enters x) (continued_watches extra _ _ (λ y.
      then_watches extra _ _ _ _ (turn fs gs h.1 y) (continued_watches extra _ _ (loop_watches fs gs h.1))))
  loop_watches [] (g ∷ gs) h x = absurd h
  loop_watches (f ∷ fs) [] h x = absurd h

module _ {Call A F : Type 0} (extra : F → Type 0) where
  pub called_watches : (fs gs : List (Functions Call A F)) → AllWatch extra fs gs → (depth : Option ℕ) (c : Call) → Watches extra (called fs depth c) (called gs depth c)
  called_watches [] [] h depth c = watches_itself extra _
  called_watches (f ∷ fs) (g ∷ gs) h None c = h.0 None c
  called_watches (f ∷ fs) (g ∷ gs) h (Some zero) c = watches_itself extra _
  called_watches (f ∷ fs) (g ∷ gs) h (Some (suc depth)) c = h.0 (Some depth) c
  called_watches [] (g ∷ gs) h depth c = absurd h
  called_watches (f ∷ fs) [] h depth c = absurd h

  pub below_watches : (bodies bodies' : List (Functions Call A F) → Functions Call A F) →
      ((fs gs : List (Functions Call A F)) → AllWatch extra fs gs → (depth : Option ℕ) (c : Call) → Watches extra (bodies fs depth c) (bodies' gs depth c)) →
      (n : ℕ) → AllWatch extra (below bodies n) (below bodies' n)
  below_watches bodies bodies' h zero = tt
  below_watches bodies bodies' h (suc n) =
      let k : AllWatch extra (below bodies n) (below bodies' n) = below_watches bodies bodies' h n in (h _ _ k, k)
