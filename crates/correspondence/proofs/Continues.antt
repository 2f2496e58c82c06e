-- Runs at a larger bound, put together.
use Rattle.std.proofs.Common.{ℕ, zero, suc, ◌≤◌, Option, Some, None, Bool, true, false, List, [], ◌∷◌, ◌⊎◌, inl, inr, arith}
use Rattle.std.proofs.Math.Bridge.{unsuc}
use Rattle.correspondence.specs.Outcome.{Turns, Depth, Done, Failed, Ends, done, stop, Then, goes_on, fails, choose, continued, loop}
use Rattle.correspondence.specs.Bound.{Functions, called, below}
use Rattle.correspondence.specs.OneEnd.{Continues, Deeper, AllContinue}

pub continues_itself : {A F : Type 0} (p : Ends A F) → Continues p p
continues_itself p = record { done = λ a h. h; failed = λ f h. h }

-- a stop has nothing to continue
pub continues_stop : {A F : Type 0} (w : _) (p : Ends A F) → Continues (stop w) p
continues_stop w p = record { done = λ a h. absurd h; failed = λ f h. absurd h }

module _ {A B F : Type 0} (p p' : Ends A F) (r r' : A → Ends B F) (first : Continues p p') (rest : (a : A) → Continues (r a) (r' a)) where
  then_done : (b : B) → Then p r (Done b) → Then p' r' (Done b)
  then_done b (goes_on {a} h k) = goes_on (first.done a h) ((rest a).done b k)

  then_failed : (f : F) → Then p r (Failed f) → Then p' r' (Failed f)
  then_failed f (goes_on {a} h k) = goes_on (first.done a h) ((rest a).failed f k)
  then_failed f (fails h) = fails (first.failed f h)

  pub then_continues : Continues (Then p r) (Then p' r')
  then_continues = record { done = then_done; failed = then_failed }

pub choose_continues : {A F : Type 0} (t : Bool) (p q p' q' : Ends A F) → Continues p p' → Continues q q' → Continues (choose t p q) (choose t p' q')
choose_continues true p q p' q' h k = h
choose_continues false p q p' q' h k = k

pub continued_continues : {X A F : Type 0} (r r' : X → Ends A F) → ((x : X) → Continues (r x) (r' x)) → (z : X ⊎ A) → Continues (continued r z) (continued r' z)
continued_continues r r' h (inl x) = h x
continued_continues r r' h (inr a) = continues_itself (done a)

-- a loop, where its first look and its body go on at larger bounds
module _ {Call A' F' X A F : Type 0} (enter : X → Ends (X ⊎ A) F) (body body' : List (Functions Call A' F') → X → Ends (X ⊎ A) F)
    (turn : (fs gs : List (Functions Call A' F')) → AllContinue fs gs → (x : X) → Continues (body fs x) (body' gs x)) where
  pub loop_continues : (fs gs : List (Functions Call A' F')) → AllContinue fs gs → (x : X) → Continues (loop enter body fs x) (loop enter body' gs x)
  loop_continues [] [] h x =
      then_continues _ _ _ _ (continues_itself _) (continued_continues _ _ (λ y. continues_stop Turns _))
  loop_continues [] (g ∷ gs) h x =
      then_continues _ _ _ _ (continues_itself _) (continued_continues _ _ (λ y. continues_stop Turns _))
  loop_continues (f ∷ fs) [] h x = absurd h
  loop_continues (f ∷ fs) (g ∷ gs) h x =
      then_continues _ _ _ _ (continues_itself _) (continued_continues _ _ (λ y.
      then_continues _ _ _ _ (turn fs gs h.1 y) (continued_continues _ _ (loop_continues fs gs h.1))))

pub called_continues : {Call A F : Type 0} (fs gs : List (Functions Call A F)) → AllContinue fs gs → (d e : Option ℕ) → Deeper d e → (c : Call) → Continues (called fs d c) (called gs e c)
called_continues [] gs h d e k c = continues_stop Turns _
called_continues (f ∷ fs) [] h d e k c = absurd h
called_continues (f ∷ fs) (g ∷ gs) h None None k c = h.0 None None c tt
called_continues (f ∷ fs) (g ∷ gs) h None (Some e) k c = absurd k
called_continues (f ∷ fs) (g ∷ gs) h (Some zero) e k c = continues_stop Depth _
called_continues (f ∷ fs) (g ∷ gs) h (Some (suc d)) None k c = h.0 (Some d) None c tt
called_continues (f ∷ fs) (g ∷ gs) h (Some (suc d)) (Some zero) k c = absurd (omega (arith, k))
called_continues (f ∷ fs) (g ∷ gs) h (Some (suc d)) (Some (suc e)) k c = h.0 (Some d) (Some e) c (unsuc k)

-- functions whose bodies go on over functions that go on do so at every larger bound
module _ {Call A F : Type 0} (bodies : List (Functions Call A F) → Functions Call A F)
    (go_on : (fs gs : List (Functions Call A F)) → AllContinue fs gs → (d e : Option ℕ) (c : Call) → Deeper d e → Continues (bodies fs d c) (bodies gs e c)) where
  pub below_continues : (m n : ℕ) → m ≤ n → AllContinue (below bodies m) (below bodies n)
  below_continues zero n h = tt
  below_continues (suc m) zero h = absurd (omega arith)
  below_continues (suc m) (suc n) h =
      let k : AllContinue (below bodies m) (below bodies n) = below_continues m n (unsuc h) in (go_on _ _ k, k)
