-- Runs without choices have one end, put together.
use Rattle.std.proofs.Common.{◌≡◌, ℕ, zero, suc, Option, Some, None, Bool, true, false, List, [], ◌∷◌, ◌⊎◌, inl, inr, Result, Ok, Err, refl, ap, subst}
use Rattle.correspondence.specs.Outcome.{Limit, Turns, Depth, Outcome, Done, Failed, Stopped, Ends, done, fault, stop, given, Then, goes_on, fails, stops, choose, continued, loop}
use Rattle.correspondence.specs.Bound.{Functions, called, below}
use Rattle.correspondence.specs.OneEnd.{OneEnd, HaveOneEnd}

pub done_once : {A F : Type 0} (a : A) → OneEnd {A = A} {F = F} (done a)
done_once {A} {F} a = record { end = Done a; is = refl; only = only }
  where
    only : (o : Outcome A F) → done a o → o ≡ Done a
    only (Done b) e = ap Done e
    only _ e = absurd e

pub fault_once : {A F : Type 0} (f : F) → OneEnd {A = A} {F = F} (fault f)
fault_once {A} {F} f = record { end = Failed f; is = refl; only = only }
  where
    only : (o : Outcome A F) → fault f o → o ≡ Failed f
    only (Failed g) e = ap Failed e
    only _ e = absurd e

pub stop_once : {A F : Type 0} (w : Limit) → OneEnd {A = A} {F = F} (stop w)
stop_once {A} {F} w = record { end = Stopped w; is = refl; only = only }
  where
    only : (o : Outcome A F) → stop w o → o ≡ Stopped w
    only (Stopped v) e = ap Stopped e
    only _ e = absurd e

pub given_once : {A F : Type 0} (r : Result A F) → OneEnd (given r)
given_once (Ok a) = done_once a
given_once (Err f) = fault_once f

pub choose_once : {A F : Type 0} (t : Bool) (p q : Ends A F) → OneEnd p → OneEnd q → OneEnd (choose t p q)
choose_once true p q h k = h
choose_once false p q h k = k

Done-same : {A F : Type 0} {a b : A} → ◌≡◌ {A = Outcome A F} (Done a) (Done b) → a ≡ b
Done-same h = cc

Failed-same : {A F : Type 0} {f g : F} → ◌≡◌ {A = Outcome A F} (Failed f) (Failed g) → f ≡ g
Failed-same h = cc

Stopped-same : {A F : Type 0} {v w : Limit} → ◌≡◌ {A = Outcome A F} (Stopped v) (Stopped w) → v ≡ w
Stopped-same h = cc

module _ {A B F : Type 0} (p : Ends A F) (r : A → Ends B F) (k : (a : A) → OneEnd (r a)) where
  from_done : (a : A) → p (Done a) → ((o : Outcome A F) → p o → o ≡ Done a) → OneEnd (Then p r)
  from_done a h only = record { end = (k a).end; is = goes_on h (k a).is; only = only_then }
    where
      only_then : (o : Outcome B F) → Then p r o → o ≡ (k a).end
      only_then o (goes_on {a = b} x y) = (k a).only o (subst (λ c. r c o) (Done-same {F = F} (only (Done b) x)) y)
      only_then _ (fails {f} x) = absurd (let e : ◌≡◌ {A = Outcome A F} (Failed f) (Done a) = only (Failed f) x in cc)
      only_then _ (stops {w} x) = absurd (let e : ◌≡◌ {A = Outcome A F} (Stopped w) (Done a) = only (Stopped w) x in cc)

  from_failed : (f : F) → p (Failed f) → ((o : Outcome A F) → p o → o ≡ Failed f) → OneEnd (Then p r)
  from_failed f h only = record { end = Failed f; is = fails h; only = only_then }
    where
      only_then : (o : Outcome B F) → Then p r o → o ≡ Failed f
      only_then o (goes_on {a = b} x y) = absurd (let e : ◌≡◌ {A = Outcome A F} (Done b) (Failed f) = only (Done b) x in cc)
      only_then _ (fails {f = g} x) = ap Failed (Failed-same {A = A} (only (Failed g) x))
      only_then _ (stops {w} x) = absurd (let e : ◌≡◌ {A = Outcome A F} (Stopped w) (Failed f) = only (Stopped w) x in cc)

  from_stopped : (v : Limit) → p (Stopped v) → ((o : Outcome A F) → p o → o ≡ Stopped v) → OneEnd (Then p r)
  from_stopped v h only = record { end = Stopped v; is = stops h; only = only_then }
    where
      only_then : (o : Outcome B F) → Then p r o → o ≡ Stopped v
      only_then o (goes_on {a = b} x y) = absurd (let e : ◌≡◌ {A = Outcome A F} (Done b) (Stopped v) = only (Done b) x in cc)
      only_then _ (fails {f = g} x) = absurd (let e : ◌≡◌ {A = Outcome A F} (Failed g) (Stopped v) = only (Failed g) x in cc)
      only_then _ (stops {w} x) = ap Stopped (Stopped-same {A = A} {F = F} (only (Stopped w) x))

  by_end : (e : Outcome A F) → p e → ((o : Outcome A F) → p o → o ≡ e) → OneEnd (Then p r)
  by_end (Done a) h only = from_done a h only
  by_end (Failed f) h only = from_failed f h only
  by_end (Stopped v) h only = from_stopped v h only

  pub then_once : OneEnd p → OneEnd (Then p r)
  then_once h = by_end h.end h.is h.only

pub continued_once : {X A F : Type 0} (next : X → Ends A F) → ((x : X) → OneEnd (next x)) → (z : X ⊎ A) → OneEnd (continued next z)
continued_once next h (inl x) = h x
continued_once next h (inr a) = done_once a

module _ {Call A' F' : Type 0} {X A F : Type 0} (enter : X → Ends (X ⊎ A) F) (body : List (Functions Call A' F') → X → Ends (X ⊎ A) F)
    (enters : (x : X) → OneEnd (enter x)) (turn : (fs : List (Functions Call A' F')) → HaveOneEnd fs → (x : X) → OneEnd (body fs x)) where
  pub loop_once : (fs : List (Functions Call A' F')) → HaveOneEnd fs → (x : X) → OneEnd (loop enter body fs x)
  loop_once [] h x = then_once _ _ (continued_once _ (λ _. stop_once Turns)) (enters x)
  loop_once (f ∷ fs) h x =
      then_once _ _ (continued_once _ (λ y. then_once _ _ (continued_once _ (loop_once fs h.1)) (turn fs h.1 y))) (enters x)

pub called_once : {Call A F : Type 0} (fs : List (Functions Call A F)) → HaveOneEnd fs → (depth : Option ℕ) (c : Call) → OneEnd (called fs depth c)
called_once [] h depth c = stop_once Turns
called_once (f ∷ fs) h None c = h.0 None c
called_once (f ∷ fs) h (Some zero) c = stop_once Depth
called_once (f ∷ fs) h (Some (suc depth)) c = h.0 (Some depth) c

-- functions whose bodies have one end over functions that have one end have it at every bound
pub below_once : {Call A F : Type 0} (bodies : List (Functions Call A F) → Functions Call A F) →
    ((fs : List (Functions Call A F)) → HaveOneEnd fs → (depth : Option ℕ) (c : Call) → OneEnd (bodies fs depth c)) → (n : ℕ) → HaveOneEnd (below bodies n)
below_once bodies h zero = tt
below_once bodies h (suc n) = let k : HaveOneEnd (below bodies n) = below_once bodies h n in (h _ k, k)
