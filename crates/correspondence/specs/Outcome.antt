-- How a run may end, and how runs are put together. A meaning is the set of its ends: a fact of each outcome.
-- The words are those of the nondeterministic state monad with failure, with a third end: stopped at a bound.
use Rattle.std.specs.Prelude.{◌≡◌, Bool, true, false, List, [], ◌∷◌, ◌⊎◌, Result, Ok, Err}
use Rattle.std.proofs.Common.{inl, inr}

-- what ran out: turns of loops and calls, or the depth of nested calls
pub data Limit : Type 0 where
  Turns : Limit
  Depth : Limit

-- done with an answer, failed with a fault, or stopped at a limit
pub data Outcome (A F : Type 0) : Type 0 where
  Done : A → Outcome A F
  Failed : F → Outcome A F
  Stopped : Limit → Outcome A F

-- the ends that a run may have
abbrev pub Ends : Type 0 → Type 0 → Type 1
Ends A F = Outcome A F → Type 0

-- done with this answer, and no other end
abbrev pub done : {A F : Type 0} → A → Ends A F
done a (Done b) = b ≡ a
done a (Failed f) = ⊥
done a (Stopped w) = ⊥

-- done with any answer that has P
abbrev pub any : {A F : Type 0} → (A → Type 0) → Ends A F
any P (Done b) = P b
any P (Failed f) = ⊥
any P (Stopped w) = ⊥

-- failed with this fault
abbrev pub fault : {A F : Type 0} → F → Ends A F
fault f (Done a) = ⊥
fault f (Failed g) = g ≡ f
fault f (Stopped w) = ⊥

-- stopped at this limit
abbrev pub stop : {A F : Type 0} → Limit → Ends A F
stop w (Done a) = ⊥
stop w (Failed f) = ⊥
stop w (Stopped v) = v ≡ w

-- what a computation without choices and turns gives
abbrev pub given : {A F : Type 0} → Result A F → Ends A F
given (Ok a) = done a
given (Err f) = fault f

-- the first, and from where it is done the rest
pub data Then {A B F : Type 0} (first : Ends A F) (rest : A → Ends B F) : Outcome B F → Type 0 where
  goes_on : {a : A} {o : Outcome B F} → first (Done a) → rest a o → Then first rest o
  fails : {f : F} → first (Failed f) → Then first rest (Failed f)
  stops : {w : Limit} → first (Stopped w) → Then first rest (Stopped w)

-- one of two, by a test
abbrev pub choose : {A F : Type 0} → Bool → Ends A F → Ends A F → Ends A F
choose true p q = p
choose false p q = q

-- one more turn from here, or the loop's end
abbrev pub continued : {X A F : Type 0} → (X → Ends A F) → X ⊎ A → Ends A F
continued next (inl x) = next x
continued next (inr a) = done a

-- A loop. `enter` says whether a turn is made; `body` makes it. The list has what the functions do at each smaller
-- bound, the largest bound first, so its length is the number of turns left: a turn takes one, and the body and the
-- rest of the loop have one less.
abbrev pub loop : {Function : Type 1} {X A F : Type 0} → (X → Ends (X ⊎ A) F) → (List Function → X → Ends (X ⊎ A) F) → List Function → X → Ends A F
loop enter body [] x = Then (enter x) (continued (λ _. stop Turns))
loop enter body (f ∷ fs) x = Then (enter x) (continued (λ y. Then (body fs y) (continued (loop enter body fs))))
