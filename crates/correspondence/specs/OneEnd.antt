-- Runs without choices, and runs at a larger bound.
use Rattle.std.specs.Prelude.{◌≡◌, ℕ, List, [], ◌∷◌, Option, Some, None, ◌≤◌}
use Rattle.correspondence.specs.Outcome.{Outcome, Done, Failed, Ends}
use Rattle.correspondence.specs.Bound.{Functions}

-- a run has this end and no other
pub record OneEnd {A F : Type 0} (p : Ends A F) : Type 0 where
  pub end : Outcome A F
  pub is : p end
  pub only : (o : Outcome A F) → p o → o ≡ end

-- the functions have one end for every call, at every bound
abbrev pub HaveOneEnd : {Call A F : Type 0} → List (Functions Call A F) → Type 0
HaveOneEnd [] = Unit {0}
HaveOneEnd {Call} (f ∷ fs) = ((depth : Option ℕ) (c : Call) → OneEnd (f depth c)) × HaveOneEnd fs

-- each end of p that isn't a stop is an end of q; what q may do beside it comes after where p stops
pub record Continues {A F : Type 0} (p q : Ends A F) : Type 0 where
  pub done : (a : A) → p (Done a) → q (Done a)
  pub failed : (f : F) → p (Failed f) → q (Failed f)

-- the deeper limit allows all that the other one does
abbrev pub Deeper : Option ℕ → Option ℕ → Type 0
Deeper d None = Unit {0}
Deeper None (Some e) = ⊥
Deeper (Some d) (Some e) = d ≤ e

-- the functions at a larger bound continue those at the smaller one
abbrev pub AllContinue : {Call A F : Type 0} → List (Functions Call A F) → List (Functions Call A F) → Type 0
AllContinue [] gs = Unit {0}
AllContinue (f ∷ fs) [] = ⊥
AllContinue {Call} (f ∷ fs) (g ∷ gs) = ((d e : Option ℕ) (c : Call) → Deeper d e → Continues (f d c) (g e c)) × AllContinue fs gs
