-- Runs with fewer choices: each end of the one is an end of the other, the stops too.
use Rattle.std.specs.Prelude.{List, [], ◌∷◌, ℕ, Option}
use Rattle.correspondence.specs.Outcome.{Outcome, Ends}
use Rattle.correspondence.specs.Bound.{Functions}

pub record Included {A F : Type 0} (p q : Ends A F) : Type 0 where
  pub each : (o : Outcome A F) → p o → q o

-- the functions of the one are included in those of the other, bound by bound
abbrev pub AllIncluded : {Call A F : Type 0} → List (Functions Call A F) → List (Functions Call A F) → Type 0
AllIncluded [] [] = Unit {0}
AllIncluded {Call} (f ∷ fs) (g ∷ gs) = ((d : Option ℕ) (c : Call) → Included (f d c) (g d c)) × AllIncluded fs gs
AllIncluded [] (g ∷ gs) = ⊥
AllIncluded (f ∷ fs) [] = ⊥
