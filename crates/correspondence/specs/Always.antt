-- What holds of every answer of a run, whatever its other side.
use Rattle.correspondence.specs.Outcome.{Done, Ends}

-- Each answer has P.
abbrev pub Always : {A F : Type 0} → (A → Type 0) → Ends A F → Type 0
Always {A} P p = (a : A) → p (Done a) → P a
