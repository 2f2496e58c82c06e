-- A part that is shown of a refused node, as an answer: its text under the status of what isn't accepted.
use Rattle.std.specs.Prelude.{◌≡◌, ℕ, List, Option, Some, None}
use Rattle.c_values.specs.Types.{Target}
use Rattle.c_lang.specs.Typed.{TypedUnit}
use Rattle.answers.specs.declared.status.Status.{Status}
use Rattle.answers.specs.declared.status.Status.TheVariants.{Done, No}
use Rattle.checking.specs.RefusedPart.{IsShown}

abbrev pub told_part : Status → List ℕ → Option (List ℕ)
told_part No lines = Some lines
told_part _ lines = None

abbrev pub IsTold : Status → List ℕ → Option (List ℕ) → Type 0
IsTold status lines (Some shown) = (status ≡ No) × (lines ≡ shown)
IsTold status lines None = status ≡ Done

-- the answer to a typed text
abbrev pub IsToldOf : Target → List ℕ → TypedUnit → Status → List ℕ → Type 0
IsToldOf target certificate unit No lines = IsShown target certificate unit (Some lines)
IsToldOf target certificate unit Done lines = IsShown target certificate unit None
IsToldOf target certificate unit _ lines = ⊥
