-- Functions of two units at one bound: calls that are related have ends that correspond. How answers are related may
-- depend on the call.
use Rattle.std.specs.Prelude.{◌≡◌, ℕ, Option}
use Rattle.correspondence.specs.Bound.{Functions}
use Rattle.correspondence.specs.Corresponds.{Corresponds}

abbrev pub Related : {Call Call' A B F G : Type 0} → (Call → Call' → Type 0) → (Call → A → B → Type 0) →
    (F → G → Type 0) → Functions Call A F → Functions Call' B G → Type 0
Related {Call} {Call'} calls answers faults f g =
    (depth : Option ℕ) (c : Call) (c' : Call') → calls c c' → Corresponds (answers c) faults (f depth c) (g depth c')

abbrev pub Same : {A : Type 0} → A → A → Type 0
Same a b = b ≡ a

-- whatever the faults
abbrev pub BothFail : {F G : Type 0} → F → G → Type 0
BothFail f g = Unit {0}
