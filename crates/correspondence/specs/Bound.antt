-- Calls at a bound. What the functions of a unit do is a list, one entry for each smaller bound, the largest first:
-- its length is the number of turns left, so a definition over it is structural. The number of nested calls, a number
-- or none, is a plain argument.
use Rattle.std.specs.Prelude.{ℕ, zero, suc, List, [], ◌∷◌, Option, Some, None}
use Rattle.correspondence.specs.Outcome.{Turns, Depth, Ends, stop}

-- what the functions do at one bound: of a limit of nested calls and a call
abbrev pub Functions : Type 0 → Type 0 → Type 0 → Type 1
Functions Call A F = Option ℕ → Call → Ends A F

-- A call asks a turn first, and then, where nested calls are limited, one of these.
abbrev pub called : {Call A F : Type 0} → List (Functions Call A F) → Option ℕ → Call → Ends A F
called [] depth c = stop Turns
called (f ∷ fs) None c = f None c
called (f ∷ fs) (Some zero) c = stop Depth
called (f ∷ fs) (Some (suc depth)) c = f (Some depth) c

-- the functions at each bound below n, the largest first, from what bodies do over the smaller bounds
abbrev pub below : {Call A F : Type 0} → (List (Functions Call A F) → Functions Call A F) → ℕ → List (Functions Call A F)
below bodies zero = []
below bodies (suc n) = bodies (below bodies n) ∷ below bodies n
