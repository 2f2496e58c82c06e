-- What a call does is what the function's program does at a smaller bound, or it stops.
use Rattle.std.proofs.Common.{ℕ, zero, suc, ◌<◌, Option, Some, None, arith}
use Rattle.correspondence.specs.Outcome.{Done, Failed}
use Rattle.correspondence.specs.Bound.{called}
use Rattle.c_values.specs.Choice.{Choice}
use Rattle.expression_lang.specs.Signature.{Invocation}
use Rattle.monad_lang.specs.Run.{Answer, functions_below, program_runs}
use Rattle.triple_lang.specs.Deriv.{Ground}

pub stopped_never_fails : (k : Ground) (p : Choice) (n : ℕ) (depth : Option ℕ) (c : Invocation) →
    ((i : ℕ) → i < n → (d : Option ℕ) → program_runs k.unit p i d c (Failed tt) → ⊥) → called (functions_below k.unit p n) depth c (Failed tt) → ⊥
stopped_never_fails k p zero depth c h r = r
stopped_never_fails k p (suc n) None c h r = h n (omega arith) None r
stopped_never_fails k p (suc n) (Some zero) c h r = r
stopped_never_fails k p (suc n) (Some (suc d)) c h r = h n (omega arith) (Some d) r

pub answered_below : (k : Ground) (p : Choice) (n : ℕ) (depth : Option ℕ) (c : Invocation) (a : Answer) (P : Type 0) →
    ((i : ℕ) → i < n → (d : Option ℕ) → program_runs k.unit p i d c (Done a) → P) → called (functions_below k.unit p n) depth c (Done a) → P
answered_below k p zero depth c a P h r = absurd r
answered_below k p (suc n) None c a P h r = h n (omega arith) None r
answered_below k p (suc n) (Some zero) c a P h r = absurd r
answered_below k p (suc n) (Some (suc d)) c a P h r = h n (omega arith) (Some d) r
