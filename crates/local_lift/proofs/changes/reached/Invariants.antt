-- The steps so far, and those by way of what is left, are all.
use Rattle.std.proofs.Common.{◌≡◌, Bool, drop}
use Rattle.c_values.specs.Name.{Name}
use Rattle.local_lift.specs.CodeNames.{names}
use Rattle.local_lift.specs.Live.{through}
use Rattle.local_lift.specs.CodeRows.{Matrix}
use Rattle.local_lift.proofs.changes.reached.Given as goal

abbrev pub invariant-loop-k : goal.invariant-loop-k
invariant-loop-k l = (leads : Name → Name → Bool) → Matrix l.locals leads l.locals l.fn.rows.items →
    (steps : Name → Name → Bool) × Matrix l.locals steps l.locals l.steps.items × (through (names (drop l.k l.locals)) steps ≡ through (names l.locals) leads)
