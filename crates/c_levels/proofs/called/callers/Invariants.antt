-- The callers so far.
use Rattle.std.proofs.Common.{◌≡◌, take}
use Rattle.std.specs.HashMap.{get_by_text}
use Rattle.c_levels.specs.CodeSpread.{listed}
use Rattle.c_levels.specs.CodeCalls.{callers_of}
use Rattle.c_values.specs.Name.{Name}
use Rattle.c_levels.proofs.called.callers.Given as goal

abbrev pub invariant-loop-callee : goal.invariant-loop-callee
invariant-loop-callee l = (q : Name) → listed (get_by_text l.callers q) ≡ callers_of (take l.callee-index l.calls) q
