-- What sets of names say of the name at a place.
use Rattle.std.specs.Prelude.{ℕ}
use Rattle.rule_local.specs.declared.uses.Uses as U
use Rattle.rule_local.specs.declared.uses.Passed as P
use Rattle.rule_local.specs.CodeMarks.{is_marked}
use Rattle.rule_local.specs.CodeUses.{Uses, Passed}

abbrev pub uses_at : ℕ → U.Uses → Uses
uses_at i u = record { lost = is_marked u.lost.bits i; assigned = is_marked u.assigned.bits i; free = is_marked u.free.bits i }

abbrev pub passed_at : ℕ → P.Passed → Passed
passed_at i p = record { uses = uses_at i p.uses; hidden = is_marked p.hidden.bits i; dropped = is_marked p.dropped.bits i }
