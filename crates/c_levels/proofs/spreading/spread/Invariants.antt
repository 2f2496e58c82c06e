-- The marks spread.
use Rattle.std.proofs.Common.{◌+◌, map, string_bytes, length}
use Rattle.std.specs.HashMap.{get_by_text}
use Rattle.c_levels.specs.CodeSpread.{listed, leads_by}
use Rattle.c_levels.proofs.Marking.{unmarked}
use Rattle.c_levels.proofs.Spread.{Spreading}
use Rattle.c_levels.proofs.spreading.spread.Given as goal

abbrev pub invariant-work : goal.invariant-work
invariant-work l = Spreading (leads_by (map (λ f. string_bytes f.name) l.functions) (λ q. listed (get_by_text l.table q))) l.fn.start.items (record { marks = l.marks.items; work = l.work.items })

abbrev pub decreases-work : goal.decreases-work
decreases-work l = unmarked l.marks.items + length l.work.items
