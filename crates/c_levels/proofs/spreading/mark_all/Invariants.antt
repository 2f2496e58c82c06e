-- Those that are left, marked, are all of them marked.
use Rattle.std.proofs.Common.{◌≡◌, length}
use Rattle.c_levels.specs.CodeSpread.{all_marked}
use Rattle.c_levels.proofs.spreading.mark_all.Given as goal

abbrev pub invariant-rest : goal.invariant-rest
invariant-rest l = all_marked l.rest (record { marks = l.marks.items; work = l.work.items }) ≡ all_marked l.positions (record { marks = l.initial.marks.items; work = l.initial.work.items })

abbrev pub decreases-rest : goal.decreases-rest
decreases-rest l = length l.rest
