-- The lines so far, and those of the steps that are left, are the program's.
use Rattle.std.proofs.Common.{◌≡◌, ◌≤◌, ◌+◌, ◌*◌, ◌++◌, max}
use Rattle.monad_lang.specs.declared.program.Mon.{size-Mon}
use Rattle.monad_lang.specs.CodeProgram.{mon_of}
use Rattle.abs_print.specs.Programs.{lines}
use Rattle.abs_print.specs.CodeLines.{at_margin}
use Rattle.abs_print.proofs.programs.+programs.Given as goal

abbrev pub invariant-push_lines-along : goal.invariant-push_lines-along
invariant-push_lines-along l = record {
  same : l.out.items ++ at_margin l.margin.items (lines (mon_of l.rest)) ≡ l.fn.out.items ++ at_margin l.fn.margin.items (lines (mon_of l.fn.program));
  margin : l.margin.items ≡ l.fn.margin.items;
  smaller : size-Mon l.rest ≤ size-Mon l.fn.program;
}

abbrev pub decreases-push_lines-along : goal.decreases-push_lines-along
decreases-push_lines-along l = size-Mon l.rest

abbrev pub decreases-push_lines : goal.decreases-push_lines
decreases-push_lines l = 4 * size-Mon l.program.now + 1

abbrev pub decreases-push_first : goal.decreases-push_first
decreases-push_first l = 4 * size-Mon l.program.now + 3

abbrev pub decreases-push_deeper : goal.decreases-push_deeper
decreases-push_deeper l = 4 * size-Mon l.program.now + 2

abbrev pub decreases-push_step : goal.decreases-push_step
decreases-push_step l = 4 * size-Mon l.program.now

abbrev pub decreases-push_if : goal.decreases-push_if
decreases-push_if l = 4 * max (size-Mon l.first.now) (size-Mon l.last.now) + 3
