-- What is written and what is left are all lines.
use Rattle.std.proofs.Common.{◌≡◌, ◌++◌, length}
use Rattle.run_lines.specs.CodeEnds.{each_global_line}
use Rattle.run_lines.proofs.states.each_global_line.Given as goal

abbrev pub invariant-globals : goal.invariant-globals
invariant-globals l = l.lines.items ++ each_global_line l.who l.layout l.rest l.left ≡ l.fn.lines.items ++ each_global_line l.who l.layout l.fn.globals l.fn.values

abbrev pub decreases-globals : goal.decreases-globals
decreases-globals l = length l.rest
