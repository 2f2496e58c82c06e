-- The way is shorter after its first step.
use Rattle.std.proofs.Common.{◌+◌, ◌*◌}
use Rattle.typed_heap.specs.CodeWays.{steps_of, many_steps}
use Rattle.typed_heap.proofs.selecting.+replace.Given as goal

abbrev pub decreases-replace : goal.decreases-replace
decreases-replace l = 3 * many_steps (steps_of l.l.now l.way) + 2

abbrev pub decreases-replace_there : goal.decreases-replace_there
decreases-replace_there l = 3 * many_steps (steps_of l.l.now l.way) + 1

abbrev pub decreases-replace_in : goal.decreases-replace_in
decreases-replace_in l = 3 * many_steps (steps_of l.l.now l.rest) + 3
