-- What is left is odd where the whole is.
use Rattle.std.proofs.Common.{◌≡◌, length}
use Rattle.ac_sx.specs.CodeSx.{trees_in}
use Rattle.program_text.specs.MonReading.{is_odd}
use Rattle.program_text.proofs.mon_reading.is_odd.Given as goal

abbrev pub invariant-pairs : goal.invariant-pairs
invariant-pairs l = is_odd (trees_in l.rest) ≡ is_odd (trees_in l.fn.parts)

abbrev pub decreases-pairs : goal.decreases-pairs
decreases-pairs l = length l.rest
