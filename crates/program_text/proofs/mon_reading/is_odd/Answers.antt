use Rattle.ac_sx.specs.CodeSx.{trees_in}
use Rattle.program_text.specs.MonReading.{is_odd}
use Rattle.program_text.proofs.SequencesRead.{odd_ended}
use Rattle.program_text.proofs.mon_reading.is_odd.Goals as goal

pub returns : goal.returns
returns c = odd_ended c.pairs.rest.now c.is_empty.result (is_odd (trees_in c.args.parts.now)) c.in_default.ensures.parts c.is_empty.ensures c.pairs.invariant
