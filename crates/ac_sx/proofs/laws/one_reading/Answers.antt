use Rattle.ac_sx.proofs.Built.{one_file}
use Rattle.ac_sx.proofs.Causes.{one_break, one_deep, break_or_deep}
use Rattle.ac_sx.proofs.laws.one_reading.Goals as goal

pub returns : goal.returns
returns c = record { trees = one_file; breaks = one_break; deep = one_deep; apart = break_or_deep }
