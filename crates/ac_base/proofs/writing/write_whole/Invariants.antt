use Rattle.std.proofs.Common.{◌≡◌, ◌≤◌, ◌-◌, length, take, drop}
use Rattle.ac_base.specs.Sink.{grown}
use Rattle.ac_base.proofs.writing.write_whole.Given as goal

-- what isn't left was taken
abbrev pub invariant-loop-rest : goal.invariant-loop-rest
invariant-loop-rest g l =
    let sink = g.K.Sink in
    record {
      count : sink.faults l.fn.sink ≤ sink.faults l.sink;
      within : length l.rest ≤ length l.bytes;
      left : l.rest ≡ drop (length l.bytes - length l.rest) l.bytes;
      taken : sink.taken l.sink ≡ grown (sink.taken l.fn.sink) (take (length l.bytes - length l.rest) l.bytes);
    }

abbrev pub decreases-loop-rest : goal.decreases-loop-rest
decreases-loop-rest g l = length l.rest
