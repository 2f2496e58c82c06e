-- The lines that stand, and then those that are left, are all of them.
use Rattle.std.proofs.Common.{◌≡◌, ◌++◌, ◌-◌}
use Rattle.sample_text.specs.Sample.{lines_from, sample_text}
use Rattle.sample_text.proofs.sample_text.Given as goal

abbrev pub invariant-loop-k : goal.invariant-loop-k
invariant-loop-k l = l.text.items ++ lines_from l.k (l.count - l.k) ≡ sample_text l.count
