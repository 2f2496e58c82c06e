-- What is left of both is the same where they are, and no larger.
use Rattle.std.proofs.Common.{◌≡◌, ◌≤◌, ◌↔◌}
use Rattle.monad_lang.specs.declared.program.Mon.{size-Mon}
use Rattle.monad_lang.specs.CodeProgram.{mon_of}
use Rattle.monad_lang.proofs.+comparison.Given as goal

abbrev pub invariant-program::Mon::same-along : goal.invariant-program::Mon::same-along
invariant-program::Mon::same-along l = record {
  same : (mon_of l.left ≡ mon_of l.right) ↔ (mon_of l.self ≡ mon_of l.other);
  smaller : size-Mon l.left ≤ size-Mon l.self;
}

abbrev pub decreases-program::Mon::same-along : goal.decreases-program::Mon::same-along
decreases-program::Mon::same-along l = size-Mon l.left
