-- What is left of both is the same where they are, and no larger.
use Rattle.std.proofs.Common.{◌≡◌, ◌≤◌, ◌↔◌}
use Rattle.simpl_lang.specs.declared.command.Simpl.{size-Simpl}
use Rattle.simpl_lang.specs.CodeCommand.{simpl_of}
use Rattle.simpl_lang.proofs.+comparison.Given as goal

abbrev pub invariant-command::Simpl::same-along : goal.invariant-command::Simpl::same-along
invariant-command::Simpl::same-along l = record {
  same : (simpl_of l.left ≡ simpl_of l.right) ↔ (simpl_of l.self ≡ simpl_of l.other);
  smaller : size-Simpl l.left ≤ size-Simpl l.self;
}

abbrev pub decreases-command::Simpl::same-along : goal.decreases-command::Simpl::same-along
decreases-command::Simpl::same-along l = size-Simpl l.left
