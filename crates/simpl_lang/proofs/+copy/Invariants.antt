-- The fronts put aside, around what is left, are the whole.
use Rattle.std.proofs.Common.{◌≡◌, ◌≤◌}
use Rattle.simpl_lang.specs.declared.command.Simpl.{size-Simpl}
use Rattle.simpl_lang.specs.CodeCommand.{simpl_of}
use Rattle.simpl_lang.specs.CodeFront.{with_fronts}
use Rattle.simpl_lang.proofs.+copy.Given as goal

abbrev pub invariant-command::Simpl::copy-along : goal.invariant-command::Simpl::copy-along
invariant-command::Simpl::copy-along l = record {
  same : with_fronts l.fronts.items (simpl_of l.rest) ≡ simpl_of l.self;
  smaller : size-Simpl l.rest ≤ size-Simpl l.self;
}

abbrev pub decreases-command::Simpl::copy-along : goal.decreases-command::Simpl::copy-along
decreases-command::Simpl::copy-along l = size-Simpl l.rest
