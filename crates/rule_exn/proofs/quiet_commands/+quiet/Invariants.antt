-- What is left is no larger than the command, and as quiet.
use Rattle.std.proofs.Common.{◌≡◌, ◌≤◌}
use Rattle.simpl_lang.specs.declared.command.Simpl.{size-Simpl}
use Rattle.simpl_lang.specs.CodeCommand.{simpl_of}
use Rattle.rule_exn.specs.Quiet.{quiet}
use Rattle.rule_exn.proofs.quiet_commands.+quiet.Given as goal

abbrev pub invariant-down : goal.invariant-down
invariant-down l = record {
  same : quiet (simpl_of l.rest) ≡ quiet (simpl_of l.c);
  smaller : size-Simpl l.rest ≤ size-Simpl l.c;
}
