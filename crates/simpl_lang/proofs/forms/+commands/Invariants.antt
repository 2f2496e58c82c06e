-- What is left is no larger than the command, and with what was counted it has as many commands.
use Rattle.std.proofs.Common.{◌≡◌, ◌≤◌, ◌+◌, min}
use Rattle.simpl_lang.specs.declared.command.Simpl.{size-Simpl}
use Rattle.simpl_lang.specs.Form.{commands}
use Rattle.simpl_lang.specs.CodeCommand.{simpl_of}
use Rattle.simpl_lang.proofs.forms.+commands.Given as goal

abbrev pub invariant-down : goal.invariant-down
invariant-down l = record {
  same : min (l.before + commands (simpl_of l.rest)) 18446744073709551615 ≡ min (commands (simpl_of l.c)) 18446744073709551615;
  smaller : size-Simpl l.rest ≤ size-Simpl l.c;
}
