-- What is left is no larger than the command, and as flat.
use Rattle.std.proofs.Common.{◌≡◌, ◌≤◌}
use Rattle.simpl_lang.specs.declared.command.Simpl.{size-Simpl}
use Rattle.simpl_lang.specs.Form.{is_flat}
use Rattle.simpl_lang.specs.CodeCommand.{simpl_of}
use Rattle.simpl_lang.proofs.forms.+is_flat.Given as goal

abbrev pub invariant-down : goal.invariant-down
invariant-down l = record {
  same : is_flat (simpl_of l.rest) ≡ is_flat (simpl_of l.c);
  smaller : size-Simpl l.rest ≤ size-Simpl l.c;
}
