-- What is left is no larger than the command, and as well-sorted.
use Rattle.std.proofs.Common.{◌≡◌, ◌≤◌}
use Rattle.simpl_lang.specs.declared.command.Simpl.{size-Simpl}
use Rattle.simpl_lang.specs.Sorted.{is_sorted}
use Rattle.simpl_lang.specs.CodeCommand.{simpl_of}
use Rattle.simpl_lang.specs.CodeForms.{scope_in, signatures_in}
use Rattle.simpl_lang.proofs.sorted.+is_sorted.Given as goal

abbrev pub invariant-down : goal.invariant-down
invariant-down l = record {
  same : is_sorted (scope_in l.u l.names) (signatures_in l.u) (simpl_of l.rest) ≡ is_sorted (scope_in l.u l.names) (signatures_in l.u) (simpl_of l.c);
  smaller : size-Simpl l.rest ≤ size-Simpl l.c;
}
