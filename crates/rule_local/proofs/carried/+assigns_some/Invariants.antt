-- What is left assigns a local that passes where the command does.
use Rattle.std.proofs.Common.{◌≡◌, ◌≤◌}
use Rattle.simpl_lang.specs.declared.command.Simpl.{size-Simpl}
use Rattle.simpl_lang.specs.CodeCommand.{simpl_of}
use Rattle.rule_local.specs.CodeAssigned.{assigns_some}
use Rattle.rule_local.proofs.carried.+assigns_some.Given as goal

abbrev pub invariant-along : goal.invariant-along
invariant-along g l = record {
  same : assigns_some (g.T.NameTest.holds l.test) (simpl_of l.rest) ≡ assigns_some (g.T.NameTest.holds l.test) (simpl_of l.c);
  smaller : size-Simpl l.rest ≤ size-Simpl l.c;
}
