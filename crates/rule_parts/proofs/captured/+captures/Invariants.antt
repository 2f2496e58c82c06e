-- What is left captures a name where the program does.
use Rattle.std.proofs.Common.{◌≡◌, ◌≤◌}
use Rattle.expression_lang.specs.CodeExpression.{exp_of}
use Rattle.monad_lang.specs.declared.program.Mon.{size-Mon}
use Rattle.monad_lang.specs.CodeProgram.{mon_of}
use Rattle.rule_parts.specs.Captures.{captures}
use Rattle.rule_parts.proofs.captured.+captures.Given as goal

abbrev pub invariant-along : goal.invariant-along
invariant-along l = record {
  same : captures (exp_of l.e) l.name (mon_of l.rest) ≡ captures (exp_of l.e) l.name (mon_of l.m);
  smaller : size-Mon l.rest ≤ size-Mon l.m;
}

abbrev pub decreases-along : goal.decreases-along
decreases-along l = size-Mon l.rest

abbrev pub decreases-captures : goal.decreases-captures
decreases-captures l = size-Mon l.m.now
