-- What is left of both is as it is to be where both are, and no larger.
use Rattle.std.proofs.Common.{◌≡◌, ◌↔◌, ◌≤◌, ◌+◌, ◌*◌}
use Rattle.expression_lang.specs.CodeExpression.{exp_of}
use Rattle.monad_lang.specs.declared.program.Mon.{size-Mon}
use Rattle.monad_lang.specs.CodeProgram.{mon_of}
use Rattle.program_facts.specs.Substituted.{program_substituted}
use Rattle.rule_eq.proofs.program_putting.+programs.Given as goal

abbrev pub invariant-is_program_put-along : goal.invariant-is_program_put-along
invariant-is_program_put-along l = record {
  same : (mon_of l.right ≡ program_substituted l.name (exp_of l.value) (mon_of l.left))
      ↔ (mon_of l.initial.right ≡ program_substituted l.name (exp_of l.value) (mon_of l.m));
  smaller : size-Mon l.left ≤ size-Mon l.m;
}

abbrev pub decreases-is_program_put-along : goal.decreases-is_program_put-along
decreases-is_program_put-along l = size-Mon l.left

abbrev pub decreases-is_program_put : goal.decreases-is_program_put
decreases-is_program_put l = 2 * size-Mon l.m.now + 1

abbrev pub decreases-look : goal.decreases-look
decreases-look l = 2 * size-Mon l.m.now
