-- The fronts put aside, around what becomes of what is left, are the whole.
use Rattle.std.proofs.Common.{◌≡◌, ◌≤◌, ◌+◌, ◌*◌}
use Rattle.expression_lang.specs.CodeExpression.{exp_of}
use Rattle.monad_lang.specs.declared.program.Mon.{size-Mon}
use Rattle.monad_lang.specs.CodeProgram.{mon_of}
use Rattle.monad_lang.specs.CodeFront.{with_fronts}
use Rattle.program_facts.specs.Substituted.{program_substituted}
use Rattle.value_putting.proofs.programs.+put.Given as goal

abbrev pub invariant-put-along : goal.invariant-put-along
invariant-put-along l = record {
  same :
      with_fronts l.fronts.items (program_substituted l.name (exp_of l.value) (mon_of l.rest))
      ≡ program_substituted l.name (exp_of l.value) (mon_of l.m);
  smaller : size-Mon l.rest ≤ size-Mon l.m;
}

abbrev pub decreases-put-along : goal.decreases-put-along
decreases-put-along l = size-Mon l.rest

abbrev pub decreases-opened : goal.decreases-opened
decreases-opened l = 2 * size-Mon l.m.now

abbrev pub decreases-put : goal.decreases-put
decreases-put l = 2 * size-Mon l.m.now + 1
