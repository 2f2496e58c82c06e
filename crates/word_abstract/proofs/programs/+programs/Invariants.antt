-- The fronts put aside, around what is left behind them, are the whole.
use Rattle.std.proofs.Common.{◌≡◌, ◌≤◌, ◌+◌, ◌*◌, map}
use Rattle.expression_lang.specs.CodeExpression.{kind_of}
use Rattle.monad_lang.specs.declared.program.Mon.{size-Mon}
use Rattle.monad_lang.specs.CodeProgram.{mon_of}
use Rattle.word_abstract.specs.CodeFronts.{with_fronts}
use Rattle.word_abstract.specs.CodeBehind.{program_behind}
use Rattle.word_abstract.specs.CodeScenes.{program_there}
use Rattle.word_abstract.proofs.programs.+programs.Given as goal

abbrev pub invariant-program-along : goal.invariant-program-along
invariant-program-along l = record {
  same : with_fronts l.fronts.items (program_behind l.at l.passed (mon_of l.rest) (map kind_of l.kinds)) ≡ program_there l.at (mon_of l.m) (map kind_of l.kinds);
  smaller : size-Mon l.rest ≤ size-Mon l.m;
}

abbrev pub decreases-program-along : goal.decreases-program-along
decreases-program-along l = size-Mon l.rest

-- at one size a call goes from what opens a part to the part, its sequence, and its last program
abbrev pub decreases-under : goal.decreases-under
decreases-under l = 8 * size-Mon l.m.now + 4

abbrev pub decreases-front_at : goal.decreases-front_at
decreases-front_at l = 8 * size-Mon l.m.now + 4

abbrev pub decreases-part : goal.decreases-part
decreases-part l = 8 * size-Mon l.m.now + 2

abbrev pub decreases-program : goal.decreases-program
decreases-program l = 8 * size-Mon l.m.now + 1

abbrev pub decreases-last_at : goal.decreases-last_at
decreases-last_at l = 8 * size-Mon l.m.now

abbrev pub decreases-turns : goal.decreases-turns
decreases-turns l = 8 * size-Mon l.body.now + 5
