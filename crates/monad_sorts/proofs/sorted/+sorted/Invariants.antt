-- What is left of a program is well-sorted, where the names of what was passed are in scope, if all is.
use Rattle.std.proofs.Common.{◌≡◌, ◌+◌, ◌≤◌}
use Rattle.monad_lang.specs.declared.program.Mon.{size-Mon}
use Rattle.monad_lang.specs.CodeProgram.{mon_of}
use Rattle.monad_sorts.specs.CodeTold.{part_after, names_after}
use Rattle.monad_sorts.specs.CodeSorted.{is_sorted}
use Rattle.monad_sorts.specs.CodeInside.{setting_in, scalars_in, no_names}
use Rattle.monad_sorts.proofs.sorted.+sorted.Given as goal

abbrev pub invariant-is_sorted-along : goal.invariant-is_sorted-along
invariant-is_sorted-along l = record {
  same :
      is_sorted (setting_in l.setting
      (names_after (setting_in l.setting no_names) l.steps (scalars_in l.inside) (mon_of l.fn.m))) (mon_of l.rest)
      ≡ is_sorted (setting_in l.setting (scalars_in l.inside)) (mon_of l.fn.m);
  part : mon_of l.rest ≡ part_after l.steps (mon_of l.fn.m);
  smaller : size-Mon l.rest + l.steps ≤ size-Mon l.fn.m;
}

abbrev pub decreases-is_sorted-along : goal.decreases-is_sorted-along
decreases-is_sorted-along l = size-Mon l.rest
