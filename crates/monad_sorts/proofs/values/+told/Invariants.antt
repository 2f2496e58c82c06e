-- What is left of a program has its values, where the names of what was passed are in scope. Sizes fall, or else the number of
-- parts that are passed.
use Rattle.std.proofs.Common.{◌≡◌, ◌+◌, ◌≤◌, Option}
use Rattle.c_values.specs.Name.{Name}
use Rattle.expression_lang.specs.Sort.{Scalar}
use Rattle.monad_lang.specs.declared.program.Mon.{size-Mon}
use Rattle.monad_lang.specs.CodeProgram.{mon_of}
use Rattle.monad_sorts.specs.CodeTold.{values_told, part_after, names_after}
use Rattle.monad_sorts.specs.CodeInside.{setting_in, no_names}
use Rattle.monad_sorts.proofs.Weights.{weight, top}
use Rattle.monad_sorts.proofs.values.+told.Given as goal

abbrev pub decreases-tell_value : goal.decreases-tell_value
decreases-tell_value l = weight (size-Mon l.m.now) top

abbrev pub decreases-look_back : goal.decreases-look_back
decreases-look_back l = weight (size-Mon l.m.now) (l.steps + 1)

abbrev pub decreases-look_through : goal.decreases-look_through
decreases-look_through l = weight (size-Mon l.m.now) 0

abbrev pub invariant-tell_value-along : goal.invariant-tell_value-along
invariant-tell_value-along l = record {
  same : (names : Name → Option Scalar) →
      values_told (setting_in l.setting (names_after (setting_in l.setting no_names) l.steps names (mon_of l.fn.m)))
      (mon_of l.rest)
      ≡ values_told (setting_in l.setting names) (mon_of l.fn.m);
  part : mon_of l.rest ≡ part_after l.steps (mon_of l.fn.m);
  smaller : size-Mon l.rest + l.steps ≤ size-Mon l.fn.m;
}

abbrev pub decreases-tell_value-along : goal.decreases-tell_value-along
decreases-tell_value-along l = size-Mon l.rest
