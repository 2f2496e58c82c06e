-- What is left passes where the whole does, and is no larger.
use Rattle.std.proofs.Common.{◌≡◌, ◌≤◌}
use Rattle.monad_lang.specs.declared.program.Mon.{size-Mon}
use Rattle.monad_lang.specs.Form.{program_has}
use Rattle.monad_lang.specs.CodeProgram.{mon_of}
use Rattle.monad_lang.proofs.program.Mon.+any.Given as goal

abbrev pub invariant-along : goal.invariant-along
invariant-along g l = record {
  same :
      program_has (g.T.Test.holds l.test) (g.P.PlaceTest.holds l.places) (mon_of l.rest)
      ≡ program_has (g.T.Test.holds l.test) (g.P.PlaceTest.holds l.places) (mon_of l.self);
  smaller : size-Mon l.rest ≤ size-Mon l.self;
}
