-- What the code takes of choices and loops.
use Rattle.std.specs.Prelude.{map}
use Rattle.expression_lang.specs.CodeExpression.{exp_of}
use Rattle.monad_lang.specs.Program.{Mon}
use Rattle.monad_lang.specs.CodeProgram.{mon_of, start_of}
use Rattle.polish.specs.declared.branches.Inside as I
use Rattle.polish.specs.declared.branches.Turn as T
use Rattle.polish.specs.Parts.{IsIf, IsLoop, IsSimple}
use Rattle.polish.specs.Branches.{Turn}

abbrev pub turn_of : T.Turn → Turn
turn_of t = record { starts = map start_of t.starts.now; guard = exp_of t.guard.now; test = exp_of t.test.now }

abbrev pub Holds : I.Inside → Mon → Type 0
Holds (I.TheVariants.Branches a b) m = IsIf (mon_of a.now.value) (mon_of b.now.value) m
Holds (I.TheVariants.Body a) m = IsLoop (mon_of a.now.value) m
Holds I.TheVariants.Nothing m = IsSimple m
