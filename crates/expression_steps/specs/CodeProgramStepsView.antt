-- How the code writes to an object, and the parts of its loops.
use Rattle.std.specs.Prelude.{map, Option}
use Rattle.expression_lang.specs.Sort.{Scope}
use Rattle.expression_lang.specs.CodeExpression.{exp_of}
use Rattle.monad_lang.specs.Program.{Mon}
use Rattle.monad_lang.specs.CodeProgram.{start_of, mon_of}
use Rattle.expression_steps.specs.declared.program_steps.Object as O
use Rattle.expression_steps.specs.declared.program_steps.Turns as T
use Rattle.expression_steps.specs.CodeProgramSteps.{Object, StoredAt, WrittenAt, turned_in}

abbrev pub object_in : O.Object → Object
object_in O.TheVariants.Stored = StoredAt
object_in O.TheVariants.Written = WrittenAt

abbrev pub turned_at : T.Turns → Scope → Option Mon
turned_at t g = turned_in (map start_of t.starts.now) (exp_of t.guard.now) (exp_of t.test.now) (mon_of t.last.now) g
