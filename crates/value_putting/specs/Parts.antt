-- The parts of a program with a value put in, where the name may be bound before them.
use Rattle.std.specs.Prelude.{Bool, List, if◌then◌else◌}
use Rattle.c_values.specs.Name.{Name}
use Rattle.expression_lang.specs.Expression.{Exp}
use Rattle.ac_expr.specs.Substituted.{substituted}
use Rattle.monad_lang.specs.Program as M
use Rattle.monad_lang.specs.Program.{Mon, Start}
use Rattle.program_facts.specs.Substituted.{starts_substituted, program_substituted}

abbrev pub start_substituted : Name → Exp → Start → Start
start_substituted x e s = record { name = s.name; exp = substituted x e s.exp }

-- left as it is where the name is bound
abbrev pub exp_behind : Name → Exp → Bool → Exp → Exp
exp_behind x e bound a = if bound then a else substituted x e a

abbrev pub program_behind : Name → Exp → Bool → Mon → Mon
program_behind x e bound m = if bound then m else program_substituted x e m

-- a loop that binds the name or doesn't, with this body
abbrev pub header_behind : Name → Exp → Bool → List Start → Exp → Exp → Mon → Mon
header_behind x e bound starts guard test m =
    M.Loop (starts_substituted x e starts) (exp_behind x e bound guard) (exp_behind x e bound test) m
