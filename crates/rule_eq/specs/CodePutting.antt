-- What a look at two sides says of the right one: whether it is the left one with an expression in place of a name.
use Rattle.std.specs.Prelude.{◌≡◌, ◌↔◌, ℕ, ◌<◌, List, if◌then◌else◌, Bool}
use Rattle.c_values.specs.Name.{Name, is_among}
use Rattle.expression_lang.specs.Expression.{Exp}
use Rattle.expression_lang.specs.CodeExpression.{exp_of}
use Rattle.ac_expr.specs.Substituted.{substituted}
use Rattle.ac_expr.specs.CodeApart.{IsAmong}
use Rattle.monad_lang.specs.Program.{Mon, Start, Loop}
use Rattle.monad_lang.specs.Run.{start_names}
use Rattle.monad_lang.specs.CodeProgram.{mon_of}
use Rattle.monad_lang.specs.declared.program.Mon.{size-Mon}
use Rattle.program_facts.specs.Substituted.{each_substituted, starts_substituted, program_substituted}
use Rattle.rule_eq.specs.declared.putting.Putting as P
use Rattle.rule_eq.specs.declared.program_putting.Looked as L

-- of expressions one after the other, where only whether the last is so may be left
abbrev pub Says : Name → Exp → P.Putting → List Exp → List Exp → Type 0
Says x e P.TheVariants.Differ as' bs = bs ≡ each_substituted x e as' → ⊥
Says x e P.TheVariants.Same as' bs = bs ≡ each_substituted x e as'
Says x e (P.TheVariants.AsLast a b) as' bs = (exp_of b.now ≡ substituted x e (exp_of a.now)) ↔ (bs ≡ each_substituted x e as')

abbrev pub LastIsAmong : P.Putting → List Exp → Type 0
LastIsAmong P.TheVariants.Differ es = Unit {0}
LastIsAmong P.TheVariants.Same es = Unit {0}
LastIsAmong (P.TheVariants.AsLast a b) es = IsAmong (exp_of a.now) es

-- of a program that is to be this one
abbrev pub SaysOf : Name → Exp → L.Looked → Mon → Mon → Type 0
SaysOf x e L.TheVariants.Differ n m = m ≡ n → ⊥
SaysOf x e L.TheVariants.Same n m = m ≡ n
SaysOf x e (L.TheVariants.AsLast a b) n m = (mon_of b.now ≡ program_substituted x e (mon_of a.now)) ↔ (m ≡ n)

abbrev pub LastIsSmaller : L.Looked → ℕ → Type 0
LastIsSmaller L.TheVariants.Differ n = Unit {0}
LastIsSmaller L.TheVariants.Same n = Unit {0}
LastIsSmaller (L.TheVariants.AsLast a b) n = size-Mon a.now < n

-- a last part, where the name is bound before it or not
abbrev pub put_behind : Name → Exp → Bool → Mon → Mon
put_behind x e bound m = if bound then m else program_substituted x e m

-- the same of an expression
abbrev pub exp_behind : Name → Exp → Bool → Exp → Exp
exp_behind x e bound a = if bound then a else substituted x e a

-- a loop, by whether its names bind the name
abbrev pub turn_put : Name → Exp → List Start → Exp → Exp → Mon → Mon
turn_put x e starts guard test m =
    Loop (starts_substituted x e starts) (exp_behind x e (is_among x (start_names starts)) guard)
    (exp_behind x e (is_among x (start_names starts)) test) (put_behind x e (is_among x (start_names starts)) m)
