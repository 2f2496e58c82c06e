-- Substitution in programs: where a name is free, an expression stands in its place; what binds the name is left as it is. The
-- program means the same, with the expression's value under the name, where no name of the expression is captured (Names).
use Rattle.std.specs.Prelude.{List, [], ◌∷◌, if◌then◌else◌}
use Rattle.c_values.specs.Name.{Name, is_among}
use Rattle.expression_lang.specs.Expression.{Exp}
use Rattle.ac_expr.specs.Substituted.{substituted, path_substituted}
use Rattle.monad_lang.specs.Program.{Place, Stored, Written, Global, Start, Mon, Ret, Bind, Guard, If, Write, Loop, Call, Pick}
use Rattle.monad_lang.specs.Run.{start_names}

abbrev pub each_substituted : Name → Exp → List Exp → List Exp
each_substituted x e [] = []
each_substituted x e (a ∷ as') = substituted x e a ∷ each_substituted x e as'

abbrev pub starts_substituted : Name → Exp → List Start → List Start
starts_substituted x e [] = []
starts_substituted x e (s ∷ ss) = record { name = s.name; exp = substituted x e s.exp } ∷ starts_substituted x e ss

abbrev pub place_substituted : Name → Exp → Place → Place
place_substituted x e (Stored t p path) = Stored t (substituted x e p) (path_substituted x e path)
place_substituted x e (Written t p path) = Written t (substituted x e p) (path_substituted x e path)
place_substituted x e (Global y path) = Global y (path_substituted x e path)

-- with e for x
abbrev pub program_substituted : Name → Exp → Mon → Mon
program_substituted x e (Ret es) = Ret (each_substituted x e es)
program_substituted x e (Bind m xs n) =
    Bind (program_substituted x e m) xs (if is_among x xs then n else program_substituted x e n)
program_substituted x e (Guard a) = Guard (substituted x e a)
program_substituted x e (If a m n) = If (substituted x e a) (program_substituted x e m) (program_substituted x e n)
program_substituted x e (Write place a) = Write (place_substituted x e place) (substituted x e a)
program_substituted x e (Loop starts guard test m) =
    if is_among x (start_names starts) then Loop (starts_substituted x e starts) guard test m
    else Loop (starts_substituted x e starts) (substituted x e guard) (substituted x e test) (program_substituted x e m)
program_substituted x e (Call f es) = Call f (each_substituted x e es)
program_substituted x e (Pick k) = Pick k
