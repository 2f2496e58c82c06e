-- What loops begin with.
use Rattle.std.specs.Prelude.{List, [], ◌∷◌}
use Rattle.expression_lang.specs.Expression.{Exp}
use Rattle.monad_lang.specs.Program.{Start}

abbrev pub start_exps : List Start → List Exp
start_exps [] = []
start_exps (x ∷ xs) = x.exp ∷ start_exps xs
