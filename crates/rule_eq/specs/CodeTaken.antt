-- What the code asks of the value that is put in: whether an expression is its name, and lists without what stands at its position.
use Rattle.std.specs.Prelude.{ℕ, zero, suc, Bool, false, List, [], ◌∷◌, Option, Some, None}
use Rattle.c_values.specs.Name.{Name, same_name}
use Rattle.expression_lang.specs.Expression.{Exp, Var}

abbrev pub is_it : Name → Exp → Bool
is_it x (Var y) = same_name x y
is_it x a = false

abbrev pub without : {A : Type 0} → ℕ → List A → List A
without i [] = []
without zero (x ∷ xs) = xs
without (suc i) (x ∷ xs) = x ∷ without i xs

abbrev pub at_position : {A : Type 0} → ℕ → List A → Option A
at_position i [] = None
at_position zero (x ∷ xs) = Some x
at_position (suc i) (x ∷ xs) = at_position i xs
