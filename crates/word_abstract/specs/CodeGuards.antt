-- Conditions of a loop's guard, one after the other.
use Rattle.std.specs.Prelude.{List, [], ◌∷◌}
use Rattle.expression_lang.specs.Expression.{Exp, And}
use Rattle.rule_word.specs.Rule as R
use Rattle.rule_word.specs.WordsAbstracted.{Abstracted, made, two}

abbrev pub also : Abstracted → Abstracted → Abstracted
also x y = made R.Logic (And x.right y.right) (two x y)

-- the first is outermost
abbrev pub all_hold : List Abstracted → Abstracted → Abstracted
all_hold [] last = last
all_hold (x ∷ xs) last = also x (all_hold xs last)

abbrev pub IsNoAnd : Exp → Type 0
IsNoAnd (And a b) = ⊥
IsNoAnd e = Unit {0}
