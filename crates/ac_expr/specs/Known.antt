-- What is known from facts, by their form alone: what a fact gives, without any reasoning. It is little, so that a checker decides
-- it by one look at each fact, and enough for every guard that generation puts before its use.
use Rattle.std.specs.Prelude.{◌≡◌, true, List, [], ◌∷◌, ◌⊎◌}
use Rattle.expression_lang.specs.Expression.{Exp, NumberLit, TruthLit, Le, Between, And, Imp}
use Rattle.ac_expr.specs.Fact.{Fact, stands_for}

abbrev pub SomeFact : (Exp → Type 0) → List Fact → Type 0
SomeFact P [] = ⊥
SomeFact P (f ∷ fs) = P (stands_for f) ⊎ SomeFact P fs

-- A fact gives itself, an `and` what its sides give, a range its two ends.
abbrev pub GivesAtOnce : Exp → Exp → Type 0
GivesAtOnce (And a b) e = (e ≡ And a b) ⊎ GivesAtOnce a e ⊎ GivesAtOnce b e
GivesAtOnce (Between low x high) e = (e ≡ Between low x high) ⊎ (e ≡ Le (NumberLit low) x) ⊎ (e ≡ Le x (NumberLit high))
GivesAtOnce fact e = e ≡ fact

-- And an implication gives what its right side gives, where some fact gives its left side without another implication.
abbrev pub Gives : List Fact → Exp → Exp → Type 0
Gives fs (And a b) e = (e ≡ And a b) ⊎ Gives fs a e ⊎ Gives fs b e
Gives fs (Between low x high) e = (e ≡ Between low x high) ⊎ (e ≡ Le (NumberLit low) x) ⊎ (e ≡ Le x (NumberLit high))
Gives fs (Imp c d) e = (e ≡ Imp c d) ⊎ (SomeFact (λ fact. GivesAtOnce fact c) fs × Gives fs d e)
Gives fs fact e = e ≡ fact

abbrev pub IsKnown : List Fact → Exp → Type 0
IsKnown fs e = (e ≡ TruthLit true) ⊎ SomeFact (λ fact. Gives fs fact e) fs
