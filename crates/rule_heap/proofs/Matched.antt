-- Whether as many trees are left as claims, by what is left of the pairs.
use Rattle.std.proofs.Common.{◌≡◌, List, [], ◌∷◌, refl}
use Rattle.expression_lang.specs.Expression.{Exp}
use Rattle.ac_expr.specs.Fact.{Fact}
use Rattle.rule_heap.specs.Table.{each}

pub each_without : (fs : List Fact) (as' : List Exp) → each fs as' [] ≡ []
each_without fs [] = refl
each_without fs (a ∷ as') = refl
