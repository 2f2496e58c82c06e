-- The calls of two parts of a function.
use Rattle.std.proofs.Common.{◌≡◌, ℕ, List, [], ◌∷◌, ◌++◌, refl, ap}
use Rattle.c_values.specs.Name.{Name}
use Rattle.c_levels.specs.CodeCalls.{calls_by}

pub by_both : (k : ℕ) (ys zs : List Name) → calls_by k (ys ++ zs) ≡ calls_by k ys ++ calls_by k zs
by_both k [] zs = refl
by_both k (y ∷ ys) zs = ap (λ cs. (y, k) ∷ cs) (by_both k ys zs)
