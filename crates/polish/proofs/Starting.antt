-- Names without scalars.
use Rattle.std.proofs.Common.{◌≡◌, List, [], ◌∷◌, Option, refl}
use Rattle.c_values.specs.Name.{Name}
use Rattle.expression_lang.specs.Sort.{Scalar}
use Rattle.expression_lang.specs.Sorted.{names_with}

pub none_started : (xs : List Name) (names : Name → Option Scalar) → names_with xs [] names ≡ names
none_started [] names = refl
none_started (x ∷ xs) names = refl
