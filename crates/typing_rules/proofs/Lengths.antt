-- Arrays by the lengths of a declarator.
use Rattle.std.proofs.Common.{◌≡◌, ℕ, List, [], ◌∷◌, ◌++◌, refl, ap}
use Rattle.c_values.specs.Types.{CType, Array}
use Rattle.typing_rules.specs.Declarations.{arrays}

pub arrays_last : (ns : List ℕ) (n : ℕ) (t : CType) → arrays (ns ++ (n ∷ [])) t ≡ arrays ns (Array t n)
arrays_last [] n t = refl
arrays_last (m ∷ ns) n t = ap (λ u. Array u m) (arrays_last ns n t)
