-- Lists of values with different lengths are not the same.
use Rattle.std.proofs.Common.{◌≡◌, suc, false, ◌&&◌, List, [], ◌∷◌, length, refl, ap, ◌∙◌}
use Rattle.std.proofs.Math.Bool.{and-false}
use Rattle.c_values.specs.declared.values.Value as V
use Rattle.c_values.specs.Value.{same_value, same_values}
use Rattle.c_values.specs.CodeValue.{value_of}
use Rattle.c_values.specs.CodeParts.{values_in}

pub unequal_lengths : (xs ys : List V.Value) → (length xs ≡ length ys → ⊥) → same_values (values_in xs) (values_in ys) ≡ false
unequal_lengths [] [] other = absurd (other refl)
unequal_lengths [] (y ∷ ys) other = refl
unequal_lengths (x ∷ xs) [] other = refl
unequal_lengths (x ∷ xs) (y ∷ ys) other =
    ap (λ b. same_value (value_of x) (value_of y) && b) (unequal_lengths xs ys (λ e. other (ap suc e))) ∙ and-false (same_value (value_of x) (value_of y))
