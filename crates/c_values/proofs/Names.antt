-- Whether two names are the same, from either side.
use Rattle.std.proofs.Common.{◌≡◌, Bool, true, false, ap, ◌∙◌, refl, sym}
use Rattle.c_values.specs.Name.{Name, same_name}
use Rattle.c_values.proofs.Laid.{name_is, other_name, same_name-refl}

pub either_way : (x y : Name) (b : Bool) → same_name x y ≡ b → same_name y x ≡ b
either_way x y true h = ap (λ z. same_name y z) (name_is x y h) ∙ same_name-refl y
either_way x y false h = other_name x y h

pub same_name_swapped : (x y : Name) → same_name x y ≡ same_name y x
same_name_swapped x y = sym (either_way x y (same_name x y) refl)
