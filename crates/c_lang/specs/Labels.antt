-- Labels of a switch: whether a number is among those of a group, and among those of all groups.
use Rattle.std.specs.Prelude.{Bool, false, ◌||◌, List, [], ◌∷◌, ℤ}
use Rattle.std.specs.Ordering.{int_eq}
use Rattle.c_lang.specs.Typed as C

abbrev pub is_label : ℤ → List ℤ → Bool
is_label n [] = false
is_label n (k ∷ ks) = int_eq n k || is_label n ks

abbrev pub has_label : ℤ → C.Groups → Bool
has_label n C.no_groups = false
has_label n (C.group labels is_default body gs) = is_label n labels || has_label n gs
