-- Two programs are decided to be well-sorted and to give values of the same scalars where they do.
use Rattle.std.proofs.Common.{◌≡◌, Bool, true, List, Option, Some, None, refl, sym, ap, ap₂, ◌∙◌}
use Rattle.expression_lang.specs.Sort.{Scalar}
use Rattle.expression_lang.proofs.SameScalars.{same_scalars_are, same_scalars-refl}
use Rattle.monad_lang.specs.Program.{Mon}
use Rattle.monad_lang.specs.Sorted.{Setting, scalars_given}
use Rattle.monad_sorts.specs.CodeTold.{values_told}
use Rattle.monad_sorts.specs.CodeSorted.{same_told, is_sorted}
use Rattle.monad_sorts.proofs.ValuesTold.{values_are}
use Rattle.monad_sorts.proofs.SortedIs.{is_given, same_is, sorted_is}

abbrev pub GiveSame : Setting → Mon → Mon → Type 0
GiveSame t m n = (given : List Scalar) × (scalars_given t m ≡ Some given) × (scalars_given t n ≡ Some given)

abbrev pub IsGiven : Setting → Mon → Type 0
IsGiven t m = (given : List Scalar) × (scalars_given t m ≡ Some given)

something : (o : Option (List Scalar)) → is_given o ≡ true → (ss : List Scalar) × (o ≡ Some ss)
something None h = absurd cc
something (Some ss) h = (ss, refl)

-- what is decided of one

pub sorted_gives : (t : Setting) (m : Mon) (b : Bool) → b ≡ is_sorted t m → b ≡ true → IsGiven t m
sorted_gives t m b e h = something (scalars_given t m) (sym (sorted_is m t) ∙ sym e ∙ h)

pub given_is_sorted : (t : Setting) (m : Mon) (b : Bool) → b ≡ is_sorted t m → IsGiven t m → b ≡ true
given_is_sorted t m b e g = e ∙ sorted_is m t ∙ ap is_given g.1

-- and of both

pub told_give : (t : Setting) (m n : Mon) → IsGiven t m → IsGiven t n →
    same_told (values_told t m) (values_told t n) ≡ true → GiveSame t m n
told_give t m n g k h =
    let same : g.0 ≡ k.0 =
    same_scalars_are g.0 k.0 (sym (same_is g.0 k.0) ∙ sym (ap₂ same_told (values_are m t g.0 g.1) (values_are n t k.0 k.1)) ∙ h) in
    (g.0, g.1, k.1 ∙ ap (λ ss. Some ss) (sym same))

pub given_told : (t : Setting) (m n : Mon) → GiveSame t m n → same_told (values_told t m) (values_told t n) ≡ true
given_told t m n g =
    ap₂ same_told (values_are m t g.0 g.1) (values_are n t g.0 g.2) ∙ same_is g.0 g.0 ∙ same_scalars-refl g.0
