-- What it is for a program to give scalars, of its parts.
use Rattle.std.proofs.Common.{◌≡◌, List, Option, Some, None, refl, Bool, true, false, sym, ap}
use Rattle.c_values.proofs.Options.{none_is}
use Rattle.expression_lang.specs.Sort.{Scalar}
use Rattle.expression_lang.proofs.SameScalars.{same_scalars_are}
use Rattle.monad_lang.specs.Sorted.{and_then_scalars, where_fits, are_scalars}

pub then_parts : (o : Option (List Scalar)) (f : List Scalar → Option (List Scalar)) (cs : List Scalar) → and_then_scalars o f ≡ Some cs → (ss : List Scalar) × (o ≡ Some ss) × (f ss ≡ Some cs)
then_parts None f cs h = none_is h
then_parts (Some ss) f cs h = (ss, refl, h)

pub fits_parts : (b : Bool) (o : Option (List Scalar)) (cs : List Scalar) → where_fits b o ≡ Some cs → (b ≡ true) × (o ≡ Some cs)
fits_parts true o cs h = (refl, h)
fits_parts false o cs h = none_is h

pub given_there : (cs : List Scalar) (o : Option (List Scalar)) → are_scalars cs o ≡ true → o ≡ Some cs
given_there cs (Some ds) h = ap (λ es. Some es) (sym (same_scalars_are cs ds h))
given_there cs None h = absurd cc
