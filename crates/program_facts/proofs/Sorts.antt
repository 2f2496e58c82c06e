-- What it is for a program to be well-sorted, of its parts.
use Rattle.std.proofs.Common.{◌≡◌, Bool, true, false, ◌&&◌, List, map, Option, Some, None, if◌then◌else◌, refl, sym, ap}
use Rattle.c_values.specs.Name.{Name, are_distinct}
use Rattle.c_values.proofs.Options.{none_is}
use Rattle.expression_lang.specs.Sort.{Scalar, Kind}
use Rattle.expression_lang.specs.Sorted.{same_scalars, call_scalars, result_scalars}
use Rattle.expression_lang.specs.Signature.{Signature, kinds_of}
use Rattle.expression_lang.proofs.SameScalars.{same_scalars_are}
use Rattle.monad_lang.specs.Program as M
use Rattle.monad_lang.specs.Program.{Mon}
use Rattle.monad_lang.specs.Sorted.{Setting, setting_with, scalars_given, one_for_each, where_fits}
use Rattle.monad_lang.proofs.Given.{then_parts, fits_parts}

pub call_parts : (f : Kind → Scalar) (s : Option Signature) (o : Option (List Scalar)) (cs : List Scalar) → call_scalars f s o ≡ Some cs →
    (g : Signature) × (s ≡ Some g) × (o ≡ Some (map f (kinds_of g.params)))
call_parts f (Some g) (Some ss) cs h = by_test (same_scalars (map f (kinds_of g.params)) ss) refl h
  where
    by_test : (b : Bool) → same_scalars (map f (kinds_of g.params)) ss ≡ b → (if b then Some (result_scalars f g.result) else None) ≡ Some cs →
        (g' : Signature) × (Some g ≡ Some g') × (Some ss ≡ Some (map f (kinds_of g'.params)))
    by_test true e h = (g, refl, ap (λ cs. Some cs) (sym (same_scalars_are (map f (kinds_of g.params)) ss e)))
    by_test false e h = none_is h
call_parts f None o cs h = none_is h
call_parts f (Some g) None cs h = none_is h

module _ (t : Setting) where
  -- what the two parts of a Bind give
  pub bind_parts : (m : Mon) (xs : List Name) (n : Mon) (cs : List Scalar) → scalars_given t (M.Bind m xs n) ≡ Some cs →
      (ss : List Scalar) × (scalars_given t m ≡ Some ss) × (scalars_given (setting_with xs ss t) n ≡ Some cs)
  bind_parts m xs n cs h =
      let o = then_parts (scalars_given t m) (λ ss. where_fits (one_for_each xs ss && are_distinct xs) (scalars_given (setting_with xs ss t) n)) cs h in
      let f = fits_parts (one_for_each xs o.0 && are_distinct xs) (scalars_given (setting_with xs o.0 t) n) cs o.2 in
      (o.0, o.1, f.1)
