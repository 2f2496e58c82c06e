-- What it is for parts of programs to have sorts.
use Rattle.std.proofs.Common.{◌≡◌, List, ◌∷◌, Option, Some, None, refl, ap, Bool, true, false, cond, sym, subst}
use Rattle.c_values.proofs.Options.{some_is}
use Rattle.c_values.specs.Layout.{Shape, Layout, Incomplete, Scalar as WordShape, Record, Row}
use Rattle.c_values.specs.Value.{Value}
use Rattle.c_values.specs.Path.{HasShape}
use Rattle.c_values.proofs.Laid.{structs_of}
use Rattle.c_values.proofs.Parts.{laid_shape}
use Rattle.expression_lang.specs.Sort.{Scalar, Sort, Of, Scope, sort_of, sort_at}
use Rattle.expression_lang.specs.Sorted.{with_scalar, scalar_in, program_sort, fits_place, sort_in}
use Rattle.expression_lang.specs.Expression.{Exp}
use Rattle.expression_lang.specs.Form.{has, is_part_of_value}
use Rattle.expression_lang.proofs.Inversion.{same_inv}
use Rattle.expression_lang.proofs.Good.{Good}
use Rattle.expression_lang.proofs.Fine.{HasSort}

pub with_scalar_inv : (o : Option Scalar) (p : Option (List Scalar)) (cs : List Scalar) → with_scalar o p ≡ Some cs → (d : Scalar) × (ds : List Scalar) × (o ≡ Some d) × (p ≡ Some ds) × (d ∷ ds ≡ cs)
with_scalar_inv (Some d) (Some ds) cs h = (d, ds, refl, refl, some_is h)
with_scalar_inv None (Some ds) cs h = absurd cc
with_scalar_inv _ _ cs h = absurd cc

pub scalar_in_inv : (o : Option Sort) (c : Scalar) → scalar_in o ≡ Some c → o ≡ Some (Of c)
scalar_in_inv (Some (Of d)) c h = ap (λ e. Some (Of e)) (some_is h)
scalar_in_inv _ c h = absurd cc

pub without_parts : (b : Bool) (p : Option Sort) (o : Sort) → cond b None p ≡ Some o → p ≡ Some o
without_parts true p o h = absurd cc
without_parts false p o h = h

pub program_sort_inv : (g : Scope) (e : Exp) (o : Sort) → program_sort g e ≡ Some o → sort_of g e ≡ Some o
program_sort_inv g e o h = without_parts (has is_part_of_value e) (sort_of g e) o h

pub fits_inv : (a b : Option Sort) → fits_place a b ≡ true → (o : Sort) × (a ≡ Some o) × (b ≡ Some o)
fits_inv (Some a) (Some b) h = same_inv (Some a) (Some b) h
fits_inv None (Some b) h = absurd cc
fits_inv _ _ h = absurd cc

pub only_where : (b : Bool) (p : Option Sort) (o : Sort) → cond b p None ≡ Some o → (b ≡ true) × (p ≡ Some o)
only_where true p o h = (refl, h)
only_where false p o h = absurd cc

pub sort_in_inv : (o : Option Shape) (r : Sort) → sort_in o ≡ Some r → (q : Shape) × (o ≡ Some q) × (sort_at q ≡ Some r)
sort_in_inv (Some q) r h = (q, refl, h)
sort_in_inv None r h = absurd cc

pub value_shaped : (l : Layout) (q : Shape) (o : Sort) (v : Value) → Good l q → sort_at q ≡ Some o → HasSort l o v → HasShape q v
value_shaped l Incomplete o v k e x = absurd cc
value_shaped l (WordShape t n) o v k e x = subst (λ p. HasSort l p v) (sym (some_is e)) x
value_shaped l (Record y n align fs) o v k e x =
    subst (λ r. HasShape r v) (laid_shape l.target (structs_of l) (Record y n align fs) k.laid) (subst (λ p. HasSort l p v) (sym (some_is e)) x)
value_shaped l (Row r n) o v k e x =
    subst (λ s. HasShape s v) (laid_shape l.target (structs_of l) (Row r n) k.laid) (subst (λ p. HasSort l p v) (sym (some_is e)) x)
