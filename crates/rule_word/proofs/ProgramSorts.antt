-- What is known of a program's parts where it gives scalars.
use Rattle.std.proofs.Common.{◌≡◌, Bool, true, false, cond, ◌&&◌, List, ◌∷◌, map, Option, Some, None, refl, sym, subst, ap, ◌∙◌}
use Rattle.std.proofs.lemmas.Bool.{and_parts}
use Rattle.c_values.specs.Types.{CType}
use Rattle.c_values.specs.Layout.{Shape, shape_of}
use Rattle.expression_lang.specs.Expression.{Path}
use Rattle.expression_lang.specs.Form.{path_has, is_part_of_value}
use Rattle.expression_lang.specs.Signature.{Signature, kinds_of}
use Rattle.expression_lang.specs.Sort.{Scalar, Sort, Kind, Scope, shape_along, word_sort_of}
use Rattle.expression_lang.specs.Sorted.{same_scalars, with_scalar, part_place, sort_in, call_scalars, result_scalars}
use Rattle.expression_lang.proofs.SameScalars.{same_scalars_are}
use Rattle.monad_lang.specs.Sorted.{are_scalars, where_fits, and_then_scalars}
use Rattle.rule_word.specs.Scopes.{result_as_list}

pub some_is : {A : Type 0} {a b : A} → ◌≡◌ {A = Option A} (Some a) (Some b) → a ≡ b
some_is h = cc

pub are_inv : (cs : List Scalar) (o : Option (List Scalar)) → are_scalars cs o ≡ true → o ≡ Some cs
are_inv cs (Some ts) h = ap (λ x. Some x) (sym (same_scalars_are cs ts h))
are_inv cs None h = absurd cc

pub fits_inv : (b : Bool) (o : Option (List Scalar)) (cs : List Scalar) → where_fits b o ≡ Some cs → (b ≡ true) × (o ≡ Some cs)
fits_inv true o cs h = (refl, h)
fits_inv false o cs h = absurd cc

pub then_inv : (o : Option (List Scalar)) (f : List Scalar → Option (List Scalar)) (cs : List Scalar) → and_then_scalars o f ≡ Some cs → (ss : List Scalar) × (o ≡ Some ss) × (f ss ≡ Some cs)
then_inv (Some ss) f cs h = (ss, refl, h)
then_inv None f cs h = absurd cc

-- an if gives what its branches give
pub if_inv : (o o' : Option (List Scalar)) (b : Bool) (cs : List Scalar) → and_then_scalars o (λ ss. where_fits (b && are_scalars ss o') (Some ss)) ≡ Some cs → (o ≡ Some cs) × (o' ≡ Some cs)
if_inv (Some ss) o' b cs h =
    let r = fits_inv (b && are_scalars ss o') (Some ss) cs h in
    (r.1, are_inv ss o' (and_parts b (are_scalars ss o') r.0).1 ∙ r.1)
if_inv None o' b cs h = absurd cc

-- a bind whose first part is known to give these
pub bind_inv : (o : Option (List Scalar)) (b : List Scalar → Bool) (f : List Scalar → Option (List Scalar)) (ss cs : List Scalar) → o ≡ Some ss → and_then_scalars o (λ ts. where_fits (b ts) (f ts)) ≡ Some cs → f ss ≡ Some cs
bind_inv o b f ss cs e h = (fits_inv (b ss) (f ss) cs (subst (λ z. and_then_scalars z (λ ts. where_fits (b ts) (f ts)) ≡ Some cs) e h)).1

-- the first of scalars, and the others
pub scalar_first : (o : Option Scalar) (r : Option (List Scalar)) (cs : List Scalar) → with_scalar o r ≡ Some cs → (c : Scalar) × (ds : List Scalar) × (cs ≡ c ∷ ds) × (r ≡ Some ds) × (o ≡ Some c)
scalar_first (Some c) (Some ds) cs h = (c, ds, sym (some_is h), refl, refl)
scalar_first _ _ cs h = absurd cc

-- places
pub part_there : (g : Scope) (t : CType) (path : Path) (s : Sort) → part_place g t path ≡ Some s → (q : Shape) × (shape_along g path (shape_of g.layout t) ≡ Some q)
part_there g t path s h = by_test (path_has is_part_of_value path) h
  where
    by_shape : (o : Option Shape) → sort_in o ≡ Some s → (q : Shape) × (o ≡ Some q)
    by_shape None k = absurd cc
    by_shape (Some q) k = (q, refl)

    by_test : (b : Bool) → cond b None (sort_in (shape_along g path (shape_of g.layout t))) ≡ Some s → (q : Shape) × (shape_along g path (shape_of g.layout t) ≡ Some q)
    by_test true k = absurd cc
    by_test false k = by_shape (shape_along g path (shape_of g.layout t)) k

-- calls
pub call_inv : (g : Signature) (o : Option (List Scalar)) (cs : List Scalar) → call_scalars word_sort_of (Some g) o ≡ Some cs → (o ≡ Some (map word_sort_of (kinds_of g.params))) × (result_scalars word_sort_of g.result ≡ cs)
call_inv g None cs h = absurd cc
call_inv g (Some ss) cs h = by_test (same_scalars (map word_sort_of (kinds_of g.params)) ss) refl h
  where
    by_test : (b : Bool) → same_scalars (map word_sort_of (kinds_of g.params)) ss ≡ b → cond b (Some (result_scalars word_sort_of g.result)) None ≡ Some cs → (Some ss ≡ Some (map word_sort_of (kinds_of g.params))) × (result_scalars word_sort_of g.result ≡ cs)
    by_test true e k = (are_inv (map word_sort_of (kinds_of g.params)) (Some ss) e, some_is k)
    by_test false e k = absurd cc

pub result_sorts : (r : Option Kind) → map word_sort_of (result_as_list r) ≡ result_scalars word_sort_of r
result_sorts None = refl
result_sorts (Some k) = refl

-- a loop gives what its starts give
pub loop_parts : (o : Option (List Scalar)) (b : List Scalar → Bool) (r : List Scalar → Option (List Scalar)) (cs : List Scalar) → and_then_scalars o (λ ts. where_fits (b ts && are_scalars ts (r ts)) (Some ts)) ≡ Some cs → o ≡ Some cs
loop_parts o b r cs h =
    let s = then_inv o (λ ts. where_fits (b ts && are_scalars ts (r ts)) (Some ts)) cs h in
    s.1 ∙ (fits_inv (b s.0 && are_scalars s.0 (r s.0)) (Some s.0) cs s.2).1

-- a loop's body gives what its starts give
pub loop_inv : (o : Option (List Scalar)) (b : List Scalar → Bool) (r : List Scalar → Option (List Scalar)) (ss cs : List Scalar) → o ≡ Some ss → and_then_scalars o (λ ts. where_fits (b ts && are_scalars ts (r ts)) (Some ts)) ≡ Some cs → r ss ≡ Some ss
loop_inv o b r ss cs e h =
    let f = fits_inv (b ss && are_scalars ss (r ss)) (Some ss) cs (subst (λ z. and_then_scalars z (λ ts. where_fits (b ts && are_scalars ts (r ts)) (Some ts)) ≡ Some cs) e h) in
    are_inv ss (r ss) (and_parts (b ss) (are_scalars ss (r ss)) f.0).1
