-- What a well-sorted program has of expressions is well-sorted.
use Rattle.std.proofs.Common.{◌≡◌, Bool, true, false, cond, ◌&&◌, List, [], ◌∷◌, ◌++◌, Option, Some, None, refl}
use Rattle.std.proofs.lemmas.Bool.{and_parts}
use Rattle.c_values.specs.Types.{CType, address_width}
use Rattle.c_values.specs.Layout.{Shape, shape_of, is_object}
use Rattle.expression_lang.specs.Expression.{Exp, Path}
use Rattle.expression_lang.specs.Form.{path_has, is_part_of_value}
use Rattle.expression_lang.specs.Sort.{Scalar, Sort, Of, Scope, shape_along, is_truth, is_word_of}
use Rattle.expression_lang.specs.Sorted.{program_sort, scalar_in, with_scalar, scalars_of, sort_in, part_place, global_place, fits_place}
use Rattle.expression_lang.proofs.Inversion.{truth_inv, word_of_inv}
use Rattle.expression_lang.proofs.SortParts.{program_sort_inv}
use Rattle.ac_expr.specs.Heads.{path_children}
use Rattle.ac_expr.proofs.PartsSorted.{IsSorted, AreSorted, all_sorted_before, path_sorted}
use Rattle.monad_lang.specs.Program.{Place, Stored, Written, Global, Start}
use Rattle.monad_lang.specs.Sorted.{start_scalars, place_sort}
use Rattle.program_facts.specs.Places.{place_children}
use Rattle.rule_parts.specs.Starts.{start_exps}

module _ (g : Scope) where
  one_of : (e : Exp) (o : Option Sort) (r : Option Scalar) (ss : List Scalar) (rest : Option (List Scalar)) → program_sort g e ≡ o → with_scalar (scalar_in o) rest ≡ Some ss → IsSorted g e × ((ds : List Scalar) × (rest ≡ Some ds))
  one_of e (Some (Of c)) r ss (Some ds) h k = ((Of c, program_sort_inv g e (Of c) h), (ds, refl))
  one_of e _ r ss _ h k = absurd cc

  pub scalars_sorted : (es : List Exp) (ss : List Scalar) → scalars_of g es ≡ Some ss → AreSorted g es
  scalars_sorted [] ss h = tt
  scalars_sorted (e ∷ es) ss h = let k = one_of e (program_sort g e) None ss (scalars_of g es) refl h in (k.0, scalars_sorted es k.1.0 k.1.1)

  pub starts_are_sorted : (xs : List Start) (ss : List Scalar) → start_scalars g xs ≡ Some ss → AreSorted g (start_exps xs)
  starts_are_sorted [] ss h = tt
  starts_are_sorted (x ∷ xs) ss h = let k = one_of x.exp (program_sort g x.exp) None ss (start_scalars g xs) refl h in (k.0, starts_are_sorted xs k.1.0 k.1.1)

  pub truth_sorted : (e : Exp) → is_truth (program_sort g e) ≡ true → IsSorted g e
  truth_sorted e h = (_, program_sort_inv g e _ (truth_inv (program_sort g e) h))

  some_fits : (o q : Option Sort) → fits_place o q ≡ true → ((r : Sort) × (o ≡ Some r)) × ((r : Sort) × (q ≡ Some r))
  some_fits (Some r) (Some t) h = ((r, refl), (t, refl))
  some_fits _ _ h = absurd cc

  sort_in_inv : (o : Option Shape) (r : Sort) → sort_in o ≡ Some r → (q : Shape) × (o ≡ Some q)
  sort_in_inv (Some q) r h = (q, refl)
  sort_in_inv None r h = absurd cc

  part_inv : (b : Bool) (t : CType) (path : Path) (r : Sort) → cond b None (sort_in (shape_along g path (shape_of g.layout t))) ≡ Some r → AreSorted g (path_children path)
  part_inv true t path r h = absurd cc
  part_inv false t path r h = let k = sort_in_inv (shape_along g path (shape_of g.layout t)) r h in path_sorted g path (shape_of g.layout t) k.0 k.1

  root_inv : (b : Bool) (t : CType) (e : Exp) (path : Path) (r : Sort) → (is_object g.layout t && is_word_of (address_width g.layout.target) (program_sort g e)) ≡ b → cond b (part_place g t path) None ≡ Some r → AreSorted g (e ∷ path_children path)
  root_inv true t e path r i h = (
    (_, program_sort_inv g e _ (word_of_inv (address_width g.layout.target) (program_sort g e) (and_parts (is_object g.layout t) (is_word_of (address_width g.layout.target) (program_sort g e)) i).1)),
    part_inv (path_has is_part_of_value path) t path r h,
  )
  root_inv false t e path r i h = absurd cc

  global_inv : (b : Bool) (t : CType) (path : Path) (r : Sort) → cond b (part_place g t path) None ≡ Some r → AreSorted g (path_children path)
  global_inv true t path r h = part_inv (path_has is_part_of_value path) t path r h
  global_inv false t path r h = absurd cc

  of_global : (o : Option CType) (path : Path) (r : Sort) → global_place g o path ≡ Some r → AreSorted g (path_children path)
  of_global None path r h = absurd cc
  of_global (Some t) path r h = global_inv (is_object g.layout t) t path r h

  place_sorted : (q : Place) (r : Sort) → place_sort g q ≡ Some r → AreSorted g (place_children q)
  place_sorted (Stored t e path) r h = root_inv (is_object g.layout t && is_word_of (address_width g.layout.target) (program_sort g e)) t e path r refl h
  place_sorted (Written t e path) r h = root_inv (is_object g.layout t && is_word_of (address_width g.layout.target) (program_sort g e)) t e path r refl h
  place_sorted (Global x path) r h = of_global (g.globals x) path r h

  pub write_sorted : (q : Place) (e : Exp) → fits_place (place_sort g q) (program_sort g e) ≡ true → AreSorted g (place_children q ++ (e ∷ []))
  write_sorted q e h =
      let k = some_fits (place_sort g q) (program_sort g e) h in
      all_sorted_before g (place_children q) (e ∷ []) (place_sorted q k.0.0 k.0.1) ((k.1.0, program_sort_inv g e k.1.0 k.1.1), tt)
