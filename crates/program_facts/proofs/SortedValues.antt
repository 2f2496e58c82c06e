-- The values of well-sorted expressions are of their sorts, names that are bound to such values have them, and a well-sorted write
-- leaves a state that can be.
use Rattle.std.proofs.Common.{◌≡◌, Bool, true, false, cond, ◌&&◌, List, [], ◌∷◌, Option, Some, None, refl, sym, ap, ◌∙◌, subst}
use Rattle.std.proofs.lemmas.Bool.{and_parts, cond_both}
use Rattle.c_values.specs.Name.{Name, same_name, with_name}
use Rattle.c_values.specs.Types.{CType, address_width}
use Rattle.c_values.specs.Value.{Value, word_in}
use Rattle.c_values.specs.Layout.{IsLayout, GlobalVar, Shape, shape_of, is_object, global_type}
use Rattle.c_values.specs.Path.{Spot, spot, HasShape, upd}
use Rattle.c_values.proofs.Laid.{name_is}
use Rattle.c_values.proofs.Options.{some_is}
use Rattle.expression_lang.specs.Expression.{Exp, Path}
use Rattle.expression_lang.specs.Sort.{Scalar, Sort, Of, Scope, sort_of, sort_at, shape_along, is_word_of}
use Rattle.expression_lang.specs.Sorted.{names_with, scope_with, program_sort, scalar_in, scalars_of, sort_in, part_place, typed_place, global_place, fits_place}
use Rattle.expression_lang.specs.Form.{path_has, is_part_of_value}
use Rattle.expression_lang.specs.Signature.{values_of, bound}
use Rattle.expression_lang.specs.Evaluation.{Env, State, value, steps}
use Rattle.expression_lang.specs.States.{IsOfSort, IsEnvironment, IsState}
use Rattle.expression_lang.proofs.Good.{Good, good_object, good_spot, upd_put}
use Rattle.expression_lang.proofs.Fine.{HasSort, fine, fine_path}
use Rattle.expression_lang.proofs.SortParts.{with_scalar_inv, scalar_in_inv, without_parts, program_sort_inv, fits_inv, only_where, sort_in_inv, value_shaped}
use Rattle.monad_lang.specs.Program.{Place, Stored, Written, Global, Start}
use Rattle.monad_lang.specs.Run.{start_values, written}
use Rattle.monad_lang.specs.Sorted.{start_scalars, place_sort}
use Rattle.program_facts.specs.Lasting.{AreOfSorts}
use Rattle.program_facts.proofs.HeapWritten.{heap_written}

-- names that are bound to values of scalars

name_with : (b : Bool) (c d : Scalar) (o : Option Scalar) (v w : Value) → IsOfSort c v → (o ≡ Some d → IsOfSort d w) → cond b (Some c) o ≡ Some d → IsOfSort d (cond b v w)
name_with true c d o v w h k e = subst (λ s. IsOfSort s v) (some_is e) h
name_with false c d o v w h k e = k e

pub names_bound : (xs : List Name) (cs : List Scalar) (vs : List Value) (names : Name → Option Scalar) (env : Env) → AreOfSorts cs vs → ((y : Name) (c : Scalar) → names y ≡ Some c → IsOfSort c (env y)) →
    (y : Name) (c : Scalar) → names_with xs cs names y ≡ Some c → IsOfSort c (bound xs vs env y)
names_bound [] cs vs names env h k y c e = k y c e
names_bound (x ∷ xs) [] [] names env h k y c e = k y c e
names_bound (x ∷ xs) (d ∷ cs) (v ∷ vs) names env h k y c e =
    names_bound xs cs vs (with_name x (Some d) names) (with_name x v env) h.1 (λ z b i. name_with (same_name x z) d b (names z) v (env z) h.0 (k z b) i) y c e
names_bound (x ∷ xs) [] (v ∷ vs) names env h k y c e = absurd h
names_bound (x ∷ xs) (d ∷ cs) [] names env h k y c e = absurd h

pub bound_sorted : (g : Scope) (xs : List Name) (cs : List Scalar) (vs : List Value) (env : Env) → AreOfSorts cs vs → IsEnvironment g env → IsEnvironment (scope_with xs cs g) (bound xs vs env)
bound_sorted g xs cs vs env h k = names_bound xs cs vs g.names env h k

-- lists of scalars

module _ (g : Scope) (h : IsLayout g.layout) (vs : List GlobalVar) (known : g.globals ≡ global_type vs) (env : Env) (names : IsEnvironment g env) (s : State) (state : IsState g.layout vs s) where
  globals_there : (x : Name) (t : CType) → g.globals x ≡ Some t → HasShape (shape_of g.layout t) (s.globals x)
  globals_there x t e = state.globals x t (subst (λ f. f x ≡ Some t) known e)

  pub value_sorted : (e : Exp) (o : Sort) → sort_of g e ≡ Some o → HasSort g.layout o (value g.layout env s e)
  value_sorted e o k = (fine g h env s names globals_there state.heap e o k).sort

  scalar_sorted : (e : Exp) (c : Scalar) → scalar_in (program_sort g e) ≡ Some c → IsOfSort c (value g.layout env s e)
  scalar_sorted e c k = value_sorted e (Of c) (program_sort_inv g e (Of c) (scalar_in_inv (program_sort g e) c k))

  pub values_sorted : (es : List Exp) (cs : List Scalar) → scalars_of g es ≡ Some cs → AreOfSorts cs (values_of g.layout env s es)
  values_sorted [] cs k = subst (λ ds. AreOfSorts ds []) (some_is k) tt
  values_sorted (e ∷ es) cs k =
      let p = with_scalar_inv (scalar_in (program_sort g e)) (scalars_of g es) cs k in
      subst (λ ds. AreOfSorts ds (values_of g.layout env s (e ∷ es))) p.4 (scalar_sorted e p.0 p.2, values_sorted es p.1 p.3)

  pub starts_sorted : (xs : List Start) (cs : List Scalar) → start_scalars g xs ≡ Some cs → AreOfSorts cs (start_values g.layout env s xs)
  starts_sorted [] cs k = subst (λ ds. AreOfSorts ds []) (some_is k) tt
  starts_sorted (x ∷ xs) cs k =
      let p = with_scalar_inv (scalar_in (program_sort g x.exp)) (start_scalars g xs) cs k in
      subst (λ ds. AreOfSorts ds (start_values g.layout env s (x ∷ xs))) p.4 (scalar_sorted x.exp p.0 p.2, starts_sorted xs p.1 p.3)

  -- writes

  part_sorted : (t : CType) (path : Path) (o : Sort) → part_place g t path ≡ Some o → (q : Shape) × (shape_along g path (shape_of g.layout t) ≡ Some q) × (sort_at q ≡ Some o)
  part_sorted t path o k = sort_in_inv (shape_along g path (shape_of g.layout t)) o (without_parts (path_has is_part_of_value path) (sort_in (shape_along g path (shape_of g.layout t))) o k)

  typed_written : (t : CType) (p : Exp) (path : Path) (o : Sort) (v : Value) → typed_place g t p path ≡ Some o → HasSort g.layout o v → IsState g.layout vs (written g.layout env s (Stored t p path) v)
  typed_written t p path o v k x =
      let w = only_where (is_object g.layout t && is_word_of (address_width g.layout.target) (program_sort g p)) (part_place g t path) o k in
      let object = (and_parts (is_object g.layout t) (is_word_of (address_width g.layout.target) (program_sort g p)) w.0).0 in
      let q = part_sorted t path o w.1 in
      let f = fine_path g h env s names globals_there state.heap path (shape_of g.layout t) q.0 q.1 in
      let good = good_spot g.layout (shape_of g.layout t) (steps g.layout env s path) f.end (good_object g.layout t h object) f.leads in
      let shaped = value_shaped g.layout q.0 o v (subst (λ r. Good g.layout r) f.shape good) q.2 x in
      record {
        heap = heap_written g.layout h t object (word_in (value g.layout env s p)).bits (steps g.layout env s path) f.end f.leads v (subst (λ r. HasShape r v) (sym f.shape) shaped) s.heap state.heap;
        globals = state.globals;
      }

  -- what is written is of the shape of the part that it is written to
  part_shaped : (t : CType) (p : Exp) (path : Path) (o : Sort) (v : Value) → typed_place g t p path ≡ Some o → HasSort g.layout o v → (r : Spot) → spot (shape_of g.layout t) (steps g.layout env s path) ≡ Some r → HasShape r.shape v
  part_shaped t p path o v k x r e =
      let w = only_where (is_object g.layout t && is_word_of (address_width g.layout.target) (program_sort g p)) (part_place g t path) o k in
      let object = (and_parts (is_object g.layout t) (is_word_of (address_width g.layout.target) (program_sort g p)) w.0).0 in
      let q = part_sorted t path o w.1 in
      let f = fine_path g h env s names globals_there state.heap path (shape_of g.layout t) q.0 q.1 in
      let good = good_spot g.layout (shape_of g.layout t) (steps g.layout env s path) f.end (good_object g.layout t h object) f.leads in
      let shaped = value_shaped g.layout q.0 o v (subst (λ r. Good g.layout r) f.shape good) q.2 x in
      let same : f.end ≡ r = some_is (sym f.leads ∙ e) in
      subst (λ r. HasShape r.shape v) same (subst (λ r. HasShape r v) (sym f.shape) shaped)

  pub written_shaped : (t : CType) (p : Exp) (path : Path) (e : Exp) → fits_place (typed_place g t p path) (program_sort g e) ≡ true → (r : Spot) → spot (shape_of g.layout t) (steps g.layout env s path) ≡ Some r →
      HasShape r.shape (value g.layout env s e)
  written_shaped t p path e k r leads =
      let f = fits_inv (typed_place g t p path) (program_sort g e) k in
      part_shaped t p path f.0 (value g.layout env s e) f.1 (value_sorted e f.0 (program_sort_inv g e f.0 f.2)) r leads

  global_written : (x : Name) (path : Path) (o : Sort) (v : Value) (c : Option CType) → g.globals x ≡ c → global_place g c path ≡ Some o → HasSort g.layout o v → IsState g.layout vs (written g.layout env s (Global x path) v)
  global_written x path o v None e k y = absurd cc
  global_written x path o v (Some t) e k y =
      let w = only_where (is_object g.layout t) (part_place g t path) o k in
      let q = part_sorted t path o w.1 in
      let f = fine_path g h env s names globals_there state.heap path (shape_of g.layout t) q.0 q.1 in
      let good = good_spot g.layout (shape_of g.layout t) (steps g.layout env s path) f.end (good_object g.layout t h w.0) f.leads in
      let shaped = value_shaped g.layout q.0 o v (subst (λ r. Good g.layout r) f.shape good) q.2 y in
      let new = upd_put (steps g.layout env s path) v (shape_of g.layout t) (s.globals x) f.end (globals_there x t e) f.leads (subst (λ r. HasShape r v) (sym f.shape) shaped) in
      record {
        heap = state.heap;
        globals = λ z u i.
            cond_both (same_name x z) (upd (s.globals x) (steps g.layout env s path) v) (s.globals z) (λ w. HasShape (shape_of g.layout u) w)
            (λ n. let same : t ≡ u = some_is (sym (ap (λ f. f x) (sym known) ∙ e) ∙ ap (global_type vs) (name_is x z n) ∙ i) in subst (λ r. HasShape (shape_of g.layout r) (upd (s.globals x) (steps g.layout env s path) v)) same new)
            (λ n. state.globals z u i);
      }

  pub place_written : (place : Place) (e : Exp) → fits_place (place_sort g place) (program_sort g e) ≡ true → IsState g.layout vs (written g.layout env s place (value g.layout env s e))
  place_written place e k =
      let f = fits_inv (place_sort g place) (program_sort g e) k in
      by_place place f.0 (value g.layout env s e) f.1 (value_sorted e f.0 (program_sort_inv g e f.0 f.2))
    where
      by_place : (place : Place) (o : Sort) (v : Value) → place_sort g place ≡ Some o → HasSort g.layout o v → IsState g.layout vs (written g.layout env s place v)
      by_place (Stored t p path) o v k x = typed_written t p path o v k x
      by_place (Written t p path) o v k x = typed_written t p path o v k x
      by_place (Global x path) o v k y = global_written x path o v (g.globals x) refl k y
