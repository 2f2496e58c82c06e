-- What a well-sorted program's parts are in two environments that agree on the names in scope.
use Rattle.std.proofs.Common.{◌≡◌, true, ◌&&◌, List, [], ◌∷◌, Option, Some, None, refl, sym, ap, ap₂, ◌∙◌, subst}
use Rattle.std.specs.Option.{is_some}
use Rattle.std.proofs.lemmas.Bool.{and_parts, false≢true}
use Rattle.c_values.specs.Name.{Name, with_name}
use Rattle.c_values.specs.Types.{CType, address_width}
use Rattle.c_values.specs.Value.{Value, word_in, truth_in}
use Rattle.c_values.specs.Layout.{global_type, is_object, shape_of}
use Rattle.c_values.specs.Path.{Step, in_range, upd}
use Rattle.c_memory.specs.Heap.{is_tagged, write_heap}
use Rattle.expression_lang.specs.Expression.{Exp, Path}
use Rattle.expression_lang.specs.Evaluation.{Env, State, value, steps, holds}
use Rattle.expression_lang.specs.Form.{path_has, is_part_of_value}
use Rattle.expression_lang.specs.Sort.{Scalar, Sort, is_truth, is_word_of, shape_along}
use Rattle.expression_lang.specs.Sorted.{names_with, program_sort, scalar_in, scalars_of, fits_place, sort_in, part_place, typed_place, global_place}
use Rattle.expression_lang.specs.Signature.{values_of, bound}
use Rattle.expression_lang.specs.States.{state_with}
use Rattle.expression_lang.proofs.SortParts.{with_scalar_inv, scalar_in_inv, without_parts, sort_in_inv, fits_inv, only_where}
use Rattle.monad_lang.proofs.AgreeingValues.{steps_agree}
use Rattle.monad_lang.specs.Program as M
use Rattle.monad_lang.specs.Program.{Mon, Place, Start, final_fn}
use Rattle.monad_lang.specs.Run.{Answer, written, start_values}
use Rattle.monad_lang.specs.Steady.{TakesThem}
use Rattle.monad_lang.specs.Sorted.{start_scalars, place_sort}
use Rattle.triple_lang.specs.Deriv.{Ground, Names}
use Rattle.hoare_check.specs.DeriveTable.{scope}
use Rattle.hoare_check.specs.Accepted.{Begins, IsFine}
use Rattle.hoare_check.proofs.Naming.{bound_alike}
use Rattle.hoare_check.proofs.JoinedNames.{known_among}
use Rattle.rule_local.proofs.InScope.{path_in_scope}
use Rattle.hoare_check.proofs.KnownNames.{AgreeIn, known_value}
use Rattle.hoare_check.proofs.KnownPrograms.{whole_some}
use Rattle.hoare_check.proofs.Begun.{Ended, begins_there}
use Rattle.monad_lang.specs.Sorted.{IsWellFormed}

-- both are of the names' sorts, and agree on the names
pub record AreAlike (k : Ground) (ns : Names) (env env' : Env) (s : State) : Type 0 where
  pub left : Begins k ns [] env s
  pub right : Begins k ns [] env' s
  pub same : AgreeIn (scope k ns) env env'

pub turned : (k : Ground) (ns : Names) (env env' : Env) (s : State) → AreAlike k ns env env' s → AreAlike k ns env' env s
turned k ns env env' s h = record { left = h.right; right = h.left; same = λ y i. sym (h.same y i) }

-- behind a binder
pub alike_behind : (k : Ground) (formed : IsWellFormed k.unit) (ns : Names) (env env' : Env) (s : State) → AreAlike k ns env env' s → (xs : List Name)
    (cs : List Scalar) (a : Answer) → Ended k ns xs cs env s a → Ended k ns xs cs env' s a →
    AreAlike k (names_with xs cs ns) (bound xs a.values env) (bound xs a.values env') a.state
alike_behind k formed ns env env' s h xs cs a e e' = record {
  left = begins_there k formed ns xs cs env s a e [] tt;
  right = begins_there k formed ns xs cs env' s a e' [] tt;
  same = λ y i. sym (bound_alike y xs a.values env env' e.many (λ n. sym (h.same y (known_among y xs cs ns i n))));
}

module _ (k : Ground) (ns : Names) (env env' : Env) (s : State) (h : AreAlike k ns env env' s) where
  abbrev at : Exp → Value
  at e = value k.unit.layout env s e

  abbrev at' : Exp → Value
  at' e = value k.unit.layout env' s e

  sorted_some : (o : Option Sort) (r : Sort) → o ≡ Some r → is_some o ≡ true
  sorted_some o r i = ap is_some i

  program_same : (e : Exp) → is_some (program_sort (scope k ns) e) ≡ true → at e ≡ at' e
  program_same e i = known_value (scope k ns) env env' s h.same e (whole_some k ns e i)

  pub truth_same : (e : Exp) → is_truth (program_sort (scope k ns) e) ≡ true → holds k.unit.layout env s e ≡ holds k.unit.layout env' s e
  truth_same e i = ap truth_in (program_same e (truth_some (program_sort (scope k ns) e) i))
    where
      truth_some : (o : Option Sort) → is_truth o ≡ true → is_some o ≡ true
      truth_some (Some o) j = refl
      truth_some None j = absurd (false≢true j)

  scalar_same : (e : Exp) (c : Scalar) → scalar_in (program_sort (scope k ns) e) ≡ Some c → at e ≡ at' e
  scalar_same e c i = program_same e (sorted_some (program_sort (scope k ns) e) _ (scalar_in_inv (program_sort (scope k ns) e) c i))

  pub values_same : (es : List Exp) (cs : List Scalar) → scalars_of (scope k ns) es ≡ Some cs →
      values_of k.unit.layout env s es ≡ values_of k.unit.layout env' s es
  values_same [] cs i = refl
  values_same (e ∷ es) cs i =
      let p = with_scalar_inv (scalar_in (program_sort (scope k ns) e)) (scalars_of (scope k ns) es) cs i in
      ap₂ (λ v vs. v ∷ vs) (scalar_same e p.0 p.2) (values_same es p.1 p.3)

  pub starts_same : (xs : List Start) (cs : List Scalar) → start_scalars (scope k ns) xs ≡ Some cs →
      start_values k.unit.layout env s xs ≡ start_values k.unit.layout env' s xs
  starts_same [] cs i = refl
  starts_same (x ∷ xs) cs i =
      let p = with_scalar_inv (scalar_in (program_sort (scope k ns) x.exp)) (start_scalars (scope k ns) xs) cs i in
      ap₂ (λ v vs. v ∷ vs) (scalar_same x.exp p.0 p.2) (starts_same xs p.1 p.3)

  steps_same : (t : CType) (path : Path) (o : Sort) → part_place (scope k ns) t path ≡ Some o → steps k.unit.layout env s path ≡ steps k.unit.layout env' s path
  steps_same t path o i =
      let shape = shape_of k.unit.layout t in
      let q = sort_in_inv (shape_along (scope k ns) path shape) o
      (without_parts (path_has is_part_of_value path) (sort_in (shape_along (scope k ns) path shape)) o i) in
      steps_agree k.unit.layout env env' s path (λ y n. h.same y (path_in_scope (scope k ns) y path shape (ap is_some q.1) n))

  -- a typed place
  record PlaceSame (p : Exp) (path : Path) : Type 0 where
    address : at p ≡ at' p
    way : steps k.unit.layout env s path ≡ steps k.unit.layout env' s path

  typed_same : (t : CType) (p : Exp) (path : Path) (o : Sort) → typed_place (scope k ns) t p path ≡ Some o → PlaceSame p path
  typed_same t p path o i =
      let word = is_word_of (address_width k.unit.layout.target) (program_sort (scope k ns) p) in
      let w = only_where (is_object k.unit.layout t && word) (part_place (scope k ns) t path) o i in
      record {
        address = program_same p (word_some (program_sort (scope k ns) p)
            (and_parts (is_object k.unit.layout t) word w.0).1);
        way = steps_same t path o w.1;
      }
    where
      word_some : (q : Option Sort) → is_word_of (address_width k.unit.layout.target) q ≡ true → is_some q ≡ true
      word_some (Some q) l = refl
      word_some None l = absurd (false≢true l)

  global_steps : (c : Option CType) (path : Path) (o : Sort) → global_place (scope k ns) c path ≡ Some o →
      steps k.unit.layout env s path ≡ steps k.unit.layout env' s path
  global_steps None path o i = absurd cc
  global_steps (Some t) path o i = steps_same t path o (only_where (is_object k.unit.layout t) (part_place (scope k ns) t path) o i).1

  typed_written : (t : CType) (p : Exp) (path : Path) (v : Value) → PlaceSame p path →
      state_with (write_heap k.unit.layout s.heap t (word_in (at p)).bits (steps k.unit.layout env s path) v) s.globals
      ≡ state_with (write_heap k.unit.layout s.heap t (word_in (at' p)).bits (steps k.unit.layout env' s path) v) s.globals
  typed_written t p path v w = ap₂ (λ u ps. state_with (write_heap k.unit.layout s.heap t (word_in u).bits ps v) s.globals) w.address w.way

  written_there : (place : Place) (o : Sort) → place_sort (scope k ns) place ≡ Some o → (v : Value) →
      written k.unit.layout env s place v ≡ written k.unit.layout env' s place v
  written_there (M.Stored t p path) o i v = typed_written t p path v (typed_same t p path o i)
  written_there (M.Written t p path) o i v = typed_written t p path v (typed_same t p path o i)
  written_there (M.Global x path) o i v =
      ap (λ ps. written_at ps) (global_steps (global_type k.unit.globals x) path o i)
    where
      written_at : List Step → State
      written_at ps = state_with s.heap (with_name x (upd (s.globals x) ps v) s.globals)

  pub writes_same : (place : Place) (e : Exp) → fits_place (place_sort (scope k ns) place) (program_sort (scope k ns) e) ≡ true →
      written k.unit.layout env s place (at e) ≡ written k.unit.layout env' s place (at' e)
  writes_same place e i =
      let f = fits_inv (place_sort (scope k ns) place) (program_sort (scope k ns) e) i in
      written_there place f.0 f.1 (at e) ∙ ap (λ v. written k.unit.layout env' s place v) (program_same e (sorted_some (program_sort (scope k ns) e) f.0 f.2))

  -- what is asked of a write and of a call

  covered_same : (t : CType) (p : Exp) (path : Path) → PlaceSame p path →
      (is_tagged k.unit.layout s.heap t (word_in (at p)).bits ≡ true) × (in_range (shape_of k.unit.layout t) (steps k.unit.layout env s path) ≡ true) →
      (is_tagged k.unit.layout s.heap t (word_in (at' p)).bits ≡ true) × (in_range (shape_of k.unit.layout t) (steps k.unit.layout env' s path) ≡ true)
  covered_same t p path w c = (
    subst (λ u. is_tagged k.unit.layout s.heap t (word_in u).bits ≡ true) w.address c.0,
    subst
        (λ ps. in_range (shape_of k.unit.layout t) ps ≡ true) w.way c.1,
  )

  fine_at : (place : Place) (e : Exp) (o : Sort) → place_sort (scope k ns) place ≡ Some o → IsFine k.unit (M.Write place e) env s → IsFine k.unit
      (M.Write place e) env' s
  fine_at (M.Stored t p path) e o i f = f
  fine_at (M.Written t p path) e o i f = (covered_same t p path (typed_same t p path o i) f.0, tt)
  fine_at (M.Global x path) e o i f = f

  pub fine_write : (place : Place) (e : Exp) → fits_place (place_sort (scope k ns) place) (program_sort (scope k ns) e) ≡ true → IsFine k.unit
      (M.Write place e) env s → IsFine k.unit (M.Write place e) env' s
  fine_write place e i f = let w = fits_inv (place_sort (scope k ns) place) (program_sort (scope k ns) e) i in fine_at place e w.0 w.1 f

  pub fine_call : (g : Name) (es : List Exp) (cs : List Scalar) → scalars_of (scope k ns) es ≡ Some cs → IsFine k.unit (M.Call g es) env s → IsFine k.unit
      (M.Call g es) env' s
  fine_call g es cs i f = (tt, subst (λ vs. TakesThem (final_fn k.unit.functions g) vs) (values_same es cs i) f.1)
