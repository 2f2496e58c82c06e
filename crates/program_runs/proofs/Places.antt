-- Writes: what a place and the expression are, and that the part takes a value of its shape.
use Rattle.std.proofs.Common.{◌≡◌, ◌<◌, ◌&&◌, Bool, true, false, cond, Option, Some, None, refl}
use Rattle.std.proofs.lemmas.Bool.{and_parts, false≢true, and_from}
use Rattle.std.specs.Prelude.{IsSome}
use Rattle.c_values.specs.Name.{Name}
use Rattle.c_values.specs.Types.{Target, Ilp32, Lp64, CType, address_width}
use Rattle.c_values.specs.Layout.{Layout, IsLayout, Shape, shape_of, space, is_object, global_type}
use Rattle.c_values.specs.Path.{Spot, spot, HasShape, upd}
use Rattle.c_values.specs.Value.{Value, word_in}
use Rattle.c_memory.proofs.Indexed.{is_some_of}
use Rattle.expression_lang.specs.Expression.{Exp, WordLit, Path}
use Rattle.expression_lang.specs.Form.{has, path_has, is_part_of_value}
use Rattle.expression_lang.specs.Sort.{Sort, Of, WordSort, Scope, sort_of, shape_along, is_word_of}
use Rattle.expression_lang.specs.Sorted.{program_sort, sort_in, part_place, typed_place, global_place, fits_place}
use Rattle.expression_lang.specs.Evaluation.{Env, State, value, steps}
use Rattle.expression_lang.specs.States.{IsState}
use Rattle.expression_lang.specs.CodeState.{Bindings, env_of, AreScalars}
use Rattle.expression_lang.proofs.Good.{upd_put}
use Rattle.expression_lang.proofs.Inversion.{word_of_inv}
use Rattle.expression_lang.proofs.Fine.{fine_path}
use Rattle.expression_lang.proofs.SortParts.{program_sort_inv}
use Rattle.monad_lang.specs.Program.{Place, Stored, Global, Write, FinalUnit}
use Rattle.monad_lang.specs.Run.{written}
use Rattle.monad_lang.specs.Sorted.{place_sort}
use Rattle.monad_lang.proofs.Given.{fits_parts}
use Rattle.program_facts.proofs.SortedValues.{value_sorted, written_shaped, place_written}
use Rattle.global_changes.proofs.Indexed.{bits_below}
use Rattle.program_runs.specs.Machine.{setting_at, CanRun}
use Rattle.program_runs.proofs.Bindings.{environment}

both_fit : (o p : Option Sort) → fits_place o p ≡ true → IsSome o × IsSome p
both_fit (Some s) (Some t) h = (refl, refl)
both_fit None (Some t) h = absurd (false≢true h)
both_fit _ _ h = absurd (false≢true h)

where_fits : (b : Bool) (o p : Option Sort) → fits_place (cond b o None) p ≡ true → (b ≡ true) × (fits_place o p ≡ true)
where_fits true o p h = (refl, h)
where_fits false o p h = let q = both_fit None p h in absurd (false≢true q.0)

fits_where : (b : Bool) (o p : Option Sort) → b ≡ true → fits_place o p ≡ true → fits_place (cond b o None) p ≡ true
fits_where true o p e h = h
fits_where false o p e h = absurd (false≢true e)

shape_there : (b : Bool) (o : Option Shape) → IsSome (cond b None (sort_in o)) → (q : Shape) × (o ≡ Some q)
shape_there false (Some q) h = (q, refl)
shape_there _ _ h = absurd (false≢true h)

sort_there : (b : Bool) (o : Option Sort) → IsSome (cond b None o) → IsSome o
sort_there true o h = absurd (false≢true h)
sort_there false o h = h

-- what a part takes doesn't depend on where the object stands
abbrev null : Target → Exp
null t = WordLit (record { width = address_width t; bits = 0 })

null_sorted : (g : Scope) (t : Target) → is_word_of (address_width t) (program_sort g (null t)) ≡ true
null_sorted g Ilp32 = refl
null_sorted g Lp64 = refl

module _ (u : FinalUnit) (layout : IsLayout u.layout) (bs : Bindings) (all : AreScalars bs) (s : State) (state : IsState u.layout u.globals s) where
  abbrev l : Layout
  l = u.layout

  abbrev env : Env
  env = env_of bs

  abbrev g : Scope
  g = (setting_at u bs).scope

  pub record IsPart (t : CType) (path : Path) (e : Exp) : Type 0 where
    pub leads : (r : Shape) × (q : Shape) × (shape_along g path r ≡ Some q)
    pub sorted : IsSome (sort_of g e)
    pub end : Spot
    pub at : spot (shape_of l t) (steps l env s path) ≡ Some end
    pub shaped : HasShape end.shape (value l env s e)

  part_of : (t : CType) (path : Path) (e : Exp) → is_object l t ≡ true → fits_place (part_place g t path) (program_sort g e) ≡ true → IsPart t path e
  part_of t path e object fits =
      let b = both_fit (part_place g t path) (program_sort g e) fits in
      let q = shape_there (path_has is_part_of_value path) (shape_along g path (shape_of l t)) b.0 in
      let f = fine_path g layout env s (environment u bs all) state.globals state.heap path (shape_of l t) q.0 q.1 in
      let at_null : fits_place (typed_place g t (null l.target) path) (program_sort g e) ≡ true =
      fits_where (is_object l t && is_word_of (address_width l.target) (program_sort g (null l.target))) (part_place g t path) (program_sort g e)
      (and_from (is_object l t) (is_word_of (address_width l.target) (program_sort g (null l.target))) object (null_sorted g l.target)) fits in
      record {
        leads = (shape_of l t, q.0, q.1);
        sorted = sort_there (has is_part_of_value e) (sort_of g e) b.1;
        end = f.end;
        at = f.leads;
        shaped = written_shaped g layout u.globals refl env (environment u bs all) s state t (null l.target) path e at_null f.end f.leads;
      }

  pub record IsStored (t : CType) (p : Exp) (path : Path) (e : Exp) : Type 0 where
    pub object : is_object l t ≡ true
    pub pointer : IsSome (sort_of g p)
    pub address : (word_in (value l env s p)).bits < space l
    pub part : IsPart t path e

  fits_there : (place : Place) (e : Exp) → CanRun u bs (Write place e) → fits_place (place_sort g place) (program_sort g e) ≡ true
  fits_there place e h = (fits_parts (fits_place (place_sort g place) (program_sort g e)) _ h.scalars h.gives).0

  pub stored : (t : CType) (p : Exp) (path : Path) (e : Exp) → CanRun u bs (Write (Stored t p path) e) → IsStored t p path e
  stored t p path e h =
      let w = where_fits (is_object l t && is_word_of (address_width l.target) (program_sort g p)) (part_place g t path) (program_sort g e) (fits_there (Stored t p path) e h) in
      let b = and_parts (is_object l t) (is_word_of (address_width l.target) (program_sort g p)) w.0 in
      let word = program_sort_inv g p _ (word_of_inv (address_width l.target) (program_sort g p) b.1) in
      record {
        object = b.0;
        pointer = is_some_of (sort_of g p) _ word;
        address = bits_below (address_width l.target) (value l env s p) (value_sorted g layout u.globals refl env (environment u bs all) s state p (Of (WordSort (address_width l.target))) word);
        part = part_of t path e b.0 w.1;
      }

  global_there : (o : Option CType) (path : Path) (p : Option Sort) → fits_place (global_place g o path) p ≡ true →
      (t : CType) × (o ≡ Some t) × (is_object l t ≡ true) × (fits_place (part_place g t path) p ≡ true)
  global_there (Some t) path p h = let w = where_fits (is_object l t) (part_place g t path) p h in (t, refl, w.0, w.1)
  global_there None path p h = let q = both_fit None p h in absurd (false≢true q.0)

  pub global_part : (x : Name) (path : Path) (e : Exp) → CanRun u bs (Write (Global x path) e) → (t : CType) × (global_type u.globals x ≡ Some t) × IsPart t path e
  global_part x path e h =
      let p = global_there (global_type u.globals x) path (program_sort g e) (fits_there (Global x path) e h) in
      (p.0, p.1, part_of p.0 path e p.2 p.3)

  pub part_put : (t : CType) (path : Path) (e : Exp) → IsPart t path e → (v : Value) → HasShape (shape_of l t) v → HasShape (shape_of l t) (upd v (steps l env s path) (value l env s e))
  part_put t path e p v h = upd_put (steps l env s path) (value l env s e) (shape_of l t) v p.end h p.at p.shaped

  pub state_written : (place : Place) (e : Exp) → CanRun u bs (Write place e) → IsState u.layout u.globals (written l env s place (value l env s e))
  state_written place e h = place_written g layout u.globals refl env (environment u bs all) s state place e (fits_there place e h)
