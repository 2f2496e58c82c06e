-- What commands that give values ask of their parts: locals, globals and places in memory.
use Rattle.std.proofs.Common.{◌≡◌, true, cond, ◌&&◌, Option, Some, None, refl, sym, ap}
use Rattle.std.proofs.lemmas.Bool.{and_parts, false≢true}
use Rattle.c_values.specs.Name.{Name}
use Rattle.c_values.specs.Types.{CType, address_width}
use Rattle.c_values.specs.Layout.{Shape, is_object, shape_of}
use Rattle.expression_lang.specs.Expression.{Exp, Path}
use Rattle.expression_lang.specs.Form.{path_has, is_part_of_value}
use Rattle.expression_lang.specs.Sort.{Scalar, Sort, Of, WordSort, Scope, shape_along, sort_at, is_word_of}
use Rattle.expression_lang.specs.Sorted.{program_sort, sort_in, part_place, typed_place, global_place}
use Rattle.expression_lang.proofs.Inversion.{word_of_inv}
use Rattle.expression_lang.proofs.SameScalars.{same_scalar_is}
use Rattle.expression_lang.proofs.SortParts.{fits_inv, sort_in_inv, only_where, without_parts, program_sort_inv}
use Rattle.program_sorts.specs.Sorts.{is_scalar_of}
use Rattle.simpl_lang.specs.Command.{Set, SetGlobal, Store, Pick}
use Rattle.simpl_lang.specs.Sorted.{is_local}
use Rattle.command_runs.specs.declared.frame.Frame as R
use Rattle.command_runs.specs.CodeRun.{scope_for, HasSortIn, LeadsIn, CanRunIn}

pub scalar_of_inv : (o : Option Scalar) (p : Option Sort) → is_scalar_of o p ≡ true → (c : Scalar) × (o ≡ Some c) × (p ≡ Some (Of c))
scalar_of_inv (Some c) (Some (Of d)) h = (c, refl, ap (λ e. Some (Of e)) (sym (same_scalar_is c d h)))
scalar_of_inv _ _ h = absurd (false≢true h)

local_inv : (o : Option Scalar) → is_local o ≡ true → (c : Scalar) × (o ≡ Some c)
local_inv (Some c) h = (c, refl)
local_inv None h = absurd (false≢true h)

-- a part of an object that takes a value
pub record IsPlace (f : R.Frame) (t : CType) (path : Path) (e : Exp) : Type 0 where
  pub object : is_object f.unit.now.layout t ≡ true
  pub shape : Shape
  pub sort : Sort
  pub leads : LeadsIn f path (shape_of f.unit.now.layout t) shape
  pub at : sort_at shape ≡ Some sort
  pub value : HasSortIn f e sort

module _ (f : R.Frame) where
  abbrev g : Scope
  g = scope_for f

  pub set_parts : (x : Name) (e : Exp) → CanRunIn f (Set x e) → (c : Scalar) × (g.names x ≡ Some c) × HasSortIn f e (Of c)
  set_parts x e h =
      let p = scalar_of_inv (g.names x) (program_sort g e) h.sorted in
      (p.0, p.1, record { sorted = program_sort_inv g e (Of p.0) p.2; narrow = h.narrow })

  pub pick_scalar : (x : Name) → CanRunIn f (Pick x) → (c : Scalar) × (g.names x ≡ Some c)
  pick_scalar x h = local_inv (g.names x) h.sorted

  global_there : (o : Option CType) (path : Path) (r : Sort) → global_place g o path ≡ Some r → (t : CType) × (o ≡ Some t) × (cond (is_object g.layout t) (part_place g t path) None ≡ Some r)
  global_there (Some t) path r h = (t, refl, h)
  global_there None path r h = absurd cc

  pub global_parts : (x : Name) (path : Path) (e : Exp) → CanRunIn f (SetGlobal x path e) → (t : CType) × (g.globals x ≡ Some t) × IsPlace f t path e
  global_parts x path e h =
      let p = fits_inv (global_place g (g.globals x) path) (program_sort g e) h.sorted in
      let t = global_there (g.globals x) path p.0 p.1 in
      let w = only_where (is_object g.layout t.0) (part_place g t.0 path) p.0 t.2 in
      let s = sort_in_inv (shape_along g path (shape_of g.layout t.0)) p.0 (without_parts (path_has is_part_of_value path) (sort_in (shape_along g path (shape_of g.layout t.0))) p.0 w.1) in (
        t.0,
        t.1,
        record {
          object = w.0;
          shape = s.0;
          sort = p.0;
          leads = record { along = s.1; narrow = h.narrow.0 };
          at = s.2;
          value = record { sorted = program_sort_inv g e p.0 p.2; narrow = h.narrow.1 };
        },
      )

  pub store_parts : (t : CType) (a : Exp) (path : Path) (e : Exp) → CanRunIn f (Store t a path e) → HasSortIn f a (Of (WordSort (address_width f.unit.now.layout.target))) × IsPlace f t path e
  store_parts t a path e h =
      let p = fits_inv (typed_place g t a path) (program_sort g e) h.sorted in
      let w = only_where (is_object g.layout t && is_word_of (address_width g.layout.target) (program_sort g a)) (part_place g t path) p.0 p.1 in
      let b = and_parts (is_object g.layout t) (is_word_of (address_width g.layout.target) (program_sort g a)) w.0 in
      let s = sort_in_inv (shape_along g path (shape_of g.layout t)) p.0 (without_parts (path_has is_part_of_value path) (sort_in (shape_along g path (shape_of g.layout t))) p.0 w.1) in (
        record { sorted = program_sort_inv g a _ (word_of_inv (address_width g.layout.target) (program_sort g a) b.1); narrow = h.narrow.0 },
        record {
          object = b.0;
          shape = s.0;
          sort = p.0;
          leads = record { along = s.1; narrow = h.narrow.1 };
          at = s.2;
          value = record { sorted = program_sort_inv g e p.0 p.2; narrow = h.narrow.2 };
        },
      )
