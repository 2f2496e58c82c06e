-- What an assertion says of a read before a write has before it the value that the read has after it.
use Rattle.std.proofs.Common.{◌≡◌, ◌≢◌, ℕ, Bool, true, false, ◌&&◌, List, Some, refl, sym, ap, ap₂, ◌∙◌}
use Rattle.std.proofs.lemmas.Bool.{true≢false}
use Rattle.std.specs.Prelude.{if◌then◌else◌}
use Rattle.c_values.specs.Name.{Name}
use Rattle.c_values.specs.Types.{CType, same_type, address_width}
use Rattle.c_values.specs.Value.{Value, Bits, word_in, same_value}
use Rattle.c_values.specs.Layout.{Layout, IsLayout, Shape, Scalar, type_of, shape_of}
use Rattle.c_values.specs.Path.{Step, Spot, spot, in_range, sel, IsBits}
use Rattle.c_values.specs.CodeSameType.{type_is, same_type-refl}
use Rattle.c_values.specs.CodeSameValue.{same_value-Decides}
use Rattle.c_values.proofs.Geometry.{AreSplit}
use Rattle.c_values.proofs.Options.{some_is}
use Rattle.c_memory.specs.Memory.{Tag}
use Rattle.c_memory.specs.Tags.{IsTag, AreTags, path_from, is_covered}
use Rattle.c_memory.specs.TypedHeap.{TypedHeap, tags_of, read_cells, write_cells}
use Rattle.c_memory.specs.Heap.{OnTypes, CellsFit}
use Rattle.expression_lang.specs.Expression.{Exp, At, Read, Path, Here}
use Rattle.expression_lang.specs.Evaluation.{Env, State, value, steps, moved_to, if_truth}
use Rattle.expression_lang.specs.Sort.{Scope, shape_along}
use Rattle.expression_lang.specs.States.{state_with}
use Rattle.assertion_walks.specs.Written as W
use Rattle.assertion_walks.specs.Written.{AreRelated, InMember, HasIndexes, scalar_type, scalar_at, Place, read_at, replaced, of_same_root, of_same_scalar, ReadBefore, same, unrelated, related}
use Rattle.hoare_check.proofs.PartValues.{part_value, replaced_value}
use Rattle.hoare_check.proofs.PlacesApart.{unrelated_split, roots_split}
use Rattle.hoare_check.proofs.ReadsWritten.{uncovered_kept, same_root_read, split_root_kept}
use Rattle.hoare_check.proofs.ScalarPlaces.{bits_same, indexes_in_range, scalar_is, scalar_shape, scalar_has_root}
use Rattle.hoare_check.proofs.ScalarsWritten.{place, place', same_scalar_read, other_scalar_kept}

-- a write of the expression at a place of a covered root, in range
module _ (g : Scope) (h : IsLayout g.layout) (env : Env) (cells : TypedHeap) (globals : Name → Value) (tags : AreTags g.layout (tags_of cells))
    (fit : CellsFit g.layout cells) (t : CType) (p : Exp) (path : Path) (e : Exp) where
  abbrev l : Layout
  l = g.layout

  abbrev before : State
  before = state_with (OnTypes cells) globals

  abbrev at : Exp → Value
  at x = value l env before x

  abbrev bits : Exp → ℕ
  bits x = (word_in (at x)).bits

  abbrev along : Path → List Step
  along way = steps l env before way

  abbrev pub cells_after : TypedHeap
  cells_after = write_cells l cells t (bits p) (along path) (at e)

  abbrev pub written_place : Place
  written_place = record { type = t; address = p; path = path }

  abbrev pub IsAddress : Exp → Type 0
  IsAddress x = IsBits (address_width l.target) (at x)

  -- an address as a value
  abbrev address_value : ℕ → Value
  address_value n = Bits (record { width = address_width l.target; bits = n })

  module _ (q : Spot) (range : in_range (shape_of l t) (along path) ≡ true) (at_end : spot (shape_of l t) (along path) ≡ Some q) (word : IsAddress p)
      (covered : is_covered l (tags_of cells) t (bits p) ≡ true)
      (ends : (way : Path) (r s : Shape) → shape_along g way r ≡ Some s → (f : Spot) × (spot r (along way) ≡ Some f) × (f.shape ≡ s))
      (u : CType) (p' : Exp) (way : Path) (word' : IsAddress p') where
    abbrev pub read_place : Place
    read_place = record { type = u; address = p'; path = way }

    abbrev pub read_after : Value
    read_after = read_cells l cells_after u (bits p') (along way)

    abbrev IsSplit : Type 0
    IsSplit = (c : Tag) (root root' : List Step) → IsTag l c → path_from l c t (bits p) ≡ Some root → path_from l c u (bits p') ≡ Some root' →
        AreSplit root root'

    kept : IsSplit → at (read_at read_place) ≡ read_after
    kept split = by_cover (is_covered l (tags_of cells) u (bits p')) refl
      where
        by_cover : (b : Bool) → is_covered l (tags_of cells) u (bits p') ≡ b → at (read_at read_place) ≡ read_after
        by_cover true k = sym (split_root_kept l h t (bits p) (along path) (at e) cells u (bits p') (along way) q range at_end tags fit covered k split)
        by_cover false k = sym (uncovered_kept l h t (bits p) (along path) (at e) cells u (bits p') (along way) k)

    of_one_type : u ≡ t → at (of_same_root written_place e read_place) ≡ read_after
    of_one_type one = by_address (same_value (at p') (at p)) refl
      where
        -- two addresses that aren't the same value have other bits
        differ : same_value (at p') (at p) ≡ false → bits p ≢ bits p'
        differ k n = true≢false (sym ((same_value-Decides (at p') (at p)).1 (bits_same (address_width l.target) (at p') (at p) word' word (sym n))) ∙ k)

        by_address : (b : Bool) → same_value (at p') (at p) ≡ b →
            if_truth b (at (W.part_of (replaced (Read t p Here) path e) way)) (at (read_at read_place)) ≡ read_after
        by_address true k =
            part_value l env before (replaced (Read t p Here) path e) way ∙ ap (λ v. sel v (along way)) (replaced_value l env before (Read t p Here) path e)
            ∙ sym (same_root_read l h t (bits p) (along path) (at e) cells (along way) tags fit covered)
            ∙ ap₂ (λ v b. read_cells l cells_after v b (along way)) (sym one) (ap (λ v. (word_in v).bits) (sym ((same_value-Decides (at p') (at p)).0 k)))
        by_address false k =
            kept (λ c root root' i f f'. roots_split l h t (bits p) (bits p') c root root' i f (ap (λ v. path_from l c v (bits p')) (sym one) ∙ f') (differ k))

    -- both are scalars
    module _ (t' u' : CType) (m n : ℕ) (r : Spot) (is : q.shape ≡ Scalar t' m) (range' : in_range (shape_of l u) (along way) ≡ true)
        (at_end' : spot (shape_of l u) (along way) ≡ Some r) (is' : r.shape ≡ Scalar u' n) where
      abbrev there : ℕ
      there = place l h t u (bits p) (bits p') (along path) (along way) q r range at_end range' at_end'

      abbrev there' : ℕ
      there' = place' l h t u (bits p) (bits p') (along path) (along way) q r range at_end range' at_end'

      first_address : at (At t p path) ≡ address_value there
      first_address = ap (λ o. moved_to l (word_in (at p)) o) at_end

      second_address : at (At u p' way) ≡ address_value there'
      second_address = ap (λ o. moved_to l (word_in (at p')) o) at_end'

      other : is_covered l (tags_of cells) u (bits p') ≡ true → (there ≡ there' → q.shape ≡ r.shape → ⊥) → at (read_at read_place) ≡ read_after
      other k differ =
          sym (other_scalar_kept l h t u (bits p) (bits p') (along path) (along way) q r range at_end range' at_end' (at e) t' u' m n is is' differ
          cells tags fit covered k)

      of_one_scalar : is_covered l (tags_of cells) u (bits p') ≡ true → u' ≡ t' → at (of_same_scalar written_place e read_place) ≡ read_after
      of_one_scalar k one =
          ap (λ b. if_truth (b && same_value (at (At u p' way)) (at (At t p path))) (at e) (at (read_at read_place))) k
          ∙ by_address (same_value (at (At u p' way)) (at (At t p path))) refl
        where
          shapes : q.shape ≡ r.shape
          shapes =
              sym (scalar_shape l h (tags_of cells) tags t (bits p) covered (along path) q range at_end t' m is) ∙ ap (λ v. shape_of l v) (sym one)
              ∙ scalar_shape l h (tags_of cells) tags u (bits p') k (along way) r range' at_end' u' n is'

          by_address : (b : Bool) → same_value (at (At u p' way)) (at (At t p path)) ≡ b → if_truth b (at e) (at (read_at read_place)) ≡ read_after
          by_address true i =
              let equal = sym first_address ∙ sym ((same_value-Decides (at (At u p' way)) (at (At t p path))).0 i) ∙ second_address in
              sym (same_scalar_read l h t u (bits p) (bits p') (along path) (along way) q r range at_end range' at_end'
              (ap (λ v. (word_in v).bits) equal) shapes
              (scalar_has_root l h (tags_of cells) tags t (bits p) covered (along path) q range at_end t' m is) (at e) cells tags fit covered k)
          by_address false i =
              other k (λ j same.
              let equal = second_address ∙ ap address_value (sym j) ∙ sym first_address in
              true≢false (sym ((same_value-Decides (at (At u p' way)) (at (At t p path))).1 equal) ∙ i))

      of_scalars : at (if same_type u' t' then of_same_scalar written_place e read_place else read_at read_place) ≡ read_after
      of_scalars = by_cases (is_covered l (tags_of cells) u (bits p')) refl (same_type u' t') refl
        where
          untouched : is_covered l (tags_of cells) u (bits p') ≡ false → at (read_at read_place) ≡ read_after
          untouched k = sym (uncovered_kept l h t (bits p) (along path) (at e) cells u (bits p') (along way) k)

          by_cases : (b : Bool) → is_covered l (tags_of cells) u (bits p') ≡ b → (c : Bool) → same_type u' t' ≡ c →
              at (if c then of_same_scalar written_place e read_place else read_at read_place) ≡ read_after
          by_cases true k true i = of_one_scalar k (type_is u' t' i)
          by_cases true k false i =
              other k (λ j same.
              let types : t' ≡ u' = ap type_of (sym is ∙ same ∙ is') in
              true≢false (sym (ap (λ v. same_type u' v) types ∙ same_type-refl u') ∙ i))
          by_cases false k true i =
              ap (λ b. if_truth (b && same_value (at (At u p' way)) (at (At t p path))) (at e) (at (read_at read_place))) k ∙ untouched k
          by_cases false k false i = untouched k

    pub read_before : (b : Exp) → ReadBefore g written_place e read_place b → at b ≡ read_after
    read_before _ (same k) = of_one_type (type_is u t k)
    read_before _ (unrelated k none) = kept (λ c root root' i f f'. unrelated_split l h t u (bits p) (bits p') c root root' i f f' none)
    read_before _ (related {t = t'} {u = u'} k rel scalar scalar' indexes) =
        let w = scalar_is (shape_along g path (shape_of l t)) t' scalar in
        let r = scalar_is (shape_along g way (shape_of l u)) u' scalar' in
        let f = ends path (shape_of l t) (Scalar t' w.0) w.1 in
        let f' = ends way (shape_of l u) (Scalar u' r.0) r.1 in
        of_scalars t' u' w.0 r.0 f'.0 (ap (λ v. v.shape) (some_is (sym at_end ∙ f.1)) ∙ f.2)
        (indexes_in_range l env before way (shape_of l u) indexes) f'.1 f'.2
