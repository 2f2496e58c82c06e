-- What an assertion says before an object of a typed heap is written holds before the write where the assertion holds after it.
use Rattle.std.proofs.Common.{◌≡◌, true, false, List, [], ◌∷◌, Some, refl, sym, ap, ◌∙◌, subst, subst₂}
use Rattle.std.proofs.lemmas.Bool.{and_parts, or_parts, not-true, true≢false}
use Rattle.std.specs.Prelude.{not, ◌&&◌}
use Rattle.c_values.specs.Name.{Name}
use Rattle.c_values.specs.Types.{CType, address_width}
use Rattle.c_values.specs.Value.{Value, truth_in, word_in}
use Rattle.c_values.specs.Layout.{Layout, IsLayout, GlobalVar, Shape, shape_of, is_object, global_type}
use Rattle.c_values.specs.Path.{Spot, spot, IsBits}
use Rattle.c_memory.specs.TypedHeap.{TypedHeap}
use Rattle.c_memory.specs.Heap.{OnTypes, heap_tags, read_heap}
use Rattle.c_memory.proofs.Cells.{tags_written}
use Rattle.expression_lang.specs.Expression.{Exp, Load, Read, Global, Path}
use Rattle.expression_lang.specs.Evaluation.{Env, State, value, steps, holds}
use Rattle.expression_lang.specs.Form.{has, path_has, is_load, is_part_of_value}
use Rattle.expression_lang.specs.Signature.{values_of}
use Rattle.expression_lang.specs.Sort.{Of, WordSort, Scope, sort_of, shape_along, sort_at, is_word_of, is_truth, of_shape}
use Rattle.expression_lang.specs.Sorted.{program_sort, typed_place, part_place, sort_in, fits_place}
use Rattle.expression_lang.specs.States.{IsEnvironment, IsState, state_with}
use Rattle.expression_lang.proofs.Fine.{fine_path}
use Rattle.expression_lang.proofs.Inversion.{where_inv, truth_inv, word_of_inv}
use Rattle.expression_lang.proofs.SortParts.{program_sort_inv, fits_inv, only_where, without_parts, sort_in_inv}
use Rattle.ac_expr.specs.Heads.{head, children}
use Rattle.ac_expr.proofs.ApartThere.{some_has, child_has}
use Rattle.ac_expr.proofs.PartsSorted.{IsSorted, AreSorted, children_sorted}
use Rattle.monad_lang.specs.Program.{Written, Write}
use Rattle.monad_lang.specs.Run.{written}
use Rattle.monad_lang.specs.Sorted.{place_sort}
use Rattle.monad_lang.specs.Steady.{WriteCovered}
use Rattle.program_facts.proofs.SortedValues.{value_sorted, place_written}
use Rattle.entailment.specs.Table.{IsAssertion}
use Rattle.assertion_walks.specs.Written.{IsBefore, IsBeforeWrite}
use Rattle.hoare_check.proofs.HeadValues.{first, steps_of_children, same_head, alike_value}
use Rattle.hoare_check.proofs.ReadsBefore.{read_before}
use Rattle.hoare_check.proofs.RebuiltValues.{AllAre, rebuilt_value}

-- loads

load_head : (a : Exp) → is_load (head a) ≡ is_load a
load_head (Load t p path) = refl
load_head _ = refl

module _ (g : Scope) where
  -- well-sorted, without a load
  abbrev IsFit : Exp → Type 0
  IsFit a = IsSorted g a × (has is_load a ≡ false)

  all_fit : (es : List Exp) → AreSorted g es → some_has is_load es ≡ false → AllAre IsFit es
  all_fit [] h k = tt
  all_fit (a ∷ es) h k = let o = or_parts (has is_load a) (some_has is_load es) k in ((h.0, o.0), all_fit es h.1 o.1)

  no_loads : (a : Exp) → has is_load a ≡ false → (is_load a ≡ false) × (some_has is_load (children a) ≡ false)
  no_loads a h = or_parts (is_load a) (some_has is_load (children a)) (sym (child_has is_load a) ∙ h)

  parts_fit : (a : Exp) → IsFit a → AllAre IsFit (children a)
  parts_fit a h = all_fit (children a) (children_sorted g a h.0) (no_loads a h.1).1

  not_load : (a made : Exp) → IsFit a → head made ≡ head a → is_load made ≡ false
  not_load a made h k = sym (load_head made) ∙ ap is_load k ∙ load_head a ∙ (no_loads a h.1).0

  -- what the address of a read is, by the values of the children

  abbrev HasAddress : Exp → List Value → Type 0
  HasAddress (Read t p path) us = IsBits (address_width g.layout.target) (first us)
  HasAddress _ us = Unit {0}

  to_head : (a : Exp) (us : List Value) → HasAddress a us → HasAddress (head a) us
  to_head (Read t p path) us h = h
  to_head _ us h = tt

  from_head : (a : Exp) (us : List Value) → HasAddress (head a) us → HasAddress a us
  from_head (Read t p path) us h = h
  from_head _ us h = tt

  module _ (laid : IsLayout g.layout) (vs : List GlobalVar) (known : g.globals ≡ global_type vs) (env : Env) (names : IsEnvironment g env) where
    has_address : (s : State) → IsState g.layout vs s → (a : Exp) → IsSorted g a → HasAddress a (values_of g.layout env s (children a))
    has_address s state (Read t p path) h =
        let r = where_inv (is_object g.layout t && is_word_of (address_width g.layout.target) (sort_of g p))
        (of_shape (shape_along g path (shape_of g.layout t)) sort_at) h.0 h.1 in
        let w = word_of_inv (address_width g.layout.target) (sort_of g p)
        (and_parts (is_object g.layout t) (is_word_of (address_width g.layout.target) (sort_of g p)) r.0).1 in
        value_sorted g laid vs known env names s state p (Of (WordSort (address_width g.layout.target))) w
    has_address s state _ h = tt

    module _ (cells : TypedHeap) (globals : Name → Value) (state : IsState g.layout vs (state_with (OnTypes cells) globals)) (t : CType) (p : Exp)
        (path : Path) (e : Exp)
        (covered : WriteCovered g.layout (Write (Written t p path) e) env (state_with (OnTypes cells) globals))
        (fits : fits_place (place_sort g (Written t p path)) (program_sort g e) ≡ true) where
      abbrev l : Layout
      l = g.layout

      abbrev before : State
      before = state_with (OnTypes cells) globals

      abbrev after : State
      after = written l env before (Written t p path) (value l env before e)

      after_state : IsState l vs after
      after_state = place_written g laid vs known env names before state (Written t p path) e fits

      tags : heap_tags after.heap ≡ heap_tags before.heap
      tags = tags_written l cells t (word_in (value l env before p)).bits (steps l env before path) (value l env before e)

      ends : (way : Path) (r q : Shape) → shape_along g way r ≡ Some q → (f : Spot) × (spot r (steps l env before way) ≡ Some f) × (f.shape ≡ q)
      ends way r q k =
          let f = fine_path g laid env before names (λ x u i. state.globals x u (subst (λ f. f x ≡ Some u) known i)) state.heap way r q k in
          (f.end, f.leads, f.shape)

      -- the place of the write is well-sorted
      placed : (sort_of g p ≡ Some (Of (WordSort (address_width l.target)))) × (q : Shape) × (shape_along g path (shape_of l t) ≡ Some q)
      placed =
          let f = fits_inv (typed_place g t p path) (program_sort g e) fits in
          let w = only_where (is_object l t && is_word_of (address_width l.target) (program_sort g p)) (part_place g t path) f.0 f.1 in
          let word = (and_parts (is_object l t) (is_word_of (address_width l.target) (program_sort g p)) w.0).1 in
          let r = sort_in_inv (shape_along g path (shape_of l t)) f.0
          (without_parts (path_has is_part_of_value path) (sort_in (shape_along g path (shape_of l t))) f.0 w.1) in
          (program_sort_inv g p (Of (WordSort (address_width l.target))) (word_of_inv (address_width l.target) (program_sort g p) word), r.0, r.1)

      word : IsBits (address_width l.target) (value l env before p)
      word = value_sorted g laid vs known env names before state p (Of (WordSort (address_width l.target))) placed.0

      -- a read
      read_kept : (a : Exp) (u : CType) (p' : Exp) (way : Path) → IsFit a → head (Read u p' way) ≡ head a →
          values_of l env before (children (Read u p' way)) ≡ values_of l env after (children a) → (b : Exp) →
          IsBefore g (record { type = t; address = p; path = path }) e (Read u p' way) b → value l env before b ≡ value l env after a
      read_kept a u p' way fit h k b c =
          let f = ends path (shape_of l t) placed.1 placed.2 in
          let word' : IsBits (address_width l.target) (value l env before p') =
          from_head (Read u p' way) (values_of l env before (children (Read u p' way)))
          (subst₂ (λ d us. HasAddress d us) (sym h) (sym k) (to_head a (values_of l env after (children a)) (has_address after after_state a fit.0))) in
          read_before g laid env cells globals state.heap.0 state.heap.1 t p path e f.0 covered.1 f.1 word covered.0 ends u p' way word' b c
          ∙ ap (λ ps. read_heap l after.heap u (word_in (value l env before p')).bits ps) (sym (steps_of_children l env before way))
          ∙ same_head l env before after tags a (Read u p' way) h k

      kept : (a made : Exp) → IsFit a → head made ≡ head a → values_of l env before (children made) ≡ values_of l env after (children a) → (b : Exp) →
          IsBefore g (record { type = t; address = p; path = path }) e made b → value l env before b ≡ value l env after a
      kept a (Read u p' way) fit h k b c = read_kept a u p' way fit h k b c
      kept a (Load u p' way) fit h k b c = absurd (true≢false (not_load a (Load u p' way) fit h))
      kept a (Global x way) fit h k b c = ap (λ d. value l env before d) c ∙ alike_value l env before after tags a (Global x way) h k refl
      kept a made fit h k b c = ap (λ d. value l env before d) c ∙ alike_value l env before after tags a made h k tt

      holds_before : (q b : Exp) → IsFit q → IsBeforeWrite g (record { type = t; address = p; path = path }) e q b → holds l env before b ≡ holds l env after q
      holds_before q b fit h =
          ap truth_in (rebuilt_value l env before after (IsBefore g (record { type = t; address = p; path = path }) e) IsFit parts_fit kept q b h fit)

-- at a covered root and with indices in range
pub before_write : (g : Scope) (vs : List GlobalVar) → IsLayout g.layout → g.globals ≡ global_type vs → (env : Env) → IsEnvironment g env →
    (s : State) (cells : TypedHeap) → s.heap ≡ OnTypes cells → IsState g.layout vs s → (t : CType) (p : Exp) (path : Path) (e : Exp) →
    WriteCovered g.layout (Write (Written t p path) e) env s → fits_place (place_sort g (Written t p path)) (program_sort g e) ≡ true →
    (q b : Exp) → IsAssertion true g q → IsBeforeWrite g (record { type = t; address = p; path = path }) e q b →
    holds g.layout env s b ≡ holds g.layout env (written g.layout env s (Written t p path) (value g.layout env s e)) q
before_write g vs laid known env names s cells typed state t p path e covered fits q b asserted h =
    let k = and_parts (is_truth (sort_of g q)) (not (has is_load q)) asserted in
    let same : state_with (OnTypes cells) s.globals ≡ s = ap (λ m. state_with m s.globals) (sym typed) in
    let at = subst (λ r. IsState g.layout vs r) (sym same) state in
    let there = subst (λ r. WriteCovered g.layout (Write (Written t p path) e) env r) (sym same) covered in
    subst (λ r. holds g.layout env r b ≡ holds g.layout env (written g.layout env r (Written t p path) (value g.layout env r e)) q) same
    (holds_before g laid vs known env names cells s.globals at t p path e there fits q b ((_, truth_inv (sort_of g q) k.0), not-true (has is_load q) k.1) h)
