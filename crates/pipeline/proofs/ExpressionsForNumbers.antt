-- The values and the truths of generated expressions are ready for numbers wherever their conditions are there.
use Rattle.std.proofs.Common.{◌≡◌, ℕ, ◌==◌, nat_lt, Bool, true, false, cond, ◌&&◌, List, ◌++◌, Option, Some, refl, ap, ◌∙◌}
use Rattle.std.proofs.lemmas.Bool.{and_parts}
use Rattle.c_values.specs.Name.{Name}
use Rattle.c_values.specs.Types.{IntType, CType, Integer, Ptr, width_of, is_signed}
use Rattle.c_values.specs.Word.{Wsshr, Wushr}
use Rattle.c_values.specs.Layout.{Layout, is_object, is_scalar, scalar_width, shape_of}
use Rattle.expression_lang.specs.Expression as E
use Rattle.expression_lang.specs.Sort as S
use Rattle.expression_lang.specs.Sort.{Numbers, word_width}
use Rattle.expression_lang.specs.Signature.{Binder}
use Rattle.simpl_lang.specs.Command.{Condition}
use Rattle.ac_expr.specs.Fact.{Whole, NotTrue}
use Rattle.rule_heap.specs.ExpLifted.{exp_lifted}
use Rattle.rule_heap.proofs.ExpSorts.{sort_stays}
use Rattle.rule_word.specs.Scopes.{width_in}
use Rattle.rule_word.specs.Bases.{Surroundings, under as under_fact}
use Rattle.c_lang.specs.Typed as C
use Rattle.c_lang.specs.WellTyped.{Scope, is_typed, is_typed_place, are_typed_indices, shape_along, leads_to, has_type, has_scalar_type, has_integer_type, is_in_memory}
use Rattle.generation.specs.Guards.{is_signed_type, Reading, as_value, as_test, reading, content, address, path_of, number, under, bounds, accesses, guards, place_guards, index_guards, cast_to, shift, comparison, equation, combine_op, moved_by}
use Rattle.generation.proofs.SortedExpressions.{IsScope, simpl_scope, operand}
use Rattle.pipeline.proofs.ExpressionsForHeaps.{three_typed, both_typed}
use Rattle.pipeline.proofs.ReadyWords.{IsReady, IsPathReady, tested}
use Rattle.pipeline.proofs.GivenRanges.{AllThere, split, all_under_whole, all_under_not}
use Rattle.pipeline.proofs.OperationsReady.{compute_ready, negate_ready}

module _ (same : E.Exp → E.Exp → Bool) (sg : S.Scope) (names : List Binder) where
  abbrev Ready : Surroundings → E.Exp → Type 0
  Ready k e = IsReady same sg names k e

  pub number_ready : (k : Surroundings) (t : CType) (e : E.Exp) → IsReady same sg names k e → IsReady same sg names k (number t e)
  number_ready k t e h = by_sign (is_signed_type t)
    where
      by_sign : (b : Bool) → Ready k (cond b (E.ToInt e) (E.ToNat e))
      by_sign true = h
      by_sign false = h

  pub cast_ready : (k : Surroundings) (to from : ℕ) (s : Bool) (e : E.Exp) → IsReady same sg names k e →
      IsReady same sg names k (cast_to to from s e)
  cast_ready k to from s e h = by_widths (to == from) (nat_lt to from) s
    where
      by_widths : (a b c : Bool) →
          Ready k (cond a e (cond b (E.Cast E.Trunc to e) (cond c (E.Cast E.Sext to e) (E.Cast E.Zext to e))))
      by_widths false false true = h
      by_widths _ _ _ = h

  shift_ready : (k : Surroundings) (i : IntType) (d : C.Direction) (a n : E.Exp) → Ready k a → Ready k n → Ready k (shift i d a n)
  shift_ready k i C.Left a n h j = (h, j)
  shift_ready k i C.Right a n h j = by_sign (is_signed i)
    where
      by_sign : (b : Bool) → Ready k (cond b (E.WordShift Wsshr a n) (E.WordShift Wushr a n))
      by_sign true = (h, j)
      by_sign false = (h, j)

  combined_ready : (k : Surroundings) (op : C.Bitwise) (a b : E.Exp) → Ready k a → Ready k b →
      Ready k (E.WordBinary (combine_op op) a b)
  combined_ready k C.BitAnd a b h j = (refl, h, j)
  combined_ready _ _ _ _ h j = (refl, h, j)

  comparison_ready : (k : Surroundings) (r : C.Relation) (s : Bool) (a b : E.Exp) → Ready k a → Ready k b →
      Ready k (comparison r s a b)
  comparison_ready k C.Less s a b h j = (h, j)
  comparison_ready k C.LessEqual s a b h j = (h, j)
  comparison_ready k C.Greater s a b h j = (j, h)
  comparison_ready k C.GreaterEqual s a b h j = (j, h)

  equation_ready : (k : Surroundings) (q : C.Equality) (a b : E.Exp) → Ready k a → Ready k b → Ready k (equation q a b)
  equation_ready k C.Equal a b h j = (h, j)
  equation_ready k C.NotEqual a b h j = (h, j)

  moved_ready : (k : Surroundings) (s : C.Sign) (n : E.Exp) → Ready k n → Ready k (moved_by s n)
  moved_ready k C.Plus n h = h
  moved_ready k C.Minus n h = h

  pub record AreReady (k : Surroundings) (r : Reading) : Type 0 where
    pub value : IsReady same sg names k r.value
    pub truth : IsReady same sg names k r.truth

  value_ready : (l : Layout) (k : Surroundings) (u : CType) (e : E.Exp) → Ready k e → AreReady k (as_value l.target u e)
  value_ready l k u e h = record { value = h; truth = (h, tt) }

  test_ready : (k : Surroundings) (e : E.Exp) → Ready k e → AreReady k (as_test e)
  test_ready k e h = record { value = (h, tt, tt); truth = h }

module _ (same : E.Exp → E.Exp → Bool) (finds : (e : E.Exp) → same e e ≡ true) (g : Scope) (ns : Name → Option S.Scalar)
    (is : IsScope g ns) (names : List Binder) where
  abbrev l : Layout
  l = g.layout

  abbrev sg : S.Scope
  sg = simpl_scope g ns

  abbrev Is : Surroundings → E.Exp → Type 0
  Is k e = IsReady same sg names k e

  abbrev Are : Surroundings → Reading → Type 0
  Are k r = AreReady same sg names k r

  abbrev All : Surroundings → List Condition → Type 0
  All k cs = AllThere same finds sg names k cs

  parted : (k : Surroundings) (cs ds : List Condition) → All k (cs ++ ds) → All k cs × All k ds
  parted k cs ds h = split same finds sg names k cs ds h

  -- an operand of the type is a word of its width
  wide : (i : IntType) (a : C.Expr) → (has_type (Integer i) a && is_typed g a) ≡ true →
      width_in sg (exp_lifted (reading l a).value) ≡ Some (width_of l.target i)
  wide i a h = ap word_width (sort_stays sg (reading l a).value ∙ (operand g ns is i a h).sort)

  valued : (k : Surroundings) (u : CType) (e : E.Exp) → Is k e → Are k (as_value l.target u e)
  valued k u e h = value_ready same sg names l k u e h

  is_tested : (k : Surroundings) (e : E.Exp) → Is k e → Are k (as_test e)
  is_tested k e h = test_ready same sg names k e h

  number_is : (k : Surroundings) (t : CType) (e : E.Exp) → Is k e → Is k (number t e)
  number_is k t e h = number_ready same sg names k t e h

  abbrev yes : Surroundings → C.Expr → Surroundings
  yes k a = under_fact (Whole (tested same sg names k (reading l a).truth)) k

  abbrev no' : Surroundings → C.Expr → Surroundings
  no' k a = under_fact (NotTrue (tested same sg names k (reading l a).truth)) k

  mutual
    pub reading_ready : (e : C.Expr) (k : Surroundings) → is_typed g e ≡ true →
        AllThere same finds (simpl_scope g ns) names k (guards g.layout Numbers e) →
        AreReady same (simpl_scope g ns) names k (reading g.layout e)
    reading_ready (C.Constant i n) k t h = valued k (Integer i) _ tt
    reading_ready (C.Local x u) k t h = valued k u _ tt
    reading_ready (C.Value p) k t h =
        let j = parted k (place_guards l Numbers p) (accesses l Numbers p) h in
        valued k (C.place_type p) (content l p) (content_ready p k t j.0)
    reading_ready (C.Convert u a) k t h =
        let i = and_parts (has_scalar_type a) (is_typed g a) (and_parts (is_scalar u) (has_scalar_type a && is_typed g a) t).1 in
        valued k u _ (cast_ready same sg names k (scalar_width l.target u) (scalar_width l.target (C.type_of a))
        (is_signed_type (C.type_of a)) (reading l a).value (reading_ready a k i.1 h).value)
    reading_ready (C.ConvertNull u a) k t h =
        let i = and_parts (has_scalar_type a) (is_typed g a) (and_parts (is_scalar u) (has_scalar_type a && is_typed g a) t).1 in
        valued k u _ (cast_ready same sg names k (scalar_width l.target u) (scalar_width l.target (C.type_of a))
        (is_signed_type (C.type_of a)) (reading l a).value (reading_ready a k i.1 h).value)
    reading_ready (C.Negate i a) k t h =
        let o = and_parts (has_type (Integer i) a) (is_typed g a) t in
        let s = parted k (guards l Numbers a) _ h in
        valued k (Integer i) _ (
          negate_ready same finds sg names k l.target i (reading l a).value (wide i a t) s.1,
          (reading_ready a k o.1 s.0).value,
        )
    reading_ready (C.Complement i a) k t h =
        let o = and_parts (has_type (Integer i) a) (is_typed g a) t in
        valued k (Integer i) _ (refl, (reading_ready a k o.1 h).value)
    reading_ready (C.Compute op i a b) k t h =
        let p = and_parts (has_type (Integer i) a && is_typed g a) (has_type (Integer i) b && is_typed g b) t in
        let q = both_typed (has_type (Integer i) a) (is_typed g a) (has_type (Integer i) b) (is_typed g b) t in
        let o = parted k (guards l Numbers a ++ guards l Numbers b) _ h in
        let j = parted k (guards l Numbers a) (guards l Numbers b) o.0 in
        valued k (Integer i) _ (
          compute_ready same finds sg names k l.target i op (reading l a).value (reading l b).value
              (wide i a p.0) (wide i b p.1) o.1,
          (reading_ready a k q.0 j.0).value,
          (reading_ready b k q.1 j.1).value,
        )
    reading_ready (C.Combine op i a b) k t h =
        let q = both_typed (has_type (Integer i) a) (is_typed g a) (has_type (Integer i) b) (is_typed g b) t in
        let j = parted k (guards l Numbers a) _ h in
        valued k (Integer i) _ (combined_ready same sg names k op (reading l a).value (reading l b).value
        (reading_ready a k q.0 j.0).value (reading_ready b k q.1 j.1).value)
    reading_ready (C.Shift d i a b) k t h =
        let q = both_typed (has_type (Integer i) a) (is_typed g a) (has_integer_type b) (is_typed g b) t in
        let o = parted k (guards l Numbers a ++ guards l Numbers b) _ h in
        let j = parted k (guards l Numbers a) (guards l Numbers b) o.0 in
        valued k (Integer i) _
        (shift_ready same sg names k i d (reading l a).value (number (C.type_of b) (reading l b).value)
        (reading_ready a k q.0 j.0).value (number_is k (C.type_of b) (reading l b).value (reading_ready b k q.1 j.1).value))
    reading_ready (C.Compare r i a b) k t h =
        let q = both_typed (has_type (Integer i) a) (is_typed g a) (has_type (Integer i) b) (is_typed g b) t in
        let j = parted k (guards l Numbers a) _ h in
        is_tested k _ (comparison_ready same sg names k r _ (reading l a).value (reading l b).value
        (reading_ready a k q.0 j.0).value (reading_ready b k q.1 j.1).value)
    reading_ready (C.Equate o u a b) k t h =
        let q = three_typed (is_scalar u) (has_type u a) (is_typed g a) (has_type u b) (is_typed g b) t in
        let j = parted k (guards l Numbers a) _ h in
        is_tested k _ (equation_ready same sg names k o (reading l a).value (reading l b).value (reading_ready a k q.0 j.0).value
        (reading_ready b k q.1 j.1).value)
    reading_ready (C.Not a) k t h =
        let q = and_parts (has_scalar_type a) (is_typed g a) t in is_tested k _ (reading_ready a k q.1 h).truth
    reading_ready (C.And a b) k t h =
        let q = both_typed (has_scalar_type a) (is_typed g a) (has_scalar_type b) (is_typed g b) t in
        let j = parted k (guards l Numbers a) _ h in
        is_tested k _ (
          (reading_ready a k q.0 j.0).truth,
          (reading_ready b (yes k a) q.1
              (all_under_whole same finds sg names k (reading l a).truth (guards l Numbers b) j.1)).truth,
        )
    reading_ready (C.Or a b) k t h =
        let q = both_typed (has_scalar_type a) (is_typed g a) (has_scalar_type b) (is_typed g b) t in
        let j = parted k (guards l Numbers a) _ h in
        is_tested k _ (
          (reading_ready a k q.0 j.0).truth,
          (reading_ready b (no' k a) q.1
              (all_under_not same finds sg names k (reading l a).truth (guards l Numbers b) j.1)).truth,
        )
    reading_ready (C.Choose u c a b) k t h =
        let q = and_parts (is_scalar u && (has_scalar_type c && is_typed g c) && (has_type u a && is_typed g a))
        (has_type u b && is_typed g b) t in
        let r = three_typed (is_scalar u) (has_scalar_type c) (is_typed g c) (has_type u a) (is_typed g a) q.0 in
        let r' = and_parts (has_type u b) (is_typed g b) q.1 in
        let m = parted k (guards l Numbers c ++ under (reading l c).truth (guards l Numbers a))
        (under (E.Not (reading l c).truth) (guards l Numbers b)) h in
        let j = parted k (guards l Numbers c) (under (reading l c).truth (guards l Numbers a)) m.0 in
        valued k u _ (
          (reading_ready c k r.0 j.0).truth,
          (reading_ready a (yes k c) r.1 (all_under_whole same finds sg names k (reading l c).truth
              (guards l Numbers a) j.1)).value,
          (reading_ready b (no' k c) r'.1 (all_under_not same finds sg names k (reading l c).truth
              (guards l Numbers b) m.1)).value,
        )
    reading_ready (C.Move s u p a) k t h =
        let q = three_typed (is_object l u) (has_type (Ptr u) p) (is_typed g p) (has_integer_type a) (is_typed g a) t in
        let j = parted k (guards l Numbers p) _ h in
        valued k (Ptr u) _ (
          (reading_ready p k q.0 j.0).value,
          moved_ready same sg names k s (number (C.type_of a) (reading l a).value)
              (number_is k (C.type_of a) (reading l a).value (reading_ready a k q.1 j.1).value),
        )
    reading_ready (C.MoveBy u a p) k t h =
        let q = three_typed (is_object l u) (has_integer_type a) (is_typed g a) (has_type (Ptr u) p) (is_typed g p) t in
        let j = parted k (guards l Numbers a) _ h in
        valued k (Ptr u) _ (
          (reading_ready p k q.1 j.1).value,
          number_is k (C.type_of a) (reading l a).value (reading_ready a k q.0 j.0).value,
        )
    reading_ready (C.Address p u) k t h =
        let q = and_parts (is_in_memory p && is_typed_place g p) _ t in
        valued k (Ptr u) _ (address_ready p k (and_parts (is_in_memory p) (is_typed_place g p) q.0).1 h)
    reading_ready (C.Decay p u) k t h =
        let q = and_parts (is_in_memory p && is_typed_place g p) _ t in
        valued k (Ptr u) _ (address_ready p k (and_parts (is_in_memory p) (is_typed_place g p) q.0).1 h)

    pub content_ready : (p : C.Place) (k : Surroundings) → is_typed_place g p ≡ true →
        AllThere same finds (simpl_scope g ns) names k (place_guards g.layout Numbers p) →
        IsReady same (simpl_scope g ns) names k (content g.layout p)
    content_ready (C.Through t p path u) k w h =
        let a = and_parts (is_object l t && (has_type (Ptr t) p && is_typed g p) && are_typed_indices g path)
        (leads_to (shape_along (Some (shape_of l t)) path) u) w in
        let b = and_parts (is_object l t && (has_type (Ptr t) p && is_typed g p)) (are_typed_indices g path) a.0 in
        let c = and_parts (is_object l t) (has_type (Ptr t) p && is_typed g p) b.0 in
        let d = and_parts (has_type (Ptr t) p) (is_typed g p) c.1 in
        let j = parted k (guards l Numbers p ++ index_guards l Numbers path) (bounds l path) h in
        let i = parted k (guards l Numbers p) (index_guards l Numbers path) j.0 in
        ((reading_ready p k d.1 i.0).value, path_ready path k b.1 i.1)
    content_ready (C.InGlobal x path u) k w h =
        let a = and_parts (are_typed_indices g path) _ w in
        path_ready path k a.0 (parted k (index_guards l Numbers path) (bounds l path) h).0

    pub address_ready : (p : C.Place) (k : Surroundings) → is_typed_place g p ≡ true →
        AllThere same finds (simpl_scope g ns) names k (place_guards g.layout Numbers p) →
        IsReady same (simpl_scope g ns) names k (address g.layout p)
    address_ready (C.Through t p path u) k w h =
        let a = and_parts (is_object l t && (has_type (Ptr t) p && is_typed g p) && are_typed_indices g path)
        (leads_to (shape_along (Some (shape_of l t)) path) u) w in
        let b = and_parts (is_object l t && (has_type (Ptr t) p && is_typed g p)) (are_typed_indices g path) a.0 in
        let c = and_parts (is_object l t) (has_type (Ptr t) p && is_typed g p) b.0 in
        let d = and_parts (has_type (Ptr t) p) (is_typed g p) c.1 in
        let j = parted k (guards l Numbers p ++ index_guards l Numbers path) (bounds l path) h in
        let i = parted k (guards l Numbers p) (index_guards l Numbers path) j.0 in
        ((reading_ready p k d.1 i.0).value, path_ready path k b.1 i.1)
    address_ready (C.InGlobal x path u) k w h =
        let a = and_parts (are_typed_indices g path) _ w in
        path_ready path k a.0 (parted k (index_guards l Numbers path) (bounds l path) h).0

    pub path_ready : (path : C.Path) (k : Surroundings) → are_typed_indices g path ≡ true →
        AllThere same finds (simpl_scope g ns) names k (index_guards g.layout Numbers path) →
        IsPathReady same (simpl_scope g ns) names k (path_of g.layout path)
    path_ready C.Here k w h = tt
    path_ready (C.Member n path) k w h = path_ready path k w h
    path_ready (C.Element n e path) k w h =
        let q = and_parts (has_integer_type e && is_typed g e) (are_typed_indices g path) w in
        let j = parted k (guards l Numbers e) (index_guards l Numbers path) h in (
          number_is k (C.type_of e) (reading l e).value (reading_ready e k
              (and_parts (has_integer_type e) (is_typed g e) q.0).1 j.0).value,
          path_ready path k q.1 j.1,
        )
