-- The values and the truths of generated expressions are ready wherever their conditions are given: the root of each load is known
-- to be covered, and its indices to be in range.
use Rattle.std.proofs.Common.{◌≡◌, ℕ, zero, suc, ◌==◌, ◌-◌, nat_lt, Bool, true, false, cond, ◌&&◌, List, [], ◌∷◌, ◌++◌, Option, Some, None, pos, inr, refl, sym, subst, arith}
use Rattle.std.proofs.lemmas.Bool.{and_parts, eqb-true, false≢true}
use Rattle.c_values.specs.Types.{IntType, CType, Integer, Ptr, is_signed}
use Rattle.c_values.specs.Layout.{Layout, Shape, Record, Row, Fields, no_fields, field, shape_of, is_complete, are_complete, is_object}
use Rattle.c_values.specs.Path.{Spot, member_spot}
use Rattle.expression_lang.specs.Expression as E
use Rattle.expression_lang.specs.Sort.{Level, is_lifted}
use Rattle.simpl_lang.specs.Command.{Condition}
use Rattle.ac_expr.specs.Fact.{Fact, Whole, NotTrue}
use Rattle.ac_expr.proofs.GivenFacts.{IsGiven, IsGivenAtOnce, given_more, first_at_once, given_under}
use Rattle.rule_heap.specs.Table.{AreInRange, InMember}
use Rattle.rule_heap.specs.ExpLifted.{exp_lifted, path_lifted, IsReady, IsPathReady}
use Rattle.rule_heap.specs.HeapLifted.{is_ptrok}
use Rattle.pipeline.specs.CommandReady.{Unless, AllGiven, AreInOrder}
use Rattle.c_lang.specs.Typed as C
use Rattle.c_lang.specs.WellTyped.{Scope, is_typed, is_typed_place, are_typed_indices, shape_along, member_shape, leads_to}
use Rattle.generation.specs.Guards.{when, is_signed_type, Reading, as_value, as_test, reading, content, address, path_of, number, under, bounds, accesses, guards, place_guards, index_guards, cast_to, shift, comparison, equation, moved_by}
use Rattle.expression_lang.specs.GuardKind as K
use Rattle.c_values.specs.Word.{Wsshr, Wushr}
use Rattle.c_lang.specs.WellTyped.{has_type, has_scalar_type, has_integer_type, is_in_memory}
use Rattle.c_values.specs.Layout.{is_scalar, scalar_width}
use Rattle.c_lang.proofs.Paths.{no_way}

pub unless_map : (b : Bool) (P Q : Type 0) → (P → Q) → Unless b P → Unless b Q
unless_map true P Q k h = tt
unless_map false P Q k h = k h

pub unless_there : (b : Bool) (P : Type 0) → P → Unless b P
unless_there true P h = tt
unless_there false P h = h

pub split : (fs : List Fact) (gs hs : List Condition) → AllGiven fs (gs ++ hs) → AllGiven fs gs × AllGiven fs hs
split fs [] hs h = (tt, h)
split fs (g ∷ gs) hs h = let k = split fs gs hs h.1 in ((h.0, k.0), k.1)

pub all_more : (f : Fact) (fs : List Fact) (gs : List Condition) → AllGiven fs gs → AllGiven (f ∷ fs) gs
all_more f fs [] h = tt
all_more f fs (g ∷ gs) h =
    (unless_map (is_ptrok g.exp) (IsGiven fs (exp_lifted g.exp)) (IsGiven (f ∷ fs) (exp_lifted g.exp)) (given_more f fs (exp_lifted g.exp)) h.0, all_more f fs gs h.1)

pub all_under : (fs : List Fact) (c : E.Exp) (gs : List Condition) → IsGivenAtOnce fs (exp_lifted c) → AllGiven fs (under c gs) → AllGiven fs gs
all_under fs c [] k h = tt
all_under fs c (g ∷ gs) k h =
    (unless_there (is_ptrok g.exp) (IsGiven fs (exp_lifted g.exp)) (given_under fs (exp_lifted c) (exp_lifted g.exp) k h.0), all_under fs c gs k h.1)

-- under a condition that is one more fact
pub under_whole : (fs : List Fact) (c : E.Exp) (gs : List Condition) → AllGiven fs (under c gs) → AllGiven (Whole (exp_lifted c) ∷ fs) gs
under_whole fs c gs h = all_under (Whole (exp_lifted c) ∷ fs) c gs (first_at_once (Whole (exp_lifted c)) fs) (all_more (Whole (exp_lifted c)) fs (under c gs) h)

pub under_not : (fs : List Fact) (c : E.Exp) (gs : List Condition) → AllGiven fs (under (E.Not c) gs) → AllGiven (NotTrue (exp_lifted c) ∷ fs) gs
under_not fs c gs h = all_under (NotTrue (exp_lifted c) ∷ fs) (E.Not c) gs (first_at_once (NotTrue (exp_lifted c)) fs) (all_more (NotTrue (exp_lifted c)) fs (under (E.Not c) gs) h)

-- paths

no_lead : (u : CType) → leads_to None u ≡ true → ⊥
no_lead u h = absurd (false≢true h)

-- a member's shape, and where it is
record MemberThere (fs : Fields) (k : ℕ) (s : Shape) : Type 0 where
  spot : Spot
  there : member_spot fs k ≡ Some spot
  shape : spot.shape ≡ s
  whole : is_complete s ≡ true

member_there : (fs : Fields) (k : ℕ) (s : Shape) → are_complete fs ≡ true → member_shape fs k ≡ Some s → MemberThere fs k s
member_there no_fields k s c h = absurd cc
member_there (field at r fs) zero s c h =
    let same : r ≡ s = cc in
    record { spot = record { offset = pos at; shape = r }; there = refl; shape = same; whole = subst (λ q. is_complete q ≡ true) same (and_parts (is_complete r) (are_complete fs) c).0 }
member_there (field at r fs) (suc k) s c h =
    let m = member_there fs k s (and_parts (is_complete r) (are_complete fs) c).1 h in record { spot = m.spot; there = m.there; shape = m.shape; whole = m.whole }

module _ (l : Layout) where
  pub in_range : (fs : List Fact) (path : C.Path) (s : Shape) (u : CType) → is_complete s ≡ true → leads_to (shape_along (Some s) path) u ≡ true → AllGiven fs (bounds l path) →
      AreInRange fs (path_lifted (path_of l path)) s
  in_range fs C.Here s u c h k = tt
  in_range fs (C.Member j path) (Record x n align ms) u c h k = by_member (λ r c h. in_range fs path r u c h k) (member_shape ms j) refl h
    where
      by_member : ((r : Shape) → is_complete r ≡ true → leads_to (shape_along (Some r) path) u ≡ true → AreInRange fs (path_lifted (path_of l path)) r) → (o : Option Shape) → member_shape ms j ≡ o → leads_to (shape_along o path) u ≡ true → InMember (member_spot ms j) (λ s. AreInRange fs (path_lifted (path_of l path)) s)
      by_member rest None e h = absurd (no_way path u h)
      by_member rest (Some r) e h =
          let m = member_there ms j r c e in
          subst (λ o. InMember o (λ s. AreInRange fs (path_lifted (path_of l path)) s)) (sym m.there)
          (subst (λ s. AreInRange fs (path_lifted (path_of l path)) s) (sym m.shape) (rest r m.whole h))
  in_range fs (C.Element n i path) (Row r zero) u c h k = absurd (false≢true c)
  in_range fs (C.Element n i path) (Row r (suc m)) u c h k = by_length (λ c h. in_range fs path r u c h k.1) (n == suc m) refl h
    where
      by_length : (is_complete r ≡ true → leads_to (shape_along (Some r) path) u ≡ true → AreInRange fs (path_lifted (path_of l path)) r) → (b : Bool) → (n == suc m) ≡ b → leads_to (cond b (shape_along (Some r) path) None) u ≡ true → AreInRange fs (path_lifted (path_of l (C.Element n i path))) (Row r (suc m))
      by_length rest true e h =
          let same : n - 1 ≡ m = omega (arith, eqb-true n (suc m) e) in
          (inr (subst (λ x. IsGiven fs (E.Between (pos 0) (exp_lifted (number (C.type_of i) (reading l i).value)) (pos x))) same k.0), rest (and_parts (nat_lt 0 (suc m)) (is_complete r) c).1 h)
      by_length rest false e h = absurd (no_lead u h)
  in_range _ _ _ u _ h _ = absurd (no_lead u h)

-- values and truths

pub both_typed : (p a q b : Bool) → ((p && a) && (q && b)) ≡ true → (a ≡ true) × (b ≡ true)
both_typed p a q b h = let k = and_parts (p && a) (q && b) h in ((and_parts p a k.0).1, (and_parts q b k.1).1)

pub three_typed : (o p a q b : Bool) → (o && (p && a) && (q && b)) ≡ true → (a ≡ true) × (b ≡ true)
three_typed o p a q b h =
    let k = and_parts (o && (p && a)) (q && b) h in ((and_parts p a (and_parts o (p && a) k.0).1).1, (and_parts q b k.1).1)

pub number_ready : (l : Layout) (fs : List Fact) (t : CType) (e : E.Exp) → IsReady l fs e → IsReady l fs (number t e)
number_ready l fs t e h = by_sign (is_signed_type t)
  where
    by_sign : (b : Bool) → IsReady l fs (cond b (E.ToInt e) (E.ToNat e))
    by_sign true = h
    by_sign false = h

pub cast_ready : (l : Layout) (fs : List Fact) (to from : ℕ) (s : Bool) (e : E.Exp) → IsReady l fs e → IsReady l fs (cast_to to from s e)
cast_ready l fs to from s e h = by_widths (to == from) (nat_lt to from) s
  where
    by_widths : (a b c : Bool) → IsReady l fs (cond a e (cond b (E.Cast E.Trunc to e) (cond c (E.Cast E.Sext to e) (E.Cast E.Zext to e))))
    by_widths false false true = h
    by_widths _ _ _ = h

shift_ready : (l : Layout) (fs : List Fact) (i : IntType) (d : C.Direction) (a n : E.Exp) → IsReady l fs a → IsReady l fs n → IsReady l fs (shift i d a n)
shift_ready l fs i C.Left a n h k = (h, k)
shift_ready l fs i C.Right a n h k = by_sign (is_signed i)
  where
    by_sign : (b : Bool) → IsReady l fs (cond b (E.WordShift Wsshr a n) (E.WordShift Wushr a n))
    by_sign true = (h, k)
    by_sign false = (h, k)

comparison_ready : (l : Layout) (fs : List Fact) (r : C.Relation) (s : Bool) (a b : E.Exp) → IsReady l fs a → IsReady l fs b → IsReady l fs (comparison r s a b)
comparison_ready l fs C.Less s a b h k = (h, k)
comparison_ready l fs C.LessEqual s a b h k = (h, k)
comparison_ready l fs C.Greater s a b h k = (k, h)
comparison_ready l fs C.GreaterEqual s a b h k = (k, h)

equation_ready : (l : Layout) (fs : List Fact) (q : C.Equality) (a b : E.Exp) → IsReady l fs a → IsReady l fs b → IsReady l fs (equation q a b)
equation_ready l fs C.Equal a b h k = (h, k)
equation_ready l fs C.NotEqual a b h k = (h, k)

moved_ready : (l : Layout) (fs : List Fact) (s : C.Sign) (n : E.Exp) → IsReady l fs n → IsReady l fs (moved_by s n)
moved_ready l fs C.Plus n h = h
moved_ready l fs C.Minus n h = h

pub record AreReady (l : Layout) (fs : List Fact) (r : Reading) : Type 0 where
  pub value : IsReady l fs r.value
  pub truth : IsReady l fs r.truth

value_ready : (l : Layout) (fs : List Fact) (u : CType) (e : E.Exp) → IsReady l fs e → AreReady l fs (as_value l.target u e)
value_ready l fs u e h = record { value = h; truth = (h, tt) }

test_ready : (l : Layout) (fs : List Fact) (e : E.Exp) → IsReady l fs e → AreReady l fs (as_test e)
test_ready l fs e h = record { value = (h, tt, tt); truth = h }

module _ (g : Scope) (level : Level) (lifted : is_lifted level ≡ true) where
  abbrev l : Layout
  l = g.layout

  -- the last of a place's conditions is that of its tag
  tag_given : (fs : List Fact) (t : CType) (p : C.Expr) (path : C.Path) (u : CType) → AllGiven fs (accesses l level (C.Through t p path u)) → IsGiven fs (exp_lifted (E.Tagged t (reading l p).value))
  tag_given fs t p path u h = by_level (is_lifted level) lifted h.1
    where
      by_level : (b : Bool) → b ≡ true → AllGiven fs (cond b (when K.Tag (E.Tagged t (reading l p).value) ∷ []) []) → IsGiven fs (exp_lifted (E.Tagged t (reading l p).value))
      by_level true e h = h.0
      by_level false e h = absurd (false≢true e)

  mutual
    pub reading_ready : (e : C.Expr) (fs : List Fact) → is_typed g e ≡ true → AllGiven fs (guards l level e) → AreReady l fs (reading l e)
    reading_ready (C.Constant i n) fs t h = value_ready l fs (Integer i) _ tt
    reading_ready (C.Local x u) fs t h = value_ready l fs u _ tt
    reading_ready (C.Value p) fs t h = let k = split fs (place_guards l level p) (accesses l level p) h in value_ready l fs (C.place_type p) (content l p) (content_ready p fs t k.0 k.1)
    reading_ready (C.Convert u a) fs t h =
        let k = and_parts (has_scalar_type a) (is_typed g a) (and_parts (is_scalar u) (has_scalar_type a && is_typed g a) t).1 in
        value_ready l fs u _ (cast_ready l fs (scalar_width l.target u) (scalar_width l.target (C.type_of a)) (is_signed_type (C.type_of a)) (reading l a).value (reading_ready a fs k.1 h).value)
    reading_ready (C.ConvertNull u a) fs t h =
        let k = and_parts (has_scalar_type a) (is_typed g a) (and_parts (is_scalar u) (has_scalar_type a && is_typed g a) t).1 in
        value_ready l fs u _ (cast_ready l fs (scalar_width l.target u) (scalar_width l.target (C.type_of a)) (is_signed_type (C.type_of a)) (reading l a).value (reading_ready a fs k.1 h).value)
    reading_ready (C.Negate i a) fs t h =
        let k = and_parts (has_type (Integer i) a) (is_typed g a) t in value_ready l fs (Integer i) _ (reading_ready a fs k.1 (split fs (guards l level a) _ h).0).value
    reading_ready (C.Complement i a) fs t h = let k = and_parts (has_type (Integer i) a) (is_typed g a) t in value_ready l fs (Integer i) _ (reading_ready a fs k.1 h).value
    reading_ready (C.Compute op i a b) fs t h =
        let k = both_typed (has_type (Integer i) a) (is_typed g a) (has_type (Integer i) b) (is_typed g b) t in
        let o = split fs (guards l level a ++ guards l level b) _ h in
        let j = split fs (guards l level a) (guards l level b) o.0 in
        value_ready l fs (Integer i) _ ((reading_ready a fs k.0 j.0).value, (reading_ready b fs k.1 j.1).value)
    reading_ready (C.Combine op i a b) fs t h =
        let k = both_typed (has_type (Integer i) a) (is_typed g a) (has_type (Integer i) b) (is_typed g b) t in
        let j = split fs (guards l level a) _ h in
        value_ready l fs (Integer i) _ ((reading_ready a fs k.0 j.0).value, (reading_ready b fs k.1 j.1).value)
    reading_ready (C.Shift d i a b) fs t h =
        let k = both_typed (has_type (Integer i) a) (is_typed g a) (has_integer_type b) (is_typed g b) t in
        let o = split fs (guards l level a ++ guards l level b) _ h in
        let j = split fs (guards l level a) (guards l level b) o.0 in
        value_ready l fs (Integer i) _
        (shift_ready l fs i d (reading l a).value (number (C.type_of b) (reading l b).value) (reading_ready a fs k.0 j.0).value (number_ready l fs (C.type_of b) (reading l b).value (reading_ready b fs k.1 j.1).value))
    reading_ready (C.Compare r i a b) fs t h =
        let k = both_typed (has_type (Integer i) a) (is_typed g a) (has_type (Integer i) b) (is_typed g b) t in
        let j = split fs (guards l level a) _ h in
        test_ready l fs _ (comparison_ready l fs r _ (reading l a).value (reading l b).value (reading_ready a fs k.0 j.0).value (reading_ready b fs k.1 j.1).value)
    reading_ready (C.Equate q u a b) fs t h =
        let k = three_typed (is_scalar u) (has_type u a) (is_typed g a) (has_type u b) (is_typed g b) t in
        let j = split fs (guards l level a) _ h in
        test_ready l fs _ (equation_ready l fs q (reading l a).value (reading l b).value (reading_ready a fs k.0 j.0).value (reading_ready b fs k.1 j.1).value)
    reading_ready (C.Not a) fs t h = let k = and_parts (has_scalar_type a) (is_typed g a) t in test_ready l fs _ (reading_ready a fs k.1 h).truth
    reading_ready (C.And a b) fs t h =
        let k = both_typed (has_scalar_type a) (is_typed g a) (has_scalar_type b) (is_typed g b) t in
        let j = split fs (guards l level a) _ h in
        let more = Whole (exp_lifted (reading l a).truth) ∷ fs in
        test_ready l fs _ ((reading_ready a fs k.0 j.0).truth, (reading_ready b more k.1 (under_whole fs (reading l a).truth (guards l level b) j.1)).truth)
    reading_ready (C.Or a b) fs t h =
        let k = both_typed (has_scalar_type a) (is_typed g a) (has_scalar_type b) (is_typed g b) t in
        let j = split fs (guards l level a) _ h in
        let more = NotTrue (exp_lifted (reading l a).truth) ∷ fs in
        test_ready l fs _ ((reading_ready a fs k.0 j.0).truth, (reading_ready b more k.1 (under_not fs (reading l a).truth (guards l level b) j.1)).truth)
    reading_ready (C.Choose u c a b) fs t h =
        let q = and_parts (is_scalar u && (has_scalar_type c && is_typed g c) && (has_type u a && is_typed g a)) (has_type u b && is_typed g b) t in
        let k = three_typed (is_scalar u) (has_scalar_type c) (is_typed g c) (has_type u a) (is_typed g a) q.0 in
        let k' = and_parts (has_type u b) (is_typed g b) q.1 in
        let m = split fs (guards l level c ++ under (reading l c).truth (guards l level a)) (under (E.Not (reading l c).truth) (guards l level b)) h in
        let j = split fs (guards l level c) (under (reading l c).truth (guards l level a)) m.0 in
        let yes = Whole (exp_lifted (reading l c).truth) ∷ fs in
        let no' = NotTrue (exp_lifted (reading l c).truth) ∷ fs in
        value_ready l fs u _ (
          (reading_ready c fs k.0 j.0).truth,
          (reading_ready a yes k.1 (under_whole fs (reading l c).truth (guards l level a) j.1)).value,
          (reading_ready b no' k'.1 (under_not fs (reading l c).truth (guards l level b) m.1)).value,
        )
    reading_ready (C.Move s u p a) fs t h =
        let k = three_typed (is_object l u) (has_type (Ptr u) p) (is_typed g p) (has_integer_type a) (is_typed g a) t in
        let j = split fs (guards l level p) _ h in
        value_ready l fs (Ptr u) _
        ((reading_ready p fs k.0 j.0).value, moved_ready l fs s (number (C.type_of a) (reading l a).value) (number_ready l fs (C.type_of a) (reading l a).value (reading_ready a fs k.1 j.1).value))
    reading_ready (C.MoveBy u a p) fs t h =
        let k = three_typed (is_object l u) (has_integer_type a) (is_typed g a) (has_type (Ptr u) p) (is_typed g p) t in
        let j = split fs (guards l level a) _ h in
        value_ready l fs (Ptr u) _ ((reading_ready p fs k.1 j.1).value, number_ready l fs (C.type_of a) (reading l a).value (reading_ready a fs k.0 j.0).value)
    reading_ready (C.Address p u) fs t h =
        let k = and_parts (is_in_memory p && is_typed_place g p) _ t in
        value_ready l fs (Ptr u) _ (address_ready p fs (and_parts (is_in_memory p) (is_typed_place g p) k.0).1 h)
    reading_ready (C.Decay p u) fs t h =
        let k = and_parts (is_in_memory p && is_typed_place g p) _ t in
        value_ready l fs (Ptr u) _ (address_ready p fs (and_parts (is_in_memory p) (is_typed_place g p) k.0).1 h)

    pub content_ready : (p : C.Place) (fs : List Fact) → is_typed_place g p ≡ true → AllGiven fs (place_guards l level p) → AllGiven fs (accesses l level p) → IsReady l fs (content l p)
    content_ready (C.Through t p path u) fs w h k =
        let a = and_parts (is_object l t && (has_type (Ptr t) p && is_typed g p) && are_typed_indices g path) (leads_to (shape_along (Some (shape_of l t)) path) u) w in
        let b = and_parts (is_object l t && (has_type (Ptr t) p && is_typed g p)) (are_typed_indices g path) a.0 in
        let c = and_parts (is_object l t) (has_type (Ptr t) p && is_typed g p) b.0 in
        let d = and_parts (has_type (Ptr t) p) (is_typed g p) c.1 in
        let whole = (and_parts (is_complete (shape_of l t)) _ c.0).0 in
        let j = split fs (guards l level p ++ index_guards l level path) (bounds l path) h in
        let i = split fs (guards l level p) (index_guards l level path) j.0 in
        ((inr (tag_given fs t p path u k), in_range l fs path (shape_of l t) u whole a.1 j.1), (reading_ready p fs d.1 i.0).value, path_ready path fs b.1 i.1)
    content_ready (C.InGlobal x path u) fs w h k =
        let a = and_parts (are_typed_indices g path) _ w in
        path_ready path fs a.0 (split fs (index_guards l level path) (bounds l path) h).0

    pub address_ready : (p : C.Place) (fs : List Fact) → is_typed_place g p ≡ true → AllGiven fs (place_guards l level p) → IsReady l fs (address l p)
    address_ready (C.Through t p path u) fs w h =
        let a = and_parts (is_object l t && (has_type (Ptr t) p && is_typed g p) && are_typed_indices g path) (leads_to (shape_along (Some (shape_of l t)) path) u) w in
        let b = and_parts (is_object l t && (has_type (Ptr t) p && is_typed g p)) (are_typed_indices g path) a.0 in
        let c = and_parts (is_object l t) (has_type (Ptr t) p && is_typed g p) b.0 in
        let d = and_parts (has_type (Ptr t) p) (is_typed g p) c.1 in
        let j = split fs (guards l level p ++ index_guards l level path) (bounds l path) h in
        let i = split fs (guards l level p) (index_guards l level path) j.0 in
        ((reading_ready p fs d.1 i.0).value, path_ready path fs b.1 i.1)
    address_ready (C.InGlobal x path u) fs w h =
        let a = and_parts (are_typed_indices g path) _ w in
        path_ready path fs a.0 (split fs (index_guards l level path) (bounds l path) h).0

    pub path_ready : (path : C.Path) (fs : List Fact) → are_typed_indices g path ≡ true → AllGiven fs (index_guards l level path) → IsPathReady l fs (path_of l path)
    path_ready C.Here fs w h = tt
    path_ready (C.Member k path) fs w h = path_ready path fs w h
    path_ready (C.Element n e path) fs w h =
        let k = and_parts (has_integer_type e && is_typed g e) (are_typed_indices g path) w in
        let j = split fs (guards l level e) (index_guards l level path) h in
        (number_ready l fs (C.type_of e) (reading l e).value (reading_ready e fs (and_parts (has_integer_type e) (is_typed g e) k.0).1 j.0).value, path_ready path fs k.1 j.1)

-- conditions in order

pub all_split : (fs : List Fact) (gs hs : List Condition) → AllGiven fs gs → AllGiven fs hs → AllGiven fs (gs ++ hs)
all_split fs [] hs h k = k
all_split fs (g ∷ gs) hs h k = (h.0, all_split fs gs hs h.1 k)

-- what is ready from fewer conditions is ready from more: those before it are given by what is before
pub from_more : (l : Layout) (before now : List Condition) → ((fs : List Fact) → AllGiven fs now → AllGiven fs before) → (cs : List Condition) → AreInOrder l before cs → AreInOrder l now cs
from_more l before now k [] h = tt
from_more l before now k (c ∷ cs) h = (
  (λ fs g. h.0 fs (k fs g)),
  from_more l (before ++ (c ∷ [])) (now ++ (c ∷ [])) (λ fs g. let s = split fs now (c ∷ []) g in all_split fs before (c ∷ []) (k fs s.0) s.1) cs h.1,
)

-- one list after another
pub in_order_after : (l : Layout) (before gs hs : List Condition) → AreInOrder l before gs → AreInOrder l (before ++ gs) hs → AreInOrder l before (gs ++ hs)
in_order_after l before [] hs h k = from_more l (before ++ []) before (λ fs g. all_split fs before [] g tt) hs k
in_order_after l before (g ∷ gs) hs h k = (
  h.0,
  in_order_after l (before ++ (g ∷ [])) gs hs h.1
      (from_more l (before ++ (g ∷ gs)) ((before ++ (g ∷ [])) ++ gs) (λ fs a. let s = split fs (before ++ (g ∷ [])) gs a in let t = split fs before (g ∷ []) s.0 in all_split fs before (g ∷ gs) t.0 (t.1.0, s.1)) hs k),
)

-- under a condition that is ready from those before
module _ (l : Layout) (c : E.Exp) (outer : List Condition) (ready : (fs : List Fact) → AllGiven fs outer → IsReady l fs c) where
  pub under_whole_order : (before now : List Condition) → ((fs : List Fact) → AllGiven fs now → AllGiven fs outer × AllGiven (Whole (exp_lifted c) ∷ fs) before) → (gs : List Condition) →
      AreInOrder l before gs → AreInOrder l now (under c gs)
  under_whole_order before now k [] h = tt
  under_whole_order before now k (g ∷ gs) h = (
    (λ fs a. (ready fs (k fs a).0, h.0 (Whole (exp_lifted c) ∷ fs) (k fs a).1)),
    under_whole_order (before ++ (g ∷ [])) (now ++ (when g.kind (E.Imp c g.exp) ∷ []))
        (λ fs a.
        let s = split fs now (when g.kind (E.Imp c g.exp) ∷ []) a in
        let o = k fs s.0 in
        (o.0, all_split (Whole (exp_lifted c) ∷ fs) before (g ∷ []) o.1 (under_whole fs c (g ∷ []) s.1))) gs h.1,
  )
