-- The conditions of a generated expression are ready for numbers in their order: what each needs is given by those before it.
use Rattle.std.proofs.Common.{◌≡◌, Bool, true, false, cond, ◌&&◌, List, [], ◌∷◌, ◌++◌, Option}
use Rattle.std.proofs.lemmas.Bool.{and_parts}
use Rattle.c_values.specs.Name.{Name}
use Rattle.c_values.specs.Types.{Target, IntType, Integer, Ptr, is_signed}
use Rattle.c_values.specs.Layout.{Layout, is_object, is_scalar}
use Rattle.expression_lang.specs.Expression as E
use Rattle.expression_lang.specs.Sort as S
use Rattle.expression_lang.specs.Sort.{Numbers}
use Rattle.expression_lang.specs.Signature.{Binder}
use Rattle.simpl_lang.specs.Command.{Condition}
use Rattle.rule_word.specs.Bases.{Surroundings}
use Rattle.c_lang.specs.Typed as C
use Rattle.c_lang.specs.WellTyped.{Scope, is_typed, is_typed_place, are_typed_indices, leads_to, shape_along, has_type, has_scalar_type, has_integer_type, is_in_memory}
use Rattle.generation.specs.Guards.{reading, number, under, bounds, accesses, guards, place_guards, index_guards, fits, divides, computes, shifts}
use Rattle.generation.proofs.SortedExpressions.{IsScope, simpl_scope}
use Rattle.pipeline.proofs.ExpressionsForHeaps.{three_typed, both_typed}
use Rattle.pipeline.proofs.ReadyWords.{IsReady}
use Rattle.pipeline.proofs.GivenRanges.{AllThere, split}
use Rattle.pipeline.proofs.ExpressionsForNumbers.{number_ready, reading_ready}
use Rattle.pipeline.proofs.CommandReady.{Under, AreInOrder, from_more, in_order_after}
use Rattle.pipeline.proofs.OrdersReady.{under_order}

module _ (same : E.Exp → E.Exp → Bool) (sg : S.Scope) (names : List Binder) (k : Surroundings) where
  abbrev Is : E.Exp → Type 0
  Is e = IsReady same sg names k e

  -- each condition is ready
  abbrev pub AllReady : List Condition → Type 0
  AllReady [] = Unit {0}
  AllReady (c ∷ cs) = Is c.exp × AllReady cs

  pub if_ready : (b : Bool) (cs ds : List Condition) → AllReady cs → AllReady ds → AllReady (cond b cs ds)
  if_ready true cs ds h i = h
  if_ready false cs ds h i = i

  pub fits_ready : (t : Target) (i : IntType) (e : E.Exp) → IsReady same sg names k e → AllReady (fits t Numbers i e)
  fits_ready t i e h = if_ready (is_signed i) _ _ (h, tt) (h, tt)

  module _ (t : Target) (i : IntType) where
    divides_ready : (a b : E.Exp) → Is a → Is b → AllReady (divides t i a b)
    divides_ready a b h j = ((j, tt), if_ready (is_signed i) _ [] ((h, j), tt) tt)

    pub shifts_ready : (d : C.Direction) (a n : E.Exp) → IsReady same sg names k a → IsReady same sg names k n →
        AllReady (shifts t i d a n)
    shifts_ready C.Left a n h j = (j, if_ready (is_signed i) _ [] (h, ((h, (tt, j)), tt)) tt)
    shifts_ready C.Right a n h j = (j, tt)

    number_is : (e : E.Exp) → Is e → Is (number (Integer i) e)
    number_is e h = number_ready same sg names k (Integer i) e h

    pub computes_ready : (op : C.Arithmetic) (a b : E.Exp) → IsReady same sg names k a → IsReady same sg names k b →
        AllReady (computes t Numbers i op a b)
    computes_ready C.Add a b h j = fits_ready t i _ (number_is a h, number_is b j)
    computes_ready C.Subtract a b h j = fits_ready t i _ (number_is a h, number_is b j)
    computes_ready C.Multiply a b h j = fits_ready t i _ (number_is a h, number_is b j)
    computes_ready C.Divide a b h j = divides_ready a b h j
    computes_ready C.Remainder a b h j = divides_ready a b h j

module _ (same : E.Exp → E.Exp → Bool) (finds : (e : E.Exp) → same e e ≡ true) (sg : S.Scope) where
  pub in_any_order : (before cs : List Condition) → Under same finds sg before (λ names k. AllReady same sg names k cs) →
      AreInOrder same finds sg before cs
  in_any_order before [] h = tt
  in_any_order before (c ∷ cs) h = (
    (λ names k a. (h names k a).0),
    in_any_order (before ++ (c ∷ [])) cs (λ names k a. (h names k (split same finds sg names k before (c ∷ []) a).0).1),
  )

  -- two lists, one after the other
  pub two : (as' bs : List Condition) → AreInOrder same finds sg [] as' → AreInOrder same finds sg [] bs →
      AreInOrder same finds sg [] (as' ++ bs)
  two as' bs h i = in_order_after same finds sg [] as' bs h (from_more same finds sg [] as' (λ names k a. tt) bs i)

module _ (same : E.Exp → E.Exp → Bool) (finds : (e : E.Exp) → same e e ≡ true) (g : Scope) (ns : Name → Option S.Scalar)
    (is : IsScope g ns) where
  abbrev l : Layout
  l = g.layout

  abbrev sg : S.Scope
  sg = simpl_scope g ns

  abbrev InOrder : List Condition → Type 0
  InOrder cs = AreInOrder same finds sg [] cs

  abbrev After : List Condition → (List Binder → Surroundings → Type 0) → Type 0
  After gs P = Under same finds sg gs P

  both : (as' bs : List Condition) → InOrder as' → InOrder bs → InOrder (as' ++ bs)
  both as' bs h i = two same finds sg as' bs h i

  parted : (names : List Binder) (k : Surroundings) (cs ds : List Condition) → AllThere same finds sg names k (cs ++ ds) →
      AllThere same finds sg names k cs × AllThere same finds sg names k ds
  parted names k cs ds h = split same finds sg names k cs ds h

  pub truth_there : (a : C.Expr) → is_typed g a ≡ true →
      Under same finds (simpl_scope g ns) (guards g.layout Numbers a)
      (λ names k. IsReady same (simpl_scope g ns) names k (reading g.layout a).truth)
  truth_there a t names k h = (reading_ready same finds g ns is names a k t h).truth

  pub value_there : (a : C.Expr) → is_typed g a ≡ true →
      Under same finds (simpl_scope g ns) (guards g.layout Numbers a)
      (λ names k. IsReady same (simpl_scope g ns) names k (reading g.layout a).value)
  value_there a t names k h = (reading_ready same finds g ns is names a k t h).value

  -- and the number that it is
  number_there : (a : C.Expr) → is_typed g a ≡ true →
      After (guards l Numbers a) (λ names k. IsReady same sg names k (number (C.type_of a) (reading l a).value))
  number_there a t names k h = number_ready same sg names k (C.type_of a) (reading l a).value (value_there a t names k h)

  -- conditions behind others, and under one that is ready from those before
  behind : (as' bs : List Condition) → InOrder as' → After as' (λ names k. AllReady same sg names k bs) → InOrder (as' ++ bs)
  behind as' bs h i = in_order_after same finds sg [] as' bs h (in_any_order same finds sg as' bs i)

  below : (before : List Condition) (c : E.Exp) → After before (λ names k. IsReady same sg names k c) → (gs : List Condition) →
      InOrder gs → AreInOrder same finds sg before (under c gs)
  below before c ready gs h = under_order same finds sg c before ready [] before (λ names k a. (a, tt)) gs h

  then_below : (before : List Condition) (c : E.Exp) (gs : List Condition) → InOrder before →
      After before (λ names k. IsReady same sg names k c) → InOrder gs → InOrder (before ++ under c gs)
  then_below before c gs h ready i = in_order_after same finds sg [] before (under c gs) h (below before c ready gs i)

  -- the root of a typed place, and its path
  record IsTypedRoot (p : C.Expr) (path : C.Path) : Type 0 where
    root : is_typed g p ≡ true
    indices : are_typed_indices g path ≡ true

  typed_root : (t : _) (p : C.Expr) (path : C.Path) (u : _) → is_typed_place g (C.Through t p path u) ≡ true → IsTypedRoot p path
  typed_root t p path u w =
      let a = and_parts (is_object l t && (has_type (Ptr t) p && is_typed g p) && are_typed_indices g path)
      (leads_to (shape_along _ path) u) w in
      let b = and_parts (is_object l t && (has_type (Ptr t) p && is_typed g p)) (are_typed_indices g path) a.0 in
      let c = and_parts (has_type (Ptr t) p) (is_typed g p)
      (and_parts (is_object l t) (has_type (Ptr t) p && is_typed g p) b.0).1 in record { root = c.1; indices = b.1 }

  accesses_ready : (p : C.Place) → is_typed_place g p ≡ true →
      After (place_guards l Numbers p) (λ names k. AllReady same sg names k (accesses l Numbers p))
  accesses_ready (C.Through t p path u) w names k h =
      let s = parted names k (guards l Numbers p ++ index_guards l Numbers path) (bounds l path) h in
      let r = value_there p (typed_root t p path u w).root names k
      (parted names k (guards l Numbers p) (index_guards l Numbers path) s.0).0 in (r, (r, tt))
  accesses_ready (C.InGlobal x path u) w names k h = tt

  mutual
    pub guards_ready : (e : C.Expr) → is_typed g e ≡ true →
        AreInOrder same finds (simpl_scope g ns) [] (guards g.layout Numbers e)
    guards_ready (C.Value p) t = behind (place_guards l Numbers p) (accesses l Numbers p) (place_ready p t) (accesses_ready p t)
    guards_ready (C.Convert u a) t =
        guards_ready a (and_parts (has_scalar_type a) (is_typed g a)
        (and_parts (is_scalar u) (has_scalar_type a && is_typed g a) t).1).1
    guards_ready (C.ConvertNull u a) t =
        guards_ready a (and_parts (has_scalar_type a) (is_typed g a)
        (and_parts (is_scalar u) (has_scalar_type a && is_typed g a) t).1).1
    guards_ready (C.Negate i a) t =
        let q = and_parts (has_type (Integer i) a) (is_typed g a) t in
        behind (guards l Numbers a) _ (guards_ready a q.1)
        (λ names k h. fits_ready same sg names k l.target i (E.Negate (number (Integer i) (reading l a).value))
        (number_ready same sg names k (Integer i) (reading l a).value (value_there a q.1 names k h)))
    guards_ready (C.Complement i a) t = guards_ready a (and_parts (has_type (Integer i) a) (is_typed g a) t).1
    guards_ready (C.Compute op i a b) t =
        let q = both_typed (has_type (Integer i) a) (is_typed g a) (has_type (Integer i) b) (is_typed g b) t in
        behind (guards l Numbers a ++ guards l Numbers b) _
        (both (guards l Numbers a) (guards l Numbers b) (guards_ready a q.0) (guards_ready b q.1))
        (λ names k h.
        let s = parted names k (guards l Numbers a) (guards l Numbers b) h in
        computes_ready same sg names k l.target i op (reading l a).value (reading l b).value (value_there a q.0 names k s.0)
        (value_there b q.1 names k s.1))
    guards_ready (C.Combine op i a b) t =
        let q = both_typed (has_type (Integer i) a) (is_typed g a) (has_type (Integer i) b) (is_typed g b) t in
        both (guards l Numbers a) (guards l Numbers b) (guards_ready a q.0) (guards_ready b q.1)
    guards_ready (C.Shift d i a b) t =
        let q = both_typed (has_type (Integer i) a) (is_typed g a) (has_integer_type b) (is_typed g b) t in
        behind (guards l Numbers a ++ guards l Numbers b) _
        (both (guards l Numbers a) (guards l Numbers b) (guards_ready a q.0) (guards_ready b q.1))
        (λ names k h.
        let s = parted names k (guards l Numbers a) (guards l Numbers b) h in
        shifts_ready same sg names k l.target i d (reading l a).value (number (C.type_of b) (reading l b).value)
        (value_there a q.0 names k s.0) (number_there b q.1 names k s.1))
    guards_ready (C.Compare r i a b) t =
        let q = both_typed (has_type (Integer i) a) (is_typed g a) (has_type (Integer i) b) (is_typed g b) t in
        both (guards l Numbers a) (guards l Numbers b) (guards_ready a q.0) (guards_ready b q.1)
    guards_ready (C.Equate o u a b) t =
        let q = three_typed (is_scalar u) (has_type u a) (is_typed g a) (has_type u b) (is_typed g b) t in
        both (guards l Numbers a) (guards l Numbers b) (guards_ready a q.0) (guards_ready b q.1)
    guards_ready (C.Not a) t = guards_ready a (and_parts (has_scalar_type a) (is_typed g a) t).1
    guards_ready (C.And a b) t =
        let q = both_typed (has_scalar_type a) (is_typed g a) (has_scalar_type b) (is_typed g b) t in
        then_below (guards l Numbers a) (reading l a).truth (guards l Numbers b) (guards_ready a q.0) (truth_there a q.0)
        (guards_ready b q.1)
    guards_ready (C.Or a b) t =
        let q = both_typed (has_scalar_type a) (is_typed g a) (has_scalar_type b) (is_typed g b) t in
        then_below (guards l Numbers a) (E.Not (reading l a).truth) (guards l Numbers b) (guards_ready a q.0) (truth_there a q.0)
        (guards_ready b q.1)
    guards_ready (C.Choose u c a b) t =
        let q = and_parts (is_scalar u && (has_scalar_type c && is_typed g c) && (has_type u a && is_typed g a))
        (has_type u b && is_typed g b) t in
        let r = three_typed (is_scalar u) (has_scalar_type c) (is_typed g c) (has_type u a) (is_typed g a) q.0 in
        let r' = and_parts (has_type u b) (is_typed g b) q.1 in
        let yes = under (reading l c).truth (guards l Numbers a) in
        then_below (guards l Numbers c ++ yes) (E.Not (reading l c).truth) (guards l Numbers b)
        (then_below (guards l Numbers c) (reading l c).truth (guards l Numbers a) (guards_ready c r.0) (truth_there c r.0)
        (guards_ready a r.1))
        (λ names k h. truth_there c r.0 names k (parted names k (guards l Numbers c) yes h).0) (guards_ready b r'.1)
    guards_ready (C.Move s u p a) t =
        let q = three_typed (is_object l u) (has_type (Ptr u) p) (is_typed g p) (has_integer_type a) (is_typed g a) t in
        both (guards l Numbers p) (guards l Numbers a) (guards_ready p q.0) (guards_ready a q.1)
    guards_ready (C.MoveBy u a p) t =
        let q = three_typed (is_object l u) (has_integer_type a) (is_typed g a) (has_type (Ptr u) p) (is_typed g p) t in
        both (guards l Numbers a) (guards l Numbers p) (guards_ready a q.0) (guards_ready p q.1)
    guards_ready (C.Address p u) t =
        place_ready p (and_parts (is_in_memory p) (is_typed_place g p) (and_parts (is_in_memory p && is_typed_place g p) _ t).0).1
    guards_ready (C.Decay p u) t =
        place_ready p (and_parts (is_in_memory p) (is_typed_place g p) (and_parts (is_in_memory p && is_typed_place g p) _ t).0).1
    guards_ready _ _ = tt

    pub place_ready : (p : C.Place) → is_typed_place g p ≡ true →
        AreInOrder same finds (simpl_scope g ns) [] (place_guards g.layout Numbers p)
    place_ready (C.Through t p path u) w =
        let r = typed_root t p path u w in
        behind (guards l Numbers p ++ index_guards l Numbers path) (bounds l path)
        (both (guards l Numbers p) (index_guards l Numbers path) (guards_ready p r.root) (indices_ready path r.indices))
        (λ names k h. bounds_ready path r.indices names k (parted names k (guards l Numbers p) (index_guards l Numbers path) h).1)
    place_ready (C.InGlobal x path u) w =
        let a = and_parts (are_typed_indices g path) _ w in
        behind (index_guards l Numbers path) (bounds l path) (indices_ready path a.0) (bounds_ready path a.0)

    indices_ready : (path : C.Path) → are_typed_indices g path ≡ true → InOrder (index_guards l Numbers path)
    indices_ready C.Here w = tt
    indices_ready (C.Member n path) w = indices_ready path w
    indices_ready (C.Element n e path) w =
        let q = and_parts (has_integer_type e && is_typed g e) (are_typed_indices g path) w in
        both (guards l Numbers e) (index_guards l Numbers path)
        (guards_ready e (and_parts (has_integer_type e) (is_typed g e) q.0).1) (indices_ready path q.1)

    bounds_ready : (path : C.Path) → are_typed_indices g path ≡ true →
        After (index_guards l Numbers path) (λ names k. AllReady same sg names k (bounds l path))
    bounds_ready C.Here w names k h = tt
    bounds_ready (C.Member n path) w names k h = bounds_ready path w names k h
    bounds_ready (C.Element n e path) w names k h =
        let q = and_parts (has_integer_type e && is_typed g e) (are_typed_indices g path) w in
        let s = parted names k (guards l Numbers e) (index_guards l Numbers path) h in
        (number_there e (and_parts (has_integer_type e) (is_typed g e) q.0).1 names k s.0, bounds_ready path q.1 names k s.1)
