-- The conditions of a generated expression are ready in their order: the loads in each are known by those before it.
use Rattle.std.proofs.Common.{◌≡◌, Bool, true, false, cond, ◌&&◌, List, [], ◌∷◌, ◌++◌}
use Rattle.std.proofs.lemmas.Bool.{and_parts}
use Rattle.c_values.specs.Types.{Target, IntType, Integer, Ptr, is_signed}
use Rattle.c_values.specs.Layout.{Layout, is_object, is_scalar}
use Rattle.expression_lang.specs.Expression as E
use Rattle.expression_lang.specs.Sort.{Level, Bytes, Words, Numbers, is_lifted}
use Rattle.simpl_lang.specs.Command.{Condition}
use Rattle.ac_expr.specs.Fact.{Fact}
use Rattle.rule_heap.specs.ExpLifted.{IsReady}
use Rattle.c_lang.specs.Typed as C
use Rattle.c_lang.specs.WellTyped.{Scope, is_typed, is_typed_place, are_typed_indices, leads_to, shape_along, has_type, has_scalar_type, has_integer_type, is_in_memory}
use Rattle.generation.specs.Guards.{reading, number, under, bounds, accesses, guards, place_guards, index_guards, fits, divides, computes, shifts}
use Rattle.pipeline.specs.CommandReady.{AllGiven, AreInOrder}
use Rattle.pipeline.proofs.ExpressionsForHeaps.{split, from_more, in_order_after, under_whole_order, reading_ready, number_ready, both_typed, three_typed}

-- each condition is ready
abbrev AllReady : Layout → List Fact → List Condition → Type 0
AllReady l fs [] = Unit {0}
AllReady l fs (c ∷ cs) = IsReady l fs c.exp × AllReady l fs cs

in_any_order : (l : Layout) (before : List Condition) (cs : List Condition) → ((fs : List Fact) → AllGiven fs before → AllReady l fs cs) → AreInOrder l before cs
in_any_order l before [] h = tt
in_any_order l before (c ∷ cs) h = ((λ fs g. (h fs g).0), in_any_order l (before ++ (c ∷ [])) cs (λ fs g. (h fs (split fs before (c ∷ []) g).0).1))

if_ready : (l : Layout) (fs : List Fact) (b : Bool) (cs ds : List Condition) → AllReady l fs cs → AllReady l fs ds → AllReady l fs (cond b cs ds)
if_ready l fs true cs ds h k = h
if_ready l fs false cs ds h k = k

fits_ready : (l : Layout) (fs : List Fact) (t : Target) (v : Level) (i : IntType) (e : E.Exp) → IsReady l fs e → AllReady l fs (fits t v i e)
fits_ready l fs t Bytes i e h = if_ready l fs (is_signed i) _ [] (h, tt) tt
fits_ready l fs t Words i e h = if_ready l fs (is_signed i) _ [] (h, tt) tt
fits_ready l fs t Numbers i e h = if_ready l fs (is_signed i) _ _ (h, tt) (h, tt)

module _ (l : Layout) (fs : List Fact) (t : Target) (i : IntType) where
  divides_ready : (a b : E.Exp) → IsReady l fs a → IsReady l fs b → AllReady l fs (divides t i a b)
  divides_ready a b h k = ((k, tt), if_ready l fs (is_signed i) _ [] ((h, k), tt) tt)

  shifts_ready : (d : C.Direction) (a n : E.Exp) → IsReady l fs a → IsReady l fs n → AllReady l fs (shifts t i d a n)
  shifts_ready C.Left a n h k = (k, if_ready l fs (is_signed i) _ [] (h, ((h, (tt, k)), tt)) tt)
  shifts_ready C.Right a n h k = (k, tt)

  computes_ready : (level : Level) (op : C.Arithmetic) (a b : E.Exp) → IsReady l fs a → IsReady l fs b → AllReady l fs (computes t level i op a b)
  computes_ready level C.Add a b h k = fits_ready l fs t level i _ (number_ready l fs (Integer i) a h, number_ready l fs (Integer i) b k)
  computes_ready level C.Subtract a b h k = fits_ready l fs t level i _ (number_ready l fs (Integer i) a h, number_ready l fs (Integer i) b k)
  computes_ready level C.Multiply a b h k = fits_ready l fs t level i _ (number_ready l fs (Integer i) a h, number_ready l fs (Integer i) b k)
  computes_ready level C.Divide a b h k = divides_ready a b h k
  computes_ready level C.Remainder a b h k = divides_ready a b h k

module _ (g : Scope) (level : Level) (lifted : is_lifted level ≡ true) where
  abbrev l : Layout
  l = g.layout

  abbrev InOrder : List Condition → List Condition → Type 0
  InOrder before cs = AreInOrder l before cs

  -- from nothing is from anything
  after_any : (before cs : List Condition) → InOrder [] cs → InOrder before cs
  after_any before cs h = from_more l [] before (λ fs a. tt) cs h

  -- two expressions, one after the other
  pub two : (as' bs : List Condition) → InOrder [] as' → InOrder [] bs → InOrder [] (as' ++ bs)
  two as' bs h k = in_order_after l [] as' bs h (after_any as' bs k)

  pub truth_there : (a : C.Expr) → is_typed g a ≡ true → (fs : List Fact) → AllGiven fs (guards l level a) → IsReady l fs (reading l a).truth
  truth_there a t fs h = (reading_ready g level lifted a fs t h).truth

  pub value_there : (a : C.Expr) → is_typed g a ≡ true → (fs : List Fact) → AllGiven fs (guards l level a) → IsReady l fs (reading l a).value
  value_there a t fs h = (reading_ready g level lifted a fs t h).value

  -- conditions under one that is ready from those before
  below : (before : List Condition) (c : E.Exp) → ((fs : List Fact) → AllGiven fs before → IsReady l fs c) → (gs : List Condition) → InOrder [] gs → InOrder before (under c gs)
  below before c ready gs h = under_whole_order l c before ready [] before (λ fs a. (a, tt)) gs h

  -- the root of an access
  accesses_ready : (p : C.Place) → is_typed_place g p ≡ true → (fs : List Fact) → AllGiven fs (place_guards l level p) → AllReady l fs (accesses l level p)
  accesses_ready (C.Through u p path v) w fs h =
      let a = and_parts (is_object l u && (has_type (Ptr u) p && is_typed g p) && are_typed_indices g path) (leads_to (shape_along _ path) v) w in
      let b = and_parts (is_object l u && (has_type (Ptr u) p && is_typed g p)) (are_typed_indices g path) a.0 in
      let d = and_parts (has_type (Ptr u) p) (is_typed g p) (and_parts (is_object l u) (has_type (Ptr u) p && is_typed g p) b.0).1 in
      let s = split fs (guards l level p ++ index_guards l level path) (bounds l path) h in
      let r = value_there p d.1 fs (split fs (guards l level p) (index_guards l level path) s.0).0 in
      (r, if_ready l fs (is_lifted level) _ [] (r, tt) tt)
  accesses_ready (C.InGlobal x path v) w fs h = tt

  mutual
    pub guards_ready : (e : C.Expr) → is_typed g e ≡ true → InOrder [] (guards l level e)
    guards_ready (C.Value p) t =
        in_order_after l [] (place_guards l level p) (accesses l level p) (place_ready p t) (in_any_order l (place_guards l level p) (accesses l level p) (λ fs h. accesses_ready p t fs h))
    guards_ready (C.Convert u a) t = guards_ready a (and_parts (has_scalar_type a) (is_typed g a) (and_parts (is_scalar u) (has_scalar_type a && is_typed g a) t).1).1
    guards_ready (C.ConvertNull u a) t = guards_ready a (and_parts (has_scalar_type a) (is_typed g a) (and_parts (is_scalar u) (has_scalar_type a && is_typed g a) t).1).1
    guards_ready (C.Negate i a) t =
        let k = and_parts (has_type (Integer i) a) (is_typed g a) t in
        in_order_after l [] (guards l level a) _ (guards_ready a k.1)
        (in_any_order l (guards l level a) _ (λ fs h. fits_ready l fs l.target level i (E.Negate (number (Integer i) (reading l a).value)) (number_ready l fs (Integer i) (reading l a).value (value_there a k.1 fs h))))
    guards_ready (C.Complement i a) t = guards_ready a (and_parts (has_type (Integer i) a) (is_typed g a) t).1
    guards_ready (C.Compute op i a b) t =
        let k = both_typed (has_type (Integer i) a) (is_typed g a) (has_type (Integer i) b) (is_typed g b) t in
        in_order_after l [] (guards l level a ++ guards l level b) _ (two (guards l level a) (guards l level b) (guards_ready a k.0) (guards_ready b k.1))
        (in_any_order l (guards l level a ++ guards l level b) _ (λ fs h.
        let s = split fs (guards l level a) (guards l level b) h in
        computes_ready l fs l.target i level op (reading l a).value (reading l b).value (value_there a k.0 fs s.0) (value_there b k.1 fs s.1)))
    guards_ready (C.Combine op i a b) t =
        let k = both_typed (has_type (Integer i) a) (is_typed g a) (has_type (Integer i) b) (is_typed g b) t in two (guards l level a) (guards l level b) (guards_ready a k.0) (guards_ready b k.1)
    guards_ready (C.Shift d i a b) t =
        let k = both_typed (has_type (Integer i) a) (is_typed g a) (has_integer_type b) (is_typed g b) t in
        in_order_after l [] (guards l level a ++ guards l level b) _ (two (guards l level a) (guards l level b) (guards_ready a k.0) (guards_ready b k.1))
        (in_any_order l (guards l level a ++ guards l level b) _ (λ fs h.
        let s = split fs (guards l level a) (guards l level b) h in
        shifts_ready l fs l.target i d (reading l a).value (number (C.type_of b) (reading l b).value) (value_there a k.0 fs s.0) (number_ready l fs (C.type_of b) (reading l b).value (value_there b k.1 fs s.1))))
    guards_ready (C.Compare r i a b) t =
        let k = both_typed (has_type (Integer i) a) (is_typed g a) (has_type (Integer i) b) (is_typed g b) t in two (guards l level a) (guards l level b) (guards_ready a k.0) (guards_ready b k.1)
    guards_ready (C.Equate q u a b) t =
        let k = three_typed (is_scalar u) (has_type u a) (is_typed g a) (has_type u b) (is_typed g b) t in two (guards l level a) (guards l level b) (guards_ready a k.0) (guards_ready b k.1)
    guards_ready (C.Not a) t = guards_ready a (and_parts (has_scalar_type a) (is_typed g a) t).1
    guards_ready (C.And a b) t =
        let k = both_typed (has_scalar_type a) (is_typed g a) (has_scalar_type b) (is_typed g b) t in
        in_order_after l [] (guards l level a) (under (reading l a).truth (guards l level b)) (guards_ready a k.0)
        (below (guards l level a) (reading l a).truth (truth_there a k.0) (guards l level b) (guards_ready b k.1))
    guards_ready (C.Or a b) t =
        let k = both_typed (has_scalar_type a) (is_typed g a) (has_scalar_type b) (is_typed g b) t in
        in_order_after l [] (guards l level a) (under (E.Not (reading l a).truth) (guards l level b)) (guards_ready a k.0)
        (below (guards l level a) (E.Not (reading l a).truth) (truth_there a k.0) (guards l level b) (guards_ready b k.1))
    guards_ready (C.Choose u c a b) t =
        let q = and_parts (is_scalar u && (has_scalar_type c && is_typed g c) && (has_type u a && is_typed g a)) (has_type u b && is_typed g b) t in
        let k = three_typed (is_scalar u) (has_scalar_type c) (is_typed g c) (has_type u a) (is_typed g a) q.0 in
        let k' = and_parts (has_type u b) (is_typed g b) q.1 in
        let yes = under (reading l c).truth (guards l level a) in
        let first = in_order_after l [] (guards l level c) yes (guards_ready c k.0) (below (guards l level c) (reading l c).truth (truth_there c k.0) (guards l level a) (guards_ready a k.1)) in
        in_order_after l [] (guards l level c ++ yes) (under (E.Not (reading l c).truth) (guards l level b)) first
        (below (guards l level c ++ yes) (E.Not (reading l c).truth) (λ fs h. truth_there c k.0 fs (split fs (guards l level c) yes h).0) (guards l level b) (guards_ready b k'.1))
    guards_ready (C.Move s u p a) t =
        let k = three_typed (is_object l u) (has_type (Ptr u) p) (is_typed g p) (has_integer_type a) (is_typed g a) t in two (guards l level p) (guards l level a) (guards_ready p k.0) (guards_ready a k.1)
    guards_ready (C.MoveBy u a p) t =
        let k = three_typed (is_object l u) (has_integer_type a) (is_typed g a) (has_type (Ptr u) p) (is_typed g p) t in two (guards l level a) (guards l level p) (guards_ready a k.0) (guards_ready p k.1)
    guards_ready (C.Address p u) t = place_ready p (and_parts (is_in_memory p) (is_typed_place g p) (and_parts (is_in_memory p && is_typed_place g p) _ t).0).1
    guards_ready (C.Decay p u) t = place_ready p (and_parts (is_in_memory p) (is_typed_place g p) (and_parts (is_in_memory p && is_typed_place g p) _ t).0).1
    guards_ready _ _ = tt

    pub place_ready : (p : C.Place) → is_typed_place g p ≡ true → InOrder [] (place_guards l level p)
    place_ready (C.Through u p path v) w =
        let a = and_parts (is_object l u && (has_type (Ptr u) p && is_typed g p) && are_typed_indices g path) (leads_to (shape_along _ path) v) w in
        let b = and_parts (is_object l u && (has_type (Ptr u) p && is_typed g p)) (are_typed_indices g path) a.0 in
        let d = and_parts (has_type (Ptr u) p) (is_typed g p) (and_parts (is_object l u) (has_type (Ptr u) p && is_typed g p) b.0).1 in
        in_order_after l [] (guards l level p ++ index_guards l level path) (bounds l path) (two (guards l level p) (index_guards l level path) (guards_ready p d.1) (indices_ready path b.1))
        (in_any_order l (guards l level p ++ index_guards l level path) (bounds l path) (λ fs h. bounds_ready path b.1 fs (split fs (guards l level p) (index_guards l level path) h).1))
    place_ready (C.InGlobal x path v) w =
        let a = and_parts (are_typed_indices g path) _ w in
        in_order_after l [] (index_guards l level path) (bounds l path) (indices_ready path a.0) (in_any_order l (index_guards l level path) (bounds l path) (λ fs h. bounds_ready path a.0 fs h))

    indices_ready : (path : C.Path) → are_typed_indices g path ≡ true → InOrder [] (index_guards l level path)
    indices_ready C.Here w = tt
    indices_ready (C.Member k path) w = indices_ready path w
    indices_ready (C.Element n e path) w =
        let k = and_parts (has_integer_type e && is_typed g e) (are_typed_indices g path) w in
        two (guards l level e) (index_guards l level path) (guards_ready e (and_parts (has_integer_type e) (is_typed g e) k.0).1) (indices_ready path k.1)

    bounds_ready : (path : C.Path) → are_typed_indices g path ≡ true → (fs : List Fact) → AllGiven fs (index_guards l level path) → AllReady l fs (bounds l path)
    bounds_ready C.Here w fs h = tt
    bounds_ready (C.Member k path) w fs h = bounds_ready path w fs h
    bounds_ready (C.Element n e path) w fs h =
        let k = and_parts (has_integer_type e && is_typed g e) (are_typed_indices g path) w in
        let s = split fs (guards l level e) (index_guards l level path) h in
        (number_ready l fs (C.type_of e) (reading l e).value (value_there e (and_parts (has_integer_type e) (is_typed g e) k.0).1 fs s.0), bounds_ready path k.1 fs s.1)
