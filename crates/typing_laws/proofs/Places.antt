-- Typed places, and one step more behind their paths.
use Rattle.std.proofs.Common.{◌≡◌, ℕ, ◌==◌, Bool, true, false, cond, ◌&&◌, Option, Some, None, refl, sym, ap, ◌∙◌, subst}
use Rattle.std.proofs.lemmas.Bool.{false≢true, eq-eqb, cond-true}
use Rattle.c_values.specs.Name.{Name}
use Rattle.c_values.specs.Types.{CType, Ptr, Array, same_type}
use Rattle.c_values.specs.Layout.{IsLayout, Shape, Incomplete, Scalar, Record, Row, type_of, shape_of, is_object, global_type}
use Rattle.c_values.specs.CodeSameType.{type_is, same_type-refl}
use Rattle.typing_rules.specs.Operand.{path_then, place_then}
use Rattle.c_lang.specs.Typed as C
use Rattle.c_lang.specs.WellTyped.{Scope, has_type, has_integer_type, member_shape, shape_along, leads_to, shape_in, is_typed, is_typed_place, are_typed_indices}
use Rattle.c_lang.proofs.Paths.{none_along}
use Rattle.typing_laws.proofs.Tests.{both, left, right, none_some, some_same}
use Rattle.typing_laws.proofs.Parts.{IsOwn, object_own, own_object, object_type, along_some, along_own, element_own}

-- a layout that can be, and globals that are objects
pub record IsSound (g : Scope) : Type 0 where
  pub layout : IsLayout g.layout
  pub objects : (x : Name) (t : CType) → global_type g.globals x ≡ Some t → is_object g.layout t ≡ true

abbrev pub root_of : Scope → C.Place → Option Shape
root_of g (C.Through t p path u) = Some (shape_of g.layout t)
root_of g (C.InGlobal x path u) = shape_in g.layout (global_type g.globals x)

abbrev pub path_in : C.Place → C.Path
path_in (C.Through t p path u) = path
path_in (C.InGlobal x path u) = path

-- where a path leads, and which type that has
leads : (o : Option Shape) (u : CType) → leads_to o u ≡ true → (s : Shape) × (o ≡ Some s) × (type_of s ≡ u)
leads None u h = absurd (false≢true h)
leads (Some s) u h = (s, refl, type_is (type_of s) u h)

leads_from : (o : Option Shape) (u : CType) (s : Shape) → o ≡ Some s → type_of s ≡ u → leads_to o u ≡ true
leads_from o u s e c = subst (λ p. leads_to p u ≡ true) (sym e) (subst (λ v. same_type (type_of s) v ≡ true) c (same_type-refl (type_of s)))

-- the shape at the end of a typed place is that of its type, which is an object
pub record IsAt (g : Scope) (p : C.Place) : Type 0 where
  pub shape : shape_along (root_of g p) (path_in p) ≡ Some (shape_of g.layout (C.place_type p))
  pub object : is_object g.layout (C.place_type p) ≡ true

at_own : (g : Scope) (p : C.Place) (s : Shape) → shape_along (root_of g p) (path_in p) ≡ Some s → type_of s ≡ C.place_type p → IsOwn g.layout s → IsAt g p
at_own g p s e c o = record {
  shape = e ∙ ap Some (sym o.own ∙ ap (shape_of g.layout) c);
  object = subst (λ u. is_object g.layout u ≡ true) c o.object;
}

-- what is asked of a place but for where it leads
abbrev pub is_rooted : Scope → C.Place → Bool
is_rooted g (C.Through t p path u) = is_object g.layout t && (has_type (Ptr t) p && is_typed g p) && are_typed_indices g path
is_rooted g (C.InGlobal x path u) = are_typed_indices g path

abbrev pub leads_well : Scope → C.Place → Bool
leads_well g p = leads_to (shape_along (root_of g p) (path_in p)) (C.place_type p)

pub place_rooted : (g : Scope) (p : C.Place) → is_typed_place g p ≡ true → is_rooted g p ≡ true
place_rooted g (C.Through t p path u) h = left (is_rooted g (C.Through t p path u)) (leads_well g (C.Through t p path u)) h
place_rooted g (C.InGlobal x path u) h = left (are_typed_indices g path) (leads_well g (C.InGlobal x path u)) h

pub place_leads : (g : Scope) (p : C.Place) → is_typed_place g p ≡ true → leads_well g p ≡ true
place_leads g (C.Through t p path u) h = right (is_rooted g (C.Through t p path u)) (leads_well g (C.Through t p path u)) h
place_leads g (C.InGlobal x path u) h = right (are_typed_indices g path) (leads_well g (C.InGlobal x path u)) h

pub place_from : (g : Scope) (p : C.Place) → is_rooted g p ≡ true → leads_well g p ≡ true → is_typed_place g p ≡ true
place_from g (C.Through t p path u) h k = both h k
place_from g (C.InGlobal x path u) h k = both h k

pub root_object : (g : Scope) (t : CType) (p : C.Expr) (path : C.Path) (u : CType) → is_typed_place g (C.Through t p path u) ≡ true → is_object g.layout t ≡ true
root_object g t p path u h =
    let r = left (is_object g.layout t && (has_type (Ptr t) p && is_typed g p)) (are_typed_indices g path) (place_rooted g (C.Through t p path u) h) in
    left (is_object g.layout t) (has_type (Ptr t) p && is_typed g p) r

global_own : (g : Scope) (o : Option CType) (s : Shape) → IsLayout g.layout → ((t : CType) → o ≡ Some t → is_object g.layout t ≡ true) → shape_in g.layout o ≡ Some s → IsOwn g.layout s
global_own g None s h k e = absurd (none_some e)
global_own g (Some t) s h k e = subst (IsOwn g.layout) (some_same e) (object_own g.layout t h (k t refl))

root_own : (g : Scope) (p : C.Place) (s : Shape) → IsSound g → is_typed_place g p ≡ true → root_of g p ≡ Some s → IsOwn g.layout s
root_own g (C.Through t p path u) s h c e = subst (IsOwn g.layout) (some_same e) (object_own g.layout t h.layout (root_object g t p path u c))
root_own g (C.InGlobal x path u) s h c e = global_own g (global_type g.globals x) s h.layout (h.objects x) e

pub place_at : (g : Scope) (p : C.Place) → IsSound g → is_typed_place g p ≡ true → IsAt g p
place_at g p h c =
    let r = leads (shape_along (root_of g p) (path_in p)) (C.place_type p) (place_leads g p c) in
    along_some (root_of g p) (path_in p) r.0 r.1 (λ s e k. at_own g p r.0 r.1 r.2 (along_own g.layout s (path_in p) r.0 h.layout (root_own g p s h c e) k))

-- a path and one behind it
pub along_then : (s : Option Shape) (path step : C.Path) → shape_along s (path_then path step) ≡ shape_along (shape_along s path) step
along_then s C.Here step = refl
along_then (Some (Record x n align fs)) (C.Member k path) step = along_then (member_shape fs k) path step
along_then (Some (Row e m)) (C.Element n i path) step = by_cases (n == m) (along_then (Some e) path step)
  where
    by_cases : (b : Bool) → shape_along (Some e) (path_then path step) ≡ shape_along (shape_along (Some e) path) step →
        cond b (shape_along (Some e) (path_then path step)) None ≡ shape_along (cond b (shape_along (Some e) path) None) step
    by_cases true h = h
    by_cases false h = sym (none_along step)
along_then None (C.Member k path) step = sym (none_along step)
along_then (Some Incomplete) (C.Member k path) step = sym (none_along step)
along_then (Some (Scalar t w)) (C.Member k path) step = sym (none_along step)
along_then (Some (Row e n)) (C.Member k path) step = sym (none_along step)
along_then None (C.Element n i path) step = sym (none_along step)
along_then (Some Incomplete) (C.Element n i path) step = sym (none_along step)
along_then (Some (Scalar t w)) (C.Element n i path) step = sym (none_along step)
along_then (Some (Record x b a fs)) (C.Element n i path) step = sym (none_along step)

pub indices_then : (g : Scope) (path step : C.Path) → are_typed_indices g path ≡ true → are_typed_indices g step ≡ true → are_typed_indices g (path_then path step) ≡ true
indices_then g C.Here step h k = k
indices_then g (C.Member m path) step h k = indices_then g path step h k
indices_then g (C.Element n i path) step h k =
    both (left (has_integer_type i && is_typed g i) (are_typed_indices g path) h) (indices_then g path step (right (has_integer_type i && is_typed g i) (are_typed_indices g path) h) k)

rooted_then : (g : Scope) (p : C.Place) (step : C.Path) (t : CType) → is_rooted g p ≡ true → are_typed_indices g step ≡ true → is_rooted g (place_then p step t) ≡ true
rooted_then g (C.Through r p path u) step t h k =
    let front = is_object g.layout r && (has_type (Ptr r) p && is_typed g p) in
    both (left front (are_typed_indices g path) h) (indices_then g path step (right front (are_typed_indices g path) h) k)
rooted_then g (C.InGlobal x path u) step t h k = indices_then g path step h k

along_place : (g : Scope) (p : C.Place) (step : C.Path) (t : CType) → shape_along (root_of g (place_then p step t)) (path_in (place_then p step t)) ≡ shape_along (shape_along (root_of g p) (path_in p)) step
along_place g (C.Through r p path u) step t = along_then (Some (shape_of g.layout r)) path step
along_place g (C.InGlobal x path u) step t = along_then (shape_in g.layout (global_type g.globals x)) path step

type_then : (p : C.Place) (step : C.Path) (t : CType) → C.place_type (place_then p step t) ≡ t
type_then (C.Through r p path u) step t = refl
type_then (C.InGlobal x path u) step t = refl

-- a step from what lies at a place
pub place_further : (g : Scope) (p : C.Place) (step : C.Path) (t : CType) → IsSound g → is_typed_place g p ≡ true → are_typed_indices g step ≡ true →
    shape_along (Some (shape_of g.layout (C.place_type p))) step ≡ Some (shape_of g.layout t) → type_of (shape_of g.layout t) ≡ t → is_typed_place g (place_then p step t) ≡ true
place_further g p step t h c k e own =
    let a = place_at g p h c in
    place_from g (place_then p step t) (rooted_then g p step t (place_rooted g p c) k)
    (leads_from _ (C.place_type (place_then p step t)) (shape_of g.layout t) (along_place g p step t ∙ ap (λ o. shape_along o step) a.shape ∙ e) (own ∙ sym (type_then p step t)))

-- an element of an array that lies at a place
pub place_element : (g : Scope) (p : C.Place) (i : C.Expr) (t : CType) (n : ℕ) → IsSound g → is_typed_place g p ≡ true → C.place_type p ≡ Array t n →
    (has_integer_type i && is_typed g i) ≡ true → is_typed_place g (place_then p (C.Element n i C.Here) t) ≡ true
place_element g p i t n h c e k =
    let array : is_object g.layout (Array t n) ≡ true = subst (λ u. is_object g.layout u ≡ true) e (place_at g p h c).object in
    let own = element_own g.layout (shape_of g.layout t) n h.layout (row_own array) in
    place_further g p (C.Element n i C.Here) t h c (both k refl)
    (subst (λ u. shape_along (Some (shape_of g.layout u)) (C.Element n i C.Here) ≡ Some (shape_of g.layout t)) (sym e) (cond-true (n == n) (Some (shape_of g.layout t)) None (eq-eqb n n refl)))
    (object_type g.layout t h.layout (own_object g.layout t h.layout own))
  where
    row_own : is_object g.layout (Array t n) ≡ true → IsOwn g.layout (Row (shape_of g.layout t) n)
    row_own o = object_own g.layout (Array t n) h.layout o
