-- The address of a typed place through a pointer.
use Rattle.std.proofs.Common.{◌≡◌, ℕ, ◌==◌, Bool, true, ◌&&◌, Option, Some, refl, sym, ap, ◌∙◌, subst}
use Rattle.std.proofs.lemmas.Bool.{eqb-true, eq-eqb}
use Rattle.c_values.specs.Types.{CType, Ptr, Array, same_type}
use Rattle.c_values.specs.Layout.{Shape, Row, type_of, shape_of, is_object}
use Rattle.c_values.specs.CodeSameType.{same_type-refl}
use Rattle.typing_rules.specs.Operand.{path_then}
use Rattle.typing_rules.specs.Expressions.{Tail, Nothing, LastMember, LastElement, behind, tail, address}
use Rattle.c_lang.specs.Typed as C
use Rattle.c_lang.specs.WellTyped.{Scope, has_type, has_integer_type, shape_along, leads_to, is_typed, is_typed_place, are_typed_indices}
use Rattle.typing_laws.proofs.Tests.{both, left, right, none_some, some_same}
use Rattle.typing_laws.proofs.Parts.{along_some, if_some, object_type}
use Rattle.typing_laws.proofs.Places.{IsSound, place_rooted, place_from, place_at, along_then}

-- what a path's tail says of it
abbrev pub IsTail : C.Path → Tail → Type 0
IsTail path Nothing = path ≡ C.Here
IsTail path (LastMember own) = own ≡ path
IsTail path (LastElement before n i) = path ≡ path_then before (C.Element n i C.Here)

behind_member : (k : ℕ) (path : C.Path) (t : Tail) → IsTail path t → IsTail (C.Member k path) (behind (C.Member k) (LastMember (C.Member k C.Here)) t)
behind_member k path Nothing h = ap (C.Member k) (sym h)
behind_member k path (LastMember own) h = ap (C.Member k) h
behind_member k path (LastElement before n i) h = ap (C.Member k) h

behind_element : (m : ℕ) (j : C.Expr) (path : C.Path) (t : Tail) → IsTail path t → IsTail (C.Element m j path) (behind (C.Element m j) (LastElement C.Here m j) t)
behind_element m j path Nothing h = ap (C.Element m j) h
behind_element m j path (LastMember own) h = ap (C.Element m j) h
behind_element m j path (LastElement before n i) h = ap (C.Element m j) h

tail_is : (path : C.Path) → IsTail path (tail path)
tail_is C.Here = refl
tail_is (C.Member k path) = behind_member k path (tail path) (tail_is path)
tail_is (C.Element n i path) = behind_element n i path (tail path) (tail_is path)

-- the array whose element a path ends with
ends_in_row : (s : Option Shape) (n : ℕ) (i : C.Expr) (t : CType) (u : Shape) → shape_along s (C.Element n i C.Here) ≡ Some u → type_of u ≡ t → leads_to s (Array t n) ≡ true
ends_in_row s n i t u e h = along_some s (C.Element n i C.Here) u e (λ w c k. subst (λ o. leads_to o (Array t n) ≡ true) (sym c) (of_row w k))
  where
    of_row : (w : Shape) → shape_along (Some w) (C.Element n i C.Here) ≡ Some u → leads_to (Some w) (Array t n) ≡ true
    of_row (Row e' m) k = if_some (n == m) (Some e') u k (λ same r. both (subst (λ v. same_type (type_of v) t ≡ true) (sym (some_same r)) (subst (λ v. same_type (type_of u) v ≡ true) h (same_type-refl (type_of u))))
        (eq-eqb m n (sym (eqb-true n m same))))
    of_row _ k = absurd (none_some k)

last_index : (g : Scope) (before step : C.Path) → are_typed_indices g (path_then before step) ≡ true → (are_typed_indices g before ≡ true) × (are_typed_indices g step ≡ true)
last_index g C.Here step h = (refl, h)
last_index g (C.Member k path) step h = last_index g path step h
last_index g (C.Element n i path) step h =
    let r = last_index g path step (right (has_integer_type i && is_typed g i) (are_typed_indices g (path_then path step)) h) in
    (both (left (has_integer_type i && is_typed g i) (are_typed_indices g (path_then path step)) h) r.0, r.1)

module _ (g : Scope) (h : IsSound g) (r : CType) (p : C.Expr) (path : C.Path) (t : CType) (c : is_typed_place g (C.Through r p path t) ≡ true) where
  abbrev pointer : Bool
  pointer = is_object g.layout r && (has_type (Ptr r) p && is_typed g p)

  pointed : pointer ≡ true
  pointed = left pointer (are_typed_indices g path) (place_rooted g (C.Through r p path t) c)

  of_element : (before : C.Path) (n : ℕ) (i : C.Expr) → path ≡ path_then before (C.Element n i C.Here) →
      is_typed g (C.Move C.Plus t (C.Decay (C.Through r p before (Array t n)) t) i) ≡ true
  of_element before n i e =
      let whole : is_typed_place g (C.Through r p (path_then before (C.Element n i C.Here)) t) ≡ true = subst (λ q. is_typed_place g (C.Through r p q t) ≡ true) e c in
      let at = place_at g (C.Through r p (path_then before (C.Element n i C.Here)) t) h whole in
      let indices = last_index g before (C.Element n i C.Here) (right pointer (are_typed_indices g (path_then before (C.Element n i C.Here))) (place_rooted g (C.Through r p (path_then before (C.Element n i C.Here)) t) whole)) in
      let found = sym (along_then (Some (shape_of g.layout r)) before (C.Element n i C.Here)) ∙ at.shape in
      let row = ends_in_row (shape_along (Some (shape_of g.layout r)) before) n i t (shape_of g.layout t) found (object_type g.layout t h.layout at.object) in
      let array = place_from g (C.Through r p before (Array t n)) (both pointed indices.0) row in
      both (both at.object (both (same_type-refl t) (both (both refl array) (same_type-refl t)))) (left (has_integer_type i && is_typed g i) true indices.1)

  pub address_typed : is_typed g (address r p t (tail path)) ≡ true
  address_typed = by_cases (tail path) (tail_is path)
    where
      by_cases : (a : Tail) → IsTail path a → is_typed g (address r p t a) ≡ true
      by_cases Nothing e = right (has_type (Ptr r) p) (is_typed g p) (right (is_object g.layout r) (has_type (Ptr r) p && is_typed g p) pointed)
      by_cases (LastMember own) e = both (both refl (subst (λ q. is_typed_place g (C.Through r p q t) ≡ true) (sym e) c)) (same_type-refl t)
      by_cases (LastElement before n i) e = of_element before n i e
