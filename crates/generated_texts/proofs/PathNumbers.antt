-- The members and the lengths along a typed path are those of an object, which has few bytes.
use Rattle.std.proofs.Common.{◌≡◌, ℕ, zero, suc, ◌+◌, ◌*◌, ◌^◌, ◌<◌, ◌≤◌, ◌==◌, true, List, [], ◌∷◌, Option, Some, None, refl, sym, ap, ◌∙◌, subst, arith}
use Rattle.std.proofs.lemmas.Bool.{false≢true, and_parts, leb-true, eqb-true, and_parts as all_of_two}
use Rattle.std.proofs.Math.Nat.{mul-le-mul_left, mul-le-mul_right}
use Rattle.c_values.specs.Name.{Name, same_name}
use Rattle.c_values.specs.Types.{CType}
use Rattle.c_values.specs.Layout.{Layout, IsLayout, GlobalVar, Shape, Record, Row, Fields, no_fields, field, size, shape_of, is_object, is_complete, global_type, largest_size}
use Rattle.c_values.proofs.Formed.{IsFormed, AreFormed, size_some, members_end}
use Rattle.c_values.proofs.Laid.{shape_good}
use Rattle.c_values.proofs.Options.{none_some, some_is}
use Rattle.c_lang.specs.Typed as C
use Rattle.c_lang.specs.WellTyped.{are_globals, member_shape, shape_along, leads_to, shape_in}
use Rattle.c_lang.proofs.Paths.{no_way}
use Rattle.generation.proofs.ExactTests.{by_cases, where_true, where_false}

-- numbers that have 32 bits
abbrev pub PathFits : C.Path → Type 0
PathFits C.Here = Unit {0}
PathFits (C.Member k path) = (k < 2 ^ 32) × PathFits path
PathFits (C.Element n e path) = (n < 2 ^ 32) × PathFits path

as_many : (m k : ℕ) → 0 < k → m * k ≤ 65536 → m < 2 ^ 32
as_many m k h l =
    let some : 1 ≤ k = omega arith in
    let more : m * 1 ≤ m * k = mul-le-mul_left m some in
    omega arith

element_within : (m k : ℕ) → 0 < m → m * k ≤ 65536 → k ≤ 65536
element_within m k h l =
    let some : 1 ≤ m = omega arith in
    let more : 1 * k ≤ m * k = mul-le-mul_right k some in
    omega arith

module _ (u : CType) (path : C.Path) (later : (s : Shape) → IsFormed s → size s ≤ 65536 → leads_to (shape_along (Some s) path) u ≡ true → PathFits path) where
  member_fits : (align n at : ℕ) (fs : Fields) → AreFormed align n at fs → n ≤ 65536 → (k : ℕ) → leads_to (shape_along (member_shape fs k) path) u ≡ true → (at + k < n) × PathFits path
  member_fits align n at no_fields h l k e = absurd (no_way path u e)
  member_fits align n at (field offset s fs) h l zero e =
      let some : 0 < size s = size_some s h.first in
      let end : offset + size s ≤ n = members_end align n (offset + size s) fs h.others in
      (omega (arith, h.after), later s h.first (omega arith) e)
  member_fits align n at (field offset s fs) h l (suc k) e =
      let some : 0 < size s = size_some s h.first in
      let rest = member_fits align n (offset + size s) fs h.others l k e in
      let below : offset + size s + k < n = rest.0 in
      (omega (arith, h.after), rest.1)

path_fits : (u : CType) (path : C.Path) (s : Shape) → IsFormed s → size s ≤ 65536 → leads_to (shape_along (Some s) path) u ≡ true → PathFits path
path_fits u C.Here s h l e = tt
path_fits u (C.Member k path) (Record x n align fs) h l e =
    let found = member_fits u path (path_fits u path) align n 0 fs h.members l k e in
    let below : 0 + k < n = found.0 in
    (omega arith, found.1)
path_fits u (C.Element n e' path) (Row s m) h l e =
    let some : 0 < size s = size_some s h.element in
    let few : m < 2 ^ 32 = as_many m (size s) some l in
    by_cases _ (n == m)
    (λ b. (subst (λ k. k < 2 ^ 32) (sym (eqb-true n m b)) few, path_fits u path s h.element (element_within m (size s) h.some l) (sym (ap (λ o. leads_to o u) (where_true (n == m) (shape_along (Some s) path) None b)) ∙ e)))
    (λ b. absurd (no_way C.Here u (sym (ap (λ o. leads_to o u) (where_false (n == m) (shape_along (Some s) path) None b)) ∙ e)))
path_fits _ _ _ _ _ e = absurd (false≢true e)

object_fits : (l : Layout) → IsLayout l → (t u : CType) → is_object l t ≡ true → (path : C.Path) → leads_to (shape_along (Some (shape_of l t)) path) u ≡ true → PathFits path
object_fits l w t u h path e =
    let p = and_parts (is_complete (shape_of l t)) _ h in
    path_fits u path (shape_of l t) (shape_good l w t p.0).formed (leb-true (size (shape_of l t)) largest_size p.1) e

-- a path from a global leads into an object
module _ (l : Layout) (w : IsLayout l) where
  pub through_fits : (t u : CType) (path : C.Path) → is_object l t ≡ true → leads_to (shape_along (Some (shape_of l t)) path) u ≡ true → PathFits path
  through_fits t u path h e = object_fits l w t u h path e

  global_is_object : (vs : List GlobalVar) → are_globals l vs ≡ true → (x : Name) (t : CType) → global_type vs x ≡ Some t → is_object l t ≡ true
  global_is_object [] h x t e = absurd (none_some e)
  global_is_object (v ∷ vs) h x t e =
      let p = all_of_two (is_object l v.type) (are_globals l vs) h in
      by_cases _ (same_name v.name x)
      (λ b. subst (λ u. is_object l u ≡ true) (some_is (sym (where_true (same_name v.name x) (Some v.type) (global_type vs x) b) ∙ e)) p.0)
      (λ b. global_is_object vs p.1 x t (sym (where_false (same_name v.name x) (Some v.type) (global_type vs x) b) ∙ e))

  -- and the global is there
  pub global_fits : (vs : List GlobalVar) → are_globals l vs ≡ true → (x : Name) (u : CType) (path : C.Path) → leads_to (shape_along (shape_in l (global_type vs x)) path) u ≡ true → PathFits path × ((t : CType) × (global_type vs x ≡ Some t))
  global_fits vs h x u path e = by_type (global_type vs x) refl e
    where
      by_type : (o : Option CType) → global_type vs x ≡ o → leads_to (shape_along (shape_in l o) path) u ≡ true → PathFits path × ((t : CType) × (global_type vs x ≡ Some t))
      by_type None k c = absurd (no_way path u c)
      by_type (Some t) k c = (object_fits l w t u (global_is_object vs h x t k) path c, (t, k))
