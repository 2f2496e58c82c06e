-- The members of a struct, one after the other.
use Rattle.std.proofs.Common.{◌≡◌, ℕ, zero, suc, ◌+◌, ◌-◌, ◌*◌, ◌/◌, ◌%◌, ◌<◌, ◌≤◌, nat_le, nat_lt, true, false, ◌&&◌, cond, List, Option, Some, None, pos, refl, sym, ap, ap₂, ◌∙◌, subst, arith}
use Rattle.std.proofs.lemmas.Nat.{div-add-mod'}
use Rattle.std.proofs.lemmas.Bool.Decides.{nat_tests}
use Rattle.std.proofs.lemmas.Bool.{and_parts, and_from, cond-true, cond-false, leb-true, le-leb, lt-ltb}
use Rattle.c_values.specs.Types.{CType, Struct, Array}
use Rattle.c_values.specs.Name.{Name}
use Rattle.c_values.specs.Layout.{Layout, IsLayout, Shape, Incomplete, Scalar, Record, Row, Fields, no_fields, field, size, type_of, shape_of, size_of, is_object, is_complete, largest_size}
use Rattle.c_values.specs.Path.{Step, Field, Index, Spot, member_spot, step_spot}
use Rattle.c_values.proofs.Formed.{IsFormed, AreFormed, size_some, members_end}
use Rattle.c_values.proofs.Laid.{shape_good, shape_type}
use Rattle.c_memory.specs.Tags.{root_path, member_path, prefixed}
use Rattle.c_memory.specs.CodeInner.{inner_path, LiesIn, LiesInNone}
use Rattle.c_memory.proofs.Objects.{object_complete}
use Rattle.c_memory.proofs.Walks.{member_object, element_object}

abbrev pub fields_of : Shape → Fields
fields_of Incomplete = no_fields
fields_of (Scalar t width) = no_fields
fields_of (Record x n align fs) = fs
fields_of (Row e n) = no_fields

abbrev pub drop_fields : ℕ → Fields → Fields
drop_fields zero fs = fs
drop_fields (suc k) no_fields = no_fields
drop_fields (suc k) (field at s fs) = drop_fields k fs

step_fields : (s : Shape) (k : ℕ) → step_spot s (Field k) ≡ member_spot (fields_of s) k
step_fields Incomplete k = refl
step_fields _ _ = refl

no_more : (fs : Fields) (k : ℕ) → member_spot fs k ≡ None → drop_fields k fs ≡ no_fields
no_more no_fields zero h = refl
no_more no_fields (suc k) h = refl
no_more (field at s fs) zero h = absurd cc
no_more (field at s fs) (suc k) h = no_more fs k h

spot_same : (at at' : ℕ) (s s' : Shape) → ◌≡◌ {A = Option Spot} (Some (record { offset = pos at; shape = s })) (Some (record { offset = pos at'; shape = s' })) → (at ≡ at') × (s ≡ s')
spot_same at at' s s' h =
    let same : ◌≡◌ {A = Spot} (record { offset = pos at; shape = s }) (record { offset = pos at'; shape = s' }) = some_same h in
    (pos_same (ap (λ q. q.offset) same), ap (λ q. q.shape) same)
  where
    some_same : {A : Type 0} {a b : A} → ◌≡◌ {A = Option A} (Some a) (Some b) → a ≡ b
    some_same e = cc

    pos_same : {m n : ℕ} → pos m ≡ pos n → m ≡ n
    pos_same e = cc

one_more : (fs : Fields) (k at : ℕ) (s : Shape) → member_spot fs k ≡ Some (record { offset = pos at; shape = s }) → drop_fields k fs ≡ field at s (drop_fields (k + 1) fs)
one_more no_fields k at s h = absurd cc
one_more (field at' s' fs) zero at s h = let e = spot_same at' at s' s h in ap₂ (λ n r. field n r fs) e.0 e.1
one_more (field at' s' fs) (suc k) at s h =
    let e : suc k + 1 ≡ suc (k + 1) = omega arith in
    one_more fs k at s h ∙ ap (λ n. field at s (drop_fields n (field at' s' fs))) (sym e)

-- after the last member
pub members_done : (s : Shape) (k : ℕ) → step_spot s (Field k) ≡ None → drop_fields k (fields_of s) ≡ no_fields
members_done s k h = no_more (fields_of s) k (sym (step_fields s k) ∙ h)

-- at a member
pub members_next : (s : Shape) (k at : ℕ) (r : Shape) → step_spot s (Field k) ≡ Some (record { offset = pos at; shape = r }) → drop_fields k (fields_of s) ≡ field at r (drop_fields (k + 1) (fields_of s))
members_next s k at r h = one_more (fields_of s) k at r (sym (step_fields s k) ∙ h)

some_bytes : (at offset n k bytes : ℕ) → at ≤ offset → 0 < bytes → offset + bytes + k < n → at + suc k < n
some_bytes at offset n k bytes h some lt = omega arith

before_end : (align n at k : ℕ) (fs : Fields) (q : Spot) → AreFormed align n at fs → member_spot fs k ≡ Some q → at + k < n
before_end align n at k no_fields q f h = absurd cc
before_end align n at zero (field offset s fs) q f h =
    let end : offset + size s ≤ n = members_end align n (offset + size s) fs f.others in
    omega (arith, f.after, size_some s f.first)
before_end align n at (suc k) (field offset s fs) q f h =
    some_bytes at offset n k (size s) f.after (size_some s f.first) (before_end align n (offset + size s) k fs q f.others h)

few_members : (s : Shape) (k : ℕ) (q : Spot) → IsFormed s → step_spot s (Field k) ≡ Some q → k < size s
few_members Incomplete k q f h = absurd f
few_members (Record x n align fs) k q f h = let lt = before_end align n 0 k fs q f.members h in omega (arith, lt)
few_members _ k q f h = absurd cc

-- a struct has fewer members than bytes
pub member_number : (l : Layout) (t : CType) (k : ℕ) (q : Spot) → IsLayout l → is_object l t ≡ true → step_spot (shape_of l t) (Field k) ≡ Some q → k < 65536
member_number l t k q h object e =
    let whole = and_parts (is_complete (shape_of l t)) (nat_le (size_of l t) largest_size) object in
    let lt = few_members (shape_of l t) k q (shape_good l h t whole.0).formed e in
    let small = leb-true (size_of l t) largest_size whole.1 in
    omega (arith, lt, small)

pub object_some : (l : Layout) (t : CType) → IsLayout l → is_object l t ≡ true → 0 < size_of l t
object_some l t h object = size_some (shape_of l t) (shape_good l h t (object_complete l t object)).formed

index_split : (offset bytes size : ℕ) → bytes ≡ size → 0 < bytes → (offset / bytes) * size + offset % bytes ≡ offset
index_split offset bytes size e some = let h = div-add-mod' offset bytes in ap (λ n. (offset / bytes) * n + offset % bytes) (sym e) ∙ h

index_path : (e : Shape) (n : ℕ) (t : CType) (offset bytes : ℕ) → bytes ≡ size e → offset / bytes < n →
    inner_path (Row e n) t offset ≡ prefixed (Index (pos (offset / bytes))) (root_path e t (offset % bytes))
index_path e n t offset bytes same lt =
    let P : ℕ → Option (List Step) = λ b. prefixed (Index (pos (offset / b))) (root_path e t (offset % b)) in
    let here : nat_lt (offset / size e) n ≡ true = lt-ltb (offset / size e) n (subst (λ b. offset / b < n) same lt) in
    cond-true (nat_lt (offset / size e) n) (P (size e)) None here ∙ ap P (sym same)

-- an offset in an array lies in an element
pub lies_in_element : (l : Layout) (u : CType) (n offset bytes : ℕ) → is_object l (Array u n) ≡ true → bytes ≡ size_of l u → 0 < bytes → offset / bytes < n →
    LiesIn l (Array u n) offset (offset / bytes) u (offset % bytes)
lies_in_element l u n offset bytes object e some lt = record {
  at = (offset / bytes) * size_of l u;
  here = refl;
  split = index_split offset bytes (size_of l u) e some;
  object = element_object l u n object;
  path = λ t. index_path (shape_of l u) n t offset bytes e lt;
}

no_index : (e : Shape) (n : ℕ) (t : CType) (offset bytes : ℕ) → bytes ≡ size e → n ≤ offset / bytes → inner_path (Row e n) t offset ≡ None
no_index e n t offset bytes same le =
    let past : n ≤ offset / size e = subst (λ b. n ≤ offset / b) same le in
    cond-false (nat_lt (offset / size e) n) (prefixed (Index (pos (offset / size e))) (root_path e t (offset % size e))) None (out (offset / size e) past)
  where
    out : (i : ℕ) → n ≤ i → nat_lt i n ≡ false
    out i h = grind (arith, nat_tests)

-- an offset past an array lies in none
pub lies_in_no_element : (l : Layout) (u : CType) (n offset bytes : ℕ) → bytes ≡ size_of l u → n ≤ offset / bytes → LiesInNone l (Array u n) offset
lies_in_no_element l u n offset bytes e le = record { path = λ t. no_index (shape_of l u) n t offset bytes e le }

-- the members of a struct's shape
inner_members : (s : Shape) (x : Name) (t : CType) (d : ℕ) → type_of s ≡ Struct x → inner_path s t d ≡ member_path (fields_of s) 0 t d
inner_members (Row e n) x t d h = absurd cc
inner_members _ _ _ _ _ = refl

pub within_member : (at d n : ℕ) → at ≤ d → d - at < n → (nat_le at d && nat_lt d (at + n)) ≡ true
within_member at d n h k = and_from (nat_le at d) (nat_lt d (at + n)) (le-leb at d h) (lt-ltb d (at + n) (omega arith))

pub before_member : (at d n : ℕ) → d < at → (nat_le at d && nat_lt d (at + n)) ≡ false
before_member at d n h = grind (arith, nat_tests)

pub after_member : (at d n : ℕ) → at + n ≤ d → (nat_le at d && nat_lt d (at + n)) ≡ false
after_member at d n h = grind (arith, nat_tests)

module _ (l : Layout) (h : IsLayout l) (x : Name) (object : is_object l (Struct x) ≡ true) (offset : ℕ) where
  -- the search has come to the member of this number
  abbrev pub HasCome : ℕ → Type 0
  HasCome k = (t : CType) → member_path (fields_of (shape_of l (Struct x))) 0 t offset ≡ member_path (drop_fields k (fields_of (shape_of l (Struct x)))) k t offset

  own_type : type_of (shape_of l (Struct x)) ≡ Struct x
  own_type = shape_type l h (Struct x) (object_complete l (Struct x) object)

  module _ (k at : ℕ) (u : CType) (here : step_spot (shape_of l (Struct x)) (Field k) ≡ Some (record { offset = pos at; shape = shape_of l u })) (come : HasCome k) where
    at_member : (t : CType) → member_path (fields_of (shape_of l (Struct x))) 0 t offset ≡
        cond (nat_le at offset && nat_lt offset (at + size_of l u)) (prefixed (Field k) (root_path (shape_of l u) t (offset - at))) (member_path (drop_fields (k + 1) (fields_of (shape_of l (Struct x)))) (suc k) t offset)
    at_member t = come t ∙ ap (λ fs. member_path fs k t offset) (members_next (shape_of l (Struct x)) k at (shape_of l u) here)

    pub lies_in_member : at ≤ offset → offset - at < size_of l u → LiesIn l (Struct x) offset k u (offset - at)
    lies_in_member low high = record {
      at = at;
      here = here;
      split = omega arith;
      object = member_object l x k at u h object here;
      path = λ t.
          inner_members (shape_of l (Struct x)) x t offset own_type
          ∙ at_member t
          ∙ cond-true (nat_le at offset && nat_lt offset (at + size_of l u)) (prefixed (Field k) (root_path (shape_of l u) t (offset - at))) (member_path (drop_fields (k + 1) (fields_of (shape_of l (Struct x)))) (suc k) t offset) (within_member at offset (size_of l u) low high);
    }

    pub past_member : (nat_le at offset && nat_lt offset (at + size_of l u)) ≡ false → HasCome (k + 1)
    past_member out t =
        let next : suc k ≡ k + 1 = omega arith in
        at_member t
        ∙ cond-false (nat_le at offset && nat_lt offset (at + size_of l u)) (prefixed (Field k) (root_path (shape_of l u) t (offset - at))) (member_path (drop_fields (k + 1) (fields_of (shape_of l (Struct x)))) (suc k) t offset) out
        ∙ ap (λ n. member_path (drop_fields (k + 1) (fields_of (shape_of l (Struct x)))) n t offset) next

  pub lies_in_no_member : (k : ℕ) → step_spot (shape_of l (Struct x)) (Field k) ≡ None → HasCome k → LiesInNone l (Struct x) offset
  lies_in_no_member k e come = record {
    path = λ t. inner_members (shape_of l (Struct x)) x t offset own_type ∙ come t ∙ ap (λ fs. member_path fs k t offset) (members_done (shape_of l (Struct x)) k e);
  }
