-- The search finds each part of a root type, by the one path that leads to it.
use Rattle.std.proofs.Common.{◌≡◌, ℕ, suc, ◌+◌, ◌-◌, ◌*◌, ◌<◌, ◌≤◌, nat_eq, nat_lt, nat_le, true, false, ◌&&◌, cond, List, [], Some, None, pos, refl, sym, ap, ap₂, ◌∙◌, arith, add-zero, zero-add}
use Rattle.std.proofs.lemmas.Bool.{false≢true, and_from, and_left, and_right, lt-ltb, le-leb, le-ltb, cond-true, cond-false, false_from_ne_true}
use Rattle.std.proofs.lemmas.Nat.{div-mul-add, mod-mul-add}
use Rattle.c_values.specs.Name.{Name}
use Rattle.c_values.specs.Types.{CType, Struct, Target, same_type}
use Rattle.c_values.specs.Layout.{Shape, Incomplete, Scalar, Record, Row, Fields, size, type_of, shape_from}
use Rattle.c_values.specs.Path.{Step, Field, Index}
use Rattle.c_values.proofs.Formed.{IsFormed, AreFormed, size_some}
use Rattle.c_values.proofs.Leads.{IsNth, first, next, Leads, ends, by_member, by_element}
use Rattle.c_values.proofs.Geometry.{nth_within, leads_within}
use Rattle.c_values.proofs.Laid.{IsLaid}
use Rattle.c_values.proofs.Parts.{nth_laid, leads_laid, laid_shape}
use Rattle.c_values.specs.CodeSameType.{type_is, same_type-refl}
use Rattle.c_values.proofs.Height.{height, highest, nth_lower, leads_lower}
use Rattle.c_memory.specs.Tags.{is_root_type, prefixed, root_path, member_path}

found_here : (s : Shape) → IsFormed s → is_root_type (type_of s) ≡ true → root_path s (type_of s) 0 ≡ Some []
found_here Incomplete f r = absurd f
found_here (Scalar u width) f r = cond-true (same_type u u && nat_eq 0 0) (Some []) None (and_from (same_type u u) (nat_eq 0 0) (same_type-refl u) refl)
found_here (Record x n align fs) f r =
    cond-true (same_type (Struct x) (Struct x) && nat_eq 0 0) (Some []) (member_path fs 0 (Struct x) 0) (and_from (same_type (Struct x) (Struct x)) (nat_eq 0 0) (same_type-refl (Struct x)) refl)
found_here (Row e n) f r = absurd (false≢true r)

nth_found : {k at : ℕ} {s : Shape} {fs : Fields} (align n from j : ℕ) (t : CType) (d : ℕ) → AreFormed align n from fs → IsNth fs k at s → d < size s →
    member_path fs j t (at + d) ≡ prefixed (Field (j + k)) (root_path s t d)
nth_found align n from j t d f (first {at} {s} {fs}) less =
    cond-true (nat_le at (at + d) && nat_lt (at + d) (at + size s)) _ (member_path fs (suc j) t (at + d))
    (and_from (nat_le at (at + d)) (nat_lt (at + d) (at + size s)) (le-leb at (at + d) (omega arith)) (lt-ltb (at + d) (at + size s) (omega arith)))
    ∙ ap₂ (λ i c. prefixed (Field i) (root_path s t c)) (sym (add-zero j)) (back at d)
  where
    back : (at d : ℕ) → at + d - at ≡ d
    back at d = omega arith
nth_found align n from j t d f (next {at} {at'} {k} {s} {s' = s₀} {fs} m) less =
    let after : at' + size s₀ ≤ at = (nth_within align n (at' + size s₀) f.others m).1 in
    cond-false (nat_le at' (at + d) && nat_lt (at + d) (at' + size s₀)) _ (member_path fs (suc j) t (at + d))
    (and_right (nat_le at' (at + d)) (nat_lt (at + d) (at' + size s₀)) (le-ltb (at + d) (at' + size s₀) (omega arith)))
    ∙ nth_found align n (at' + size s₀) (suc j) t d f.others m less
    ∙ ap (λ i. prefixed (Field i) (root_path s t d)) (counted j k)
  where
    counted : (j k : ℕ) → suc j + k ≡ j + suc k
    counted j k = omega arith

element_found : (e : Shape) (n i d : ℕ) (t : CType) → i < n → d < size e → root_path (Row e n) t (i * size e + d) ≡ prefixed (Index (pos i)) (root_path e t d)
element_found e n i d t lt less =
    ap₂ (λ q r. cond (nat_lt q n) (prefixed (Index (pos q)) (root_path e t r)) None) (div-mul-add i (size e) d less) (mod-mul-add i (size e) d less)
    ∙ cond-true (nat_lt i n) (prefixed (Index (pos i)) (root_path e t d)) None (lt-ltb i n lt)

module _ (target : Target) (structs : Name → Shape) where
  -- a struct is no part of its member
  not_within : (x : Name) (n align : ℕ) (fs : Fields) (s : Shape) → IsLaid target structs (Record x n align fs) → IsLaid target structs s → height s ≤ highest fs → same_type (Struct x) (type_of s) ≡ false
  not_within x n align fs s h h' low = false_from_ne_true (same_type (Struct x) (type_of s)) (λ e. clash (itself e))
    where
      itself : same_type (Struct x) (type_of s) ≡ true → Record x n align fs ≡ s
      itself e = sym h.known ∙ ap (shape_from target structs) (type_is (Struct x) (type_of s) e) ∙ laid_shape target structs s h'

      clash : Record x n align fs ≡ s → ⊥
      clash e = let k : suc (highest fs) ≡ height s = ap height e in omega arith

  -- a path to a part of a root type is the one that the search finds
  pub leads_found : {s s' : Shape} {ps : List Step} {d : ℕ} → IsFormed s → IsLaid target structs s → Leads s ps d s' → is_root_type (type_of s') ≡ true → root_path s (type_of s') d ≡ Some ps
  leads_found f h (ends {s}) root = found_here s f root
  leads_found f h (by_member {x} {n} {align} {k} {at} {d} {fs} {s} {s'} {ps} m p) root =
      let w = (nth_within align n 0 f.members m).0 in
      let inner = leads_within w.formed p in
      let some = size_some s' inner.formed in
      let less : d < size s = omega (arith, some, inner.ends) in
      let own = nth_laid target structs h.members m in
      let low : height s' ≤ highest fs = omega (arith, nth_lower m, leads_lower p) in
      cond-false (same_type (Struct x) (type_of s') && nat_eq (at + d) 0) (Some []) (member_path fs 0 (type_of s') (at + d))
      (and_left (same_type (Struct x) (type_of s')) (nat_eq (at + d) 0) (not_within x n align fs s' h (leads_laid target structs own p) low))
      ∙ nth_found align n 0 0 (type_of s') d f.members m less
      ∙ ap₂ (λ i o. prefixed (Field i) o) (zero-add k) (leads_found w.formed own p root)
  leads_found f h (by_element {e} {s'} {n} {i} {d} {ps} lt p) root =
      let inner = leads_within f.element p in
      let some = size_some s' inner.formed in
      let less : d < size e = omega (arith, some, inner.ends) in
      element_found e n i d (type_of s') lt less ∙ ap (prefixed (Index (pos i))) (leads_found f.element h p root)
