-- Paths in range lead to a part at an offset that is a natural number.
use Rattle.std.proofs.Common.{◌≡◌, ℕ, zero, suc, ◌+◌, ◌*◌, ◌<◌, true, ◌&&◌, List, [], ◌∷◌, Option, Some, None, ℤ, pos, negsuc, ◌+ℤ◌, ◌*ℤ◌, refl, sym, ap, ap₂, ◌∙◌, subst}
use Rattle.std.proofs.lemmas.Bool.{false≢true, and_parts, and_from, ltb-true, lt-ltb}
use Rattle.c_values.specs.Name.{Name}
use Rattle.c_values.specs.Layout.{Shape, Incomplete, Scalar, Record, Row, Fields, no_fields, field, size}
use Rattle.c_values.specs.Path.{Step, Field, Index, Spot, spot, member_spot, and_then_spot, further, in_range, where_some, is_index}
use Rattle.c_values.proofs.Options.{some_is, none_some}

-- the member of this number stands at this offset
pub data IsNth : Fields → ℕ → ℕ → Shape → Type 0 where
  first : {at : ℕ} {s : Shape} {fs : Fields} → IsNth (field at s fs) zero at s
  next : {at at' k : ℕ} {s s' : Shape} {fs : Fields} → IsNth fs k at s → IsNth (field at' s' fs) (suc k) at s

-- the path leads from the shape to the part at the offset
pub data Leads : Shape → List Step → ℕ → Shape → Type 0 where
  ends : {s : Shape} → Leads s [] 0 s
  by_member : {x : _} {n align k at d : ℕ} {fs : Fields} {s s' : Shape} {ps : List Step} → IsNth fs k at s → Leads s ps d s' → Leads (Record x n align fs) (Field k ∷ ps) (at + d) s'
  by_element : {e s' : Shape} {n i d : ℕ} {ps : List Step} → i < n → Leads e ps d s' → Leads (Row e n) (Index (pos i) ∷ ps) (i * size e + d) s'

-- the parts of a path's spot
abbrev pub IsSpot : Option Spot → ℕ → Shape → Type 0
IsSpot o d s = o ≡ Some (record { offset = pos d; shape = s })

-- the path leads to this spot
abbrev LeadsTo : Shape → List Step → Spot → Type 0
LeadsTo s ps q = (d : ℕ) × (q.offset ≡ pos d) × Leads s ps d q.shape

nth_of : (fs : Fields) (k : ℕ) (q : Spot) → member_spot fs k ≡ Some q → (at : ℕ) × (q.offset ≡ pos at) × IsNth fs k at q.shape
nth_of no_fields k q h = absurd (none_some h)
nth_of (field at s fs) zero q h =
    let e : ◌≡◌ {A = Spot} (record { offset = pos at; shape = s }) q = some_is h in
    (at, ap (λ r. r.offset) (sym e), subst (λ r. IsNth (field at s fs) zero at r.shape) e first)
nth_of (field at s fs) (suc k) q h =
    let r = nth_of fs k q h in
    (r.0, r.1, next r.2)

further_parts : (z : ℤ) (o : Option Spot) (q : Spot) → further z o ≡ Some q → (r : Spot) × (o ≡ Some r) × (q.offset ≡ z +ℤ r.offset) × (q.shape ≡ r.shape)
further_parts z None q h = absurd (none_some h)
further_parts z (Some r) q h =
    let e : ◌≡◌ {A = Spot} (record { offset = z +ℤ r.offset; shape = r.shape }) q = some_is h in
    (r, refl, sym (ap (λ v. v.offset) e), sym (ap (λ v. v.shape) e))

module _ (ps : List Step) (rest : (s : Shape) (q : Spot) → in_range s ps ≡ true → spot s ps ≡ Some q → LeadsTo s ps q) where
  by_step : (z : ℤ) (s : Shape) (q : Spot) (at : ℕ) → z ≡ pos at → in_range s ps ≡ true → further z (spot s ps) ≡ Some q → (d : ℕ) × (q.offset ≡ pos (at + d)) × Leads s ps d q.shape
  by_step z s q at e h k =
      let f = further_parts z (spot s ps) q k in
      let r = rest s f.0 h f.1 in
      (r.0, f.2 ∙ ap₂ (λ a b. a +ℤ b) e r.1, subst (λ t. Leads s ps r.0 t) (sym f.3) r.2)

  member_leads : (x : Name) (n align : ℕ) (fs : Fields) (k : ℕ) (q : Spot) (o : Option Spot) → member_spot fs k ≡ o →
      where_some o (λ s. in_range s ps) ≡ true → and_then_spot o (λ r. further r.offset (spot r.shape ps)) ≡ Some q → LeadsTo (Record x n align fs) (Field k ∷ ps) q
  member_leads x n align fs k q None e h c = absurd (none_some c)
  member_leads x n align fs k q (Some r) e h c =
      let m = nth_of fs k r e in
      let f = by_step r.offset r.shape q m.0 m.1 h c in
      (m.0 + f.0, f.1, by_member m.2 f.2)

  element_leads : (e : Shape) (n : ℕ) (i : ℤ) (q : Spot) → (is_index i n && in_range e ps) ≡ true → further (i *ℤ pos (size e)) (spot e ps) ≡ Some q → LeadsTo (Row e n) (Index i ∷ ps) q
  element_leads e n (negsuc i) q h c = absurd (false≢true h)
  element_leads e n (pos i) q h c =
      let p = and_parts (is_index (pos i) n) (in_range e ps) h in
      let f = by_step (pos i *ℤ pos (size e)) e q (i * size e) refl p.1 c in
      (i * size e + f.0, f.1, by_element (ltb-true i n p.0) f.2)

pub leads_of : (s : Shape) (ps : List Step) (q : Spot) → in_range s ps ≡ true → spot s ps ≡ Some q → LeadsTo s ps q
leads_of s [] q h c =
    let e : ◌≡◌ {A = Spot} (record { offset = pos 0; shape = s }) q = some_is c in
    (0, ap (λ r. r.offset) (sym e), subst (λ r. Leads s [] 0 r.shape) e ends)
leads_of Incomplete (p ∷ ps) q h c = absurd (none_some c)
leads_of (Scalar t width) (p ∷ ps) q h c = absurd (none_some c)
leads_of (Record x n align fs) (Index i ∷ ps) q h c = absurd (none_some c)
leads_of (Row e n) (Field k ∷ ps) q h c = absurd (none_some c)
leads_of (Record x n align fs) (Field k ∷ ps) q h c = member_leads ps (λ s r. leads_of s ps r) x n align fs k q (member_spot fs k) refl h c
leads_of (Row e n) (Index i ∷ ps) q h c = element_leads ps (λ s r. leads_of s ps r) e n i q h c

nth_spot : {fs : Fields} {k at : ℕ} {s : Shape} → IsNth fs k at s → IsSpot (member_spot fs k) at s
nth_spot first = refl
nth_spot (next h) = nth_spot h

further_spot : (z : ℤ) (at d : ℕ) (o : Option Spot) (s : Shape) → z ≡ pos at → IsSpot o d s → IsSpot (further z o) (at + d) s
further_spot z at d o s e h = subst (λ y. IsSpot (further y o) (at + d) s) (sym e) (subst (λ o'. IsSpot (further (pos at) o') (at + d) s) (sym h) refl)

pub leads_in_range : {s s' : Shape} {ps : List Step} {d : ℕ} → Leads s ps d s' → in_range s ps ≡ true
leads_in_range ends = refl
leads_in_range (by_member {k} {fs} {s} {ps} m h) = subst (λ o. where_some o (λ r. in_range r ps) ≡ true) (sym (nth_spot m)) (leads_in_range h)
leads_in_range (by_element {e} {n} {i} {ps} m h) = and_from (is_index (pos i) n) (in_range e ps) (lt-ltb i n m) (leads_in_range h)

pub leads_spot : {s s' : Shape} {ps : List Step} {d : ℕ} → Leads s ps d s' → IsSpot (spot s ps) d s'
leads_spot ends = refl
leads_spot (by_member {at} {d} {s} {s'} {ps} m h) =
    subst (λ o. IsSpot (and_then_spot o (λ r. further r.offset (spot r.shape ps))) (at + d) s') (sym (nth_spot m)) (further_spot (pos at) at d (spot s ps) s' refl (leads_spot h))
leads_spot (by_element {e} {s'} {i} {d} {ps} m h) = further_spot (pos (i * size e)) (i * size e) d (spot e ps) s' refl (leads_spot h)
