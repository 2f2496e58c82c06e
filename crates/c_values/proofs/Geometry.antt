-- Where the parts of a shape lie: within it, aligned, and apart from each other.
use Rattle.std.proofs.Common.{◌≡◌, ◌≢◌, ℕ, ◌+◌, ◌*◌, ◌<◌, ◌≤◌, ◌⊎◌, inl, inr, List, ◌∷◌, ◌++◌, pos, refl, sym, ap, subst, arith}
use Rattle.std.proofs.Math.Nat.{dvd_refl, dvd_trans, dvd-add, dvd-mul_left_of_dvd, dvd-zero}
use Rattle.std.proofs.lemmas.Bool.{cases_order}
use Prim.Native.Nat.{◌∣◌}
use Rattle.c_values.specs.Name.{Name}
use Rattle.c_values.specs.Layout.{Shape, Record, Fields, size, alignment}
use Rattle.c_values.specs.Path.{Step, Field, Index}
use Rattle.c_values.proofs.Formed.{IsFormed, AreFormed, size_multiple, members_end}
use Rattle.c_values.proofs.Leads.{IsNth, first, next, Leads, ends, by_member, by_element}

-- a part at an offset lies well in a whole of this size and alignment
pub record IsWithin (align n d : ℕ) (s : Shape) : Type 0 where
  pub formed : IsFormed s
  pub ends : d + size s ≤ n
  pub aligned : alignment s ∣ d
  pub divides : alignment s ∣ align

pub nth_within : {k d : ℕ} {s : Shape} {fs : Fields} (align n at : ℕ) → AreFormed align n at fs → IsNth fs k d s → IsWithin align n d s × (at ≤ d)
nth_within align n at h (first {at = d} {s} {fs}) =
    (record { formed = h.first; ends = members_end align n (d + size s) fs h.others; aligned = h.aligned; divides = h.within }, h.after)
nth_within align n at h (next {at' = c} {s' = t} m) =
    let r = nth_within align n (c + size t) h.others m in
    (r.0, omega (arith, r.1, h.after))

element_ends : (i n step d e : ℕ) → i < n → d + e ≤ step → i * step + d + e ≤ n * step
element_ends i n step d e h k = grind arith

pub leads_within : {s s' : Shape} {ps : List Step} {d : ℕ} → IsFormed s → Leads s ps d s' → IsWithin (alignment s) (size s) d s'
leads_within h (ends {s}) = record { formed = h; ends = omega arith; aligned = dvd-zero (alignment s); divides = dvd_refl (alignment s) }
leads_within h (by_member {n} {align} {at} {d} {s} {s'} m p) =
    let w = (nth_within align n 0 h.members m).0 in
    let r = leads_within w.formed p in
    record {
      formed = r.formed;
      ends = omega (arith, r.ends, w.ends);
      aligned = dvd-add (alignment s') (dvd_trans (alignment s') r.divides w.aligned) r.aligned;
      divides = dvd_trans (alignment s') r.divides w.divides;
    }
leads_within h (by_element {e} {s'} {n} {i} {d} m p) =
    let r = leads_within h.element p in
    record {
      formed = r.formed;
      ends = element_ends i n (size e) d (size s') m r.ends;
      aligned = dvd-add (alignment s') (dvd-mul_left_of_dvd (alignment s') (dvd_trans (alignment s') r.divides (size_multiple e h.element)) i) r.aligned;
      divides = r.divides;
    }

pub nth_same : {k at at' : ℕ} {s s' : Shape} {fs : Fields} → IsNth fs k at s → IsNth fs k at' s' → (at ≡ at') × (s ≡ s')
nth_same first first = (refl, refl)
nth_same (next m) (next m') = nth_same m m'

pub nth_order : {k k' d d' : ℕ} {s s' : Shape} {fs : Fields} (align n at : ℕ) → AreFormed align n at fs → IsNth fs k d s → IsNth fs k' d' s' → k < k' → d + size s ≤ d'
nth_order align n at h first first lt = absurd (omega arith)
nth_order align n at h (next m) first lt = absurd (omega arith)
nth_order align n at h (first {at = d} {s}) (next m') lt = (nth_within align n (d + size s) h.others m').1
nth_order align n at h (next {at' = c} {s' = t} m) (next m') lt = nth_order align n (c + size t) h.others m m' (omega arith)

-- two parts without a byte in common
abbrev pub AreApart : ℕ → ℕ → ℕ → ℕ → Type 0
AreApart d m e n = (d + m ≤ e) ⊎ (e + n ≤ d)

apart_in : (a d m e n : ℕ) → AreApart d m e n → AreApart (a + d) m (a + e) n
apart_in a d m e n (inl h) = inl (omega arith)
apart_in a d m e n (inr h) = inr (omega arith)

elements_order : (i j step d m e : ℕ) → i < j → d + m ≤ step → i * step + d + m ≤ j * step + e
elements_order i j step d m e h k = grind arith

pub prefix_next : (p : Step) (ps qs : List Step) → ((r : List Step) → (p ∷ ps) ++ r ≢ p ∷ qs) → (r : List Step) → ps ++ r ≢ qs
prefix_next p ps qs h r e = h r (ap (λ x. p ∷ x) e)

-- neither path goes on from the other
pub record AreSplit (ps qs : List Step) : Type 0 where
  pub left : (r : List Step) → ps ++ r ≢ qs
  pub right : (r : List Step) → qs ++ r ≢ ps

split_next : (p : Step) (ps qs : List Step) → AreSplit (p ∷ ps) (p ∷ qs) → AreSplit ps qs
split_next p ps qs h = record { left = prefix_next p ps qs h.left; right = prefix_next p qs ps h.right }

turned : (d m e n : ℕ) → AreApart e n d m → AreApart d m e n
turned d m e n (inl h) = inr h
turned d m e n (inr h) = inl h

members_apart : (x : Name) (align n : ℕ) (fs : Fields) (k k' a a' d e : ℕ) (t t' s₁ s₂ : Shape) (ps qs : List Step) → IsFormed (Record x n align fs) → IsNth fs k a t → IsNth fs k' a' t' →
    d + size s₁ ≤ size t → e + size s₂ ≤ size t' → (k ≡ k' → t ≡ t' → AreApart d (size s₁) e (size s₂)) → AreApart (a + d) (size s₁) (a' + e) (size s₂)
members_apart x align n fs k k' a a' d e t t' s₁ s₂ ps qs h m m' p q same = by_cases (cases_order k k')
  where
    by_cases : (k ≡ k') ⊎ ((k < k') ⊎ (k' < k)) → AreApart (a + d) (size s₁) (a' + e) (size s₂)
    by_cases (inl c) =
        let r = nth_same (subst (λ j. IsNth fs j a t) c m) m' in
        subst (λ b. AreApart (a + d) (size s₁) (b + e) (size s₂)) r.0 (apart_in a d (size s₁) e (size s₂) (same c r.1))
    by_cases (inr (inl c)) = let o : a + size t ≤ a' = nth_order align n 0 h.members m m' c in inl (omega arith)
    by_cases (inr (inr c)) = let o : a' + size t' ≤ a = nth_order align n 0 h.members m' m c in inr (omega arith)

elements_apart : (i j d e m n step : ℕ) → d + m ≤ step → e + n ≤ step → (i ≡ j → AreApart d m e n) → AreApart (i * step + d) m (j * step + e) n
elements_apart i j d e m n step p q same = by_cases (cases_order i j)
  where
    by_cases : (i ≡ j) ⊎ ((i < j) ⊎ (j < i)) → AreApart (i * step + d) m (j * step + e) n
    by_cases (inl c) = subst (λ b. AreApart (i * step + d) m (b * step + e) n) c (apart_in (i * step) d m e n (same c))
    by_cases (inr (inl c)) = inl (elements_order i j step d m e c p)
    by_cases (inr (inr c)) = inr (elements_order j i step e n d c q)

-- neither of two paths goes on from the other, so their parts have no byte in common
pub leads_apart : {s s₁ s₂ : Shape} {ps qs : List Step} {d e : ℕ} → IsFormed s → Leads s ps d s₁ → Leads s qs e s₂ → AreSplit ps qs → AreApart d (size s₁) e (size s₂)
leads_apart {qs} h ends q split = absurd (split.left qs refl)
leads_apart h (by_member {k} {ps} m p) ends split = absurd (split.right (Field k ∷ ps) refl)
leads_apart h (by_element {i} {ps} m p) ends split = absurd (split.right (Index (pos i) ∷ ps) refl)
leads_apart h (by_member {x} {n} {align} {k} {at = a} {d} {fs} {s = t} {s' = s₁} {ps} m p) (by_member {k = k'} {at = a'} {d = e} {s = t'} {s' = s₂} {ps = qs} m' q) split =
    let w = (nth_within align n 0 h.members m).0.formed in
    let w' = (nth_within align n 0 h.members m').0.formed in
    members_apart x align n fs k k' a a' d e t t' s₁ s₂ ps qs h m m' (leads_within w p).ends (leads_within w' q).ends
    (λ c same. leads_apart w p (subst (λ z. Leads z qs e s₂) (sym same) q) (split_next (Field k) ps qs (subst (λ j. AreSplit (Field k ∷ ps) (Field j ∷ qs)) (sym c) split)))
leads_apart h (by_element {e} {s' = s₁} {n} {i} {d} {ps} m p) (by_element {s' = s₂} {i = j} {d = c} {ps = qs} m' q) split =
    elements_apart i j d c (size s₁) (size s₂) (size e) (leads_within h.element p).ends (leads_within h.element q).ends
    (λ same. leads_apart h.element p q (split_next (Index (pos i)) ps qs (subst (λ z. AreSplit (Index (pos i) ∷ ps) (Index (pos z) ∷ qs)) (sym same) split)))
