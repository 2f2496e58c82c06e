-- Of a value with a part replaced: the part reads as the new one, and parts apart from it read as before.
use Rattle.std.proofs.Common.{◌≡◌, ◌≢◌, ℕ, zero, suc, ◌+◌, ◌*◌, ◌<◌, ◌≤◌, ◌⊎◌, inl, inr, List, ◌∷◌, Some, pos, refl, sym, ap, ◌∙◌, subst, arith}
use Rattle.std.proofs.lemmas.Bool.{cases_order}
use Rattle.c_values.specs.Value.{Value, Values, Bits, Number, Truth, Parts, more, count, part, with_part}
use Rattle.c_values.specs.Layout.{Shape, size}
use Rattle.c_values.specs.Path.{Step, Field, Index, place_of, sel, upd, HasShape}
use Rattle.c_values.proofs.Formed.{IsFormed, size_some}
use Rattle.c_values.proofs.Leads.{IsNth, Leads, ends, by_member, by_element}
use Rattle.c_values.proofs.Geometry.{AreApart, nth_within, nth_same, leads_within}
use Rattle.c_values.proofs.Shaped.{members_count, member_shaped, elements_count, element_shaped, part_replaced, count_replaced, placed_field, placed_index, sel_step, upd_step}

part_kept : (vs : Values) (k j : ℕ) (w : Value) → k ≢ j → part (with_part vs k w) j ≡ part vs j
part_kept (more v vs) zero zero w h = absurd (h refl)
part_kept (more v vs) (suc k) (suc j) w h = part_kept vs k j w (λ e. h (ap suc e))
part_kept _ _ _ _ _ = refl

-- where a step leads among parts that have one replaced
module _ (vs : Values) (v : Value) (p : Step) (ps : List Step) (k : ℕ) (at : place_of p (count vs) ≡ Some k) (less : k < count vs) where
  same_step : sel (upd (part vs k) ps v) ps ≡ v → sel (upd (Parts vs) (p ∷ ps) v) (p ∷ ps) ≡ v
  same_step rest =
      let w = upd (part vs k) ps v in
      ap (λ u. sel u (p ∷ ps)) (upd_step vs p ps v k at)
      ∙ sel_step (with_part vs k w) p ps k (ap (λ n. place_of p n) (count_replaced vs k w) ∙ at)
      ∙ ap (λ u. sel u ps) (part_replaced vs k w less) ∙ rest

  other_step : (q : Step) (qs : List Step) (j : ℕ) → place_of q (count vs) ≡ Some j → (k ≡ j → sel (upd (part vs k) ps v) qs ≡ sel (part vs k) qs) → sel (upd (Parts vs) (p ∷ ps) v) (q ∷ qs) ≡ sel (Parts vs) (q ∷ qs)
  other_step q qs j at' rest =
      let w = upd (part vs k) ps v in
      ap (λ u. sel u (q ∷ qs)) (upd_step vs p ps v k at)
      ∙ sel_step (with_part vs k w) q qs j (ap (λ n. place_of q n) (count_replaced vs k w) ∙ at')
      ∙ by_cases (cases_order k j) ∙ sym (sel_step vs q qs j at')
    where
      new : Values
      new = with_part vs k (upd (part vs k) ps v)

      by_cases : (k ≡ j) ⊎ ((k < j) ⊎ (j < k)) → sel (part new j) qs ≡ sel (part vs j) qs
      by_cases (inl c) =
          ap (λ i. sel (part new i) qs) (sym c) ∙ ap (λ u. sel u qs) (part_replaced vs k (upd (part vs k) ps v) less) ∙ rest c ∙ ap (λ i. sel (part vs i) qs) c
      by_cases (inr (inl c)) = ap (λ u. sel u qs) (part_kept vs k j (upd (part vs k) ps v) (λ e. omega arith))
      by_cases (inr (inr c)) = ap (λ u. sel u qs) (part_kept vs k j (upd (part vs k) ps v) (λ e. omega arith))

-- the part that was replaced
pub sel_upd : {s s' : Shape} {ps : List Step} {d : ℕ} (u v : Value) → HasShape s u → Leads s ps d s' → sel (upd u ps v) ps ≡ v
sel_upd u v h ends = refl
sel_upd (Parts vs) v h (by_member {k} {ps} m p) =
    let less = members_count vs h m in
    same_step vs v (Field k) ps k (placed_field k (count vs) less) less (sel_upd (part vs k) v (member_shaped vs h m) p)
sel_upd (Parts vs) v h (by_element {e} {n} {i} {ps} lt p) =
    let less = subst (λ c. i < c) (sym (elements_count (λ w. HasShape e w) n vs h)) lt in
    same_step vs v (Index (pos i)) ps i (placed_index i (count vs) less) less (sel_upd (part vs i) v (element_shaped (λ w. HasShape e w) n i vs h lt) p)
sel_upd _ _ h _ = absurd h

-- the whole is not apart from its part
not_apart : (n e m : ℕ) → 0 < m → e + m ≤ n → AreApart 0 n e m → ⊥
not_apart n e m some end (inl h) = omega arith
not_apart n e m some end (inr h) = omega arith

turned : (d m e n : ℕ) → AreApart d m e n → AreApart e n d m
turned d m e n (inl h) = inr h
turned d m e n (inr h) = inl h

apart_inner : (a d m e n : ℕ) → AreApart (a + d) m (a + e) n → AreApart d m e n
apart_inner a d m e n (inl h) = inl (omega arith)
apart_inner a d m e n (inr h) = inr (omega arith)

-- a part apart from it
pub sel_upd_apart : {s s₁ s₂ : Shape} {ps qs : List Step} {d e : ℕ} (u v : Value) → IsFormed s → HasShape s u → Leads s ps d s₁ → Leads s qs e s₂ → AreApart d (size s₁) e (size s₂) → sel (upd u ps v) qs ≡ sel u qs
sel_upd_apart {s₂} {e} u v f h (ends {s}) q apart =
    let w = leads_within f q in
    absurd (not_apart (size s) e (size s₂) (size_some s₂ w.formed) w.ends apart)
sel_upd_apart {s} {s₁} {s₂} {d = c} u v f h (by_member {x} m p) ends apart =
    let w = leads_within f (by_member {x = x} m p) in
    absurd (not_apart (size s) c (size s₁) (size_some s₁ w.formed) w.ends (turned c (size s₁) 0 (size s) apart))
sel_upd_apart {s} {s₁} {s₂} {d = c} u v f h (by_element lt p) ends apart =
    let w = leads_within f (by_element lt p) in
    absurd (not_apart (size s) c (size s₁) (size_some s₁ w.formed) w.ends (turned c (size s₁) 0 (size s) apart))
sel_upd_apart (Parts vs) v f h (by_member {n} {align} {k} {at} {d} {fs} {s} {s' = s₁} {ps} m p) (by_member {k = k'} {at = at'} {d = e} {s = t} {s' = s₂} {ps = qs} m' q) apart =
    let less = members_count vs h m in
    let less' = members_count vs h m' in
    other_step vs v (Field k) ps k (placed_field k (count vs) less) less (Field k') qs k' (placed_field k' (count vs) less')
    (λ c. let r = nth_same (subst (λ j. IsNth fs j at s) c m) m' in
    sel_upd_apart (part vs k) v (nth_within align n 0 f.members m).0.formed (member_shaped vs h m) p (subst (λ z. Leads z qs e s₂) (sym r.1) q)
    (apart_inner at d (size s₁) e (size s₂) (subst (λ b. AreApart (at + d) (size s₁) (b + e) (size s₂)) (sym r.0) apart)))
sel_upd_apart (Bits w) v f h (by_member m p) (by_member m' q) apart = absurd h
sel_upd_apart (Number z) v f h (by_member m p) (by_member m' q) apart = absurd h
sel_upd_apart (Truth b) v f h (by_member m p) (by_member m' q) apart = absurd h
sel_upd_apart (Parts vs) v f h (by_element {e = el} {s' = s₁} {n} {i} {d} {ps} lt p) (by_element {s' = s₂} {i = j} {d = e} {ps = qs} lt' q) apart =
    let counted = elements_count (λ w. HasShape el w) n vs h in
    let less = subst (λ c. i < c) (sym counted) lt in
    let less' = subst (λ c. j < c) (sym counted) lt' in
    other_step vs v (Index (pos i)) ps i (placed_index i (count vs) less) less (Index (pos j)) qs j (placed_index j (count vs) less')
    (λ c. sel_upd_apart (part vs i) v f.element (element_shaped (λ w. HasShape el w) n i vs h lt) p q
    (apart_inner (i * size el) d (size s₁) e (size s₂) (subst (λ b. AreApart (i * size el + d) (size s₁) (b * size el + e) (size s₂)) (sym c) apart)))
sel_upd_apart (Bits w) v f h (by_element lt p) (by_element lt' q) apart = absurd h
sel_upd_apart (Number z) v f h (by_element lt p) (by_element lt' q) apart = absurd h
sel_upd_apart (Truth b) v f h (by_element lt p) (by_element lt' q) apart = absurd h
