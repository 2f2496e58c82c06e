-- To store a part and then load the whole is to change that part of the loaded value.
use Rattle.std.proofs.Common.{◌≡◌, ◌≢◌, ℕ, zero, suc, ◌+◌, ◌*◌, ◌%◌, ◌<◌, ◌≤◌, inl, inr, nat_lt, List, Option, Some, None, pos, sym, ap, ap₂, ◌∙◌, subst, arith, add-zero, add_assoc, lt-ltb}
use Rattle.std.proofs.lemmas.Bool.{cond-true}
use Rattle.c_values.specs.Value.{Value, Values, Parts, more, count, part, with_part}
use Rattle.c_values.specs.Layout.{Shape, Fields, size, alignment}
use Rattle.c_values.specs.Path.{Step, Field, Index, place_of, with_changed, upd, HasShape}
use Rattle.c_values.proofs.Formed.{IsFormed, AreFormed, members_end}
use Rattle.c_values.proofs.Leads.{IsNth, first, next, Leads, ends, by_member, by_element}
use Rattle.c_values.proofs.Geometry.{IsWithin, AreApart, nth_within, leads_within}
use Rattle.c_memory.specs.Memory.{load, loaded_members, loaded_elements, store}
use Rattle.c_memory.proofs.Modulus.{apart_addresses}
use Rattle.c_memory.proofs.Frame.{Misses, store_frame, spares}
use Rattle.c_memory.proofs.RoundTrip.{AgreeOn, load_same, members_same, elements_same, stored_back}
use Rattle.c_memory.proofs.LoadedParts.{count_elements, part_elements, count_members, part_members}

module _ (space : ℕ) (bytes bytes' : ℕ → ℕ) where
  -- the same but for m bytes from b on
  abbrev pub SameBut : ℕ → ℕ → Type 0
  SameBut b m = (x : ℕ) → Misses space b m x → bytes' x ≡ bytes x

  -- the same at a part that lies apart from what differs
  pub agree_apart : (a at m c n : ℕ) → at + m ≤ space → c + n ≤ space → AreApart at m c n → SameBut (a + at) m → AgreeOn space (a + c) n bytes' bytes
  agree_apart a at m c n fit fit' apart same i lt = same ((a + c + i) % space) (λ j less e. clash j less apart (ap (λ b. b % space) (sym (add_assoc a at j)) ∙ e ∙ ap (λ b. b % space) (add_assoc a c i)))
    where
      clash : (j : ℕ) → j < m → AreApart at m c n → (a + (at + j)) % space ≡ (a + (c + i)) % space → ⊥
      clash j less (inl h) e = apart_addresses space a (at + j) (c + i) (omega arith) (omega arith) e
      clash j less (inr h) e = apart_addresses space a (c + i) (at + j) (omega arith) (omega arith) (sym e)

  -- a member changes, and the others stay
  nth_changed : {k at : ℕ} {s : Shape} {fs : Fields} (align n from a : ℕ) → AreFormed align n from fs → n ≤ space → IsNth fs k at s → SameBut (a + at) (size s) →
      loaded_members space bytes' fs a ≡ with_part (loaded_members space bytes fs a) k (load space bytes' s (a + at))
  nth_changed align n from a f fit (first {at} {s} {fs}) same =
      let end : at + size s ≤ n = members_end align n (at + size s) fs f.others in
      ap (λ vs. more (load space bytes' s (a + at)) vs)
      (members_same space bytes' bytes fs align n (at + size s) a f.others
      (λ i after lt. same ((a + i) % space) (λ j less e. apart_addresses space a (at + j) i (omega arith) (omega arith) (ap (λ b. b % space) (sym (add_assoc a at j)) ∙ e))))
  nth_changed align n from a f fit (next {at} {at'} {k} {s} {s' = t} {fs} m) same =
      let w = nth_within align n (at' + size t) f.others m in
      let end : at + size s ≤ n = w.0.ends in
      let after : at' + size t ≤ at = w.1 in
      ap₂ (λ v vs. more v vs)
      (load_same space bytes' bytes t (a + at') f.first (agree_apart a at (size s) at' (size t) (omega arith) (omega arith) (inr after) same))
      (nth_changed align n (at' + size t) a f.others fit m same)

  -- an element changes, and the others stay
  element_changed : (e : Shape) → IsFormed e → (a n i : ℕ) → i < n → n * size e ≤ space → SameBut (a + i * size e) (size e) →
      loaded_elements (λ b. load space bytes' e b) (size e) a n ≡ with_part (loaded_elements (λ b. load space bytes e b) (size e) a n) i (load space bytes' e (a + i * size e))
  element_changed e f a zero i lt fit same = absurd (omega arith)
  element_changed e f a (suc n) zero lt fit same =
      ap₂ (λ v vs. more v vs) (ap (λ b. load space bytes' e b) (here a (size e)))
      (elements_same space bytes' bytes e (λ b k. load_same space bytes' bytes e b f k) (a + size e) n
      (agree_apart a (0 * size e) (size e) (size e) (n * size e) (once n (size e) fit) (rest n (size e) fit) (inl (before (size e))) same))
    where
      here : (a step : ℕ) → a ≡ a + 0 * step
      here a step = omega arith

      once : (n step : ℕ) → suc n * step ≤ space → 0 * step + step ≤ space
      once n step k = omega arith

      rest : (n step : ℕ) → suc n * step ≤ space → step + n * step ≤ space
      rest n step k = omega arith

      before : (step : ℕ) → 0 * step + step ≤ step
      before step = omega arith
  element_changed e f a (suc n) (suc i) lt fit same =
      ap₂ (λ v vs. more v vs)
      (load_same space bytes' bytes e a f (subst (λ b. AgreeOn space b (size e) bytes' bytes) (add-zero a)
      (agree_apart a (suc i * size e) (size e) 0 (size e) (whole n i (size e) lt fit) (once n (size e) fit) (inr (after i (size e))) same)))
      (element_changed e f (a + size e) n i (omega arith) (rest n (size e) fit) (subst (λ b. SameBut b (size e)) (there a i (size e)) same)
      ∙ ap (λ b. with_part (loaded_elements (λ c. load space bytes e c) (size e) (a + size e) n) i (load space bytes' e b)) (sym (there a i (size e))))
    where
      there : (a i step : ℕ) → a + suc i * step ≡ a + step + i * step
      there a i step = omega arith

      once : (n step : ℕ) → suc n * step ≤ space → 0 + step ≤ space
      once n step k = omega arith

      rest : (n step : ℕ) → suc n * step ≤ space → n * step ≤ space
      rest n step k = omega arith

      after : (i step : ℕ) → 0 + step ≤ suc i * step
      after i step = omega arith

      whole : (n i step : ℕ) → suc i < suc n → suc n * step ≤ space → suc i * step + step ≤ space
      whole n i step less k = grind arith

module _ (space : ℕ) (v : Value) where
  changed_at : (vs : Values) (o : Option ℕ) (k : ℕ) (f : Value → Value) → o ≡ Some k → with_changed vs o f ≡ with_part vs k (f (part vs k))
  changed_at vs o k f e = ap (λ p. with_changed vs p f) e

  -- what a store to a part leaves outside of the whole's member
  still_same : (bytes : ℕ → ℕ) (s s' : Shape) (a b d : ℕ) → IsWithin (alignment s) (size s) d s' → b ≡ a + d → SameBut space bytes (store space s' b v bytes) a (size s)
  still_same bytes s s' a b d w e x miss =
      store_frame space x s' b v bytes (spares space x s' b w.formed
      (λ i lt. subst (λ c. (c + i) % space ≢ x) (sym e) (λ k. miss (d + i) (omega (arith, w.ends, lt)) (ap (λ c. c % space) (sym (add_assoc a d i)) ∙ k))))

  pub upd_stored : {s s' : Shape} {ps : List Step} {d : ℕ} (bytes : ℕ → ℕ) (a b : ℕ) → b ≡ a + d → IsFormed s → size s ≤ space → HasShape s' v → Leads s ps d s' →
      load space (store space s' b v bytes) s a ≡ upd (load space bytes s a) ps v
  upd_stored bytes a b e f fit h (ends {s}) = ap (λ c. load space (store space s c v bytes) s a) (e ∙ add-zero a) ∙ stored_back space s a v bytes f fit h
  upd_stored bytes a b e f fit h (by_member {x} {n} {align} {k} {at} {d} {fs} {s} {s'} {ps} m p) =
      let w = (nth_within align n 0 f.members m).0 in
      let vs = loaded_members space bytes fs a in
      let bytes' = store space s' b v bytes in
      let near : b ≡ a + at + d = e ∙ sym (add_assoc a at d) in
      ap (λ ws. Parts ws)
      (nth_changed space bytes bytes' align n 0 a f.members fit m (still_same bytes s s' (a + at) b d (leads_within w.formed p) near)
      ∙ ap (λ u. with_part vs k u) (upd_stored bytes (a + at) b near w.formed (omega (arith, w.ends, fit)) h p ∙ ap (λ u. upd u ps v) (sym (part_members space bytes a m)))
      ∙ sym (changed_at vs (place_of (Field k) (count vs)) k (λ u. upd u ps v) (cond-true (nat_lt k (count vs)) (Some k) None (lt-ltb k (count vs) (count_members space bytes a m)))))
  upd_stored bytes a b e f fit h (by_element {e = el} {s'} {n} {i} {d} {ps} lt p) =
      let vs = loaded_elements (λ c. load space bytes el c) (size el) a n in
      let bytes' = store space s' b v bytes in
      let near : b ≡ a + i * size el + d = e ∙ sym (add_assoc a (i * size el) d) in
      ap (λ ws. Parts ws)
      (element_changed space bytes bytes' el f.element a n i lt fit (still_same bytes el s' (a + i * size el) b d (leads_within f.element p) near)
      ∙ ap (λ u. with_part vs i u) (upd_stored bytes (a + i * size el) b near f.element (one_fits n (size el) f.some fit) h p ∙ ap (λ u. upd u ps v) (sym (part_elements space bytes el a n i lt)))
      ∙ sym (changed_at vs (place_of (Index (pos i)) (count vs)) i (λ u. upd u ps v)
      (cond-true (nat_lt i (count vs)) (Some i) None (lt-ltb i (count vs) (subst (λ c. i < c) (sym (count_elements space bytes el a n)) lt)))))
    where
      one_fits : (n step : ℕ) → 0 < n → n * step ≤ space → step ≤ space
      one_fits n step k l = grind arith
