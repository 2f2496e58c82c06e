-- The part of a loaded value at the end of a path is what lies at its offset.
use Rattle.std.proofs.Common.{◌≡◌, ℕ, zero, suc, ◌+◌, ◌*◌, ◌<◌, nat_lt, List, ◌∷◌, ◌++◌, Some, None, unwrap_or, pos, refl, sym, ap, ◌∙◌, subst, arith, add-zero, zero-add, add_assoc, lt-ltb}
use Rattle.std.proofs.lemmas.Bool.{cond-true}
use Rattle.c_values.specs.Value.{count, part}
use Rattle.c_values.specs.Layout.{Shape, Record, Row, Fields, size}
use Rattle.c_values.specs.Path.{Step, Field, Index, sel}
use Rattle.c_values.proofs.Leads.{IsNth, first, next, Leads, ends, by_member, by_element}
use Rattle.c_memory.specs.Memory.{load, loaded_members, loaded_elements}

-- a path goes on from where another ends
pub leads_on : {s s' s'' : Shape} {ps qs : List Step} {d e : ℕ} → Leads s ps d s' → Leads s' qs e s'' → Leads s (ps ++ qs) (d + e) s''
leads_on {s''} {qs} {e} (ends {s}) q = subst (λ x. Leads s qs x s'') (sym (zero-add e)) q
leads_on {s''} {qs} {e} (by_member {x} {n} {align} {k} {at} {d} {fs} {ps} m p) q =
    subst (λ c. Leads (Record x n align fs) (Field k ∷ (ps ++ qs)) c s'') (sym (add_assoc at d e)) (by_member m (leads_on p q))
leads_on {s''} {qs} {e} (by_element {e = el} {n} {i} {d} {ps} lt p) q =
    subst (λ c. Leads (Row el n) (Index (pos i) ∷ (ps ++ qs)) c s'') (sym (add_assoc (i * size el) d e)) (by_element lt (leads_on p q))

module _ (space : ℕ) (bytes : ℕ → ℕ) where
  pub count_elements : (e : Shape) (a n : ℕ) → count (loaded_elements (λ b. load space bytes e b) (size e) a n) ≡ n
  count_elements e a zero = refl
  count_elements e a (suc n) = ap suc (count_elements e (a + size e) n)

  pub part_elements : (e : Shape) (a n i : ℕ) → i < n → part (loaded_elements (λ b. load space bytes e b) (size e) a n) i ≡ load space bytes e (a + i * size e)
  part_elements e a zero i lt = absurd (omega arith)
  part_elements e a (suc n) zero lt = ap (λ b. load space bytes e b) (here a (size e))
    where
      here : (a step : ℕ) → a ≡ a + 0 * step
      here a step = omega arith
  part_elements e a (suc n) (suc i) lt = part_elements e (a + size e) n i (omega arith) ∙ ap (λ b. load space bytes e b) (there a i (size e))
    where
      there : (a i step : ℕ) → a + step + i * step ≡ a + suc i * step
      there a i step = omega arith

  pub count_members : {k at : ℕ} {s : Shape} {fs : Fields} (a : ℕ) → IsNth fs k at s → k < count (loaded_members space bytes fs a)
  count_members a first = omega arith
  count_members a (next m) = let h = count_members a m in omega (arith, h)

  pub part_members : {k at : ℕ} {s : Shape} {fs : Fields} (a : ℕ) → IsNth fs k at s → part (loaded_members space bytes fs a) k ≡ load space bytes s (a + at)
  part_members a first = refl
  part_members a (next m) = part_members a m

  pub sel_loaded : {s s' : Shape} {ps : List Step} {d : ℕ} (a : ℕ) → Leads s ps d s' → sel (load space bytes s a) ps ≡ load space bytes s' (a + d)
  sel_loaded a (ends {s}) = ap (λ b. load space bytes s b) (sym (add-zero a))
  sel_loaded a (by_member {k} {at} {d} {fs} {s} {s'} {ps} m p) =
      let vs = loaded_members space bytes fs a in
      ap (λ o. sel (part vs (unwrap_or o 0)) ps) (cond-true (nat_lt k (count vs)) (Some k) None (lt-ltb k (count vs) (count_members a m)))
      ∙ ap (λ v. sel v ps) (part_members a m) ∙ sel_loaded (a + at) p ∙ ap (λ b. load space bytes s' b) (add_assoc a at d)
  sel_loaded a (by_element {e} {s'} {n} {i} {d} {ps} lt p) =
      let vs = loaded_elements (λ b. load space bytes e b) (size e) a n in
      ap (λ o. sel (part vs (unwrap_or o 0)) ps) (cond-true (nat_lt i (count vs)) (Some i) None (lt-ltb i (count vs) (subst (λ c. i < c) (sym (count_elements e a n)) lt)))
      ∙ ap (λ v. sel v ps) (part_elements e a n i lt) ∙ sel_loaded (a + i * size e) p ∙ ap (λ b. load space bytes s' b) (add_assoc a (i * size e) d)
