-- When neither of two paths in a shape goes on from the other: where they lead to parts of types of which neither is in the other, to
-- two parts of one type, or to two scalars.
use Rattle.std.proofs.Common.{◌≡◌, ℕ, ◌+◌, ◌⊎◌, inl, inr, List, [], ◌∷◌, ◌++◌, pos, refl, sym, ap, ap₂, ◌∙◌, subst, arith, zero-add}
use Rattle.std.proofs.lemmas.List.{append_assoc}
use Rattle.c_values.specs.Types.{CType}
use Rattle.c_values.specs.Layout.{Shape, Scalar}
use Rattle.c_values.specs.Path.{Step, Spot}
use Rattle.c_values.proofs.Leads.{Leads, ends, by_member, by_element, leads_spot}
use Rattle.c_values.proofs.Geometry.{AreSplit, nth_same}
use Rattle.c_values.proofs.Height.{height, nth_lower, leads_lower}
use Rattle.c_values.proofs.Options.{some_is}
use Rattle.c_memory.specs.Tags.{IsPart, of_member, of_element}
use Rattle.c_memory.proofs.Roots.{nth_member}

-- one of two paths that go on to one path goes on from the other
comparable : (ps qs xs ys : List Step) → ps ++ xs ≡ qs ++ ys → ((zs : List Step) × (ps ++ zs ≡ qs)) ⊎ ((zs : List Step) × (qs ++ zs ≡ ps))
comparable [] qs xs ys h = inl (qs, refl)
comparable (p ∷ ps) [] xs ys h = inr (p ∷ ps, refl)
comparable (p ∷ ps) (q ∷ qs) xs ys h =
    let one : p ≡ q = cc in
    let rest : ps ++ xs ≡ qs ++ ys = cc in
    further one (comparable ps qs xs ys rest)
  where
    Either : List Step → List Step → Type 0
    Either us vs = ((zs : List Step) × (us ++ zs ≡ vs)) ⊎ ((zs : List Step) × (vs ++ zs ≡ us))

    further : p ≡ q → Either ps qs → Either (p ∷ ps) (q ∷ qs)
    further one (inl k) = inl (k.0, ap₂ (λ u us. u ∷ us) one k.1)
    further one (inr k) = inr (k.0, ap₂ (λ u us. u ∷ us) (sym one) k.1)

-- what goes on from paths that are split is split
pub split_further : (ps qs xs ys : List Step) → AreSplit ps qs → AreSplit (ps ++ xs) (qs ++ ys)
split_further ps qs xs ys h = record {
  left = λ zs e. neither (comparable ps qs (xs ++ zs) ys (sym (append_assoc ps xs zs) ∙ e));
  right = λ zs e. neither (comparable ps qs xs (ys ++ zs) (sym e ∙ append_assoc qs ys zs));
}
  where
    neither : ((zs : List Step) × (ps ++ zs ≡ qs)) ⊎ ((zs : List Step) × (qs ++ zs ≡ ps)) → ⊥
    neither (inl k) = h.left k.0 k.1
    neither (inr k) = h.right k.0 k.1

-- a path leads to one part
pub one_end : {s s₁ s₂ : Shape} {ps : List Step} {d e : ℕ} → Leads s ps d s₁ → Leads s ps e s₂ → (d ≡ e) × (s₁ ≡ s₂)
one_end {s₁} {s₂} {d} {e} p q =
    let same : ◌≡◌ {A = Spot} (record { offset = pos d; shape = s₁ }) (record { offset = pos e; shape = s₂ }) = some_is (sym (leads_spot p) ∙ leads_spot q) in
    let at : pos d ≡ pos e = ap (λ r. r.offset) same in
    (let n : d ≡ e = cc in n, ap (λ r. r.shape) same)

-- where a longer path leads
pub goes_on : {s s₁ s₂ : Shape} {ps : List Step} {d e : ℕ} → Leads s ps d s₁ → (zs : List Step) → Leads s (ps ++ zs) e s₂ →
    (f : ℕ) × Leads s₁ zs f s₂ × (e ≡ d + f)
goes_on {e} ends zs q = (e, q, sym (zero-add e))
goes_on {s₂} (by_member {x} {n} {align} {k} {at} {d} {fs} {s} {s' = s₁} {ps} m p) zs (by_member {at = at'} {d = e} {s = s'} m' q) =
    let same = nth_same m m' in
    let r = goes_on p zs (subst (λ z. Leads z (ps ++ zs) e s₂) (sym same.1) q) in
    (r.0, r.1, (let a : at ≡ at' = same.0 in let b : e ≡ d + r.0 = r.2 in omega arith))
goes_on (by_element {e} {n} {i} {d} {ps} lt p) zs (by_element {d = c} lt' q) =
    let r = goes_on p zs q in
    (r.0, r.1, (let b : c ≡ d + r.0 = r.2 in omega arith))

-- a part of a part
pub part_within : {s s' : Shape} {zs : List Step} {d : ℕ} {t : CType} → Leads s zs d s' → IsPart s' 0 t → IsPart s d t
part_within ends k = k
part_within (by_member m p) k = of_member (nth_member m) (part_within p k)
part_within (by_element lt p) k = of_element lt (part_within p k)

-- no shape is within itself
pub not_in_itself : {s s' : Shape} {zs : List Step} {d : ℕ} → Leads s zs d s' → s ≡ s' → d ≡ 0
not_in_itself ends e = refl
not_in_itself (by_member m p) e = absurd (omega (arith, nth_lower m, leads_lower p, ap height e))
not_in_itself (by_element m p) e = absurd (omega (arith, leads_lower p, ap height e))

-- a scalar has no parts
pub scalar_ends : {t : CType} {width d : ℕ} {zs : List Step} {s : Shape} → Leads (Scalar t width) zs d s → (d ≡ 0) × (Scalar t width ≡ s)
scalar_ends ends = (refl, refl)
