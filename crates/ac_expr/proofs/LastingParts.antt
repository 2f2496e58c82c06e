-- One part more, or none.
use Rattle.std.proofs.Common.{◌≡◌, ◌↔◌, ◌⊎◌, inl, inr, ℕ, zero, suc, ◌-◌, ◌<◌, Bool, true, false, ◌&&◌, List, [], ◌∷◌, refl, sym, subst, ap, ◌∙◌, arith}
use Rattle.expression_lang.specs.Expression.{Exp}
use Rattle.ac_expr.specs.Passed.{Part}
use Rattle.ac_expr.specs.Lasting.{lasts_part, lasts_passed}
use Rattle.ac_expr.specs.Guarded.{GuardHas, Kept, SomeGuard}

pub both_ways : (a b : Bool) → (b && a) ≡ (a && b)
both_ways true true = refl
both_ways false true = refl
both_ways _ _ = refl

pub through_none : (n : ℕ) (ps : List Part) (e : Exp) → ps ≡ [] → lasts_passed n ps e ≡ true
through_none n ps e h = subst (λ qs. lasts_passed n qs e ≡ true) (sym h) (none n)
  where
    none : (n : ℕ) → lasts_passed n [] e ≡ true
    none zero = refl
    none (suc n) = refl

less : (n : ℕ) → suc n - 1 ≡ n
less n = omega arith

pub through_one : (n : ℕ) (ps : List Part) (p : Part) (rest : List Part) (e : Exp) → 0 < n → ps ≡ p ∷ rest → lasts_part p e ≡ true → lasts_passed (n - 1) rest e ≡ lasts_passed n ps e
through_one zero ps p rest e positive h k = absurd (omega arith)
through_one (suc n) ps p rest e positive h k =
    subst (λ m. lasts_passed m rest e ≡ lasts_passed (suc n) ps e) (sym (less n)) (sym (ap (λ qs. lasts_passed (suc n) qs e) h ∙ ap (λ b. b && lasts_passed n rest e) k))

pub not_through_one : (n : ℕ) (ps : List Part) (p : Part) (rest : List Part) (e : Exp) → 0 < n → ps ≡ p ∷ rest → lasts_part p e ≡ false → lasts_passed n ps e ≡ false
not_through_one zero ps p rest e positive h k = absurd (omega arith)
not_through_one (suc n) ps p rest e positive h k = ap (λ qs. lasts_passed (suc n) qs e) h ∙ ap (λ b. b && lasts_passed n rest e) k

pub no_guard : (P : Exp → Type 0) (n : ℕ) (ps : List Part) → ps ≡ [] → SomeGuard P n ps → ⊥
no_guard P n ps h k = none n (subst (SomeGuard P n) h k)
  where
    none : (n : ℕ) → SomeGuard P n [] → ⊥
    none zero k = k
    none (suc n) k = k

pub guard_here : (P : Exp → Type 0) (n : ℕ) (ps : List Part) (p : Part) (rest : List Part) → 0 < n → ps ≡ p ∷ rest → GuardHas (Kept P (n - 1) p.names rest) p.guard → SomeGuard P n ps
guard_here P zero ps p rest positive h k = absurd (omega arith)
guard_here P (suc n) ps p rest positive h k = subst (SomeGuard P (suc n)) (sym h) (inl (subst (λ m. GuardHas (Kept P m p.names rest) p.guard) (less n) k))

pub guard_later : (P : Exp → Type 0) (n : ℕ) (ps : List Part) (p : Part) (rest : List Part) → 0 < n → ps ≡ p ∷ rest → (GuardHas (Kept P (n - 1) p.names rest) p.guard → ⊥) → SomeGuard P (n - 1) rest ↔ SomeGuard P n ps
guard_later P zero ps p rest positive h k = absurd (omega arith)
guard_later P (suc n) ps p rest positive h k =
    subst (λ m. SomeGuard P m rest ↔ SomeGuard P (suc n) ps) (sym (less n))
    ((λ i. subst (SomeGuard P (suc n)) (sym h) (inr i)), (λ i. other (subst (SomeGuard P (suc n)) h i)))
  where
    other : GuardHas (Kept P n p.names rest) p.guard ⊎ SomeGuard P n rest → SomeGuard P n rest
    other (inl j) = absurd (k (subst (λ m. GuardHas (Kept P m p.names rest) p.guard) (sym (less n)) j))
    other (inr j) = j
