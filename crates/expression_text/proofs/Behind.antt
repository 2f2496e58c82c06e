-- The number behind a tree's nodes, and what is read in sequence.
use Rattle.std.proofs.Common.{◌≡◌, ℕ, Bool, true, false, cond, Result, Ok, Err, refl, ap}
use Rattle.ac_sx.specs.Tree.{Tree, Trees, Atom, Node, no_trees, more}
use Rattle.expression_text.specs.Reading.{Read, next, ◌>>=◌}

abbrev mutual
  pub behind : ℕ → Tree → ℕ
  behind at (Atom word) = next at
  behind at (Node ts) = all_behind (next at) ts

  pub all_behind : ℕ → Trees → ℕ
  all_behind at no_trees = at
  all_behind at (more t ts) = all_behind (behind at t) ts

-- the tree is read as this
abbrev pub IsReadAs : {A : Type 0} → (ℕ → Tree → Read A) → Tree → A → Type 0
IsReadAs read t x = (at : ℕ) → read at t ≡ Ok (x, behind at t)

abbrev pub AreReadAs : {A : Type 0} → (ℕ → Trees → Read A) → Trees → A → Type 0
AreReadAs read ts x = (at : ℕ) → read at ts ≡ Ok (x, all_behind at ts)

pub bind_ok : {A B : Type 0} (r : Result A ℕ) (f : A → Result B ℕ) (y : B) → (r >>= f) ≡ Ok y → (x : A) × (r ≡ Ok x) × (f x ≡ Ok y)
bind_ok (Ok x) f y e = (x, refl, e)
bind_ok (Err n) f y e = absurd cc

-- what is read where a test passes
pub kept_ok : {A : Type 0} (b : Bool) (x : A) (m at : ℕ) (y : A) (n : ℕ) → cond {A = Read A} b (Ok (x, m)) (Err at) ≡ Ok (y, n) → (b ≡ true) × (x ≡ y)
kept_ok {A} true x m at y n e = let h : ◌≡◌ {A = A × ℕ} (x, m) (y, n) = cc in (refl, ap (λ (p : A × ℕ). p.0) h)
kept_ok false x m at y n e = absurd cc

-- what is read is the value
pub value_ok : {A : Type 0} (x : A) (m : ℕ) (y : A) (n : ℕ) → ◌≡◌ {A = Read A} (Ok (x, m)) (Ok (y, n)) → x ≡ y
value_ok {A} x m y n e = let h : ◌≡◌ {A = A × ℕ} (x, m) (y, n) = cc in ap (λ (p : A × ℕ). p.0) h
