-- The sum of a linear form: its constant, and for each of some unknowns its coefficient times a value. It is linear in the form.
use Rattle.std.proofs.Common.{◌≡◌, List, [], ◌∷◌, ℤ, pos, neg_ℤ, ◌+ℤ◌, ◌*ℤ◌, ap, ap₂, sym, refl, ◌∙◌, arith}
use Rattle.std.proofs.lemmas.Int.{ints}
use Rattle.std.proofs.Math.IntN.{*ℤ-zero, zero-*ℤ}
use Rattle.expression_lang.specs.Expression.{Exp}
use Rattle.entailment.specs.Linear.{Place, Constant, Unknown}
use Rattle.entailment.proofs.Products.{product-sum, product-neg, product-product, product_of-sum}

module _ (worth : Exp → ℤ) where
  abbrev pub sum_of : List Exp → (Exp → ℤ) → ℤ
  sum_of [] f = pos 0
  sum_of (u ∷ us) f = f u *ℤ worth u +ℤ sum_of us f

  sum-add : (us : List Exp) (f h : Exp → ℤ) → sum_of us (λ u. f u +ℤ h u) ≡ sum_of us f +ℤ sum_of us h
  sum-add [] f h = refl
  sum-add (u ∷ us) f h =
      let one = product-sum (f u) (h u) (worth u) in
      let rest = sum-add us f h in
      ap₂ (λ x y. x +ℤ y) one rest ∙ omega (arith, ints)

  sum-neg : (us : List Exp) (f : Exp → ℤ) → sum_of us (λ u. neg_ℤ (f u)) ≡ neg_ℤ (sum_of us f)
  sum-neg [] f = refl
  sum-neg (u ∷ us) f = ap₂ (λ x y. x +ℤ y) (product-neg (f u) (worth u)) (sum-neg us f) ∙ omega (arith, ints)

  sum-times : (us : List Exp) (n : ℤ) (f : Exp → ℤ) → sum_of us (λ u. n *ℤ f u) ≡ n *ℤ sum_of us f
  sum-times [] n f = sym (*ℤ-zero n)
  sum-times (u ∷ us) n f =
      ap₂ (λ x y. x +ℤ y) (product-product n (f u) (worth u)) (sum-times us n f)
      ∙ sym (product_of-sum n (f u *ℤ worth u) (sum_of us f))

  pub sum-none : (us : List Exp) (f : Exp → ℤ) → ((u : Exp) → f u ≡ pos 0) → sum_of us f ≡ pos 0
  sum-none [] f h = refl
  sum-none (u ∷ us) f h = ap₂ (λ x y. x *ℤ worth u +ℤ y) (h u) (sum-none us f h) ∙ ap (λ x. x +ℤ pos 0) (zero-*ℤ (worth u))

  module _ (us : List Exp) where
    abbrev pub worth_of : (Place → ℤ) → ℤ
    worth_of f = f Constant +ℤ sum_of us (λ u. f (Unknown u))

    pub worth-add : (f h : Place → ℤ) → worth_of (λ k. f k +ℤ h k) ≡ worth_of f +ℤ worth_of h
    worth-add f h = ap (λ x. f Constant +ℤ h Constant +ℤ x) (sum-add us (λ u. f (Unknown u)) (λ u. h (Unknown u))) ∙ omega (arith, ints)

    pub worth-neg : (f : Place → ℤ) → worth_of (λ k. neg_ℤ (f k)) ≡ neg_ℤ (worth_of f)
    worth-neg f = ap (λ x. neg_ℤ (f Constant) +ℤ x) (sum-neg us (λ u. f (Unknown u))) ∙ omega (arith, ints)

    pub worth-times : (n : ℤ) (f : Place → ℤ) → worth_of (λ k. n *ℤ f k) ≡ n *ℤ worth_of f
    worth-times n f =
        ap (λ x. n *ℤ f Constant +ℤ x) (sum-times us n (λ u. f (Unknown u)))
        ∙ sym (product_of-sum n (f Constant) (sum_of us (λ u. f (Unknown u))))

    pub worth-constant : (f : Place → ℤ) → ((u : Exp) → f (Unknown u) ≡ pos 0) → worth_of f ≡ f Constant
    worth-constant f h = ap (λ x. f Constant +ℤ x) (sum-none us (λ u. f (Unknown u)) h) ∙ omega (arith, ints)
