-- The code finds a coefficient exactly where all is narrow on the way, and it is the coefficient.
use Rattle.std.proofs.Common.{◌≡◌, Option, Some, None, ℤ, neg_ℤ, ◌+ℤ◌, ◌-ℤ◌, ◌*ℤ◌, ap, ap₂, refl, ◌∙◌}
use Rattle.c_values.specs.Number.{Add, Sub, Mul}
use Rattle.expression_lang.specs.Expression.{Exp, NumberLit, Arith, Negate}
use Rattle.entailment.specs.Linear.{Place, Constant, of_literal, coefficient, IsNarrow, AreNarrow}
use Rattle.entailment.specs.CodeSums.{narrow, at_literal, found}
use Rattle.entailment.proofs.Narrowed.{IsAllThere, Finds, literal_found, all_one, all_two, narrow_some, some_narrow, one_there, two_there, there_one, there_two}

module _ (k : Place) where
  pub found_all : (e : Exp) → AreNarrow e → found k e ≡ Some (coefficient k e)
  found_all (NumberLit n) h = ap (at_literal k) (some_narrow n h)
  found_all (Arith Add a b) h =
      there_two (λ x y. x +ℤ y) (found k a) (found k b) (coefficient k a) (coefficient k b) (found_all a h.0) (found_all b h.1) (h.2 k)
  found_all (Arith Sub a b) h =
      there_two (λ x y. x -ℤ y) (found k a) (found k b) (coefficient k a) (coefficient k b) (found_all a h.0) (found_all b h.1) (h.2 k)
  found_all (Arith Mul (NumberLit n) b) h = there_two (λ x y. x *ℤ y) (narrow n) (found k b) n (coefficient k b) (some_narrow n h.0) (found_all b h.1) (h.2 k)
  found_all (Arith Mul a (NumberLit n)) h = there_two (λ x y. x *ℤ y) (narrow n) (found k a) n (coefficient k a) (some_narrow n h.1) (found_all a h.0) (h.2 k)
  found_all (Negate a) h = there_one neg_ℤ (found k a) (coefficient k a) (found_all a h.0) (h.1 k)
  found_all e h = refl

  pub literal_is : (n m : ℤ) → at_literal k (narrow n) ≡ Some m → IsNarrow n × (m ≡ of_literal k n)
  literal_is n m h = by (narrow n) refl h
    where
      by : (o : Option ℤ) → narrow n ≡ o → at_literal k o ≡ Some m → IsNarrow n × (m ≡ of_literal k n)
      by None i j = absurd cc
      by (Some x) i j = let p = narrow_some n x i in (p.0, (let q : m ≡ of_literal k x = cc in q) ∙ ap (of_literal k) p.1)

  pub found_is : (e : Exp) (m : ℤ) → found k e ≡ Some m → m ≡ coefficient k e
  found_is (NumberLit n) m h = (literal_is n m h).1
  found_is (Arith Add a b) m h =
      let p = two_there (λ x y. x +ℤ y) (found k a) (found k b) m h in
      p.5 ∙ ap₂ (λ x y. x +ℤ y) (found_is a p.0 p.2) (found_is b p.1 p.3)
  found_is (Arith Sub a b) m h =
      let p = two_there (λ x y. x -ℤ y) (found k a) (found k b) m h in
      p.5 ∙ ap₂ (λ x y. x -ℤ y) (found_is a p.0 p.2) (found_is b p.1 p.3)
  found_is (Arith Mul (NumberLit n) b) m h =
      let p = two_there (λ x y. x *ℤ y) (narrow n) (found k b) m h in
      p.5 ∙ ap₂ (λ x y. x *ℤ y) (narrow_some n p.0 p.2).1 (found_is b p.1 p.3)
  found_is (Arith Mul a (NumberLit n)) m h =
      let p = two_there (λ x y. x *ℤ y) (narrow n) (found k a) m h in
      p.5 ∙ ap₂ (λ x y. x *ℤ y) (narrow_some n p.0 p.2).1 (found_is a p.1 p.3)
  found_is (Negate a) m h = let p = one_there neg_ℤ (found k a) m h in p.3 ∙ ap neg_ℤ (found_is a p.0 p.1)
  found_is e m h = cc

abbrev pub form_of : Exp → Place → ℤ
form_of e k = coefficient k e

abbrev pub found_of : Exp → Place → Option ℤ
found_of e k = found k e

pub exp_found : (e : Exp) → Finds (found_of e) (form_of e)
exp_found e k m h = found_is k e m h

pub all_found : (e : Exp) → IsAllThere (found_of e) → AreNarrow e
all_found (NumberLit n) h = (literal_is Constant n (h Constant).0 (h Constant).1).0
all_found (Arith Add a b) h =
    let t = all_two (λ k x y. x +ℤ y) (found_of a) (found_of b) (form_of a) (form_of b) (exp_found a) (exp_found b) h in
    (all_found a t.0, all_found b t.1, t.2)
all_found (Arith Sub a b) h =
    let t = all_two (λ k x y. x -ℤ y) (found_of a) (found_of b) (form_of a) (form_of b) (exp_found a) (exp_found b) h in
    (all_found a t.0, all_found b t.1, t.2)
all_found (Arith Mul (NumberLit n) b) h =
    let t = all_two (λ k x y. x *ℤ y) (λ k. narrow n) (found_of b) (λ k. n) (form_of b) (literal_found n) (exp_found b) h in
    ((narrow_some n (t.0 Constant).0 (t.0 Constant).1).0, all_found b t.1, t.2)
all_found (Arith Mul a (NumberLit n)) h =
    let t = all_two (λ k x y. x *ℤ y) (λ k. narrow n) (found_of a) (λ k. n) (form_of a) (literal_found n) (exp_found a) h in
    (all_found a t.1, (narrow_some n (t.0 Constant).0 (t.0 Constant).1).0, t.2)
all_found (Negate a) h = let t = all_one neg_ℤ (found_of a) (form_of a) (exp_found a) h in (all_found a t.0, t.1)
all_found e h = tt
