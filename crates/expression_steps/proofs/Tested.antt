-- Tests that the code makes are those of the definitions.
use Rattle.std.proofs.Common.{◌≡◌, ℕ, zero, suc, ◌-◌, ◌^◌, ◌==◌, Bool, true, false, List, ℤ, pos, negsuc, neg_ℤ, ◌↔◌, IsTrue, refl, ap, ap₂, ◌∙◌, subst, arith}
use Rattle.std.proofs.lemmas.Bool.{ne_eqb}
use Rattle.std.specs.Prelude.{unsigned_abs}
use Rattle.std.specs.Cmp.{both_ways}
use Rattle.c_values.specs.Number.{least, greatest}
use Rattle.expression_lang.specs.Expression.{Exp, NumberLit, Between}
use Rattle.ac_expr.specs.Fact.{Fact}
use Rattle.ac_expr.specs.Known.{IsKnown}
use Rattle.ac_expr.specs.SameExp.{same_exp}
use Rattle.ac_expr.proofs.SameExps.{exp_is}
use Rattle.ac_expr.proofs.Itself.{exp_itself}
use Rattle.expression_steps.specs.Known.{is_known}
use Rattle.expression_steps.specs.Shortened.{where_true, shorter_sum}
use Rattle.expression_steps.proofs.KnownIs.{known_exactly}

pub known_tested : (fs : List Fact) (e : Exp) (b : Bool) → IsTrue b ↔ IsKnown fs e → b ≡ is_known fs e
known_tested fs e b h =
    both_ways b (is_known fs e) (λ k. (known_exactly fs e).1 (h.0 k)) (λ k. h.1 ((known_exactly fs e).0 k))

pub same_tested : (x y : Exp) (b : Bool) → IsTrue b ↔ (x ≡ y) → b ≡ same_exp x y
same_tested x y b h =
    both_ways b (same_exp x y) (λ k. subst (λ z. same_exp x z ≡ true) (h.0 k) (exp_itself x)) (λ k. h.1 (exp_is x y k))

pub sum_tested : (a : Exp) (n : ℤ) → where_true (unsigned_abs n == 0) a ≡ shorter_sum a (NumberLit n)
sum_tested a (pos zero) = refl
sum_tested a (pos (suc n)) = ap (λ b. where_true b a) (ne_eqb (suc n) 0 (λ e. omega (arith, e)))
sum_tested a (negsuc n) = ap (λ b. where_true b a) (ne_eqb (suc n) 0 (λ e. omega (arith, e)))

-- numbers between the least and the greatest value of words of a width
pub natural_tested : (fs : List Fact) (e : Exp) (w m : ℕ) (low high : ℤ) (b : Bool) → m ≡ 2 ^ w - 1 → low ≡ pos 0 → high ≡ pos m →
    b ≡ is_known fs (Between low e high) → b ≡ is_known fs (Between (least false w) e (greatest false w))
natural_tested fs e w m low high b g h i j =
    j ∙ ap₂ (λ (x y : ℤ). is_known fs (Between x e y)) h (i ∙ ap (λ n. pos n) g)

pub integer_tested : (fs : List Fact) (e : Exp) (w m : ℕ) (low high : ℤ) (b : Bool) → m ≡ 2 ^ (w - 1) → low ≡ neg_ℤ (pos m) →
    high ≡ pos (m - 1) → b ≡ is_known fs (Between low e high) → b ≡ is_known fs (Between (least true w) e (greatest true w))
integer_tested fs e w m low high b g h i j =
    j ∙ ap₂ (λ (x y : ℤ). is_known fs (Between x e y)) (h ∙ ap (λ n. neg_ℤ (pos n)) g) (i ∙ ap (λ n. pos (n - 1)) g)
