-- A test that holds exactly where two expressions are equal, as a truth value.
use Rattle.std.proofs.Common.{◌≡◌, ◌↔◌, Bool, true, false, IsTrue, refl, subst}
use Rattle.std.proofs.lemmas.Bool.{false≢true}
use Rattle.expression_lang.specs.Expression.{Exp}
use Rattle.ac_expr.specs.SameExp.{same_exp}
use Rattle.ac_expr.proofs.SameExps.{exp_is}
use Rattle.ac_expr.proofs.Itself.{exp_itself}

by_value : (r b : Bool) → (IsTrue r → b ≡ true) → (b ≡ true → IsTrue r) → r ≡ b
by_value true false f g = absurd (false≢true (f refl))
by_value false true f g = absurd (false≢true (g refl))
by_value _ _ _ _ = refl

pub decided : (r : Bool) (a b : Exp) → (IsTrue r ↔ (a ≡ b)) → r ≡ same_exp a b
decided r a b h = by_value r (same_exp a b) (λ t. subst (λ c. same_exp a c ≡ true) (h.0 t) (exp_itself a)) (λ t. h.1 (exp_is a b t))

pub same_true : (a b : Exp) → a ≡ b → same_exp a b ≡ true
same_true a b e = subst (λ c. same_exp a c ≡ true) e (exp_itself a)

pub same_false : (a b : Exp) → (a ≡ b → ⊥) → same_exp a b ≡ false
same_false a b n = untrue (same_exp a b) (λ t. n (exp_is a b t))
  where
    untrue : (c : Bool) → (c ≡ true → ⊥) → c ≡ false
    untrue true h = absurd (h refl)
    untrue false h = refl
