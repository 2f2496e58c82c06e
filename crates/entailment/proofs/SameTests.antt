-- A test whether two expressions are the same is the one that goes through both.
use Rattle.std.proofs.Common.{◌≡◌, ◌↔◌, IsTrue, Bool, true, false, subst, sym, refl, ◌∙◌}
use Rattle.std.proofs.lemmas.Bool.{false≢true}
use Rattle.expression_lang.specs.Expression.{Exp}
use Rattle.ac_expr.specs.SameExp.{same_exp}
use Rattle.ac_expr.proofs.SameExps.{exp_is}
use Rattle.ac_expr.proofs.Itself.{exp_itself}

pub same_test : (t : Bool) (a b : Exp) → (IsTrue t ↔ (a ≡ b)) → t ≡ same_exp a b
same_test t a b h = by t (same_exp a b) refl h
  where
    by : (t s : Bool) → same_exp a b ≡ s → (IsTrue t ↔ (a ≡ b)) → t ≡ s
    by true true k i = refl
    by false false k i = refl
    by true false k i = absurd (false≢true (sym k ∙ subst (λ c. same_exp a c ≡ true) (i.0 refl) (exp_itself a)))
    by false true k i = absurd (false≢true (i.1 (exp_is a b k)))
