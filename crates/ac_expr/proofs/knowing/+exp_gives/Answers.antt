-- An implication that gives the claim by its right side gives it where its left side is known.
use Rattle.std.proofs.Common.{rules, ◌≡◌, ◌↔◌, ◌⊎◌, inl, inr, IsTrue, Bool, false, List, subst, sym, ◌∙◌}
use Rattle.std.proofs.lemmas.Bool.{false≢true}
use Rattle.expression_lang.specs.Expression.{Exp, Imp}
use Rattle.expression_lang.specs.CodeExpression.{exp_of}
use Rattle.ac_expr.specs.Fact.{Fact, stands_for}
use Rattle.ac_expr.specs.Known.{SomeFact, Gives, GivesAtOnce}
use Rattle.ac_expr.specs.CodeFacts.{fact_of}
use Rattle.ac_expr.specs.CodeChain.{facts_of}
use Rattle.ac_expr.proofs.LastingFacts.{two}
use Rattle.ac_expr.proofs.knowing.+exp_gives.Goals as goal

by_condition : (fs : List Fact) (a b claim : Exp) (whole r : Bool) → (IsTrue whole ↔ (claim ≡ Imp a b)) → whole ≡ false → Gives fs b claim → (IsTrue r ↔ SomeFact (λ fact. GivesAtOnce fact a) fs) → IsTrue r ↔ Gives fs (Imp a b) claim
by_condition fs a b claim whole r same differs gives known = ((λ h. inr (known.0 h, gives)), (λ k. by_way k))
  where
    by_way : (claim ≡ Imp a b) ⊎ (SomeFact (λ fact. GivesAtOnce fact a) fs × Gives fs b claim) → IsTrue r
    by_way (inl e) = absurd (false≢true (sym differs ∙ same.1 e))
    by_way (inr k) = known.1 k.0

pub returns-then-exp_gives-2 : goal.returns-then-exp_gives-2
returns-then-exp_gives-2 g t c =
    let a : Exp = exp_of c.in-Imp.c.value in
    let b : Exp = exp_of c.in-Imp.d.value in
    let claim : Exp = stands_for (fact_of c.args.claim.now) in
    let same : IsTrue c.is_claimed.result ↔ (claim ≡ Imp a b) = subst (λ q. IsTrue c.is_claimed.result ↔ (claim ≡ exp_of q)) c.in-Imp.is c.is_claimed.ensures in
    let gives : Gives (facts_of g.S.Sequence.parts c.args.facts.now) b claim = search rules in
    let known : IsTrue c.some_gives_at_once.result ↔ SomeFact (λ fact. GivesAtOnce fact a) (facts_of g.S.Sequence.parts c.args.facts.now) =
    subst (λ q. IsTrue c.some_gives_at_once.result ↔ SomeFact (λ fact. GivesAtOnce fact (exp_of q)) (facts_of g.S.Sequence.parts c.args.facts.now)) c.deref-then-exp_gives-2.ensures c.some_gives_at_once.ensures in
    two (by_condition (facts_of g.S.Sequence.parts c.args.facts.now) a b claim c.is_claimed.result c.some_gives_at_once.result same c.if-is_claimed.false gives known)
    (subst (λ q. Gives (facts_of g.S.Sequence.parts c.args.facts.now) (exp_of q) claim ↔ Gives (facts_of g.S.Sequence.parts c.args.facts.now) (exp_of c.args.e.now) claim) c.in-Imp.is c.along.invariant.same)
