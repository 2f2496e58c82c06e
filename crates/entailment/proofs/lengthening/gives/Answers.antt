-- The parts of the head are its own.
use Rattle.std.proofs.Common.{rules, ◌≡◌, ◌↔◌, sym, subst, IsTrue, ◌∙◌}
use Rattle.std.proofs.lemmas.Bool.{false≢true}
use Rattle.expression_lang.specs.Expression.{And, Or, Imp, Not, If}
use Rattle.expression_lang.specs.CodeExpression.{exp_of}
use Rattle.ac_expr.specs.Step.{Shortens}
use Rattle.entailment.specs.CodeSides.{sides_of}
use Rattle.entailment.proofs.LongForms.{no_other}
use Rattle.entailment.proofs.lengthening.gives.Goals as goal

pub returns-then-not-is_connective : goal.returns-then-not-is_connective
returns-then-not-is_connective c = λ g fs. (
  λ yes. absurd (false≢true yes),
  λ so. absurd (no_other g fs c.args.sides.now.relation (exp_of c.args.sides.now.first.now) (exp_of c.args.sides.now.second.now) (exp_of c.args.e.now)
      c.requires.0 (sym c.is_connective.ensures ∙ c.if-not-is_connective.true) c.requires.1 so),
)

pub returns-in-And : goal.returns-in-And
returns-in-And c = λ g fs.
    let e : exp_of c.args.e.now ≡ And (exp_of c.deref.result.now) (exp_of c.deref-in-And.result.now) = search rules in
    subst (λ x. IsTrue c.and_gives.result ↔ Shortens g fs x (sides_of c.args.sides.now)) (sym e) (c.and_gives.ensures g fs)

pub returns-in-Or : goal.returns-in-Or
returns-in-Or c = λ g fs.
    let e : exp_of c.args.e.now ≡ Or (exp_of c.deref-in-Or.result.now) (exp_of c.deref-in-Or-2.result.now) = search rules in
    subst (λ x. IsTrue c.or_gives.result ↔ Shortens g fs x (sides_of c.args.sides.now)) (sym e) (c.or_gives.ensures g fs)

pub returns-in-Imp : goal.returns-in-Imp
returns-in-Imp c = λ g fs.
    let e : exp_of c.args.e.now ≡ Imp (exp_of c.deref-in-Imp.result.now) (exp_of c.deref-in-Imp-2.result.now) = search rules in
    subst (λ x. IsTrue c.imp_gives.result ↔ Shortens g fs x (sides_of c.args.sides.now)) (sym e) (c.imp_gives.ensures g fs)

pub returns-in-Not : goal.returns-in-Not
returns-in-Not c = λ g fs.
    let e : exp_of c.args.e.now ≡ Not (exp_of c.deref-in-Not.result.now) = search rules in
    subst (λ x. IsTrue c.not_gives.result ↔ Shortens g fs x (sides_of c.args.sides.now)) (sym e) (c.not_gives.ensures g fs)

pub returns-in-If : goal.returns-in-If
returns-in-If c = λ g fs.
    let e : exp_of c.args.e.now ≡ If (exp_of c.deref-in-If.result.now) (exp_of c.deref-in-If-2.result.now) (exp_of c.deref-in-If-3.result.now) = search rules in
    subst (λ x. IsTrue c.if_gives.result ↔ Shortens g fs x (sides_of c.args.sides.now)) (sym e) (c.if_gives.ensures g fs)
