-- What is computed is the value, and where nothing is, there is none.
use Rattle.std.proofs.Common.{rules, ◌≡◌, ◌↔◌, Some, None, sym, subst, IsTrue}
use Rattle.std.proofs.lemmas.Bool.{false≢true}
use Rattle.expression_lang.specs.CodeExpression.{exp_of}
use Rattle.ac_expr.specs.Step.{IsItsValue}
use Rattle.ac_expr.specs.CodeConstant.{constant_in}
use Rattle.ac_expr.specs.CodeConstants.{computed}
use Rattle.ac_expr.proofs.ItsValue.{value_there, no_value}
use Rattle.ac_expr.proofs.steps.is_its_value.Goals as goal

pub returns-in-Some : goal.returns-in-Some
returns-in-Some c =
    let e : computed c.args.l.now (exp_of c.args.a.now) ≡ Some (constant_in c.in-Some.value) = search rules in
    let s = c.requires in
    subst (λ l. IsTrue c.is_literal.result ↔ IsItsValue l (exp_of c.args.a.now) (exp_of c.args.b.now)) s.1
    (let x = value_there s.0 (exp_of c.args.a.now) s.2 (exp_of c.args.b.now) (constant_in c.in-Some.value) (subst (λ l. computed l (exp_of c.args.a.now) ≡ Some (constant_in c.in-Some.value)) (sym s.1) e) in
    (λ t. x.0 (c.is_literal.ensures.0 t), λ k. c.is_literal.ensures.1 (x.1 k)))

pub returns-in-None : goal.returns-in-None
returns-in-None c =
    let e : computed c.args.l.now (exp_of c.args.a.now) ≡ None = search rules in
    let s = c.requires in (
      λ t. absurd (false≢true t),
      λ k. absurd (no_value s.0 (exp_of c.args.a.now) s.2 (exp_of c.args.b.now) (subst (λ l. computed l (exp_of c.args.a.now) ≡ None) (sym s.1) e)
          (subst (λ l. IsItsValue l (exp_of c.args.a.now) (exp_of c.args.b.now)) (sym s.1) k)),
    )
