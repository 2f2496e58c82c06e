-- The parts of the equation are its own.
use Rattle.std.proofs.Common.{rules, ◌≡◌, ◌↔◌, sym, subst, IsTrue}
use Rattle.expression_lang.specs.Expression.{Not, Eq}
use Rattle.expression_lang.specs.CodeExpression.{exp_of}
use Rattle.ac_expr.specs.Step.{Shortens}
use Rattle.ac_expr.proofs.steps.drops_not.Goals as goal

pub returns-in-Eq : goal.returns-in-Eq
returns-in-Eq c = λ g fs.
    let e : exp_of c.args.x.now ≡ Eq (exp_of c.deref-in-Eq.result.now) (exp_of c.deref-in-Eq-2.result.now) = search rules in
    subst (λ x. IsTrue c.drops_flag.result ↔ Shortens g fs (Not x) (exp_of c.args.b.now)) (sym e) (c.drops_flag.ensures g fs)
