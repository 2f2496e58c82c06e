-- The parts of the equation are its own.
use Rattle.std.proofs.Common.{rules, ◌≡◌, ◌↔◌, sym, subst, IsTrue}
use Rattle.expression_lang.specs.Expression.{Not, Eq}
use Rattle.expression_lang.specs.CodeExpression.{exp_of}
use Rattle.ac_expr.specs.Step.{Shortens}
use Rattle.entailment.specs.CodeSides.{sides_of}
use Rattle.entailment.proofs.lengthening.not_gives.Goals as goal

pub returns-in-Eq : goal.returns-in-Eq
returns-in-Eq c = λ g fs.
    let e : exp_of c.args.x.now ≡ Eq (exp_of c.deref-in-Eq.result.now) (exp_of c.deref-in-Eq-2.result.now) = search rules in
    subst (λ x. IsTrue c.flag_gives.result ↔ Shortens g fs (Not x) (sides_of c.args.sides.now)) (sym e) (c.flag_gives.ensures g fs)
