-- The point in the loop is the one that the code has.
use Rattle.std.proofs.Common.{◌≡◌, [], ◌∷◌, ◌↔◌, IsTrue, subst, ap, ◌∙◌}
use Rattle.expression_lang.specs.CodeExpression.{exp_of}
use Rattle.ac_expr.specs.Fact.{Whole}
use Rattle.monad_lang.specs.CodeProgram.{mon_of}
use Rattle.monad_sorts.specs.CodeInside.{scalars_in}
use Rattle.rule_eq.specs.Rule.{Point}
use Rattle.rule_eq.specs.Table.{StepApart}
use Rattle.rule_eq.specs.CodeRule.{known_in}
use Rattle.rule_eq.proofs.Turning.{turned_here}
use Rattle.rule_eq.proofs.exp_instances.are_tests_apart.Goals as goal

pub returns : goal.returns
returns c =
    let facts : known_in c.with-guarded.result ≡ Whole (exp_of c.args.guard.now) ∷ [] =
    c.with-guarded.ensures.facts ∙ ap (λ fs. Whole (exp_of c.args.guard.now) ∷ fs) c.no_facts.ensures in
    subst (λ (p : Point). IsTrue c.is_apart.result ↔ StepApart p (exp_of c.args.test.now) (exp_of c.args.other.now))
    (turned_here c.args.setting (known_in c.args.facts.now) (known_in c.with-guarded.result) (Whole (exp_of c.args.guard.now) ∷ [])
    (scalars_in c.args.inside.now) (scalars_in c.pass-names.result) (mon_of c.args.turn.now) c.requires.turn c.requires.sorted
    c.pass-names.ensures facts)
    c.is_apart.ensures
