-- The point in the loop is the one that the code has.
use Rattle.std.proofs.Common.{[], ◌↔◌, IsTrue, subst}
use Rattle.expression_lang.specs.CodeExpression.{exp_of}
use Rattle.monad_lang.specs.CodeProgram.{mon_of}
use Rattle.monad_sorts.specs.CodeInside.{scalars_in}
use Rattle.rule_eq.specs.Rule.{Point}
use Rattle.rule_eq.specs.Table.{StepApart}
use Rattle.rule_eq.specs.CodeRule.{known_in}
use Rattle.rule_eq.proofs.Turning.{turned_here}
use Rattle.rule_eq.proofs.exp_instances.are_guards_apart.Goals as goal

pub returns : goal.returns
returns c =
    subst (λ (p : Point). IsTrue c.is_apart.result ↔ StepApart p (exp_of c.args.guard.now) (exp_of c.args.other.now))
    (turned_here c.args.setting (known_in c.args.facts.now) (known_in c.no_facts.result.now) [] (scalars_in c.args.inside.now)
    (scalars_in c.pass-names.result) (mon_of c.args.turn.now) c.requires.turn c.requires.sorted c.pass-names.ensures c.no_facts.ensures)
    c.is_apart.ensures
