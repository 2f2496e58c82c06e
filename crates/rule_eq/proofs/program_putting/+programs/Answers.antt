-- A loop's names bind the name or don't.
use Rattle.std.proofs.Common.{◌≡◌, map, ap, ap₂, sym, subst, ◌∙◌}
use Rattle.expression_lang.specs.CodeExpression.{exp_of}
use Rattle.monad_lang.specs.CodeProgram.{start_of, mon_of}
use Rattle.program_facts.specs.Substituted.{program_substituted}
use Rattle.rule_eq.specs.CodePutting.{SaysOf, turn_put}
use Rattle.rule_eq.proofs.ProgramPutting.{loop_put}
use Rattle.rule_eq.proofs.program_putting.+programs.Goals as goal

pub look-returns-in-Loop-clause-says : goal.look-returns-in-Loop-clause-says
look-returns-in-Loop-clause-says t c =
    let put : turn_put c.args.name.now (exp_of c.args.value.now) (map start_of c.deref-in-Loop.result.now) (exp_of c.in-Loop.guard) (exp_of c.in-Loop.test) (mon_of c.deref-in-Loop-2.result.now)
    ≡ program_substituted c.args.name.now (exp_of c.args.value.now) (mon_of c.args.m.now) =
    ap₂ (λ xs q. turn_put c.args.name.now (exp_of c.args.value.now) (map start_of xs) (exp_of c.in-Loop.guard) (exp_of c.in-Loop.test) (mon_of q)) c.deref-in-Loop.ensures.value c.deref-in-Loop-2.ensures
    ∙ loop_put c.args.name.now (exp_of c.args.value.now) (map start_of c.in-Loop.starts.items) (exp_of c.in-Loop.guard) (exp_of c.in-Loop.test) (mon_of c.in-Loop.last.value)
    ∙ ap (λ q. program_substituted c.args.name.now (exp_of c.args.value.now) q) (sym (ap mon_of c.in-Loop.is)) in
    subst (λ q. SaysOf c.args.name.now (exp_of c.args.value.now) c.look_into.result q (mon_of c.args.right.now)) put c.look_into.ensures.says
