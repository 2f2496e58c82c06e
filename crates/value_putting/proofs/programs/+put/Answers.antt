-- A loop is put together of what it begins with, its tests and its body.
use Rattle.std.proofs.Common.{rules, ◌≡◌, map, sym, ap, ◌∙◌}
use Rattle.c_values.specs.Name.{is_among}
use Rattle.expression_lang.specs.CodeExpression.{exp_of}
use Rattle.monad_lang.specs.Program as M
use Rattle.monad_lang.specs.Run.{start_names}
use Rattle.monad_lang.specs.CodeProgram.{start_of, mon_of}
use Rattle.program_facts.specs.Substituted.{program_substituted}
use Rattle.value_putting.specs.Parts.{program_behind}
use Rattle.value_putting.proofs.Parts.{loop_put}
use Rattle.value_putting.proofs.programs.+put.Goals as goal

pub opened-returns-in_ok-front-in-Loop-clause-same : goal.opened-returns-in_ok-front-in-Loop-clause-same
opened-returns-in_ok-front-in-Loop-clause-same t c =
    let x = c.args.name.now in
    let e = exp_of c.args.value.now in
    let here : mon_of c.args.m.now ≡ M.Loop (map start_of c.deref-in-Loop-2.result.now) (exp_of c.in-Loop.guard) (exp_of c.in-Loop.test) (mon_of c.deref-in-Loop-3.result.now) = search rules in
    let bound : c.is_started-bound.result ≡ is_among c.args.name.now (start_names (map start_of c.deref-in-Loop-2.result.now)) = search rules in
    c.behind-in-Loop.ensures.same x e
    ∙ c.in_ok-front-in-Loop.ensures (program_behind x e c.is_started-bound.result (mon_of c.deref-in-Loop-3.result.now))
    ∙ loop_put x e _ _ _ _ c.is_started-bound.result bound
    ∙ ap (λ q. program_substituted x e q) (sym here)
