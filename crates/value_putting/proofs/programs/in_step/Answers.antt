-- A write is put together of its place and its value.
use Rattle.std.proofs.Common.{rules, ◌≡◌, sym, ap, ◌∙◌}
use Rattle.std.proofs.lemmas.Result.{IfOk-weaker}
use Rattle.expression_lang.specs.CodeExpression.{exp_of}
use Rattle.ac_expr.specs.Substituted.{substituted}
use Rattle.monad_lang.specs.Program as M
use Rattle.monad_lang.specs.CodeProgram.{place_of, mon_of}
use Rattle.program_facts.specs.Substituted.{place_substituted, program_substituted}
use Rattle.value_putting.proofs.Parts.{write_put}
use Rattle.value_putting.proofs.programs.in_step.Goals as goal

pub returns-in_ok-place-in-Write : goal.returns-in_ok-place-in-Write
returns-in_ok-place-in-Write c =
    let x = c.args.name.now in
    let e = exp_of c.args.value.now in
    let here : mon_of c.args.m.now ≡ M.Write (place_of c.in-Write.place) (exp_of c.in-Write.written) = ap mon_of c.in-Write.is in
    let place : place_of c.in_ok-place-in-Write.place ≡ place_substituted c.args.name.now (exp_of c.args.value.now) (place_of c.in-Write.place) = search rules in
    let written : exp_of c.into_inner-in-Write.result ≡ substituted c.args.name.now (exp_of c.args.value.now) (exp_of c.in-Write.written) = search rules in
    let whole : M.Write (place_of c.in_ok-place-in-Write.place) (exp_of c.into_inner-in-Write.result) ≡ program_substituted c.args.name.now (exp_of c.args.value.now) (mon_of c.args.m.now) = write_put x e _ _ _ _ place written ∙ ap (λ q. program_substituted x e q) (sym here) in
    IfOk-weaker c.boxed-in-Write.result _ _ (λ new is. ap mon_of is ∙ whole) c.boxed-in-Write.ensures
