-- The names of the results stand for the function's own, and the logical values for the logical variables.
use Rattle.std.proofs.Common.{map, ap, sym, ◌∙◌}
use Rattle.std.proofs.lemmas.List.{length-map}
use Rattle.expression_lang.specs.CodeExpression.{exp_of}
use Rattle.expression_lang.specs.Expression.{Var}
use Rattle.monad_lang.specs.CodeProgram.{final_fn_of}
use Rattle.exactness.specs.Triple.{logical_names, result_names}
use Rattle.assertion_walks.specs.Put.{exp_for}
use Rattle.assertion_walks.proofs.PutTables.{put_by_both}
use Rattle.triple_lang.specs.CodeDeriv.{logical_of}
use Rattle.hoare_check.specs.DeriveTable.{variables}
use Rattle.hoare_check.specs.CodeCalled.{assertions_of}
use Rattle.hoare_check.specs.CodeResults.{names_of}
use Rattle.hoare_check.proofs.call_derivations.is_after.Goals as goal

pub returns : goal.returns
returns c =
    let t = assertions_of c.args.callee.triple.now in
    let f = final_fn_of c.args.callee.function.now in
    let xs = names_of c.args.results in
    let ls = map exp_of c.args.logicals.now in
    let same = put_by_both (λ y. exp_for (names_of c.result_of.result) (variables xs) y)
    (λ y. exp_for (logical_names (map logical_of c.deref.result.now)) ls y) (result_names f.results) (logical_names t.logicals) (variables xs) ls
    (length-map xs (λ x. Var x) ∙ c.requires)
    (λ y. ap (λ zs. exp_for zs (variables xs) y) c.result_of.ensures)
    (λ y. ap (λ ns. exp_for (logical_names (map logical_of ns)) ls y) c.deref.ensures.value) t.after in
    (λ h. c.is_put.ensures.0 h ∙ same, λ h. c.is_put.ensures.1 (h ∙ sym same))
