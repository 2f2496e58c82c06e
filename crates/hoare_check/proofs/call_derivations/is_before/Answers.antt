-- The arguments stand for the parameters, and the logical values for the logical variables.
use Rattle.std.proofs.Common.{map, ap, sym, ◌∙◌}
use Rattle.expression_lang.specs.CodeExpression.{exp_of}
use Rattle.expression_lang.specs.CodeSignature.{binder_of}
use Rattle.expression_lang.specs.Signature.{names_of}
use Rattle.monad_lang.specs.CodeProgram.{final_fn_of}
use Rattle.exactness.specs.Triple.{logical_names}
use Rattle.assertion_walks.specs.Put.{exp_for}
use Rattle.assertion_walks.proofs.PutTables.{put_by_both}
use Rattle.triple_lang.specs.CodeDeriv.{logical_of}
use Rattle.hoare_check.specs.CodeCalled.{assertions_of}
use Rattle.hoare_check.proofs.call_derivations.is_before.Goals as goal

pub returns : goal.returns
returns c =
    let t = assertions_of c.args.callee.triple.now in
    let f = final_fn_of c.args.callee.function.now in
    let es = map exp_of c.args.arguments.now in
    let ls = map exp_of c.args.logicals.now in
    let same = put_by_both (λ y. exp_for (names_of (map binder_of c.deref.result.now)) es y)
    (λ y. exp_for (logical_names (map logical_of c.deref-2.result.now)) ls y) (names_of f.params) (logical_names t.logicals) es ls c.requires
    (λ y. ap (λ bs. exp_for (names_of (map binder_of bs)) es y) c.deref.ensures.value)
    (λ y. ap (λ xs. exp_for (logical_names (map logical_of xs)) ls y) c.deref-2.ensures.value) t.before in
    (λ h. c.is_put.ensures.0 h ∙ same, λ h. c.is_put.ensures.1 (h ∙ sym same))
