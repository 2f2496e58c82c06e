-- What the values make of the postcondition is what is put.
use Rattle.std.proofs.Common.{map, ap}
use Rattle.expression_lang.specs.CodeExpression.{exp_of}
use Rattle.ac_expr.specs.CodeChain.{facts_of}
use Rattle.monad_lang.specs.CodeProgram.{mon_of}
use Rattle.std.proofs.Common.{◌∙◌}
use Rattle.assertion_walks.specs.Put.{exp_for}
use Rattle.hoare_check.specs.DeriveTable.{scope}
use Rattle.triple_lang.specs.CodeDeriv.{shows}
use Rattle.hoare_check.specs.CodePosed.{ground_of}
use Rattle.hoare_check.specs.CodeResults.{names_of}
use Rattle.hoare_check.proofs.DeriveRows.{ret_found}
use Rattle.assertion_walks.proofs.PutTables.{put_by}
use Rattle.entailment.proofs.Sorts.{assertion_sorted}
use Rattle.hoare_check.proofs.plain_derivations.derived_ret.Goals as goal

pub shown-requires : goal.shown-requires
shown-requires g c =
    let k = ground_of c.args.ground.now in
    assertion_sorted (scope k (g.N.Scope.scalars c.args.names.now)) k.lifted (exp_of c.args.before.now) (c.asserts.ensures.0 c.if-not-asserts.false)

pub returns : goal.returns
returns g c =
    let k = ground_of c.args.ground.now in
    let xs = names_of c.args.results in
    let es = map exp_of c.in-Ret.values.items in
    let q = exp_of c.args.post.now in
    let put = put_by (exp_for xs (map exp_of c.deref.result.now)) xs es (λ y. ap (λ ds. exp_for xs (map exp_of ds) y) c.deref.ensures.value) q in
    ret_found k (g.N.Scope.scalars c.args.names.now) (facts_of g.S.Sequence.parts c.args.facts.now) (mon_of c.args.m.now) xs q c.args.at
    c.next.result c.next.ensures es (ap mon_of c.in-Ret.is) (exp_of c.args.before.now) (shows c.args.tree.now) c.shown.result
    (c.asserts.ensures.0 c.if-not-asserts.false) (c.is_put.ensures.0 c.if-not-is_put.false ∙ put) c.shown.ensures
