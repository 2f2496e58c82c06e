-- What the postcondition says before the write is an assertion.
use Rattle.std.proofs.Common.{rules, ◌≡◌, subst, string_bytes}
use Rattle.c_values.specs.Name.{Name}
use Rattle.expression_lang.specs.CodeExpression.{exp_of, path_of}
use Rattle.ac_expr.specs.CodeChain.{facts_of}
use Rattle.monad_lang.specs.Program as M
use Rattle.monad_lang.specs.CodeProgram.{mon_of}
use Rattle.hoare_check.specs.DeriveTable.{scope}
use Rattle.assertion_walks.specs.Written.{IsBeforeGlobal}
use Rattle.triple_lang.specs.CodeDeriv.{shows}
use Rattle.hoare_check.specs.CodePosed.{ground_of}
use Rattle.hoare_check.specs.CodeResults.{names_of}
use Rattle.hoare_check.proofs.DeriveRows.{gset_found}
use Rattle.entailment.proofs.Sorts.{assertion_sorted}
use Rattle.hoare_check.proofs.plain_derivations.derived_gset.Goals as goal

pub shown-requires : goal.shown-requires
shown-requires g c =
    let k = ground_of c.args.ground.now in
    assertion_sorted (scope k (g.N.Scope.scalars c.args.names.now)) k.lifted (exp_of c.args.before.now) (c.asserts.ensures.0 c.if-not-asserts.false)

pub returns : goal.returns
returns g c =
    let x = string_bytes c.in-Write-Global-default.name in
    let path = path_of c.in-Write-Global-default.path in
    let v = exp_of c.in-Write-Global-default.value in
    let q = exp_of c.args.post.now in
    let e = exp_of c.args.before.now in
    let is : mon_of c.args.m.now ≡ M.Write (M.Global x path) v = search rules in
    gset_found (ground_of c.args.ground.now) (g.N.Scope.scalars c.args.names.now) (facts_of g.S.Sequence.parts c.args.facts.now)
    (mon_of c.args.m.now) (names_of c.args.results) q c.args.at c.next.result c.next.ensures x path v is e
    (shows c.args.tree.now) c.shown.result (c.asserts.ensures.0 c.if-not-asserts.false)
    (subst (λ (y : Name). IsBeforeGlobal y path v q e) c.as_str.ensures.value (c.is_before_global.ensures.0 c.if-not-is_before_global.false))
    c.shown.ensures
