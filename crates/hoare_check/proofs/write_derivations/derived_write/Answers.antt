-- What the postcondition says before the write is an assertion.
use Rattle.std.proofs.Common.{rules, ◌≡◌, ◌∙◌, Err, sym, subst}
use Rattle.std.proofs.lemmas.Bool.{false≢true}
use Rattle.expression_lang.specs.CodeExpression.{exp_of, path_of}
use Rattle.ac_expr.specs.CodeChain.{facts_of}
use Rattle.monad_lang.specs.Program as M
use Rattle.monad_lang.specs.CodeProgram.{mon_of}
use Rattle.c_values.specs.CodeTypes.{type_of}
use Rattle.rule_trees.specs.RuleTree.{Checked, node, no_trees, tree}
use Rattle.triple_lang.specs.Deriv as R
use Rattle.triple_lang.specs.Deriv.{derived}
use Rattle.assertion_walks.specs.Written.{Place}
use Rattle.hoare_check.specs.DeriveTable.{scope, table}
use Rattle.triple_lang.specs.CodeDeriv.{shows}
use Rattle.hoare_check.specs.CodePosed.{ground_of}
use Rattle.hoare_check.specs.CodeResults.{names_of}
use Rattle.hoare_check.proofs.DeriveRows.{write_found}
use Rattle.hoare_check.proofs.NodeParts.{no_instance}
use Rattle.entailment.proofs.Sorts.{assertion_sorted}
use Rattle.hoare_check.proofs.write_derivations.derived_write.Goals as goal

pub shown-requires : goal.shown-requires
shown-requires g c =
    let k = ground_of c.args.ground.now in
    assertion_sorted (scope k (g.N.Scope.scalars c.args.names.now)) k.lifted (exp_of c.args.before.now)
    (c.asserts_before.ensures.0 c.if-not-asserts_before.false).1

pub returns : goal.returns
returns g c =
    let w : Place = record {
      type = type_of c.in-Write-Written-default.t;
      address = exp_of c.in-Write-Written-default.address;
      path = path_of c.in-Write-Written-default.path;
    } in
    let v = exp_of c.in-Write-Written-default.value in
    let is : mon_of c.args.m.now ≡ M.Write (M.Written w.type w.address w.path) v = search rules in
    write_found (ground_of c.args.ground.now) (g.N.Scope.scalars c.args.names.now) (facts_of g.S.Sequence.parts c.args.facts.now)
    (mon_of c.args.m.now) (names_of c.args.results) (exp_of c.args.post.now) c.args.at c.next.result c.next.ensures w
    v is (exp_of c.args.before.now)
    (shows c.args.tree.now) c.shown.result (c.asserts_before.ensures.0 c.if-not-asserts_before.false) c.shown.ensures

pub returns-then-not-asserts_before : goal.returns-then-not-asserts_before
returns-then-not-asserts_before g c =
    let k = ground_of c.args.ground.now in
    let ns = g.N.Scope.scalars c.args.names.now in
    let fs = facts_of g.S.Sequence.parts c.args.facts.now in
    let xs = names_of c.args.results in
    let q = exp_of c.args.post.now in
    let rule = R.Write (exp_of c.args.before.now) in
    let parts = tree (shows c.args.tree.now) no_trees in
    let w : Place = record {
      type = type_of c.in-Write-Written-default.t;
      address = exp_of c.in-Write-Written-default.address;
      path = path_of c.in-Write-Written-default.path;
    } in
    let v = exp_of c.in-Write-Written-default.value in
    let is : mon_of c.args.m.now ≡ M.Write (M.Written w.type w.address w.path) v = search rules in
    subst (λ n. Checked (table k) (node rule parts) (derived ns fs n xs q) c.args.at (Err c.args.at)) (sym is)
    (no_instance (table k) rule (derived ns fs (M.Write (M.Written w.type w.address w.path) v) xs q) c.args.at parts
    (λ h. false≢true (sym c.if-not-asserts_before.true ∙ c.asserts_before.ensures.1 h)))
