-- What is asked of the call holds, and both parts decide.
use Rattle.std.proofs.Common.{map}
use Rattle.expression_lang.specs.CodeExpression.{exp_of}
use Rattle.ac_expr.specs.CodeChain.{facts_of}
use Rattle.monad_lang.specs.CodeProgram.{final_fn_of}
use Rattle.entailment.proofs.Sorts.{assertion_sorted}
use Rattle.triple_lang.specs.CodeDeriv.{shows}
use Rattle.hoare_check.specs.DeriveTable.{scope}
use Rattle.hoare_check.specs.CodeCalled.{assertions_of}
use Rattle.hoare_check.specs.CodePosed.{ground_of}
use Rattle.hoare_check.specs.CodeResults.{names_of}
use Rattle.hoare_check.proofs.CallChecked.{call_found}
use Rattle.hoare_check.proofs.call_derivations.derived_by.Goals as goal

pub shown-requires : goal.shown-requires
shown-requires g c =
    let k = ground_of c.args.ground.now in
    assertion_sorted (scope k (g.N.Scope.scalars c.args.names.now)) k.lifted (exp_of c.args.before.now)
    (c.is_asked.ensures.0 c.if-not-is_asked.false).2

pub returns : goal.returns
returns g c i x called behind =
    let t = assertions_of c.args.callee.triple.now in
    let f = final_fn_of c.args.callee.function.now in
    call_found (ground_of c.args.ground.now) (g.N.Scope.scalars c.args.names.now) (facts_of g.S.Sequence.parts c.args.facts.now) i x
    (map exp_of c.args.arguments.now) (names_of c.args.results) (exp_of c.args.post.now) (map exp_of c.args.logicals.now) (exp_of c.args.before.now)
    (exp_of c.args.after.now) c.args.at t f called (g.O.Scope.scalars c.args.inner.now) (facts_of g.S.Sequence.parts c.args.known.now) behind
    (c.is_asked.ensures.0 c.if-not-is_asked.false) (c.is_given.ensures.0 c.if-not-is_given.false) c.next.result c.next.ensures
    (shows c.args.asked.now) (shows c.args.given.now) c.shown.result c.in_ok-behind.behind c.shown_knowing.result
    c.shown.ensures c.in_ok-behind.was c.shown_knowing.ensures
