-- The guard and the postcondition are truth values, and both parts decide.
use Rattle.std.proofs.Common.{ap, subst}
use Rattle.expression_lang.specs.CodeExpression.{exp_of}
use Rattle.ac_expr.specs.CodeChain.{facts_of}
use Rattle.monad_lang.specs.CodeProgram.{mon_of}
use Rattle.triple_lang.specs.CodeDeriv.{shows}
use Rattle.hoare_check.specs.CodePosed.{IsPosed, ground_of}
use Rattle.hoare_check.specs.CodeResults.{names_of}
use Rattle.hoare_check.proofs.DeriveRows.{guard_found}
use Rattle.hoare_check.proofs.Posing.{guard_posed}
use Rattle.hoare_check.proofs.plain_derivations.derived_guard.Goals as goal

pub shown-requires : goal.shown-requires
shown-requires g c =
    let k = ground_of c.args.ground.now in
    let ns = g.N.Scope.scalars c.args.names.now in
    let xs = names_of c.args.results in
    let q = exp_of c.args.post.now in
    (guard_posed k ns (exp_of c.in-Guard.condition) xs q (subst (λ n. IsPosed k ns n xs q) (ap mon_of c.in-Guard.is) c.requires)).0

pub shown_knowing-requires : goal.shown_knowing-requires
shown_knowing-requires g c =
    let k = ground_of c.args.ground.now in
    let ns = g.N.Scope.scalars c.args.names.now in
    let xs = names_of c.args.results in
    let q = exp_of c.args.post.now in
    (guard_posed k ns (exp_of c.in-Guard.condition) xs q (subst (λ n. IsPosed k ns n xs q) (ap mon_of c.in-Guard.is) c.requires)).1

pub returns : goal.returns
returns g c =
    guard_found (ground_of c.args.ground.now) (g.N.Scope.scalars c.args.names.now) (facts_of g.S.Sequence.parts c.args.facts.now)
    (mon_of c.args.m.now) (names_of c.args.results) (exp_of c.args.post.now) c.args.at c.next.result c.next.ensures (exp_of c.in-Guard.condition)
    (ap mon_of c.in-Guard.is) (shows c.args.first.now) (shows c.args.last.now) c.shown.result c.in_ok-behind.behind c.shown_knowing.result
    c.shown.ensures c.in_ok-behind.was c.shown_knowing.ensures
