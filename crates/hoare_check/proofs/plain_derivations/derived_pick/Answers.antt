-- The only name has the scalar of the kind.
use Rattle.std.proofs.Common.{◌≡◌, true, Some, ap, sym, subst, ◌∙◌}
use Rattle.c_values.specs.Name.{with_name}
use Rattle.expression_lang.specs.CodeExpression.{exp_of, kind_of}
use Rattle.expression_lang.specs.Sort.{Scalar, sort_of, is_truth}
use Rattle.expression_lang.specs.CodeSort.{scalar_of}
use Rattle.ac_expr.specs.CodeChain.{facts_of}
use Rattle.ac_expr.specs.Passed.{without_names}
use Rattle.monad_lang.specs.Program as M
use Rattle.monad_lang.specs.CodeProgram.{mon_of}
use Rattle.triple_lang.specs.Deriv.{Names}
use Rattle.hoare_check.specs.DeriveTable.{scope}
use Rattle.triple_lang.specs.CodeDeriv.{shows}
use Rattle.hoare_check.specs.CodePosed.{IsPosed, ground_of}
use Rattle.hoare_check.specs.CodeResults.{names_of}
use Rattle.hoare_check.specs.CodeScoping.{names_in}
use Rattle.hoare_check.proofs.DeriveRows.{pick_found, behind_pick}
use Rattle.hoare_check.proofs.Posing.{truth_behind}
use Rattle.hoare_check.proofs.plain_derivations.derived_pick.Goals as goal

pub shown-requires : goal.shown-requires
shown-requires g c =
    let k = ground_of c.args.ground.now in
    let ns = names_in g.N.Scope.scalars c.args.names.now in
    let xs = names_of c.args.results in
    let x = c.in-Some.name.now in
    let q = exp_of c.args.post.now in
    let kind = kind_of c.in-Pick.kind in
    let posed = subst (λ n. IsPosed k ns n xs q) (ap mon_of c.in-Pick.is) c.requires in
    let there = ap (λ (s : Scalar). with_name x (Some s) ns) c.scalar-scalar.ensures ∙ behind_pick k ns kind xs x q c.in-Some.ensures.some posed in
    subst (λ (ms : Names). is_truth (sort_of (scope k ms) q) ≡ true) (sym there) (truth_behind k ns (M.Pick kind) xs q posed)

pub returns : goal.returns
returns g c =
    let k = ground_of c.args.ground.now in
    let ns = names_in g.N.Scope.scalars c.args.names.now in
    let fs = facts_of g.S.Sequence.parts c.args.facts.now in
    let xs = names_of c.args.results in
    let x = c.in-Some.name.now in
    let q = exp_of c.args.post.now in
    let kind = kind_of c.in-Pick.kind in
    let posed = subst (λ n. IsPosed k ns n xs q) (ap mon_of c.in-Pick.is) c.requires in
    let there = ap (λ (s : Scalar). with_name x (Some s) ns) c.scalar-scalar.ensures ∙ behind_pick k ns kind xs x q c.in-Some.ensures.some posed in
    pick_found k ns fs (mon_of c.args.m.now) xs q c.args.at c.next.result c.next.ensures kind (ap mon_of c.in-Pick.is)
    (with_name x (Some (scalar_of c.scalar-scalar.result)) ns) there (facts_of g.S.Sequence.parts c.bind-known.result)
    (c.bind-known.ensures.facts ∙ ap (λ ys. without_names ys fs) (sym c.in-Some.ensures.some)) (shows c.args.tree.now) c.shown.result c.shown.ensures
