-- A call that gives a value: it has one name, which is in scope behind it.
use Rattle.std.proofs.Common.{◌≡◌, true, Some, map, ap, sym, subst, ◌∙◌}
use Rattle.c_values.specs.Name.{with_name}
use Rattle.expression_lang.specs.CodeExpression.{exp_of, kind_of}
use Rattle.expression_lang.specs.Sort.{Scalar, sort_of, is_truth}
use Rattle.ac_expr.specs.CodeChain.{facts_of}
use Rattle.ac_expr.specs.Facts.{without_name, without_reads}
use Rattle.ac_expr.specs.Passed.{without_names}
use Rattle.monad_lang.specs.Program as M
use Rattle.monad_lang.specs.CodeProgram.{final_fn_of}
use Rattle.triple_lang.specs.Deriv.{Names}
use Rattle.hoare_check.specs.DeriveTable.{scope}
use Rattle.hoare_check.specs.CodePosed.{ground_of}
use Rattle.hoare_check.specs.CodeResults.{names_of}
use Rattle.hoare_check.specs.CodeScoping.{names_in}
use Rattle.hoare_check.proofs.Posing.{truth_behind}
use Rattle.hoare_check.proofs.CallPosed.{arguments_as_many, names_as_many, one_name, behind_result}
use Rattle.hoare_check.proofs.call_derivations.derived_naming.Goals as goal

pub derived_by-requires-clause-arguments : goal.derived_by-requires-clause-arguments
derived_by-requires-clause-arguments g c =
    let (x, found, posed) = c.requires.posed in
    arguments_as_many (ground_of c.args.ground.now) (names_in g.N.Scope.scalars c.args.names.now) x (map exp_of c.args.arguments.now)
    (names_of c.args.results) (exp_of c.args.post.now) (final_fn_of c.args.callee.function.now) found posed

pub derived_by-requires-clause-results : goal.derived_by-requires-clause-results
derived_by-requires-clause-results g c =
    let (x, found, posed) = c.requires.posed in
    names_as_many (ground_of c.args.ground.now) (names_in g.N.Scope.scalars c.args.names.now) x (map exp_of c.args.arguments.now)
    (names_of c.args.results) (exp_of c.args.post.now) (final_fn_of c.args.callee.function.now) found posed

pub derived_by-requires-clause-truth : goal.derived_by-requires-clause-truth
derived_by-requires-clause-truth g c =
    let k = ground_of c.args.ground.now in
    let ns = names_in g.N.Scope.scalars c.args.names.now in
    let xs = names_of c.args.results in
    let q = exp_of c.args.post.now in
    let es = map exp_of c.args.arguments.now in
    let (x, found, posed) = c.requires.posed in
    let name = c.in-Some.result.now in
    let there = ap (λ (s : Scalar). with_name name (Some s) ns) c.scalar-scalar.ensures
    ∙ behind_result k ns x es xs q (final_fn_of c.args.callee.function.now) found posed (kind_of c.args.kind) c.requires.kind.0 c.requires.kind.1 name c.in-Some.ensures.some in
    subst (λ (ms : Names). is_truth (sort_of (scope k ms) q) ≡ true) (sym there) (truth_behind k ns (M.Call x es) xs q posed)

pub returns-in_default : goal.returns-in_default
returns-in_default g c i x called posed =
    absurd (c.in_default.ensures.none (one_name (ground_of c.args.ground.now) (names_in g.N.Scope.scalars c.args.names.now) x (map exp_of c.args.arguments.now)
    (names_of c.args.results) (exp_of c.args.post.now) (final_fn_of c.args.callee.function.now) called.found posed (kind_of c.args.kind)
    c.requires.kind.0 c.requires.kind.1))

pub returns : goal.returns
returns g c i x called posed =
    let k = ground_of c.args.ground.now in
    let ns = names_in g.N.Scope.scalars c.args.names.now in
    let fs = facts_of g.S.Sequence.parts c.args.facts.now in
    let xs = names_of c.args.results in
    let q = exp_of c.args.post.now in
    let es = map exp_of c.args.arguments.now in
    let name = c.in-Some.result.now in
    let there = ap (λ (s : Scalar). with_name name (Some s) ns) c.scalar-scalar.ensures
    ∙ behind_result k ns x es xs q (final_fn_of c.args.callee.function.now) called.found posed (kind_of c.args.kind) c.requires.kind.0 c.requires.kind.1 name c.in-Some.ensures.some in
    let known = c.bind-bound.ensures.facts ∙ ap (without_name name) c.requires.known ∙ ap (λ ys. without_names ys (without_reads fs)) (sym c.in-Some.ensures.some) in
    c.derived_by.ensures i x called (record { names = there; facts = known })
