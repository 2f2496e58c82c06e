-- A call by a triple of its function, which gives a value or none.
use Rattle.std.proofs.Common.{◌≡◌, true, ◌∷◌, [], map, length, List, None, string_bytes, refl, ap, sym, subst, ◌∙◌}
use Rattle.std.specs.Prelude.{slice_get}
use Rattle.c_values.specs.Name.{Name}
use Rattle.expression_lang.specs.CodeExpression.{exp_of, kind_of}
use Rattle.expression_lang.specs.declared.sort.Kind.{Kind}
use Rattle.expression_lang.specs.Sort.{sort_of, is_truth}
use Rattle.ac_expr.specs.CodeChain.{facts_of}
use Rattle.ac_expr.specs.Facts.{without_reads}
use Rattle.ac_expr.specs.Passed.{without_names}
use Rattle.monad_lang.specs.Program as M
use Rattle.monad_lang.specs.CodeProgram.{mon_of, final_fn_of}
use Rattle.rule_trees.specs.RuleTree.{Checked, node}
use Rattle.triple_lang.specs.Deriv as R
use Rattle.triple_lang.specs.Deriv.{Names, derived}
use Rattle.triple_lang.specs.CodeDeriv.{shows, trees}
use Rattle.hoare_check.specs.DeriveTable.{scope, table}
use Rattle.hoare_check.specs.CodeCalled.{IsBehind, IsCalled, assertions_of}
use Rattle.hoare_check.specs.CodePosed.{IsPosed, ground_of}
use Rattle.hoare_check.specs.CodeResults.{names_of}
use Rattle.hoare_check.specs.CodeScoping.{names_in}
use Rattle.hoare_check.proofs.Posing.{truth_behind}
use Rattle.hoare_check.proofs.CallPosed.{arguments_as_many, names_as_many, behind_nothing, unnamed}
use Rattle.hoare_check.proofs.call_derivations.derived_call.Goals as goal

no_result : (ks : List Kind) → None ≡ slice_get ks 0 → map kind_of ks ≡ []
no_result [] h = refl
no_result (k ∷ ks) h = absurd cc

pub derived_by-requires-clause-arguments : goal.derived_by-requires-clause-arguments
derived_by-requires-clause-arguments g c =
    let k = ground_of c.args.ground.now in
    let ns = names_in g.N.Scope.scalars c.args.names.now in
    let xs = names_of c.args.results in
    let q = exp_of c.args.post.now in
    let posed = subst (λ n. IsPosed k ns n xs q) (ap mon_of c.in-Call.is) c.requires in
    let called = subst (λ (x : Name). IsCalled k c.args.triple x (assertions_of c.in-Some.callee.triple.now) (final_fn_of c.in-Some.callee.function.now)) c.as_str.ensures.value c.in-Some.ensures.some in
    ap (λ es. length (map exp_of es)) c.deref-in_default-first.ensures.value
    ∙ arguments_as_many k ns (string_bytes c.in-Call.name) (map exp_of c.in-Call.arguments.items) xs q (final_fn_of c.in-Some.callee.function.now) called.found posed

pub derived_by-requires-clause-results : goal.derived_by-requires-clause-results
derived_by-requires-clause-results g c =
    let k = ground_of c.args.ground.now in
    let ns = names_in g.N.Scope.scalars c.args.names.now in
    let xs = names_of c.args.results in
    let q = exp_of c.args.post.now in
    let posed = subst (λ n. IsPosed k ns n xs q) (ap mon_of c.in-Call.is) c.requires in
    let called = subst (λ (x : Name). IsCalled k c.args.triple x (assertions_of c.in-Some.callee.triple.now) (final_fn_of c.in-Some.callee.function.now)) c.as_str.ensures.value c.in-Some.ensures.some in
    names_as_many k ns (string_bytes c.in-Call.name) (map exp_of c.in-Call.arguments.items) xs q (final_fn_of c.in-Some.callee.function.now) called.found posed

pub derived_by-requires-clause-truth : goal.derived_by-requires-clause-truth
derived_by-requires-clause-truth g c =
    let k = ground_of c.args.ground.now in
    let ns = names_in g.N.Scope.scalars c.args.names.now in
    let xs = names_of c.args.results in
    let q = exp_of c.args.post.now in
    let f = final_fn_of c.in-Some.callee.function.now in
    let x = string_bytes c.in-Call.name in
    let posed = subst (λ n. IsPosed k ns n xs q) (ap mon_of c.in-Call.is) c.requires in
    let called = subst (λ (y : Name). IsCalled k c.args.triple y (assertions_of c.in-Some.callee.triple.now) f) c.as_str.ensures.value c.in-Some.ensures.some in
    let es = map exp_of c.in-Call.arguments.items in
    let none : f.results ≡ [] = no_result c.in-Some.callee.function.now.results.items (c.in_default-first.ensures.value ∙ ap (λ ks. slice_get ks 0) c.deref.ensures.value) in
    subst (λ (ms : Names). is_truth (sort_of (scope k ms) q) ≡ true) (sym (behind_nothing k ns x es xs q f called.found posed none))
    (truth_behind k ns (M.Call x es) xs q posed)

pub returns-in_default-first : goal.returns-in_default-first
returns-in_default-first g c =
    let k = ground_of c.args.ground.now in
    let ns = names_in g.N.Scope.scalars c.args.names.now in
    let xs = names_of c.args.results in
    let q = exp_of c.args.post.now in
    let f = final_fn_of c.in-Some.callee.function.now in
    let x = string_bytes c.in-Call.name in
    let posed = subst (λ n. IsPosed k ns n xs q) (ap mon_of c.in-Call.is) c.requires in
    let called = subst (λ (y : Name). IsCalled k c.args.triple y (assertions_of c.in-Some.callee.triple.now) f) c.as_str.ensures.value c.in-Some.ensures.some in
    let fs = facts_of g.S.Sequence.parts c.args.facts.now in
    let es = map exp_of c.deref-in_default-first.result.now in
    let is : mon_of c.args.m.now ≡ M.Call x es = ap mon_of c.in-Call.is ∙ ap (λ ds. M.Call x (map exp_of ds)) (sym c.deref-in_default-first.ensures.value) in
    let posed_here = subst (λ n. IsPosed k ns n xs q) is c.requires in
    let none : f.results ≡ [] = no_result c.in-Some.callee.function.now.results.items (c.in_default-first.ensures.value ∙ ap (λ ks. slice_get ks 0) c.deref.ensures.value) in
    let behind : IsBehind k ns fs x es xs ns (facts_of g.S.Sequence.parts c.forget_reads-forgetting.result) = record {
      names = behind_nothing k ns x es xs q f called.found posed_here none;
      facts = c.forget_reads-forgetting.ensures.facts ∙ ap (λ ys. without_names ys (without_reads fs)) (sym (unnamed k ns x es xs q f called.found posed_here none));
    } in
    subst (λ n. Checked (table k) (node (R.Call c.args.triple (map exp_of c.args.logicals.now) (exp_of c.args.before.now) (exp_of c.args.after.now))
    (trees (shows c.args.asked.now ∷ shows c.args.given.now ∷ []))) (derived ns fs n xs q) c.args.at c.derived_by.result) (sym is)
    (c.derived_by.ensures c.args.triple x called behind)

pub returns : goal.returns
returns g c =
    let k = ground_of c.args.ground.now in
    let ns = names_in g.N.Scope.scalars c.args.names.now in
    let xs = names_of c.args.results in
    let q = exp_of c.args.post.now in
    let f = final_fn_of c.in-Some.callee.function.now in
    let x = string_bytes c.in-Call.name in
    let posed = subst (λ n. IsPosed k ns n xs q) (ap mon_of c.in-Call.is) c.requires in
    let called = subst (λ (y : Name). IsCalled k c.args.triple y (assertions_of c.in-Some.callee.triple.now) f) c.as_str.ensures.value c.in-Some.ensures.some in
    let fs = facts_of g.S.Sequence.parts c.args.facts.now in
    let es = map exp_of c.deref-2.result.now in
    let is : mon_of c.args.m.now ≡ M.Call x es = ap mon_of c.in-Call.is ∙ ap (λ ds. M.Call x (map exp_of ds)) (sym c.deref-2.ensures.value) in
    let posed_here = subst (λ n. IsPosed k ns n xs q) is c.requires in
    subst (λ n. Checked (table k) (node (R.Call c.args.triple (map exp_of c.args.logicals.now) (exp_of c.args.before.now) (exp_of c.args.after.now))
    (trees (shows c.args.asked.now ∷ shows c.args.given.now ∷ []))) (derived ns fs n xs q) c.args.at c.derived_naming.result) (sym is)
    (c.derived_naming.ensures c.args.triple x called posed_here)
