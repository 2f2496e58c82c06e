use Rattle.std.proofs.Common.{◌≡◌, ◌++◌, Some, map, sym, ap, ap₂, subst, ◌∙◌}
use Rattle.std.specs.Prelude.{IsSome}
use Rattle.c_values.specs.Value.{number_in}
use Rattle.c_values.specs.Path.{Index}
use Rattle.c_memory.specs.CodeStep.{step_of}
use Rattle.expression_lang.specs.Expression.{IntoElement}
use Rattle.expression_lang.specs.Sort.{sort_of, shape_along}
use Rattle.expression_lang.specs.Evaluation.{value, steps}
use Rattle.expression_lang.specs.Wide.{wide, wide_in}
use Rattle.expression_lang.specs.CodeExpression.{exp_of, path_of}
use Rattle.expression_lang.specs.CodeState.{env_of}
use Rattle.global_changes.proofs.Indexed.{one_more}
use Rattle.program_runs.specs.CodeRun.{state_in, scope_of}
use Rattle.program_runs.proofs.Lists.{passed}
use Rattle.program_runs.proofs.AlongPaths.{leads_element}
use Rattle.program_runs.proofs.machine.Setting.steps.Goals as goal

pub value-requires-clause-sorted : goal.value-requires-clause-sorted
value-requires-clause-sorted g c =
    let scope = scope_of c.args.self.now.unit.now c.args.env.now.items in
    let h = c.along.invariant.leads in
    let k = subst (λ p. shape_along scope p h.0 ≡ Some h.1) (ap path_of c.in-Index.is) h.2 in
    subst (λ e. IsSome (sort_of scope (exp_of e))) (sym c.deref.ensures) (leads_element scope (exp_of c.in-Index.e.value) (path_of c.in-Index.next.value) h.0 h.1 k).0

pub along-preserved : goal.along-preserved
along-preserved g c =
    let l = c.args.self.now.unit.now.layout in
    let env = env_of c.args.env.now.items in
    let s = state_in g.H.Heap.content c.args.self.now.unit.now c.args.state.now in
    let scope = scope_of c.args.self.now.unit.now c.args.env.now.items in
    let h = c.along.invariant.leads in
    let k = subst (λ p. shape_along scope p h.0 ≡ Some h.1) (ap path_of c.in-Index.is) h.2 in
    let m = leads_element scope (exp_of c.in-Index.e.value) (path_of c.in-Index.next.value) h.0 h.1 k in
    let e = exp_of c.deref.result.now in
    let rest = path_of c.deref-rest-in-Index.result.now in
    let here = ap path_of c.in-Index.is ∙ ap₂ (λ d p. IntoElement (exp_of d) (path_of p)) (sym c.deref.ensures) (sym c.deref-rest-in-Index.ensures) in
    record {
      so_far = one_more step_of c.along.steps.items c.push-in-Index.new.self.items c.element.result (Index (number_in (value l env s e))) (steps l env s rest) (steps l env s (path_of c.args.path.now))
          c.in_ok-push-in-Index.ensures.items (c.element.ensures ∙ ap (λ w. Index (number_in w)) c.in_ok-index-in-Index.ensures.value)
          (ap (λ q. map step_of c.along.steps.items ++ steps l env s q) (sym here) ∙ c.along.invariant.so_far);
      narrow = c.along.invariant.narrow ∙ ap (λ q. wide_in l env s q) here ∙ passed (wide l env s e) (wide_in l env s rest) c.in_ok-index-in-Index.ensures.narrow;
      leads = (m.1, m.2, subst (λ p. shape_along scope (path_of p) m.1 ≡ Some m.2) (sym c.deref-rest-in-Index.ensures) m.3);
    }
