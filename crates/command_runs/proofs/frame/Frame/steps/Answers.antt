use Rattle.std.proofs.Common.{sym, ap, ap₂, subst, ◌∙◌}
use Rattle.expression_lang.specs.Sort.{Of, NumberSort}
use Rattle.expression_lang.specs.CodeExpression.{exp_of, path_of}
use Rattle.command_runs.specs.CodeRun.{state_in, HasSortIn, LeadsIn}
use Rattle.expression_lang.specs.Expression.{IntoElement}
use Rattle.expression_lang.specs.CodeState.{env_of}
use Rattle.command_runs.proofs.Walking.{steps_grow}
use Rattle.command_runs.proofs.Parts.{leads_element}
use Rattle.command_runs.proofs.frame.Frame.steps.Goals as goal

pub value-requires-clause-sorted : goal.value-requires-clause-sorted
value-requires-clause-sorted c =
    let f = c.args.self.now in
    let h = c.along.invariant.leads in
    let k = subst (λ p. LeadsIn f p h.0 h.1) (ap path_of c.in-Index.is) h.2 in
    (Of NumberSort, subst (λ e. HasSortIn f (exp_of e) (Of NumberSort)) (sym c.deref.ensures) (leads_element f (exp_of c.in-Index.e.value) (path_of c.in-Index.next.value) h.0 h.1 k).1)

pub along-preserved : goal.along-preserved
along-preserved c =
    let f = c.args.self.now in
    let h = c.along.invariant.leads in
    let k = subst (λ p. LeadsIn f p h.0 h.1) (ap path_of c.in-Index.is) h.2 in
    let m = leads_element f (exp_of c.in-Index.e.value) (path_of c.in-Index.next.value) h.0 h.1 k in
    record {
      so_far = steps_grow f.unit.now.layout (env_of c.args.locals.now.items) (state_in f.unit.now c.args.state.now) c.along.steps.items c.push-in-Index.new.self.items c.element.result c.in_ok-index-in-Index.index
          (path_of c.along.rest.now) (path_of c.deref-rest-in-Index.result.now) (exp_of c.deref.result.now) _
          c.in_ok-push-in-Index.ensures.items c.element.ensures c.in_ok-index-in-Index.ensures
          (ap path_of c.in-Index.is ∙ ap₂ (λ e p. IntoElement (exp_of e) (path_of p)) (sym c.deref.ensures) (sym c.deref-rest-in-Index.ensures)) c.along.invariant.so_far;
      leads = (m.0, h.1, subst (λ p. LeadsIn f (path_of p) m.0 h.1) (sym c.deref-rest-in-Index.ensures) m.2);
    }
