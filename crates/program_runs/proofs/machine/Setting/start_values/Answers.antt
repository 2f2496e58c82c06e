use Rattle.std.proofs.Common.{map, ◌++◌, sym, ap, subst, ◌∙◌}
use Rattle.std.specs.Prelude.{IsSome}
use Rattle.monad_lang.specs.Sorted.{start_scalars}
use Rattle.monad_lang.specs.CodeProgram.{start_of}
use Rattle.expression_lang.specs.CodeExpression.{exp_of}
use Rattle.c_values.specs.CodeValue.{value_of}
use Rattle.expression_lang.specs.Evaluation.{value}
use Rattle.monad_lang.specs.Run.{start_values}
use Rattle.expression_lang.specs.Wide.{wide}
use Rattle.expression_lang.specs.CodeState.{env_of}
use Rattle.global_changes.proofs.Indexed.{one_more}
use Rattle.program_runs.specs.WideRun.{wide_at_starts}
use Rattle.program_runs.specs.CodeRun.{state_in, scope_of}
use Rattle.program_runs.proofs.Lists.{passed, first_sorted, others_sorted}
use Rattle.program_runs.proofs.machine.Setting.start_values.Goals as goal

pub value-requires-clause-sorted : goal.value-requires-clause-sorted
value-requires-clause-sorted g c =
    let scope = scope_of c.args.self.now.unit.now c.args.env.now.items in
    let k = subst (λ es. IsSome (start_scalars scope (map start_of es))) c.in-Some.ensures.cases.0 c.starts.invariant.sorted in
    first_sorted scope (exp_of c.in-Some.first.now.exp) (start_scalars scope (map start_of c.in-Some.others.now)) k

pub starts-preserved : goal.starts-preserved
starts-preserved g c =
    let l = c.args.self.now.unit.now.layout in
    let env = env_of c.args.env.now.items in
    let s = state_in g.H.Heap.content c.args.self.now.unit.now c.args.state.now in
    let scope = scope_of c.args.self.now.unit.now c.args.env.now.items in
    let es = map start_of c.in-Some.others.now in
    let first = exp_of c.in-Some.first.now.exp in
    record {
      so_far = one_more value_of c.starts.values.items c.push.new.self.items c.in_ok-value.field-0 (value l env s first) (start_values l env s es) _ c.in_ok-push.ensures.items c.in_ok-value.ensures.value
          (ap (λ fs. map value_of c.starts.values.items ++ start_values l env s (map start_of fs)) (sym c.in-Some.ensures.cases.0) ∙ c.starts.invariant.so_far);
      narrow = c.starts.invariant.narrow ∙ ap (λ fs. wide_at_starts l env s (map start_of fs)) c.in-Some.ensures.cases.0 ∙ passed (wide l env s first) (wide_at_starts l env s es) c.in_ok-value.ensures.narrow;
      sorted = others_sorted scope first (start_scalars scope es) (subst (λ fs. IsSome (start_scalars scope (map start_of fs))) c.in-Some.ensures.cases.0 c.starts.invariant.sorted);
    }
