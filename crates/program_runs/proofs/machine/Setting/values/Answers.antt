use Rattle.std.proofs.Common.{map, ◌++◌, sym, ap, subst, ◌∙◌}
use Rattle.std.specs.Prelude.{IsSome}
use Rattle.expression_lang.specs.Sorted.{scalars_of}
use Rattle.expression_lang.specs.CodeExpression.{exp_of}
use Rattle.c_values.specs.CodeValue.{value_of}
use Rattle.expression_lang.specs.Evaluation.{value}
use Rattle.expression_lang.specs.Signature.{values_of}
use Rattle.expression_lang.specs.Wide.{wide}
use Rattle.expression_lang.specs.CodeState.{env_of}
use Rattle.global_changes.proofs.Indexed.{one_more}
use Rattle.program_runs.specs.WideRun.{wide_among}
use Rattle.program_runs.specs.CodeRun.{state_in, scope_of}
use Rattle.program_runs.proofs.Lists.{passed, first_sorted, others_sorted}
use Rattle.program_runs.proofs.machine.Setting.values.Goals as goal

pub value-requires-clause-sorted : goal.value-requires-clause-sorted
value-requires-clause-sorted g c =
    let scope = scope_of c.args.self.now.unit.now c.args.env.now.items in
    let k = subst (λ es. IsSome (scalars_of scope (map exp_of es))) c.in-Some.ensures.cases.0 c.exps.invariant.sorted in
    first_sorted scope (exp_of c.in-Some.first.now) (scalars_of scope (map exp_of c.in-Some.others.now)) k

pub exps-preserved : goal.exps-preserved
exps-preserved g c =
    let l = c.args.self.now.unit.now.layout in
    let env = env_of c.args.env.now.items in
    let s = state_in g.H.Heap.content c.args.self.now.unit.now c.args.state.now in
    let scope = scope_of c.args.self.now.unit.now c.args.env.now.items in
    let es = map exp_of c.in-Some.others.now in
    let first = exp_of c.in-Some.first.now in
    record {
      so_far = one_more value_of c.exps.values.items c.push.new.self.items c.in_ok-value.field-0 (value l env s first) (values_of l env s es) _ c.in_ok-push.ensures.items c.in_ok-value.ensures.value
          (ap (λ fs. map value_of c.exps.values.items ++ values_of l env s (map exp_of fs)) (sym c.in-Some.ensures.cases.0) ∙ c.exps.invariant.so_far);
      narrow = c.exps.invariant.narrow ∙ ap (λ fs. wide_among l env s (map exp_of fs)) c.in-Some.ensures.cases.0 ∙ passed (wide l env s first) (wide_among l env s es) c.in_ok-value.ensures.narrow;
      sorted = others_sorted scope first (scalars_of scope es) (subst (λ fs. IsSome (scalars_of scope (map exp_of fs))) c.in-Some.ensures.cases.0 c.exps.invariant.sorted);
    }
