use Rattle.std.proofs.Common.{map, ap, subst}
use Rattle.expression_lang.specs.Sort.{Of}
use Rattle.expression_lang.specs.CodeExpression.{exp_of}
use Rattle.command_runs.specs.CodeRun.{state_in, HaveSortsIn}
use Rattle.expression_lang.specs.CodeState.{env_of}
use Rattle.command_runs.proofs.Walking.{values_grow}
use Rattle.command_runs.proofs.Parts.{first_argument, other_arguments}
use Rattle.command_runs.proofs.frame.Frame.arguments.Goals as goal

pub value-requires-clause-sorted : goal.value-requires-clause-sorted
value-requires-clause-sorted c =
    let f = c.args.self.now in
    let h = c.arguments.invariant.sorted in
    let k = subst (λ es. HaveSortsIn f (map exp_of es) h.0) c.in-Some.ensures.cases.0 h.1 in
    let m = first_argument f (exp_of c.in-Some.first.now) (map exp_of c.in-Some.others.now) h.0 k in
    (Of m.0, m.1)

pub arguments-preserved : goal.arguments-preserved
arguments-preserved c =
    let f = c.args.self.now in
    let h = c.arguments.invariant.sorted in
    let k = subst (λ es. HaveSortsIn f (map exp_of es) h.0) c.in-Some.ensures.cases.0 h.1 in
    record {
      so_far = values_grow f.unit.now.layout (env_of c.args.locals.now.items) (state_in f.unit.now c.args.state.now) c.arguments.values.items c.push.new.self.items c.in_ok-value.field-0
          (exp_of c.in-Some.first.now) (map exp_of c.arguments.rest.now) (map exp_of c.in-Some.others.now) _
          c.in_ok-push.ensures.items c.in_ok-value.ensures (ap (λ es. map exp_of es) c.in-Some.ensures.cases.0) c.arguments.invariant.so_far;
      sorted = other_arguments f (exp_of c.in-Some.first.now) (map exp_of c.in-Some.others.now) h.0 k;
    }
