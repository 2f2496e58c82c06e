use Rattle.std.proofs.Common.{rules, ◌≡◌, ◌≤◌, [], length, map, Err, sym, subst}
use Rattle.std.proofs.lemmas.List.{length-map}
use Rattle.std.specs.Prelude.{IfErr, string_bytes}
use Rattle.correspondence.specs.Outcome.{Done}
use Rattle.c_values.specs.CodeValue.{value_of}
use Rattle.expression_lang.specs.CodeState.{env_of}
use Rattle.monad_lang.specs.Run.{Answer}
use Rattle.monad_lang.specs.CodeProgram.{mon_of, final_fn_of, final_unit_of}
use Rattle.program_runs.specs.Bound.{Extends}
use Rattle.program_runs.specs.Machine.{runs_at}
use Rattle.program_runs.specs.CodeRun.{state_in, ends_of_call, AreResults, HasStopped}
use Rattle.program_runs.proofs.States.{state_here}
use Rattle.program_runs.proofs.Calls.{names_of_params}
use Rattle.program_runs.proofs.Returned.{body_can_run, call_ends, answer_lasts, at_most_one, popped_only}
use Rattle.program_runs.proofs.Whole.{stopped_within}
use Rattle.program_runs.proofs.machine.Setting.returned.Goals as goal

pub run-requires-clause-sorted : goal.run-requires-clause-sorted
run-requires-clause-sorted g c =
    let u = c.args.self.now.unit.now in
    let fu = final_unit_of u in
    let fn = c.args.function.now in
    let vs = map value_of c.args.arguments.now in
    let new = c.bind.new.env.items in
    let params = c.deref.result.now in
    let empty = subst (λ q. Extends q (map (λ b. string_bytes b.name) params) vs new) c.new-env.ensures.items c.in_ok-bind.ensures in
    let named = subst (λ ps. Extends [] (map (λ b. string_bytes b.name) ps) vs new) c.deref.ensures.value empty in
    let bound = subst (λ ns. Extends [] ns vs new) (sym (names_of_params fn.params.items)) named in
    body_can_run fu c.requires.unit (string_bytes fn.name) (final_fn_of fn) c.requires.called.found vs c.requires.called.arguments new bound

pub returns-clause-gives : goal.returns-clause-gives
returns-clause-gives g c =
    let u = c.args.self.now.unit.now in
    let fu = final_unit_of u in
    let k = c.args.self.now.fill in
    let fn = c.args.function.now in
    let vs = map value_of c.args.arguments.now in
    let s = state_in g.H.Heap.content u c.args.state.now in
    let new = c.bind.new.env.items in
    let params = c.deref.result.now in
    let empty = subst (λ q. Extends q (map (λ b. string_bytes b.name) params) vs new) c.new-env.ensures.items c.in_ok-bind.ensures in
    let named = subst (λ ps. Extends [] (map (λ b. string_bytes b.name) ps) vs new) c.deref.ensures.value empty in
    let bound = subst (λ ns. Extends [] ns vs new) (sym (names_of_params fn.params.items)) named in
    let after = state_in g.H.Heap.content u c.run.new.state in
    let items = c.in_ok-values.values.items in
    let a : Answer = record { values = map value_of items; state = after } in
    let end = call_ends fu c.requires.unit (string_bytes fn.name) (final_fn_of fn) c.requires.called.found vs c.requires.called.arguments new bound k c.args.turns 256 s (Done a) c.in_ok-values.ensures.gives in
    let state = state_here g.H.Heap.content u c.args.state.now c.requires.state in
    let few = subst (λ n. n ≤ 1) (length-map items value_of) (at_most_one fu c.requires.unit (string_bytes fn.name) (final_fn_of fn) c.requires.called.found vs c.requires.called.arguments k c.args.turns 256 s state a end) in
    let count : c.in_ok-values.values.len ≡ length items = search rules in
    let same = popped_only items c.pop.new.self.items c.pop.result c.in_ok-values.values.len count c.pop.ensures.items c.pop.ensures.variant few in
    subst (λ ws. ends_of_call u k c.args.turns fn vs s (Done (record { values = ws; state = after }))) same end

pub returns-clause-results : goal.returns-clause-results
returns-clause-results g c =
    let u = c.args.self.now.unit.now in
    let fu = final_unit_of u in
    let k = c.args.self.now.fill in
    let fn = c.args.function.now in
    let vs = map value_of c.args.arguments.now in
    let s = state_in g.H.Heap.content u c.args.state.now in
    let new = c.bind.new.env.items in
    let params = c.deref.result.now in
    let empty = subst (λ q. Extends q (map (λ b. string_bytes b.name) params) vs new) c.new-env.ensures.items c.in_ok-bind.ensures in
    let named = subst (λ ps. Extends [] (map (λ b. string_bytes b.name) ps) vs new) c.deref.ensures.value empty in
    let bound = subst (λ ns. Extends [] ns vs new) (sym (names_of_params fn.params.items)) named in
    let after = state_in g.H.Heap.content u c.run.new.state in
    let items = c.in_ok-values.values.items in
    let a : Answer = record { values = map value_of items; state = after } in
    let end = call_ends fu c.requires.unit (string_bytes fn.name) (final_fn_of fn) c.requires.called.found vs c.requires.called.arguments new bound k c.args.turns 256 s (Done a) c.in_ok-values.ensures.gives in
    let state = state_here g.H.Heap.content u c.args.state.now c.requires.state in
    let few = subst (λ n. n ≤ 1) (length-map items value_of) (at_most_one fu c.requires.unit (string_bytes fn.name) (final_fn_of fn) c.requires.called.found vs c.requires.called.arguments k c.args.turns 256 s state a end) in
    let count : c.in_ok-values.values.len ≡ length items = search rules in
    let same = popped_only items c.pop.new.self.items c.pop.result c.in_ok-values.values.len count c.pop.ensures.items c.pop.ensures.variant few in
    subst (λ ws. AreResults fn ws) same (answer_lasts fu c.requires.unit (string_bytes fn.name) (final_fn_of fn) c.requires.called.found vs c.requires.called.arguments k c.args.turns 256 s state a end).values

pub returns-clause-tags : goal.returns-clause-tags
returns-clause-tags g c =
    let u = c.args.self.now.unit.now in
    let fu = final_unit_of u in
    let k = c.args.self.now.fill in
    let fn = c.args.function.now in
    let vs = map value_of c.args.arguments.now in
    let s = state_in g.H.Heap.content u c.args.state.now in
    let new = c.bind.new.env.items in
    let params = c.deref.result.now in
    let empty = subst (λ q. Extends q (map (λ b. string_bytes b.name) params) vs new) c.new-env.ensures.items c.in_ok-bind.ensures in
    let named = subst (λ ps. Extends [] (map (λ b. string_bytes b.name) ps) vs new) c.deref.ensures.value empty in
    let bound = subst (λ ns. Extends [] ns vs new) (sym (names_of_params fn.params.items)) named in
    let after = state_in g.H.Heap.content u c.run.new.state in
    let items = c.in_ok-values.values.items in
    let a : Answer = record { values = map value_of items; state = after } in
    let end = call_ends fu c.requires.unit (string_bytes fn.name) (final_fn_of fn) c.requires.called.found vs c.requires.called.arguments new bound k c.args.turns 256 s (Done a) c.in_ok-values.ensures.gives in
    let state = state_here g.H.Heap.content u c.args.state.now c.requires.state in
    (answer_lasts fu c.requires.unit (string_bytes fn.name) (final_fn_of fn) c.requires.called.found vs c.requires.called.arguments k c.args.turns 256 s state a end).tags

pub returns-in_err-values-clause-stops : goal.returns-in_err-values-clause-stops
returns-in_err-values-clause-stops g c =
    let u = c.args.self.now.unit.now in
    let fu = final_unit_of u in
    let k = c.args.self.now.fill in
    let fn = c.args.function.now in
    let vs = map value_of c.args.arguments.now in
    let s = state_in g.H.Heap.content u c.args.state.now in
    let new = c.bind.new.env.items in
    let params = c.deref.result.now in
    let empty = subst (λ q. Extends q (map (λ b. string_bytes b.name) params) vs new) c.new-env.ensures.items c.in_ok-bind.ensures in
    let named = subst (λ ps. Extends [] (map (λ b. string_bytes b.name) ps) vs new) c.deref.ensures.value empty in
    let bound = subst (λ ns. Extends [] ns vs new) (sym (names_of_params fn.params.items)) named in
    let err = c.in_err-values.field-0.0 in
    let same : c.from_residual-in_err-values.result ≡ Err err = search rules in
    subst (λ r. IfErr r (HasStopped (ends_of_call u k c.args.turns fn vs s))) (sym same)
    (stopped_within (runs_at fu k (env_of new) (mon_of fn.body) (record { turns = c.args.turns; depth = 256 }) s) (ends_of_call u k c.args.turns fn vs s) (record { each = λ o e. call_ends fu c.requires.unit (string_bytes fn.name) (final_fn_of fn) c.requires.called.found vs c.requires.called.arguments new bound k c.args.turns 256 s o e }) err c.in_err-values.ensures.stops)
