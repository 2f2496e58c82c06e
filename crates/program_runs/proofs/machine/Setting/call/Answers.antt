use Rattle.std.proofs.Common.{rules, arith, ◌≡◌, ◌+◌, ◌-◌, [], map, Option, Some, None, refl, sym, ap, subst}
use Rattle.std.specs.Prelude.{IsSome, IfSome, IfNone, string_bytes}
use Rattle.c_values.specs.CodeValue.{value_of}
use Rattle.expression_lang.specs.CodeExpression.{exp_of}
use Rattle.expression_lang.specs.CodeSignature.{binder_of}
use Rattle.expression_lang.specs.Signature.{names_of}
use Rattle.monad_lang.specs.Program.{final_fn}
use Rattle.monad_lang.specs.CodeProgram.{final_fn_of, final_unit_of}
use Rattle.program_runs.specs.Bound.{Extends}
use Rattle.program_runs.specs.CodeRun.{state_in}
use Rattle.program_runs.proofs.States.{state_here}
use Rattle.program_runs.proofs.Calls.{names_of_params, function_found, call_pushed}
use Rattle.program_runs.proofs.machine.Setting.call.Goals as goal

there_some : {A B : Type 0} (o : Option A) (p : Option B) → IsSome p → IfNone o (p ≡ None) → IsSome o
there_some (Some a) p h k = refl
there_some None p h k = subst (λ q. IsSome q) k h

pub unwrap-function-requires : goal.unwrap-function-requires
unwrap-function-requires g c =
    let u = final_unit_of c.args.self.now.unit.now in
    let name = c.args.name.now in
    there_some c.function_in.result (final_fn (map final_fn_of c.deref.result.now) name)
    (subst (λ fs. IsSome (final_fn (map final_fn_of fs) name)) (sym c.deref.ensures.value) (function_found u c.requires.unit c.args.env.now.items name (map exp_of c.args.exps.now) c.requires.sorted.scalars c.requires.sorted.gives))
    c.function_in.ensures.none

pub returns-clause-steps : goal.returns-clause-steps
returns-clause-steps g c out h =
    let u = final_unit_of c.args.self.now.unit.now in
    let s = state_in g.H.Heap.content c.args.self.now.unit.now c.args.state.now in
    let name = c.args.name.now in
    let fn = c.unwrap-function.result.now in
    let some : c.function_in.result ≡ Some c.unwrap-function.result = search rules in
    let found = subst (λ o. IfSome o (λ r. final_fn (map final_fn_of c.deref.result.now) name ≡ Some (final_fn_of r.now))) some c.function_in.ensures.found in
    let there = subst (λ fs. final_fn (map final_fn_of fs) name ≡ Some (final_fn_of fn)) c.deref.ensures.value found in
    let new = c.bind.new.env.items in
    let vs = c.in_ok-values.values.items in
    let empty = subst (λ q. Extends q (map (λ b. string_bytes b.name) c.deref-2.result.now) (map value_of c.deref-3.result.now) new) c.new-inner.ensures.items c.in_ok-bind.ensures in
    let params = subst (λ ps. Extends [] (map (λ b. string_bytes b.name) ps) (map value_of c.deref-3.result.now) new) c.deref-2.ensures.value empty in
    let values = subst (λ ws. Extends [] (map (λ b. string_bytes b.name) fn.params.items) (map value_of ws) new) c.deref-3.ensures.value params in
    let names = subst (λ ns. Extends [] ns (map value_of vs) new) (sym (names_of_params fn.params.items)) values in
    let x = subst (λ v. Extends [] (names_of (map binder_of fn.params.items)) (map value_of vs) v.items) (sym c.replace-caller.ensures.after) names in
    let one : (c.args.bound.turns - 1) + 1 ≡ c.args.bound.turns = omega arith in
    let deeper : (c.args.bound.depth - 1) + 1 ≡ c.args.bound.depth = omega arith in
    call_pushed u c.requires.unit c.args.env.now.items name (map exp_of c.args.exps.now) c.args.self.now.fill out s (state_here g.H.Heap.content c.args.self.now.unit.now c.args.state.now c.requires.state)
    c.args.stack.now.items c.push.new.self.items c.replace-caller.new.dest.items c.replace-caller.result (map value_of vs) (final_fn_of fn) (c.args.bound.turns - 1) (c.args.bound.depth - 1) c.args.bound.turns c.args.bound.depth
    c.in_ok-push.ensures.items (ap (λ v. v.items) c.replace-caller.ensures.value) c.in_ok-values.ensures.narrow one deeper c.in_ok-values.ensures.values there x h
