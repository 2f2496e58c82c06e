-- The function is there, its body begins as it does in the definitions, and the caller is pending.
use Rattle.std.proofs.Common.{rules, arith, ◌≡◌, ◌+◌, ◌-◌, true, map, reverse, Some, refl, sym, ap, ◌∙◌, subst}
use Rattle.std.specs.Option.{option_map}
use Rattle.std.specs.Prelude.{IfSome, string_bytes}
use Rattle.c_values.specs.CodeValue.{value_of}
use Rattle.expression_lang.specs.Sort.{are_kinds}
use Rattle.expression_lang.specs.Signature.{signature, kinds_of, values_of}
use Rattle.expression_lang.specs.CodeSignature.{binder_of, signature_of}
use Rattle.expression_lang.specs.CodeState.{env_of}
use Rattle.expression_lang.specs.CodeExpression.{exp_of}
use Rattle.simpl_lang.specs.Command.{Call, simpl_fn}
use Rattle.simpl_lang.specs.CodeCommand.{simpl_fn_of, simpl_unit_of}
use Rattle.simpl_lang.specs.CodeForms.{signatures_in}
use Rattle.command_runs.specs.declared.machine.Caller as K
use Rattle.command_runs.specs.declared.machine.Pending as P
use Rattle.command_runs.specs.Locals.{started}
use Rattle.command_runs.specs.CodeRun.{table_of, state_in}
use Rattle.command_runs.specs.CodeMachine.{Running, point}
use Rattle.command_runs.proofs.Bodies.{function_there}
use Rattle.command_runs.proofs.Formed.{signed_fn, body_sorted}
use Rattle.command_runs.proofs.Parts.{call_parts}
use Rattle.command_runs.proofs.StepLaws.{step_pushed}
use Rattle.command_runs.proofs.CallLaws.{call_out, call_deep, call_step}
use Rattle.command_runs.proofs.frame.Frame.call.Goals as goal

pub returns-then-turns-eq0-clause-stops : goal.returns-then-turns-eq0-clause-stops
returns-then-turns-eq0-clause-stops c =
    call_out c.args.self.now c.args.locals.now.items c.args.state.now (option_map string_bytes c.args.target.now) c.args.name.now (map exp_of c.args.arguments.now) c.args.turns c.if-turns-eq0.true

pub returns-then-self-eq0-clause-stops : goal.returns-then-self-eq0-clause-stops
returns-then-self-eq0-clause-stops c =
    let more : (c.args.turns - 1) + 1 ≡ c.args.turns = omega arith in
    call_deep c.args.self.now c.args.locals.now.items c.args.state.now (option_map string_bytes c.args.target.now) c.args.name.now (map exp_of c.args.arguments.now) c.args.turns (c.args.turns - 1) more c.if-self-eq0.true

pub unwrap-function-requires : goal.unwrap-function-requires
unwrap-function-requires c =
    let f = c.args.self.now in
    let g = c.args.name.now in
    let p = call_parts f (option_map string_bytes c.args.target.now) g (map exp_of c.args.arguments.now) c.requires.sorted in
    let w = signed_fn g p.called (simpl_unit_of f.unit.now).functions (simpl_unit_of f.unit.now).signatures c.requires.frame.unit.formed.signatures p.found in
    function_there c.function_in.result _ w.0 (ap (λ fs. simpl_fn (map simpl_fn_of fs) g) c.deref.ensures.value ∙ w.1) c.function_in.ensures.none

pub started-requires : goal.started-requires
started-requires c =
    let f = c.args.self.now in
    let g = c.args.name.now in
    let h = c.unwrap-function.result.now in
    let some : c.function_in.result ≡ Some c.unwrap-function.result = search rules in
    let found = subst (λ o. IfSome o (λ r. simpl_fn (map simpl_fn_of c.deref.result.now) g ≡ Some (simpl_fn_of r.now))) some c.function_in.ensures.found in
    let there = subst (λ fs. simpl_fn (map simpl_fn_of fs) g ≡ Some (simpl_fn_of h)) c.deref.ensures.value found in
    let body = body_sorted (simpl_unit_of f.unit.now) (simpl_unit_of f.unit.now).functions g (simpl_fn_of h) c.requires.frame.unit.formed.functions there in
    subst (λ bs. are_kinds (kinds_of (map binder_of bs)) ≡ true) (sym c.deref-3.ensures.value) body.kinds

pub returns-clause-steps : goal.returns-clause-steps
returns-clause-steps c =
    let f = c.args.self.now in
    let n = c.args.turns in
    let bs = c.args.locals.now.items in
    let s = c.args.state.now in
    let x = option_map string_bytes c.args.target.now in
    let g = c.args.name.now in
    let es = map exp_of c.args.arguments.now in
    let h = c.unwrap-function.result.now in
    let some : c.function_in.result ≡ Some c.unwrap-function.result = search rules in
    let signed : c.signature.result ≡ Some c.unwrap-called.result = search rules in
    let found = subst (λ o. IfSome o (λ r. simpl_fn (map simpl_fn_of c.deref.result.now) g ≡ Some (simpl_fn_of r.now))) some c.function_in.ensures.found in
    let there : simpl_fn (map simpl_fn_of f.unit.now.functions.items) g ≡ Some (simpl_fn_of h) = subst (λ fs. simpl_fn (map simpl_fn_of fs) g ≡ Some (simpl_fn_of h)) c.deref.ensures.value found in
    let declared : signature (signatures_in f.unit.now) g ≡ Some (signature_of c.unwrap-called.result.now) =
    sym (ap (λ ss. signature (map signature_of ss) g) c.deref-2.ensures.value) ∙ sym c.signature.ensures ∙ ap (option_map (λ r. signature_of r.now)) signed in
    let ls = c.deref-3.result in
    let values : map value_of c.deref-4.result.now ≡ values_of f.unit.now.layout (env_of bs) (state_in f.unit.now s) es = ap (map value_of) c.deref-4.ensures.value ∙ c.in_ok-values.ensures in
    let begun : table_of c.replace-own.new.dest.items ≡ started (map binder_of ls.now) (values_of f.unit.now.layout (env_of bs) (state_in f.unit.now s) es) =
    ap (λ v. table_of v.items) c.replace-own.ensures.after ∙ c.in_ok-inner.ensures ∙ ap (started (map binder_of ls.now)) values in
    let more : (n - 1) + 1 ≡ n = omega arith in
    let deeper : (f.depth - 1) + 1 ≡ f.depth = omega arith in
    let caller : K.Caller = record { target = c.args.target; called = c.unwrap-called.result; binders = f.locals; locals = c.replace-own.result; depth = f.depth } in
    step_pushed (point c.args.stack.now.items (Running f (Call x g es) n) bs s) c.args.stack.now.items c.push.new.self.items (P.TheVariants.Return caller) _ c.replace-own.new.dest.items s c.in_ok-push.ensures.items
    (call_step f bs s x g es n (n - 1) more (f.depth - 1) deeper (reverse c.args.stack.now.items) h caller ls c.replace-own.new.dest.items there declared c.deref-3.ensures.value refl
    (ap (λ v. v.items) c.replace-own.ensures.value) begun (record { frame = c.requires.frame; fits = c.requires.fits; now = c.requires.sorted; rest = c.requires.rest }))
