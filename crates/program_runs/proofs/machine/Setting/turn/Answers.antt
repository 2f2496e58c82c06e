use Rattle.std.proofs.Common.{rules, arith, ◌≡◌, ◌+◌, ◌-◌, true, false, length, map, subst}
use Rattle.c_values.specs.CodeValue.{value_of}
use Rattle.monad_lang.specs.CodeProgram.{final_unit_of}
use Rattle.program_runs.specs.Bound.{Extends}
use Rattle.program_runs.specs.Machine.{Enters}
use Rattle.program_runs.specs.CodeRun.{state_in, turns_of}
use Rattle.program_runs.proofs.Turns.{turns_out, turn_leaves, turn_pushed}
use Rattle.program_runs.proofs.machine.Setting.turn.Goals as goal

pub returns-then-not-branch-clause-steps : goal.returns-then-not-branch-clause-steps
returns-then-not-branch-clause-steps g c out h =
    let u = final_unit_of c.args.self.now.unit.now in
    let t = turns_of c.args.turns in
    let s = state_in g.H.Heap.content c.args.self.now.unit.now c.args.state.now in
    let bs = c.args.env.now.items in
    let new = c.enters.new.env.items in
    let off : c.in_ok-enters.field-0 ≡ false = search rules in
    let same : c.len-mark.result ≡ length bs = search rules in
    let x = subst (λ ws. Extends bs t.names (map value_of ws) new) c.deref.ensures.value c.in_ok-enters.ensures.bound in
    let e = subst (λ b. Enters u new t s b) off c.in_ok-enters.ensures.enters in
    turn_leaves u c.args.self.now.fill out s bs new c.args.stack.now.items (map value_of c.args.values.items) c.len-mark.result same c.args.turns c.truncate.new.self.items x c.truncate.ensures.items e h

pub returns-then-turns-eq0-clause-stops : goal.returns-then-turns-eq0-clause-stops
returns-then-turns-eq0-clause-stops g c =
    let u = final_unit_of c.args.self.now.unit.now in
    let t = turns_of c.args.turns in
    let s = state_in g.H.Heap.content c.args.self.now.unit.now c.args.state.now in
    let bs = c.args.env.now.items in
    let new = c.enters.new.env.items in
    let on : c.in_ok-enters.field-0 ≡ true = search rules in
    let x = subst (λ ws. Extends bs t.names (map value_of ws) new) c.deref.ensures.value c.in_ok-enters.ensures.bound in
    let e = subst (λ b. Enters u new t s b) on c.in_ok-enters.ensures.enters in
    turns_out u c.args.self.now.fill bs new t (map value_of c.args.values.items) x s e c.if-turns-eq0.true

pub returns-clause-steps : goal.returns-clause-steps
returns-clause-steps g c out h =
    let u = final_unit_of c.args.self.now.unit.now in
    let t = turns_of c.args.turns in
    let s = state_in g.H.Heap.content c.args.self.now.unit.now c.args.state.now in
    let bs = c.args.env.now.items in
    let new = c.enters.new.env.items in
    let on : c.in_ok-enters.field-0 ≡ true = search rules in
    let same : c.len-mark.result ≡ length bs = search rules in
    let one : (c.args.turns.left.turns - 1) + 1 ≡ c.args.turns.left.turns = omega arith in
    let x = subst (λ ws. Extends bs t.names (map value_of ws) new) c.deref.ensures.value c.in_ok-enters.ensures.bound in
    let e = subst (λ b. Enters u new t s b) on c.in_ok-enters.ensures.enters in
    turn_pushed u c.args.self.now.fill out s bs new c.args.stack.now.items (map value_of c.args.values.items) c.len-mark.result same c.push.new.self.items c.args.turns (c.args.turns.left.turns - 1) c.in_ok-push.ensures.items one x e h
