use Rattle.std.proofs.Common.{rules, ◌≡◌, map, Result, Ok, Err, sym, subst, ◌∙◌}
use Rattle.std.specs.Prelude.{IfErr}
use Rattle.c_values.specs.CodeValue.{value_of}
use Rattle.expression_lang.specs.CodeState.{env_of}
use Rattle.monad_lang.specs.CodeProgram.{final_unit_of}
use Rattle.program_runs.specs.Machine.{turns_at}
use Rattle.program_runs.specs.CodeRun.{state_in, turns_of, HasStopped}
use Rattle.program_runs.proofs.Turns.{bindings_there, guard_there, test_there, guard_off, guard_met, test_met}
use Rattle.program_runs.proofs.machine.Setting.enters.Goals as goal

if_err : {T E : Type 0} (r : Result T E) (P Q : E → Type 0) → IfErr r P → ((e : E) → P e → Q e) → IfErr r Q
if_err (Ok t) P Q h f = tt
if_err (Err e) P Q h f = f e h

pub test-requires-clause-env : goal.test-requires-clause-env
test-requires-clause-env g c =
    bindings_there (final_unit_of c.args.self.now.unit.now) c.args.env.now.items c.bind.new.env.items (turns_of c.args.turns.now) (map value_of c.args.values.now) c.in_ok-bind.ensures c.requires.sorted

pub test-requires-clause-sorted : goal.test-requires-clause-sorted
test-requires-clause-sorted g c =
    guard_there (final_unit_of c.args.self.now.unit.now) c.args.env.now.items c.bind.new.env.items (turns_of c.args.turns.now) (map value_of c.args.values.now) c.in_ok-bind.ensures c.requires.sorted

pub returns-in_err-test-clause-stops : goal.returns-in_err-test-clause-stops
returns-in_err-test-clause-stops g c =
    let u = final_unit_of c.args.self.now.unit.now in
    let k = c.args.self.now.fill in
    let bs = c.args.env.now.items in
    let t = turns_of c.args.turns.now in
    let vs = map value_of c.args.values.now in
    let s = state_in g.H.Heap.content c.args.self.now.unit.now c.args.state.now in
    let err = c.in_err-test.field-0.0 in
    let same : c.from_residual-in_err-test.result ≡ Err err = search rules in
    subst (λ r. IfErr r (HasStopped (turns_at u k (env_of bs) t (record { values = vs; state = s })))) (sym same) (guard_met u k bs c.bind.new.env.items t vs c.in_ok-bind.ensures s err c.in_err-test.ensures.met)

pub test-requires-then-branch-clause-env : goal.test-requires-then-branch-clause-env
test-requires-then-branch-clause-env g c =
    bindings_there (final_unit_of c.args.self.now.unit.now) c.args.env.now.items c.bind.new.env.items (turns_of c.args.turns.now) (map value_of c.args.values.now) c.in_ok-bind.ensures c.requires.sorted

pub test-requires-then-branch-clause-sorted : goal.test-requires-then-branch-clause-sorted
test-requires-then-branch-clause-sorted g c =
    test_there (final_unit_of c.args.self.now.unit.now) c.args.env.now.items c.bind.new.env.items (turns_of c.args.turns.now) (map value_of c.args.values.now) c.in_ok-bind.ensures c.requires.sorted

pub returns-then-branch-clause-stops : goal.returns-then-branch-clause-stops
returns-then-branch-clause-stops g c =
    let u = final_unit_of c.args.self.now.unit.now in
    let k = c.args.self.now.fill in
    let bs = c.args.env.now.items in
    let t = turns_of c.args.turns.now in
    let vs = map value_of c.args.values.now in
    let s = state_in g.H.Heap.content c.args.self.now.unit.now c.args.state.now in
    if_err c.test-then-branch.result _ (HasStopped (turns_at u k (env_of bs) t (record { values = vs; state = s }))) c.test-then-branch.ensures.met
    (test_met u k bs c.bind.new.env.items t vs c.in_ok-bind.ensures s c.in_ok-test.ensures.narrow (sym c.in_ok-test.ensures.value ∙ c.if-branch.true))

pub returns-clause-stops : goal.returns-clause-stops
returns-clause-stops g c =
    let u = final_unit_of c.args.self.now.unit.now in
    let t = turns_of c.args.turns.now in
    let s = state_in g.H.Heap.content c.args.self.now.unit.now c.args.state.now in
    guard_off u c.args.self.now.fill c.args.env.now.items c.bind.new.env.items t (map value_of c.args.values.now) c.in_ok-bind.ensures s c.in_ok-test.ensures.narrow (sym c.in_ok-test.ensures.value ∙ c.if-branch.false)
