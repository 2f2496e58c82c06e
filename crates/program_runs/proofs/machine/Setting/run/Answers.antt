use Rattle.std.proofs.Common.{rules, ◌≡◌, ◌<◌, List, [], ◌∷◌, length, reverse, map, Some, Err, refl, sym, subst}
use Rattle.std.specs.Prelude.{IfErr}
use Rattle.std.proofs.lemmas.List.{nil_from_length}
use Rattle.correspondence.specs.Outcome.{Done}
use Rattle.c_values.specs.CodeValue.{value_of}
use Rattle.expression_lang.specs.Sort.{Scalar}
use Rattle.expression_lang.specs.CodeState.{env_of}
use Rattle.monad_lang.specs.Sorted.{scalars_given}
use Rattle.monad_lang.specs.CodeProgram.{mon_of, final_unit_of}
use Rattle.program_runs.specs.declared.machine.Next as N
use Rattle.program_runs.specs.declared.machine.Pending as W
use Rattle.program_runs.specs.Machine.{Machine, Gave, setting_at, machine_cost, runs_at, turns_at}
use Rattle.program_runs.specs.CodeRun.{state_in, stack_of, machine_at, machine_in, now_of, bound_of, turns_of, AreMarked, HasStopped}
use Rattle.program_runs.proofs.Whole.{Goes, same_ends, can_run, can_turn, whole_stops, step_goes, step_less, popped_first}
use Rattle.program_runs.proofs.machine.Setting.run.Goals as goal

pub steps-init : goal.steps-init
steps-init g c =
    let u = c.args.self.now.unit.now in
    let fu = final_unit_of u in
    let k = c.args.self.now.fill in
    let bs = c.args.env.items in
    let s = state_in g.H.Heap.content u c.args.state.now in
    let m = mon_of c.args.program.now in
    let b = bound_of c.args.bound in
    let first = runs_at fu k (env_of bs) m b s in
    let Gives : List Scalar → Type 0 = λ out. scalars_given (setting_at fu bs) m ≡ Some out in
    let begun : Goes fu k first Gives (machine_at bs [] (now_of bs (N.TheVariants.Running c.args.program c.args.bound)) s) =
    record { sorted = λ out e. record { here = out; now = record { bindings = c.requires.sorted.bindings; gives = e }; rest = refl }; within = same_ends first } in
    let there = subst (λ items. Goes fu k first Gives (machine_at bs items (now_of bs (N.TheVariants.Running c.args.program c.args.bound)) s)) (sym c.new-stack.ensures.items) begun in
    record {
      state = c.requires.state;
      marked = subst (λ items. AreMarked (length bs) (reverse items)) (sym c.new-stack.ensures.items) tt;
      sorted = there.sorted;
      within = there.within;
    }

pub step-requires-clause-state : goal.step-requires-clause-state
step-requires-clause-state g c =
    c.steps.invariant.state

pub step-requires-clause-sorted : goal.step-requires-clause-sorted
step-requires-clause-sorted g c =
    let u = c.args.self.now.unit.now in
    let fu = final_unit_of u in
    let k = c.args.self.now.fill in
    let bs = c.steps.env.items in
    let items = c.steps.stack.items in
    let s = state_in g.H.Heap.content u c.steps.state in
    let program = mon_of c.args.program.now in
    let first = runs_at fu k (env_of c.args.env.items) program (bound_of c.args.bound) (state_in g.H.Heap.content u c.args.state.now) in
    let Gives : List Scalar → Type 0 = λ out. scalars_given (setting_at fu c.args.env.items) program ≡ Some out in
    let out = c.requires.sorted.scalars in
    let gives = c.requires.sorted.gives in
    let inv : Goes fu k first Gives (machine_in g.H.Heap.content u bs items c.steps.next c.steps.state) = record { sorted = c.steps.invariant.sorted; within = c.steps.invariant.within } in
    let here : Goes fu k first Gives (machine_at bs items (now_of bs (N.TheVariants.Running c.in-Running.part c.in-Running.left)) s) = subst (λ n. Goes fu k first Gives (machine_at bs items (now_of bs n) s)) c.in-Running.is inv in
    can_run fu (stack_of bs (reverse items)) bs (mon_of c.in-Running.part.now) (bound_of c.in-Running.left) s out (here.sorted out gives)

pub returns-in_err-next-in-Running-clause-stops : goal.returns-in_err-next-in-Running-clause-stops
returns-in_err-next-in-Running-clause-stops g c =
    let u = c.args.self.now.unit.now in
    let fu = final_unit_of u in
    let k = c.args.self.now.fill in
    let bs = c.steps.env.items in
    let items = c.steps.stack.items in
    let s = state_in g.H.Heap.content u c.steps.state in
    let program = mon_of c.args.program.now in
    let first = runs_at fu k (env_of c.args.env.items) program (bound_of c.args.bound) (state_in g.H.Heap.content u c.args.state.now) in
    let Gives : List Scalar → Type 0 = λ out. scalars_given (setting_at fu c.args.env.items) program ≡ Some out in
    let out = c.requires.sorted.scalars in
    let gives = c.requires.sorted.gives in
    let inv : Goes fu k first Gives (machine_in g.H.Heap.content u bs items c.steps.next c.steps.state) = record { sorted = c.steps.invariant.sorted; within = c.steps.invariant.within } in
    let here : Goes fu k first Gives (machine_at bs items (now_of bs (N.TheVariants.Running c.in-Running.part c.in-Running.left)) s) = subst (λ n. Goes fu k first Gives (machine_at bs items (now_of bs n) s)) c.in-Running.is inv in
    let err = c.in_err-next-in-Running.field-0.0 in
    let same : c.from_residual.result ≡ Err err = search rules in
    subst (λ r. IfErr r (HasStopped first)) (sym same)
    (whole_stops fu k (stack_of bs (reverse items)) (runs_at fu k (env_of bs) (mon_of c.in-Running.part.now) (bound_of c.in-Running.left) s) first here.within err c.in_err-next-in-Running.ensures.stops)

pub turn-requires-clause-state : goal.turn-requires-clause-state
turn-requires-clause-state g c =
    c.steps.invariant.state

pub turn-requires-clause-sorted : goal.turn-requires-clause-sorted
turn-requires-clause-sorted g c =
    let u = c.args.self.now.unit.now in
    let fu = final_unit_of u in
    let k = c.args.self.now.fill in
    let bs = c.steps.env.items in
    let items = c.steps.stack.items in
    let s = state_in g.H.Heap.content u c.steps.state in
    let program = mon_of c.args.program.now in
    let first = runs_at fu k (env_of c.args.env.items) program (bound_of c.args.bound) (state_in g.H.Heap.content u c.args.state.now) in
    let Gives : List Scalar → Type 0 = λ out. scalars_given (setting_at fu c.args.env.items) program ≡ Some out in
    let out = c.requires.sorted.scalars in
    let gives = c.requires.sorted.gives in
    let inv : Goes fu k first Gives (machine_in g.H.Heap.content u bs items c.steps.next c.steps.state) = record { sorted = c.steps.invariant.sorted; within = c.steps.invariant.within } in
    let here : Goes fu k first Gives (machine_at bs items (now_of bs (N.TheVariants.Turning c.in-Turning.turns c.in-Turning.values)) s) = subst (λ n. Goes fu k first Gives (machine_at bs items (now_of bs n) s)) c.in-Turning.is inv in
    can_turn fu (stack_of bs (reverse items)) bs (turns_of c.in-Turning.turns) (map value_of c.in-Turning.values.items) s out (here.sorted out gives)

pub returns-in_err-next-in-Turning-clause-stops : goal.returns-in_err-next-in-Turning-clause-stops
returns-in_err-next-in-Turning-clause-stops g c =
    let u = c.args.self.now.unit.now in
    let fu = final_unit_of u in
    let k = c.args.self.now.fill in
    let bs = c.steps.env.items in
    let items = c.steps.stack.items in
    let s = state_in g.H.Heap.content u c.steps.state in
    let program = mon_of c.args.program.now in
    let first = runs_at fu k (env_of c.args.env.items) program (bound_of c.args.bound) (state_in g.H.Heap.content u c.args.state.now) in
    let Gives : List Scalar → Type 0 = λ out. scalars_given (setting_at fu c.args.env.items) program ≡ Some out in
    let out = c.requires.sorted.scalars in
    let gives = c.requires.sorted.gives in
    let inv : Goes fu k first Gives (machine_in g.H.Heap.content u bs items c.steps.next c.steps.state) = record { sorted = c.steps.invariant.sorted; within = c.steps.invariant.within } in
    let here : Goes fu k first Gives (machine_at bs items (now_of bs (N.TheVariants.Turning c.in-Turning.turns c.in-Turning.values)) s) = subst (λ n. Goes fu k first Gives (machine_at bs items (now_of bs n) s)) c.in-Turning.is inv in
    let err = c.in_err-next-in-Turning.field-0.0 in
    let same : c.from_residual-in_err-next-in-Turning.result ≡ Err err = search rules in
    subst (λ r. IfErr r (HasStopped first)) (sym same)
    (whole_stops fu k (stack_of bs (reverse items)) (turns_at fu k (env_of bs) (turns_of c.in-Turning.turns) (record { values = map value_of c.in-Turning.values.items; state = s })) first here.within err c.in_err-next-in-Turning.ensures.stops)

pub returns-in-None-clause-state : goal.returns-in-None-clause-state
returns-in-None-clause-state g c =
    c.steps.invariant.state

pub returns-in-None-clause-gives : goal.returns-in-None-clause-gives
returns-in-None-clause-gives g c =
    let u = c.args.self.now.unit.now in
    let fu = final_unit_of u in
    let k = c.args.self.now.fill in
    let bs = c.steps.env.items in
    let items = c.steps.stack.items in
    let s = state_in g.H.Heap.content u c.steps.state in
    let program = mon_of c.args.program.now in
    let first = runs_at fu k (env_of c.args.env.items) program (bound_of c.args.bound) (state_in g.H.Heap.content u c.args.state.now) in
    let Gives : List Scalar → Type 0 = λ out. scalars_given (setting_at fu c.args.env.items) program ≡ Some out in
    let out = c.requires.sorted.scalars in
    let gives = c.requires.sorted.gives in
    let inv : Goes fu k first Gives (machine_in g.H.Heap.content u bs items c.steps.next c.steps.state) = record { sorted = c.steps.invariant.sorted; within = c.steps.invariant.within } in
    let here : Goes fu k first Gives (machine_at bs items (now_of bs (N.TheVariants.Gave c.in-Gave.values)) s) = subst (λ n. Goes fu k first Gives (machine_at bs items (now_of bs n) s)) c.in-Gave.is inv in
    let zero : length items ≡ 0 = search rules in
    let none : items ≡ [] = nil_from_length items zero in
    let last = subst (λ xs. Goes fu k first Gives (machine_at bs xs (Gave (map value_of c.in-Gave.values.items)) s)) none here in
    last.within.each (Done (record { values = map value_of c.in-Gave.values.items; state = s })) refl

pub steps-smaller-in_ok-next-in-Running : goal.steps-smaller-in_ok-next-in-Running
steps-smaller-in_ok-next-in-Running g c =
    let u = c.args.self.now.unit.now in
    let fu = final_unit_of u in
    let k = c.args.self.now.fill in
    let bs = c.steps.env.items in
    let items = c.steps.stack.items in
    let s = state_in g.H.Heap.content u c.steps.state in
    let program = mon_of c.args.program.now in
    let first = runs_at fu k (env_of c.args.env.items) program (bound_of c.args.bound) (state_in g.H.Heap.content u c.args.state.now) in
    let Gives : List Scalar → Type 0 = λ out. scalars_given (setting_at fu c.args.env.items) program ≡ Some out in
    let out = c.requires.sorted.scalars in
    let gives = c.requires.sorted.gives in
    let inv : Goes fu k first Gives (machine_in g.H.Heap.content u bs items c.steps.next c.steps.state) = record { sorted = c.steps.invariant.sorted; within = c.steps.invariant.within } in
    let here : Goes fu k first Gives (machine_at bs items (now_of bs (N.TheVariants.Running c.in-Running.part c.in-Running.left)) s) = subst (λ n. Goes fu k first Gives (machine_at bs items (now_of bs n) s)) c.in-Running.is inv in
    let before : N.Next → Machine = λ n. machine_at bs items (now_of bs n) s in
    let after = machine_in g.H.Heap.content u c.step.new.env.items c.step.new.stack.items c.in_ok-next-in-Running.next c.step.new.state in
    subst (λ n. machine_cost fu after < machine_cost fu (before n)) (sym c.in-Running.is)
    (step_less fu k first Gives (before (N.TheVariants.Running c.in-Running.part c.in-Running.left)) after out gives here c.in_ok-next-in-Running.ensures.steps)

pub steps-preserved-in_ok-next-in-Running : goal.steps-preserved-in_ok-next-in-Running
steps-preserved-in_ok-next-in-Running g c =
    let u = c.args.self.now.unit.now in
    let fu = final_unit_of u in
    let k = c.args.self.now.fill in
    let bs = c.steps.env.items in
    let items = c.steps.stack.items in
    let s = state_in g.H.Heap.content u c.steps.state in
    let program = mon_of c.args.program.now in
    let first = runs_at fu k (env_of c.args.env.items) program (bound_of c.args.bound) (state_in g.H.Heap.content u c.args.state.now) in
    let Gives : List Scalar → Type 0 = λ out. scalars_given (setting_at fu c.args.env.items) program ≡ Some out in
    let out = c.requires.sorted.scalars in
    let gives = c.requires.sorted.gives in
    let inv : Goes fu k first Gives (machine_in g.H.Heap.content u bs items c.steps.next c.steps.state) = record { sorted = c.steps.invariant.sorted; within = c.steps.invariant.within } in
    let here : Goes fu k first Gives (machine_at bs items (now_of bs (N.TheVariants.Running c.in-Running.part c.in-Running.left)) s) = subst (λ n. Goes fu k first Gives (machine_at bs items (now_of bs n) s)) c.in-Running.is inv in
    let before : N.Next → Machine = λ n. machine_at bs items (now_of bs n) s in
    let after = machine_in g.H.Heap.content u c.step.new.env.items c.step.new.stack.items c.in_ok-next-in-Running.next c.step.new.state in
    let there = step_goes fu k first Gives (before (N.TheVariants.Running c.in-Running.part c.in-Running.left)) after out gives here c.in_ok-next-in-Running.ensures.steps in
    record {
      state = c.in_ok-next-in-Running.ensures.state;
      marked = c.in_ok-next-in-Running.ensures.marked c.steps.invariant.marked;
      sorted = there.sorted;
      within = there.within;
    }

pub steps-smaller-in_ok-next-in-Turning : goal.steps-smaller-in_ok-next-in-Turning
steps-smaller-in_ok-next-in-Turning g c =
    let u = c.args.self.now.unit.now in
    let fu = final_unit_of u in
    let k = c.args.self.now.fill in
    let bs = c.steps.env.items in
    let items = c.steps.stack.items in
    let s = state_in g.H.Heap.content u c.steps.state in
    let program = mon_of c.args.program.now in
    let first = runs_at fu k (env_of c.args.env.items) program (bound_of c.args.bound) (state_in g.H.Heap.content u c.args.state.now) in
    let Gives : List Scalar → Type 0 = λ out. scalars_given (setting_at fu c.args.env.items) program ≡ Some out in
    let out = c.requires.sorted.scalars in
    let gives = c.requires.sorted.gives in
    let inv : Goes fu k first Gives (machine_in g.H.Heap.content u bs items c.steps.next c.steps.state) = record { sorted = c.steps.invariant.sorted; within = c.steps.invariant.within } in
    let here : Goes fu k first Gives (machine_at bs items (now_of bs (N.TheVariants.Turning c.in-Turning.turns c.in-Turning.values)) s) = subst (λ n. Goes fu k first Gives (machine_at bs items (now_of bs n) s)) c.in-Turning.is inv in
    let before : N.Next → Machine = λ n. machine_at bs items (now_of bs n) s in
    let after = machine_in g.H.Heap.content u c.turn.new.env.items c.turn.new.stack.items c.in_ok-next-in-Turning.next c.steps.state in
    subst (λ n. machine_cost fu after < machine_cost fu (before n)) (sym c.in-Turning.is)
    (step_less fu k first Gives (before (N.TheVariants.Turning c.in-Turning.turns c.in-Turning.values)) after out gives here c.in_ok-next-in-Turning.ensures.steps)

pub steps-preserved-in_ok-next-in-Turning : goal.steps-preserved-in_ok-next-in-Turning
steps-preserved-in_ok-next-in-Turning g c =
    let u = c.args.self.now.unit.now in
    let fu = final_unit_of u in
    let k = c.args.self.now.fill in
    let bs = c.steps.env.items in
    let items = c.steps.stack.items in
    let s = state_in g.H.Heap.content u c.steps.state in
    let program = mon_of c.args.program.now in
    let first = runs_at fu k (env_of c.args.env.items) program (bound_of c.args.bound) (state_in g.H.Heap.content u c.args.state.now) in
    let Gives : List Scalar → Type 0 = λ out. scalars_given (setting_at fu c.args.env.items) program ≡ Some out in
    let out = c.requires.sorted.scalars in
    let gives = c.requires.sorted.gives in
    let inv : Goes fu k first Gives (machine_in g.H.Heap.content u bs items c.steps.next c.steps.state) = record { sorted = c.steps.invariant.sorted; within = c.steps.invariant.within } in
    let here : Goes fu k first Gives (machine_at bs items (now_of bs (N.TheVariants.Turning c.in-Turning.turns c.in-Turning.values)) s) = subst (λ n. Goes fu k first Gives (machine_at bs items (now_of bs n) s)) c.in-Turning.is inv in
    let before : N.Next → Machine = λ n. machine_at bs items (now_of bs n) s in
    let after = machine_in g.H.Heap.content u c.turn.new.env.items c.turn.new.stack.items c.in_ok-next-in-Turning.next c.steps.state in
    let there = step_goes fu k first Gives (before (N.TheVariants.Turning c.in-Turning.turns c.in-Turning.values)) after out gives here c.in_ok-next-in-Turning.ensures.steps in
    record {
      state = c.steps.invariant.state;
      marked = c.in_ok-next-in-Turning.ensures.marked c.steps.invariant.marked;
      sorted = there.sorted;
      within = there.within;
    }

pub steps-smaller : goal.steps-smaller
steps-smaller g c =
    let u = c.args.self.now.unit.now in
    let fu = final_unit_of u in
    let k = c.args.self.now.fill in
    let bs = c.steps.env.items in
    let items = c.steps.stack.items in
    let s = state_in g.H.Heap.content u c.steps.state in
    let program = mon_of c.args.program.now in
    let first = runs_at fu k (env_of c.args.env.items) program (bound_of c.args.bound) (state_in g.H.Heap.content u c.args.state.now) in
    let Gives : List Scalar → Type 0 = λ out. scalars_given (setting_at fu c.args.env.items) program ≡ Some out in
    let out = c.requires.sorted.scalars in
    let gives = c.requires.sorted.gives in
    let inv : Goes fu k first Gives (machine_in g.H.Heap.content u bs items c.steps.next c.steps.state) = record { sorted = c.steps.invariant.sorted; within = c.steps.invariant.within } in
    let here : Goes fu k first Gives (machine_at bs items (now_of bs (N.TheVariants.Gave c.in-Gave.values)) s) = subst (λ n. Goes fu k first Gives (machine_at bs items (now_of bs n) s)) c.in-Gave.is inv in
    let fs = reverse c.pop.new.self.items in
    let order : reverse items ≡ c.in-Some.pending ∷ fs = popped_first items c.pop.new.self.items c.in-Some.pending c.in-Some.ensures.items in
    let before : List W.Pending → N.Next → Machine = λ qs n. record { stack = stack_of bs qs; now = now_of bs n; state = s } in
    let gave : N.Next = N.TheVariants.Gave c.in-Gave.values in
    let at : Goes fu k first Gives (before (c.in-Some.pending ∷ fs) gave) = subst (λ qs. Goes fu k first Gives (before qs gave)) order here in
    let marked = subst (λ qs. AreMarked (length bs) qs) order c.steps.invariant.marked in
    let after = machine_in g.H.Heap.content u c.resume.new.env.items c.pop.new.self.items c.in_ok-next-in-Some.next c.steps.state in
    subst (λ n. machine_cost fu after < machine_cost fu (before (reverse items) n)) (sym c.in-Gave.is)
    (subst (λ qs. machine_cost fu after < machine_cost fu (before qs gave)) (sym order)
    (step_less fu k first Gives (before (c.in-Some.pending ∷ fs) gave) after out gives at (λ cs h. c.in_ok-next-in-Some.ensures.steps fs s cs marked h)))

pub steps-preserved : goal.steps-preserved
steps-preserved g c =
    let u = c.args.self.now.unit.now in
    let fu = final_unit_of u in
    let k = c.args.self.now.fill in
    let bs = c.steps.env.items in
    let items = c.steps.stack.items in
    let s = state_in g.H.Heap.content u c.steps.state in
    let program = mon_of c.args.program.now in
    let first = runs_at fu k (env_of c.args.env.items) program (bound_of c.args.bound) (state_in g.H.Heap.content u c.args.state.now) in
    let Gives : List Scalar → Type 0 = λ out. scalars_given (setting_at fu c.args.env.items) program ≡ Some out in
    let out = c.requires.sorted.scalars in
    let gives = c.requires.sorted.gives in
    let inv : Goes fu k first Gives (machine_in g.H.Heap.content u bs items c.steps.next c.steps.state) = record { sorted = c.steps.invariant.sorted; within = c.steps.invariant.within } in
    let here : Goes fu k first Gives (machine_at bs items (now_of bs (N.TheVariants.Gave c.in-Gave.values)) s) = subst (λ n. Goes fu k first Gives (machine_at bs items (now_of bs n) s)) c.in-Gave.is inv in
    let fs = reverse c.pop.new.self.items in
    let order : reverse items ≡ c.in-Some.pending ∷ fs = popped_first items c.pop.new.self.items c.in-Some.pending c.in-Some.ensures.items in
    let before : List W.Pending → N.Next → Machine = λ qs n. record { stack = stack_of bs qs; now = now_of bs n; state = s } in
    let gave : N.Next = N.TheVariants.Gave c.in-Gave.values in
    let at : Goes fu k first Gives (before (c.in-Some.pending ∷ fs) gave) = subst (λ qs. Goes fu k first Gives (before qs gave)) order here in
    let marked = subst (λ qs. AreMarked (length bs) qs) order c.steps.invariant.marked in
    let after = machine_in g.H.Heap.content u c.resume.new.env.items c.pop.new.self.items c.in_ok-next-in-Some.next c.steps.state in
    let there = step_goes fu k first Gives (before (c.in-Some.pending ∷ fs) gave) after out gives at (λ cs h. c.in_ok-next-in-Some.ensures.steps fs s cs marked h) in
    record {
      state = c.steps.invariant.state;
      marked = c.in_ok-next-in-Some.ensures.marked fs marked;
      sorted = there.sorted;
      within = there.within;
    }
