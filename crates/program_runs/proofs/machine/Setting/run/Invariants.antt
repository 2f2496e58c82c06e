-- What is next makes up, with what is pending, a well-sorted whole, each end of which is one of the program's.
use Rattle.std.proofs.Common.{◌≡◌, List, Some, length, reverse}
use Rattle.correspondence.specs.Included.{Included}
use Rattle.expression_lang.specs.Sort.{Scalar}
use Rattle.expression_lang.specs.CodeState.{env_of}
use Rattle.monad_lang.specs.Sorted.{scalars_given}
use Rattle.monad_lang.specs.CodeProgram.{mon_of, final_unit_of}
use Rattle.program_runs.specs.Machine.{IsSorted, setting_at, whole, runs_at, machine_cost}
use Rattle.program_runs.specs.CodeRun.{state_in, machine_in, bound_of, AreMarked, IsStateOf}
use Rattle.program_runs.proofs.machine.Setting.run.Given as goal

abbrev pub invariant-steps : goal.invariant-steps
invariant-steps g l =
    let u = final_unit_of l.self.unit.now in
    let now = machine_in g.H.Heap.content l.self.unit.now l.env.items l.stack.items l.next l.state in
    record {
      state : IsStateOf g.H.Heap.content l.self.unit.now l.state;
      marked : AreMarked (length l.env.items) (reverse l.stack.items);
      sorted : (out : List Scalar) → scalars_given (setting_at u l.fn.env.items) (mon_of l.program) ≡ Some out → IsSorted u now out;
      within : Included (whole u l.self.fill now) (runs_at u l.self.fill (env_of l.fn.env.items) (mon_of l.program) (bound_of l.fn.bound) (state_in g.H.Heap.content l.self.unit.now l.fn.state));
    }

abbrev pub decreases-steps : goal.decreases-steps
decreases-steps g l = machine_cost (final_unit_of l.self.unit.now) (machine_in g.H.Heap.content l.self.unit.now l.env.items l.stack.items l.next l.state)
