-- The outcome of what a function gives is an end of its run, and has its results.
use Rattle.std.proofs.Common.{Option, Result, Ok, Err}
use Rattle.std.specs.Prelude.{IfOk, IfErr}
use Rattle.correspondence.specs.Outcome.{Done, Ends}
use Rattle.c_values.specs.declared.program.Program as U
use Rattle.c_values.specs.declared.values.Value as V
use Rattle.c_memory.specs.Heap.{Heap}
use Rattle.monad_lang.specs.declared.program.FinalFn as F
use Rattle.monad_lang.specs.Run.{Answer}
use Rattle.program_runs.specs.declared.ends.Stop as P
use Rattle.program_runs.specs.declared.machine.AState as A
use Rattle.program_runs.specs.WideRun.{Trouble}
use Rattle.program_runs.specs.CodeRun.{state_in, values_in, outcome_of, HasStopped, IsEnd, AreResults, OnResults}

module _ {H : Type 0} where
  pub is_end : (content : H → Heap) (u : U.Program F.FinalFn) (ends : Ends Answer Trouble) (r : Result (Option V.Value) P.Stop) (s : A.AState H) →
      IfOk r (λ v. ends (Done (record { values = values_in v; state = state_in content u s }))) → IfErr r (HasStopped ends) → IsEnd content u ends (outcome_of r s)
  is_end content u ends (Ok v) s h k = h
  is_end content u ends (Err P.TheVariants.Fails) s h k = k
  is_end content u ends (Err (P.TheVariants.Wide op a b)) s h k = k
  is_end content u ends (Err P.TheVariants.OutOfTurns) s h k = k
  is_end content u ends (Err P.TheVariants.Deep) s h k = k
  is_end content u ends (Err P.TheVariants.Memory) s h k = tt

  pub has_results : (f : F.FinalFn) (r : Result (Option V.Value) P.Stop) (s : A.AState H) → IfOk r (λ v. AreResults f (values_in v)) → OnResults f (outcome_of r s)
  has_results f (Ok v) s h = h
  has_results f (Err P.TheVariants.Fails) s h = tt
  has_results _ _ _ _ = tt
