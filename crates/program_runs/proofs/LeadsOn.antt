-- A step that leaves the stack and the bindings is one of the code's machine.
use Rattle.std.proofs.Common.{◌≡◌, ℕ, List, reverse, Result, Ok, Err, subst}
use Rattle.std.specs.Prelude.{IfOk, IfErr}
use Rattle.expression_lang.specs.Sort.{Scalar}
use Rattle.expression_lang.specs.Evaluation.{Env, State}
use Rattle.expression_lang.specs.CodeState.{Bindings}
use Rattle.monad_lang.specs.Program.{Mon, FinalUnit}
use Rattle.program_runs.specs.declared.ends.Stop as P
use Rattle.program_runs.specs.declared.machine.Next as N
use Rattle.program_runs.specs.declared.machine.Pending as W
use Rattle.program_runs.specs.Machine.{Bound, Running, Machine, IsSorted, Leads, Steps, runs_at}
use Rattle.program_runs.specs.CodeRun.{stack_of, machine_at, now_of, HasStopped}

-- a step from a program to a machine, whatever the whole gives
abbrev pub StepsTo : FinalUnit → ℕ → Bindings → List W.Pending → Bound → State → Mon → Machine → Type 0
StepsTo u k bs items b s m after =
    (out : List Scalar) → IsSorted u (machine_at bs items (Running bs m b) s) out → Steps u k out (machine_at bs items (Running bs m b) s) after

module _ (u : FinalUnit) (k : ℕ) (b : Bound) (s : State) where
  module _ (bs : Bindings) (items : List W.Pending) where
    pub leads_on : (m n : Mon) (s' : State) (r : Result N.Next P.Stop) → m ≡ n → IfOk r (λ next. Leads u k bs m b s (now_of bs next) s') →
        IfOk r (λ next. StepsTo u k bs items b s n (machine_at bs items (now_of bs next) s'))
    leads_on m n s' (Ok next) same h = subst (λ p. StepsTo u k bs items b s p (machine_at bs items (now_of bs next) s')) same (λ out sorted. h (stack_of bs (reverse items)) out sorted)
    leads_on m n s' (Err e) same h = tt

    pub leads_anywhere : (m n : Mon) (r : Result N.Next P.Stop) → m ≡ n → IfOk r (λ next. (t : State) → Leads u k bs m b t (now_of bs next) t) →
        IfOk r (λ next. StepsTo u k bs items b s n (machine_at bs items (now_of bs next) s))
    leads_anywhere m n (Ok next) same h = leads_on m n s (Ok next) same (h s)
    leads_anywhere m n (Err e) same h = tt

  pub stops_on : (env : Env) (m n : Mon) (r : Result N.Next P.Stop) → m ≡ n → IfErr r (HasStopped (runs_at u k env m b s)) → IfErr r (HasStopped (runs_at u k env n b s))
  stops_on env m n r same h = subst (λ p. IfErr r (HasStopped (runs_at u k env p b s))) same h
