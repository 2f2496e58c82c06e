-- Where a part of a machine stops the whole does, and what the whole ends with from step to step.
use Rattle.std.proofs.Common.{◌≡◌, ℕ, ◌<◌, ◌++◌, List, [], ◌∷◌, reverse, ap, ◌∙◌}
use Rattle.std.proofs.lemmas.List.{reverse-append}
use Rattle.correspondence.specs.Outcome.{Ends}
use Rattle.correspondence.specs.Included.{Included}
use Rattle.expression_lang.specs.Sort.{Scalar}
use Rattle.expression_lang.specs.CodeState.{Bindings}
use Rattle.expression_lang.specs.Evaluation.{State}
use Rattle.c_values.specs.Value.{Value}
use Rattle.monad_lang.specs.Program.{Mon, FinalUnit}
use Rattle.monad_lang.specs.Run.{Answer}
use Rattle.program_runs.specs.declared.ends.Stop as P
use Rattle.program_runs.specs.declared.machine.Pending as W
use Rattle.program_runs.specs.WideRun.{Trouble}
use Rattle.program_runs.specs.Machine.{Bound, Turns, Pending, Running, Turning, Machine, resumed, whole, machine_cost, IsSorted, Steps, CanRun, CanTurn}
use Rattle.program_runs.specs.CodeRun.{HasStopped}
use Rattle.program_runs.proofs.MachineSteps.{resumed_fails, resumed_stops}

pub stopped_within : (p q : Ends Answer Trouble) → Included p q → (w : P.Stop) → HasStopped p w → HasStopped q w
stopped_within p q h P.TheVariants.Fails k = h.each _ k
stopped_within p q h (P.TheVariants.Wide op a b) k = h.each _ k
stopped_within p q h P.TheVariants.OutOfTurns k = h.each _ k
stopped_within p q h P.TheVariants.Deep k = h.each _ k
stopped_within p q h P.TheVariants.Memory k = tt

module _ (u : FinalUnit) (k : ℕ) where
  stopped_resumed : (fs : List Pending) (p : Ends Answer Trouble) (w : P.Stop) → HasStopped p w → HasStopped (resumed u k fs p) w
  stopped_resumed fs p P.TheVariants.Fails h = resumed_fails u k fs p _ h
  stopped_resumed fs p (P.TheVariants.Wide op a b) h = resumed_fails u k fs p _ h
  stopped_resumed fs p P.TheVariants.OutOfTurns h = resumed_stops u k fs p _ h
  stopped_resumed fs p P.TheVariants.Deep h = resumed_stops u k fs p _ h
  stopped_resumed fs p P.TheVariants.Memory h = tt

  -- a part of the machine stops
  pub whole_stops : (fs : List Pending) (p q : Ends Answer Trouble) → Included (resumed u k fs p) q → (w : P.Stop) → HasStopped p w → HasStopped q w
  whole_stops fs p q h w x = stopped_within (resumed u k fs p) q h w (stopped_resumed fs p w x)

  -- a machine that gives values of these scalars, each end of which is one of the first whole's
  module _ (first : Ends Answer Trouble) (Gives : List Scalar → Type 0) where
    pub record Goes (m : Machine) : Type 0 where
      pub sorted : (out : List Scalar) → Gives out → IsSorted u m out
      pub within : Included (whole u k m) first

    module _ (before after : Machine) (out : List Scalar) (gives : Gives out) (h : Goes before) (step : (cs : List Scalar) → IsSorted u before cs → Steps u k cs before after) where
      pub step_goes : Goes after
      step_goes = record {
        sorted = λ cs x. (step cs (h.sorted cs x)).sorted;
        within = record { each = λ o e. h.within.each o ((step out (h.sorted out gives)).within.each o e) };
      }

      pub step_less : machine_cost u after < machine_cost u before
      step_less = (step out (h.sorted out gives)).less

pub same_ends : (p : Ends Answer Trouble) → Included p p
same_ends p = record { each = λ o e. e }

pub popped_first : (items news : List W.Pending) (x : W.Pending) → items ≡ news ++ (x ∷ []) → reverse items ≡ x ∷ reverse news
popped_first items news x h = ap reverse h ∙ reverse-append news (x ∷ [])

-- what is next in a well-sorted machine

pub can_run : (u : FinalUnit) (fs : List Pending) (bs : Bindings) (m : Mon) (b : Bound) (s : State) (out : List Scalar) → IsSorted u (record { stack = fs; now = Running bs m b; state = s }) out → CanRun u bs m
can_run u fs bs m b s out h = record { bindings = h.now.bindings; scalars = h.here; gives = h.now.gives }

pub can_turn : (u : FinalUnit) (fs : List Pending) (bs : Bindings) (t : Turns) (vs : List Value) (s : State) (out : List Scalar) → IsSorted u (record { stack = fs; now = Turning bs t vs; state = s }) out → CanTurn u bs t vs
can_turn u fs bs t vs s out h = record { scalars = h.here; loop = h.now.0; values = h.now.1 }
