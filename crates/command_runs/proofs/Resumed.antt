-- What is pending goes on from each end of the part that runs.
use Rattle.std.proofs.Common.{List, [], ◌∷◌}
use Rattle.correspondence.specs.Outcome.{Limit, Turns, Depth, Failed, Stopped, Ends, fails, stops}
use Rattle.correspondence.specs.Included.{Included}
use Rattle.correspondence.proofs.Included.{then_within}
use Rattle.expression_lang.specs.GuardKind.{GuardKind}
use Rattle.simpl_lang.specs.Exec as E
use Rattle.simpl_lang.specs.CodeCommand.{guard_kind_of}
use Rattle.command_runs.specs.declared.ends.Stop as P
use Rattle.command_runs.specs.declared.frame.Frame as R
use Rattle.command_runs.specs.declared.machine.Pending as W
use Rattle.command_runs.specs.CodeRun.{HasStopped}
use Rattle.command_runs.specs.CodeMachine.{resumed, caller_frame}

pub resumed_within : (f : R.Frame) (fs : List W.Pending) (p q : Ends E.Flow GuardKind) → Included p q → Included (resumed f fs p) (resumed f fs q)
resumed_within f [] p q h = h
resumed_within f (W.TheVariants.Rest c n ∷ fs) p q h = resumed_within f fs _ _ (then_within p q _ h)
resumed_within f (W.TheVariants.Handler c n ∷ fs) p q h = resumed_within f fs _ _ (then_within p q _ h)
resumed_within f (W.TheVariants.Return c ∷ fs) p q h = resumed_within (caller_frame f c) fs _ _ (then_within _ _ _ (then_within p q _ h))

resumed_fails : (f : R.Frame) (fs : List W.Pending) (p : Ends E.Flow GuardKind) (k : GuardKind) → p (Failed k) → resumed f fs p (Failed k)
resumed_fails f [] p k h = h
resumed_fails f (W.TheVariants.Rest c n ∷ fs) p k h = resumed_fails f fs _ k (fails h)
resumed_fails f (W.TheVariants.Handler c n ∷ fs) p k h = resumed_fails f fs _ k (fails h)
resumed_fails f (W.TheVariants.Return c ∷ fs) p k h = resumed_fails (caller_frame f c) fs _ k (fails (fails h))

resumed_stops : (f : R.Frame) (fs : List W.Pending) (p : Ends E.Flow GuardKind) (w : Limit) → p (Stopped w) → resumed f fs p (Stopped w)
resumed_stops f [] p w h = h
resumed_stops f (W.TheVariants.Rest c n ∷ fs) p w h = resumed_stops f fs _ w (stops h)
resumed_stops f (W.TheVariants.Handler c n ∷ fs) p w h = resumed_stops f fs _ w (stops h)
resumed_stops f (W.TheVariants.Return c ∷ fs) p w h = resumed_stops (caller_frame f c) fs _ w (stops (stops h))

-- where the part stops, the whole does
pub whole_stops : (f : R.Frame) (fs : List W.Pending) (p : Ends E.Flow GuardKind) (e : P.Stop) → HasStopped p e → HasStopped (resumed f fs p) e
whole_stops f fs p (P.TheVariants.Guard k) h = resumed_fails f fs p (guard_kind_of k) h
whole_stops f fs p P.TheVariants.OutOfTurns h = resumed_stops f fs p Turns h
whole_stops f fs p P.TheVariants.Deep h = resumed_stops f fs p Depth h
whole_stops f fs p P.TheVariants.Memory h = tt

pub stopped_within : {A : Type 0} (p q : Ends A GuardKind) → Included p q → (e : P.Stop) → HasStopped p e → HasStopped q e
stopped_within p q h (P.TheVariants.Guard k) x = h.each (Failed (guard_kind_of k)) x
stopped_within p q h P.TheVariants.OutOfTurns x = h.each (Stopped Turns) x
stopped_within p q h P.TheVariants.Deep x = h.each (Stopped Depth) x
stopped_within p q h P.TheVariants.Memory x = tt
