-- Runs of commands with what is still to do kept on a stack, the next first: what the whole may end with, what it costs at most,
-- and which such runs are well-sorted.
use Rattle.std.specs.Prelude.{◌≡◌, ℕ, ◌+◌, ◌<◌, true, List, [], ◌∷◌, reverse, Some, string_bytes}
use Rattle.std.specs.Option.{option_map}
use Rattle.correspondence.specs.Outcome.{Ends, done, Then}
use Rattle.correspondence.specs.Included.{Included}
use Rattle.expression_lang.specs.GuardKind.{GuardKind}
use Rattle.expression_lang.specs.Sort.{word_sort_of}
use Rattle.expression_lang.specs.Sorted.{result_scalars}
use Rattle.expression_lang.specs.CodeSignature.{signature_of}
use Rattle.expression_lang.specs.CodeState.{Bindings, env_of}
use Rattle.simpl_lang.specs.Command.{Simpl, SimplFn}
use Rattle.simpl_lang.specs.Exec as E
use Rattle.simpl_lang.specs.Exec.{normally, handled, ended, result_into}
use Rattle.simpl_lang.specs.Sorted.{fits_target, holds_result}
use Rattle.simpl_lang.specs.CodeCommand.{simpl_of, simpl_unit_of}
use Rattle.command_runs.specs.declared.outcome.CState as C
use Rattle.command_runs.specs.declared.ends.Flow as F
use Rattle.command_runs.specs.declared.frame.Frame as R
use Rattle.command_runs.specs.declared.machine.Next as N
use Rattle.command_runs.specs.declared.machine.Pending as W
use Rattle.command_runs.specs.declared.machine.Caller as K
use Rattle.command_runs.specs.Cost.{cost_at}
use Rattle.command_runs.specs.Locals.{AreLocals}
use Rattle.command_runs.specs.CodeRun.{table_of, machine_in, ends_in, flow_of, locals_of, scope_for, IsFrame, Fits, CanRunIn}

-- the caller's frame, in the same unit
abbrev pub caller_frame : R.Frame → K.Caller → R.Frame
caller_frame f c = record f { locals = c.binders; depth = c.depth }

-- what a call ends with, by what the body of the function ends with
abbrev pub returned : K.Caller → Ends E.Flow GuardKind → Ends E.Flow GuardKind
returned c p =
    Then (Then p (ended (signature_of c.called.now).result))
    (λ r. done (E.Normal (result_into (option_map string_bytes c.target.now) r (env_of c.locals.items))))

-- what the whole ends with, by what the part ends with that runs in this frame
abbrev pub resumed : R.Frame → List W.Pending → Ends E.Flow GuardKind → Ends E.Flow GuardKind
resumed f [] p = p
resumed f (W.TheVariants.Rest c n ∷ fs) p = resumed f fs (Then p (normally (λ m. ends_in f (simpl_of c.now) n m)))
resumed f (W.TheVariants.Handler c n ∷ fs) p = resumed f fs (Then p (handled (λ m. ends_in f (simpl_of c.now) n m)))
resumed f (W.TheVariants.Return c ∷ fs) p = resumed (caller_frame f c) fs (returned c p)

-- a command that runs in a frame, at a bound of so many turns, or one that has ended there
pub data Now : Type 0 where
  Running : R.Frame → Simpl → ℕ → Now
  Ended : R.Frame → F.Flow → Now

abbrev pub now_of : N.Next → Now
now_of (N.TheVariants.Running f c n) = Running f (simpl_of c.now) n
now_of (N.TheVariants.Ended f w) = Ended f w

abbrev pub frame_of : Now → R.Frame
frame_of (Running f c n) = f
frame_of (Ended f w) = f

abbrev pub ends_now : Now → Bindings → C.CState → Ends E.Flow GuardKind
ends_now (Running f c n) bs s = ends_in f c n (machine_in f bs s)
ends_now (Ended f w) bs s = done (flow_of w (machine_in f bs s))

-- where a run has come
pub record Point : Type 0 where
  pub stack : List W.Pending
  pub now : Now
  pub locals : Bindings
  pub state : C.CState

-- over what the code has pending, the last first
abbrev pub point : List W.Pending → Now → Bindings → C.CState → Point
point items now bs s = record { stack = reverse items; now = now; locals = bs; state = s }

abbrev pub whole : Point → Ends E.Flow GuardKind
whole p = resumed (frame_of p.now) p.stack (ends_now p.now p.locals p.state)

-- how many steps are left at most

abbrev pub functions_of : R.Frame → List SimplFn
functions_of f = (simpl_unit_of f.unit.now).functions

abbrev pub stack_cost : List SimplFn → List W.Pending → ℕ
stack_cost gs [] = 0
stack_cost gs (W.TheVariants.Rest c n ∷ fs) = 1 + (cost_at gs (simpl_of c.now) n + stack_cost gs fs)
stack_cost gs (W.TheVariants.Handler c n ∷ fs) = 1 + (cost_at gs (simpl_of c.now) n + stack_cost gs fs)
stack_cost gs (W.TheVariants.Return c ∷ fs) = 1 + stack_cost gs fs

abbrev pub now_cost : Now → ℕ
now_cost (Running f c n) = cost_at (functions_of f) c n
now_cost (Ended f w) = 0

abbrev pub steps_left : Point → ℕ
steps_left p = now_cost p.now + stack_cost (functions_of (frame_of p.now)) p.stack

-- the locals are the caller's, the body leaves a result where its signature has one, and the caller has room for it
pub record IsCaller (f : R.Frame) (c : K.Caller) : Type 0 where
  pub frame : IsFrame (caller_frame f c)
  pub locals : AreLocals (locals_of (caller_frame f c)) (table_of c.locals.items)
  pub result : holds_result (signature_of c.called.now).result (locals_of f) ≡ true
  pub target :
      fits_target (scope_for (caller_frame f c)) (option_map string_bytes c.target.now)
      (Some (result_scalars word_sort_of (signature_of c.called.now).result))
      ≡ true

abbrev pub CanResume : R.Frame → List W.Pending → Type 0
CanResume f [] = Unit {0}
CanResume f (W.TheVariants.Rest c n ∷ fs) = CanRunIn f (simpl_of c.now) × CanResume f fs
CanResume f (W.TheVariants.Handler c n ∷ fs) = CanRunIn f (simpl_of c.now) × CanResume f fs
CanResume f (W.TheVariants.Return c ∷ fs) = IsCaller f c × CanResume (caller_frame f c) fs

abbrev pub CanFollow : Now → Type 0
CanFollow (Running f c n) = CanRunIn f c
CanFollow (Ended f w) = Unit {0}

pub record CanGoOn (p : Point) : Type 0 where
  pub frame : IsFrame (frame_of p.now)
  pub fits : Fits (frame_of p.now) p.locals p.state
  pub now : CanFollow p.now
  pub rest : CanResume (frame_of p.now) p.stack

-- a step: each end of the whole after it is an end of it before, and less is to do
pub record Steps (before after : Point) : Type 0 where
  pub within : Included (whole after) (whole before)
  pub less : steps_left after < steps_left before
  pub sorted : CanGoOn after
  pub unit : (frame_of after.now).unit.now ≡ (frame_of before.now).unit.now
