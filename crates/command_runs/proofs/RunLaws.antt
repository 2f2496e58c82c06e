-- What is left of the run of a command, step after step.
use Rattle.std.proofs.Common.{◌≡◌, ℕ, ◌<◌, ◌++◌, List, [], ◌∷◌, reverse, sym, ap, ◌∙◌, subst}
use Rattle.correspondence.specs.Included.{Included}
use Rattle.expression_lang.specs.Machine.{Machine}
use Rattle.expression_lang.specs.CodeState.{Bindings}
use Rattle.simpl_lang.specs.Command.{Simpl}
use Rattle.command_runs.specs.declared.ends.Flow as F
use Rattle.command_runs.specs.declared.ends.Stop as P
use Rattle.command_runs.specs.declared.frame.Frame as R
use Rattle.command_runs.specs.declared.machine.Next as N
use Rattle.command_runs.specs.declared.machine.Pending as W
use Rattle.command_runs.specs.declared.outcome.CState as C
use Rattle.command_runs.specs.CodeRun.{machine_in, ends_in, HasStopped, IsStateOf}
use Rattle.command_runs.specs.CodeMachine.{Running, Ended, Point, point, now_of, frame_of, whole, steps_left, CanGoOn, Steps}
use Rattle.command_runs.proofs.Resumed.{stopped_within, whole_stops}
use Rattle.command_runs.proofs.StepLaws.{pushed}

-- each end of what is left is an end of the command, and what is left can go on in the same unit
pub record IsLeft (f : R.Frame) (c : Simpl) (n : ℕ) (m : Machine) (a : Point) : Type 0 where
  pub within : Included (whole a) (ends_in f c n m)
  pub sorted : CanGoOn a
  pub unit : (frame_of a.now).unit.now ≡ f.unit.now

module _ (f : R.Frame) (c : Simpl) (n : ℕ) (m : Machine) where
  pub left_step : (a b : Point) → IsLeft f c n m a → Steps a b → IsLeft f c n m b
  left_step a b h step = record { within = record { each = λ o x. h.within.each o (step.within.each o x) }; sorted = step.sorted; unit = step.unit ∙ h.unit }

  pub left_state : (a : Point) → IsLeft f c n m a → IsStateOf f.unit.now a.state
  left_state a h = subst (λ u. IsStateOf u a.state) h.unit h.sorted.fits.state

  -- at what is next in the code

  abbrev Left : List W.Pending → N.Next → Bindings → C.CState → Type 0
  Left items next bs s = IsLeft f c n m (point items (now_of next) bs s)

  pub left_at : (items : List W.Pending) (next next' : N.Next) (bs : Bindings) (s : C.CState) → next ≡ next' → Left items next bs s → Left items next' bs s
  left_at items next next' bs s same h = subst (λ i. Left items i bs s) same h

  pub fewer_at : (items news : List W.Pending) (next next' after : N.Next) (bs bs' : Bindings) (s s' : C.CState) → next ≡ next' →
      Steps (point items (now_of next') bs s) (point news (now_of after) bs' s') → steps_left (point news (now_of after) bs' s') < steps_left (point items (now_of next) bs s)
  fewer_at items news next next' after bs bs' s s' same step = subst (λ i. steps_left (point news (now_of after) bs' s') < steps_left (point items (now_of i) bs s)) (sym same) step.less

  pub left_stops : (g : R.Frame) (d : Simpl) (k : ℕ) (items : List W.Pending) (bs : Bindings) (s : C.CState) (e : P.Stop) → IsLeft f c n m (point items (Running g d k) bs s) →
      HasStopped (ends_in g d k (machine_in g bs s)) e → HasStopped (ends_in f c n m) e
  left_stops g d k items bs s e h x = stopped_within _ _ h.within e (whole_stops g (reverse items) _ e x)

-- what is pending is taken from the end

module _ (items news : List W.Pending) (p : W.Pending) (grown : items ≡ news ++ (p ∷ [])) (g : R.Frame) (w : F.Flow) (bs : Bindings) (s : C.CState) where
  pub popped_point : point items (Ended g w) bs s ≡ record { stack = p ∷ reverse news; now = Ended g w; locals = bs; state = s }
  popped_point = ap (λ ps. record { stack = ps; now = Ended g w; locals = bs; state = s }) (pushed news items p grown)

  pub popped_step : (b : Point) → CanGoOn (point items (Ended g w) bs s) →
      (CanGoOn (record { stack = p ∷ reverse news; now = Ended g w; locals = bs; state = s }) → Steps (record { stack = p ∷ reverse news; now = Ended g w; locals = bs; state = s }) b) →
      Steps (point items (Ended g w) bs s) b
  popped_step b h step = subst (λ a. Steps a b) (sym popped_point) (step (subst CanGoOn popped_point h))

-- what is pending, and how a command has ended, as the code finds them
pub resume_as : (g : R.Frame) (bs : Bindings) (s : C.CState) (fs : List W.Pending) (p p' : W.Pending) (w w' : F.Flow) (b : Point) → p ≡ p' → w ≡ w' →
    (CanGoOn (record { stack = p' ∷ fs; now = Ended g w'; locals = bs; state = s }) → Steps (record { stack = p' ∷ fs; now = Ended g w'; locals = bs; state = s }) b) →
    CanGoOn (record { stack = p ∷ fs; now = Ended g w; locals = bs; state = s }) → Steps (record { stack = p ∷ fs; now = Ended g w; locals = bs; state = s }) b
resume_as g bs s fs p p' w w' b same flow step h =
    let at : W.Pending → F.Flow → Point = λ q v. record { stack = q ∷ fs; now = Ended g v; locals = bs; state = s } in
    subst (λ q. Steps (at q w) b) (sym same)
    (subst (λ v. Steps (at p' v) b) (sym flow) (step (subst (λ v. CanGoOn (at p' v)) flow (subst (λ q. CanGoOn (at q w)) same h))))
