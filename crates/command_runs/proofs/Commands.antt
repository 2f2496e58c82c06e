-- What a command does, step by step: from where a part is done, the ends of what is left are ends of the whole.
use Rattle.std.proofs.Common.{◌≡◌, ℕ, Bool, true, false, cond, List, [], ◌∷◌, Option, Some, None, refl, sym, subst, inl, inr, ◌⊎◌}
use Rattle.correspondence.specs.Outcome.{Limit, Turns, Outcome, Done, Failed, Stopped, Ends, done, fault, goes_on, fails, stops, Then, choose}
use Rattle.correspondence.specs.Included.{Included}
use Rattle.c_values.specs.Choice.{Choice}
use Rattle.c_values.specs.Layout.{Layout}
use Rattle.expression_lang.specs.Expression.{Exp}
use Rattle.expression_lang.specs.GuardKind.{GuardKind}
use Rattle.expression_lang.specs.Machine.{Machine}
use Rattle.expression_lang.specs.Signature.{Binder}
use Rattle.simpl_lang.specs.Command.{Condition, Simpl, Cond, Guard, While, SimplUnit}
use Rattle.simpl_lang.specs.Exec.{Flow, Normal, Abrupt, Runs, holds_on, normally, checked, entered, execs}
use Rattle.command_runs.specs.Guarded.{first_broken}
use Rattle.command_runs.specs.CodeRun.{turn_or_end}

-- conditions in order, and then the test

module _ (l : Layout) (m : Machine) where
  checked_on : {A : Type 0} (cs : List Condition) → first_broken l m cs ≡ None → (next : Ends A GuardKind) (o : Outcome A GuardKind) → next o → checked l cs m next o
  checked_on [] h next o k = k
  checked_on (c ∷ cs) h next o k = at (holds_on l m c.exp) h (λ e. checked_on cs e next o k)
    where
      at : (b : Bool) → cond b (first_broken l m cs) (Some c.kind) ≡ None → (first_broken l m cs ≡ None → checked l cs m next o) → choose b (checked l cs m next) (fault c.kind) o
      at true e f = f e
      at false e f = absurd (some_none e)
        where
          some_none : Some c.kind ≡ None → ⊥
          some_none q = cc

  checked_off : {A : Type 0} (k : GuardKind) (cs : List Condition) → first_broken l m cs ≡ Some k → (next : Ends A GuardKind) → checked l cs m next (Failed k)
  checked_off k [] h next = absurd (none_some h)
    where
      none_some : ◌≡◌ {A = Option GuardKind} None (Some k) → ⊥
      none_some q = cc
  checked_off k (c ∷ cs) h next = at (holds_on l m c.exp) h (λ e. checked_off k cs e next)
    where
      at : (b : Bool) → cond b (first_broken l m cs) (Some c.kind) ≡ Some k → (first_broken l m cs ≡ Some k → checked l cs m next (Failed k)) → choose b (checked l cs m next) (fault c.kind) (Failed k)
      at true e f = f e
      at false e f = some_is e
        where
          some_is : Some c.kind ≡ Some k → k ≡ c.kind
          some_is q = cc

  module _ (cs : List Condition) (e : Exp) where
    pub entered_on : (b : Bool) → first_broken l m cs ≡ None → b ≡ holds_on l m e → entered l cs e m (Done (turn_or_end b m))
    entered_on b h same = checked_on cs h _ _ (subst (λ c. choose {A = Machine ⊎ Flow} {F = GuardKind} c (done (inl m)) (done (inr (Normal m))) (Done (turn_or_end b m))) same (at b))
      where
        at : (c : Bool) → choose {A = Machine ⊎ Flow} {F = GuardKind} c (done (inl m)) (done (inr (Normal m))) (Done (turn_or_end c m))
        at true = refl
        at false = refl

    pub entered_off : (k : GuardKind) → first_broken l m cs ≡ Some k → entered l cs e m (Failed k)
    entered_off k h = checked_off k cs h _

module _ (u : SimplUnit) (p : Choice) (locals : List Binder) (depth : Option ℕ) where
  abbrev run : List Runs → Simpl → Machine → Ends Flow GuardKind
  run fs c m = execs u.layout p locals c depth fs m

  module _ (fs : List Runs) where
    pub cond_first : (e : Exp) (a b : Simpl) (m : Machine) → holds_on u.layout m e ≡ true → Included (run fs a m) (run fs (Cond e a b) m)
    cond_first e a b m h = record { each = λ o k. subst (λ c. choose c (run fs a m) (run fs b m) o) (sym h) k }

    pub cond_second : (e : Exp) (a b : Simpl) (m : Machine) → holds_on u.layout m e ≡ false → Included (run fs b m) (run fs (Cond e a b) m)
    cond_second e a b m h = record { each = λ o k. subst (λ c. choose c (run fs a m) (run fs b m) o) (sym h) k }

    pub guard_holds : (c : Condition) (a : Simpl) (m : Machine) → holds_on u.layout m c.exp ≡ true → Included (run fs a m) (run fs (Guard c a) m)
    guard_holds c a m h = record { each = λ o k. subst (λ b. choose b (run fs a m) (fault c.kind) o) (sym h) k }

    pub guard_breaks : (c : Condition) (a : Simpl) (m : Machine) → holds_on u.layout m c.exp ≡ false → run fs (Guard c a) m (Failed c.kind)
    guard_breaks c a m h = subst (λ b. choose b (run fs a m) (fault c.kind) (Failed c.kind)) (sym h) refl

  -- loops

  module _ (cs : List Condition) (e : Exp) (a : Simpl) (m : Machine) where
    pub while_ends : (fs : List Runs) → entered u.layout cs e m (Done (inr (Normal m))) → run fs (While cs e a) m (Done (Normal m))
    while_ends [] h = goes_on h refl
    while_ends (f ∷ fs) h = goes_on h refl

    pub while_fails : (k : GuardKind) (fs : List Runs) → entered u.layout cs e m (Failed k) → run fs (While cs e a) m (Failed k)
    while_fails k [] h = fails h
    while_fails k (f ∷ fs) h = fails h

    pub while_stops : (w : Limit) (fs : List Runs) → entered u.layout cs e m (Stopped w) → run fs (While cs e a) m (Stopped w)
    while_stops w [] h = stops h
    while_stops w (f ∷ fs) h = stops h

    pub while_out : entered u.layout cs e m (Done (inl m)) → run [] (While cs e a) m (Stopped Turns)
    while_out h = goes_on h refl

    pub while_turns : (f : Runs) (fs : List Runs) → entered u.layout cs e m (Done (inl m)) → Included (Then (run fs a m) (normally (λ n. run fs (While cs e a) n))) (run (f ∷ fs) (While cs e a) m)
    while_turns f fs enters = record { each = at }
      where
        at : (o : Outcome Flow GuardKind) → Then (run fs a m) (normally (λ n. run fs (While cs e a) n)) o → run (f ∷ fs) (While cs e a) m o
        at o (goes_on {a = Normal n} x y) = goes_on enters (goes_on (goes_on x refl) y)
        at o (goes_on {a = Abrupt n} x y) = goes_on enters (goes_on (goes_on x refl) y)
        at (Failed g) (fails x) = goes_on enters (fails (fails x))
        at (Stopped w) (stops x) = goes_on enters (stops (stops x))
