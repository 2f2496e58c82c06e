-- Steps of commands: each end of the whole after a step is one before it, less is to do, and what is left can go on.
use Rattle.std.proofs.Common.{◌≡◌, ℕ, suc, ◌+◌, true, false, List, [], ◌∷◌, ◌++◌, reverse, Some, refl, sym, ap, ◌∙◌, subst, inl, inr, arith, add-one}
use Rattle.std.proofs.lemmas.List.{reverse-append}
use Rattle.std.specs.Borrow.{Bor}
use Rattle.correspondence.specs.Outcome.{Turns, Depth, Done, Failed, Stopped, goes_on, Then}
use Rattle.correspondence.proofs.Included.{included_itself, done_within}
use Rattle.c_values.specs.Choice.{Choice, Fill}
use Rattle.expression_lang.specs.Expression.{Exp}
use Rattle.expression_lang.specs.Machine.{Machine}
use Rattle.expression_lang.specs.CodeState.{Bindings}
use Rattle.simpl_lang.specs.declared.command.Simpl as S
use Rattle.simpl_lang.specs.Command.{Condition, Simpl, Seq, Cond, Guard, Catch, While, SimplUnit}
use Rattle.simpl_lang.specs.Exec as E
use Rattle.simpl_lang.specs.Exec.{Runs, holds_on, normally, entered, bodies, functions_below}
use Rattle.simpl_lang.specs.CodeCommand.{simpl_of, simpl_unit_of, guard_kind_of}
use Rattle.command_runs.specs.declared.ends.Flow as F
use Rattle.command_runs.specs.declared.ends.Stop as P
use Rattle.command_runs.specs.declared.frame.Frame as R
use Rattle.command_runs.specs.declared.machine.Pending as W
use Rattle.command_runs.specs.declared.outcome.CState as C
use Rattle.command_runs.specs.Cost.{cost, costs_below}
use Rattle.command_runs.specs.CodeRun.{machine_in, ends_in, flow_of, locals_of, HasStopped, Fits, CanRunIn, Reaches}
use Rattle.command_runs.specs.CodeMachine.{Now, Running, Ended, Point, point, functions_of, CanGoOn, Steps}
use Rattle.command_runs.proofs.Commands as K
use Rattle.command_runs.proofs.Costs.{cost_some}
use Rattle.command_runs.proofs.Parts.{seq_first, seq_last, catch_first, catch_last, cond_first, cond_last, guard_last, while_body}
use Rattle.command_runs.proofs.Resumed.{resumed_within}

pub pushed : (items news : List W.Pending) (p : W.Pending) → news ≡ items ++ (p ∷ []) → reverse news ≡ p ∷ reverse items
pushed items news p h = ap reverse h ∙ reverse-append items (p ∷ [])

pub step_pushed : (before : Point) (items news : List W.Pending) (p : W.Pending) (now : Now) (bs : Bindings) (s : C.CState) → news ≡ items ++ (p ∷ []) →
    Steps before (record { stack = p ∷ reverse items; now = now; locals = bs; state = s }) → Steps before (point news now bs s)
step_pushed before items news p now bs s grown step = subst (λ fs. Steps before (record { stack = fs; now = now; locals = bs; state = s })) (sym (pushed items news p grown)) step

module _ (f : R.Frame) (fs : List W.Pending) (bs : Bindings) (s : C.CState) where
  abbrev u : SimplUnit
  u = simpl_unit_of f.unit.now

  abbrev choice : Choice
  choice = Fill f.fill

  abbrev runs : ℕ → List Runs
  runs n = functions_below u choice n

  abbrev m : Machine
  m = machine_in f bs s

  abbrev at : List W.Pending → Now → Point
  at stack now = record { stack = stack; now = now; locals = bs; state = s }

  abbrev costs : ℕ → List ℕ
  costs n = costs_below (functions_of f) n

  -- a command ends at once
  pub ends_step : (c : Simpl) (n : ℕ) (w : F.Flow) (bs' : Bindings) (s' : C.CState) → CanGoOn (at fs (Running f c n)) → Fits f bs' s' → ends_in f c n m (Done (flow_of w (machine_in f bs' s'))) →
      Steps (at fs (Running f c n)) (record { stack = fs; now = Ended f w; locals = bs'; state = s' })
  ends_step c n w bs' s' h fits x =
      let some = cost_some c (costs n) in
      record {
        within = resumed_within f fs _ _ (done_within _ _ x);
        less = omega arith;
        sorted = record { frame = h.frame; fits = fits; now = tt; rest = h.rest };
        unit = refl;
      }

  pub reaches_step : (c d : Simpl) (n : ℕ) → d ≡ c → (bs' : Bindings) (s' : C.CState) → CanGoOn (at fs (Running f c n)) → Fits f bs' s' → Reaches f d m (machine_in f bs' s') →
      Steps (at fs (Running f c n)) (record { stack = fs; now = Ended f F.TheVariants.Normal; locals = bs'; state = s' })
  reaches_step c d n same bs' s' h fits reach =
      ends_step c n F.TheVariants.Normal bs' s' h fits (subst (λ e. ends_in f e n m (Done (E.Normal (machine_in f bs' s')))) same (reach n))

  -- a command that stands for another in the code
  pub step_as : (c d : Simpl) (n : ℕ) → c ≡ d → (after : Point) → CanGoOn (at fs (Running f c n)) → (CanGoOn (at fs (Running f d n)) → Steps (at fs (Running f d n)) after) → Steps (at fs (Running f c n)) after
  step_as c d n same after h step = subst (λ e. Steps (at fs (Running f e n)) after) (sym same) (step (subst (λ e. CanGoOn (at fs (Running f e n))) same h))

  module _ (a b : Simpl) (n : ℕ) where
    pub cond_true : (e : Exp) → CanGoOn (at fs (Running f (Cond e a b) n)) → holds_on u.layout m e ≡ true → Steps (at fs (Running f (Cond e a b) n)) (at fs (Running f a n))
    cond_true e h k = record {
      within = resumed_within f fs _ _ (K.cond_first u choice (locals_of f) (Some f.depth) (runs n) e a b m k);
      less = omega arith;
      sorted = record { frame = h.frame; fits = h.fits; now = cond_first f a b e h.now; rest = h.rest };
      unit = refl;
    }

    pub cond_false : (e : Exp) → CanGoOn (at fs (Running f (Cond e a b) n)) → holds_on u.layout m e ≡ false → Steps (at fs (Running f (Cond e a b) n)) (at fs (Running f b n))
    cond_false e h k = record {
      within = resumed_within f fs _ _ (K.cond_second u choice (locals_of f) (Some f.depth) (runs n) e a b m k);
      less = omega arith;
      sorted = record { frame = h.frame; fits = h.fits; now = cond_last f a b e h.now; rest = h.rest };
      unit = refl;
    }

    pub guard_true : (c : Condition) → CanGoOn (at fs (Running f (Guard c a) n)) → holds_on u.layout m c.exp ≡ true → Steps (at fs (Running f (Guard c a) n)) (at fs (Running f a n))
    guard_true c h k = record {
      within = resumed_within f fs _ _ (K.guard_holds u choice (locals_of f) (Some f.depth) (runs n) c a m k);
      less = omega arith;
      sorted = record { frame = h.frame; fits = h.fits; now = guard_last f c a h.now; rest = h.rest };
      unit = refl;
    }

  pub guard_false : (c : Simpl) (g : Condition) (a : Simpl) (n : ℕ) → c ≡ Guard g a → holds_on u.layout m g.exp ≡ false → ends_in f c n m (Failed g.kind)
  guard_false c g a n is k = subst (λ d. ends_in f d n m (Failed g.kind)) (sym is) (K.guard_breaks u choice (locals_of f) (Some f.depth) (runs n) g a m k)

  module _ (a : Simpl) (b : Bor S.Simpl) (n : ℕ) where
    pub seq_step : CanGoOn (at fs (Running f (Seq a (simpl_of b.now)) n)) → Steps (at fs (Running f (Seq a (simpl_of b.now)) n)) (at (W.TheVariants.Rest b n ∷ fs) (Running f a n))
    seq_step h = record {
      within = included_itself _;
      less = omega arith;
      sorted = record { frame = h.frame; fits = h.fits; now = seq_first f a (simpl_of b.now) h.now; rest = (seq_last f a (simpl_of b.now) h.now, h.rest) };
      unit = refl;
    }

    pub catch_step : CanGoOn (at fs (Running f (Catch a (simpl_of b.now)) n)) → Steps (at fs (Running f (Catch a (simpl_of b.now)) n)) (at (W.TheVariants.Handler b n ∷ fs) (Running f a n))
    catch_step h = record {
      within = included_itself _;
      less = omega arith;
      sorted = record { frame = h.frame; fits = h.fits; now = catch_first f a (simpl_of b.now) h.now; rest = (catch_last f a (simpl_of b.now) h.now, h.rest) };
      unit = refl;
    }

  -- loops

  module _ (cs : List Condition) (e : Exp) (a : Simpl) where
    pub while_stopped : (n : ℕ) (stop : P.Stop) → HasStopped (entered u.layout cs e m) stop → HasStopped (ends_in f (While cs e a) n m) stop
    while_stopped n (P.TheVariants.Guard k) h = K.while_fails u choice (locals_of f) (Some f.depth) cs e a m (guard_kind_of k) (runs n) h
    while_stopped n P.TheVariants.OutOfTurns h = K.while_stops u choice (locals_of f) (Some f.depth) cs e a m Turns (runs n) h
    while_stopped n P.TheVariants.Deep h = K.while_stops u choice (locals_of f) (Some f.depth) cs e a m Depth (runs n) h
    while_stopped n P.TheVariants.Memory h = tt

    pub while_leaves : (n : ℕ) → entered u.layout cs e m (Done (inr (E.Normal m))) → ends_in f (While cs e a) n m (Done (E.Normal m))
    while_leaves n h = K.while_ends u choice (locals_of f) (Some f.depth) cs e a m (runs n) h

    pub while_out : (n : ℕ) → n ≡ 0 → entered u.layout cs e m (Done (inl m)) → ends_in f (While cs e a) n m (Stopped Turns)
    while_out n none h = subst (λ i. ends_in f (While cs e a) i m (Stopped Turns)) (sym none) (K.while_out u choice (locals_of f) (Some f.depth) cs e a m h)

    module _ (c : Bor S.Simpl) (is : simpl_of c.now ≡ While cs e a) (k : ℕ) (enters : entered u.layout cs e m (Done (inl m))) where
      turn_at : CanGoOn (at fs (Running f (While cs e a) (suc k))) → Steps (at fs (Running f (While cs e a) (suc k))) (at (W.TheVariants.Rest c k ∷ fs) (Running f a k))
      turn_at h =
          let same : cost (simpl_of c.now) (costs k) ≡ cost (While cs e a) (costs k) = ap (λ d. cost d (costs k)) is in
          record {
            within = resumed_within f fs _ _ (record {
              each = λ o x. (K.while_turns u choice (locals_of f) (Some f.depth) cs e a m (bodies u choice (runs k)) (runs k) enters).each o (subst (λ d. Then (ends_in f a k m) (normally (λ z. ends_in f d k z)) o) is x);
            });
            less = omega arith;
            sorted = record { frame = h.frame; fits = h.fits; now = while_body f cs e a h.now; rest = (subst (λ d. CanRunIn f d) (sym is) h.now, h.rest) };
            unit = refl;
          }

      pub turn_step : (n : ℕ) → k + 1 ≡ n → CanGoOn (at fs (Running f (While cs e a) n)) → Steps (at fs (Running f (While cs e a) n)) (at (W.TheVariants.Rest c k ∷ fs) (Running f a k))
      turn_step n one h =
          let same : suc k ≡ n = sym (add-one k) ∙ one in
          subst (λ i. Steps (at fs (Running f (While cs e a) i)) (at (W.TheVariants.Rest c k ∷ fs) (Running f a k))) same
          (turn_at (record { frame = h.frame; fits = h.fits; now = h.now; rest = h.rest }))

  -- what is pending goes on

  module _ (c : Bor S.Simpl) (n : ℕ) where
    pub rest_goes : CanGoOn (at (W.TheVariants.Rest c n ∷ fs) (Ended f F.TheVariants.Normal)) → Steps (at (W.TheVariants.Rest c n ∷ fs) (Ended f F.TheVariants.Normal)) (at fs (Running f (simpl_of c.now) n))
    rest_goes h = record {
      within = resumed_within f fs _ _ (record { each = λ o x. goes_on refl x });
      less = omega arith;
      sorted = record { frame = h.frame; fits = h.fits; now = h.rest.0; rest = h.rest.1 };
      unit = refl;
    }

    pub rest_passed : CanGoOn (at (W.TheVariants.Rest c n ∷ fs) (Ended f F.TheVariants.Abrupt)) → Steps (at (W.TheVariants.Rest c n ∷ fs) (Ended f F.TheVariants.Abrupt)) (at fs (Ended f F.TheVariants.Abrupt))
    rest_passed h = record {
      within = resumed_within f fs _ _ (done_within _ _ (goes_on refl refl));
      less = omega arith;
      sorted = record { frame = h.frame; fits = h.fits; now = tt; rest = h.rest.1 };
      unit = refl;
    }

    pub handler_passed : CanGoOn (at (W.TheVariants.Handler c n ∷ fs) (Ended f F.TheVariants.Normal)) → Steps (at (W.TheVariants.Handler c n ∷ fs) (Ended f F.TheVariants.Normal)) (at fs (Ended f F.TheVariants.Normal))
    handler_passed h = record {
      within = resumed_within f fs _ _ (done_within _ _ (goes_on refl refl));
      less = omega arith;
      sorted = record { frame = h.frame; fits = h.fits; now = tt; rest = h.rest.1 };
      unit = refl;
    }

    pub handler_goes : CanGoOn (at (W.TheVariants.Handler c n ∷ fs) (Ended f F.TheVariants.Abrupt)) → Steps (at (W.TheVariants.Handler c n ∷ fs) (Ended f F.TheVariants.Abrupt)) (at fs (Running f (simpl_of c.now) n))
    handler_goes h = record {
      within = resumed_within f fs _ _ (record { each = λ o x. goes_on refl x });
      less = omega arith;
      sorted = record { frame = h.frame; fits = h.fits; now = h.rest.0; rest = h.rest.1 };
      unit = refl;
    }
