-- How the rest of a run follows, where the right side has a flag for the left side's exception.
use Rattle.std.proofs.Common.{◌≡◌, Bool, true, false, not, ◌&&◌, ◌||◌, List, [], ◌∷◌, ◌⊎◌, inl, inr, refl, sym, subst, ap, ◌∙◌}
use Rattle.std.proofs.lemmas.Bool.{or_parts}
use Rattle.correspondence.specs.Outcome.{Ends, done, fault, Then, choose, continued, loop}
use Rattle.correspondence.specs.Always.{Always}
use Rattle.correspondence.specs.Corresponds.{Corresponds, Either, Leaving}
use Rattle.correspondence.proofs.Corresponds.{done_corresponds, fault_corresponds, choose_corresponds}
use Rattle.correspondence.proofs.Steps.{same_on_right, after_done, right_goes_on}
use Rattle.c_values.specs.Value.{Truth, truth_in}
use Rattle.c_values.specs.Layout.{Layout}
use Rattle.expression_lang.specs.Expression.{Exp, And, Imp, Not}
use Rattle.expression_lang.specs.Mentions.{names}
use Rattle.expression_lang.specs.GuardKind.{GuardKind}
use Rattle.expression_lang.specs.Machine.{Machine, with_local}
use Rattle.simpl_lang.specs.Command.{Condition}
use Rattle.simpl_lang.specs.Exec.{Flow, Normal, Abrupt, Runs, holds_on, normally, handled, turned, checked, entered}
use Rattle.simpl_lang.specs.Names.{conditions_name}
use Rattle.simpl_lang.specs.Flag.{thrown_local}
use Rattle.rule_exn.specs.Table.{is_thrown, unless_thrown}
use Rattle.rule_exn.specs.Flagged.{SameButFlag, Flagged, Shows}
use Rattle.rule_exn.proofs.QuietEnds.{IsNormal}
use Rattle.rule_exn.proofs.KeepsFlag.{flag_set, holds_alike}

abbrev pub SameKind : GuardKind → GuardKind → Type 0
SameKind k j = j ≡ k

-- the right side follows the left side, where neither has thrown
abbrev pub Follows : (Machine → Ends Flow GuardKind) → (Machine → Ends Flow GuardKind) → Type 0
Follows r r' = (m n : Machine) → Flagged false m n → Corresponds Shows SameKind (r m) (r' n)

pub fault_shown : (k : GuardKind) → Corresponds Shows SameKind (fault k) (fault k)
fault_shown k = fault_corresponds Shows SameKind k k refl

-- where nothing is thrown
abbrev pub ShowsNormal : Flow → Flow → Type 0
ShowsNormal (Normal m) (Normal n) = Flagged false m n
ShowsNormal (Normal m) (Abrupt n) = ⊥
ShowsNormal (Abrupt m) f = ⊥

pub normal_only : {p q : Ends Flow GuardKind} → Always IsNormal p → Corresponds Shows SameKind p q → Corresponds ShowsNormal SameKind p q
normal_only {p} {q} n c = record {
  done = λ a h. let x = c.done a h in (x.0, narrow a x.0 (n a h) x.1, x.2);
  done_back = λ b h. let x = c.done_back b h in (x.0, narrow x.0 b (n x.0 x.2) x.1, x.2);
  failed = c.failed;
  failed_back = c.failed_back;
  stopped = c.stopped;
  stopped_back = c.stopped_back;
}
  where
    narrow : (f f' : Flow) → IsNormal f → Shows f f' → ShowsNormal f f'
    narrow (Normal m) (Normal n) i h = h
    narrow (Normal m) (Abrupt n) i h = h
    narrow (Abrupt m) f' i h = i

pub after_quiet : (r r' : Machine → Ends Flow GuardKind) → Follows r r' → (f f' : Flow) → ShowsNormal f f' → Corresponds Shows SameKind (normally r f) (normally r' f')
after_quiet r r' k (Normal m) (Normal n) h = k m n h
after_quiet _ _ _ _ _ h = absurd h

-- a handler that is never reached
pub unhandled : (r : Machine → Ends Flow GuardKind) → (f f' : Flow) → ShowsNormal f f' → Corresponds Shows SameKind (handled r f) (done f')
unhandled r (Normal m) (Normal n) h = done_corresponds Shows SameKind (Normal m) (Normal n) h
unhandled _ _ _ h = absurd h

-- a test of the flag, whose value is known
pub tested : (l : Layout) (m n : Machine) (b : Bool) (p q o : Ends Flow GuardKind) → Flagged b m n → Corresponds Shows SameKind o (choose b p q) →
    Corresponds Shows SameKind o (choose (holds_on l n is_thrown) p q)
tested l m n b p q o f c = subst (λ t. Corresponds Shows SameKind o (choose t p q)) (sym (ap truth_in f.flag)) c

pub after_test : (l : Layout) (r r' : Machine → Ends Flow GuardKind) → Follows r r' → (f f' : Flow) → Shows f f' →
    Corresponds Shows SameKind (normally r f) (normally (λ n. choose (holds_on l n is_thrown) (done (Normal n)) (r' n)) f')
after_test l r r' k (Normal m) (Normal n) h = tested l m n false _ _ _ h (k m n h)
after_test l r r' k (Abrupt m) (Normal n) h = tested l m n true _ _ _ h (done_corresponds Shows SameKind (Abrupt m) (Normal n) h)
after_test _ _ _ _ _ _ h = absurd h

abbrev clear : Machine → Machine
clear n = with_local thrown_local (Truth false) n

pub flag_cleared : (m n : Machine) → SameButFlag m n → Flagged false m (clear n)
flag_cleared m n h = record { others = flag_set (Truth false) m n h; flag = refl }

pub after_catch : (l : Layout) (r r' : Machine → Ends Flow GuardKind) → Follows r r' → (f f' : Flow) → Shows f f' →
    Corresponds Shows SameKind (handled r f) (normally (λ n. choose (holds_on l n is_thrown) (Then (done (Normal (clear n))) (normally r')) (done (Normal n))) f')
after_catch l r r' k (Normal m) (Normal n) h = tested l m n false _ _ _ h (done_corresponds Shows SameKind (Normal m) (Normal n) h)
after_catch l r r' k (Abrupt m) (Normal n) h =
    tested l m n true _ _ _ h (same_on_right (after_done (Normal (clear n)) (normally r')) (k m (clear n) (flag_cleared m n h.others)))
after_catch _ _ _ _ _ _ h = absurd h

pub after_skipped : (f f' : Flow) → Shows f f' → Corresponds Shows SameKind (handled (λ m. done (Normal m)) f) (normally (λ n. done (Normal (clear n))) f')
after_skipped (Normal m) (Normal n) h = done_corresponds Shows SameKind (Normal m) (Normal (clear n)) (flag_cleared m n h.others)
after_skipped (Abrupt m) (Normal n) h = done_corresponds Shows SameKind (Normal m) (Normal (clear n)) (flag_cleared m n h.others)
after_skipped _ _ h = absurd h

-- loops

module _ {A B : Type 0} (answers : A → B → Type 0) (l : Layout) (m n : Machine) (f : Flagged false m n) (p : Ends A GuardKind) (q : Ends B GuardKind) (c : Corresponds answers SameKind p q) where
  pub checked_alike : (gs : List Condition) → conditions_name thrown_local gs ≡ false → Corresponds answers SameKind (checked l gs m p) (checked l gs n q)
  checked_alike [] h = c
  checked_alike (g ∷ gs) h =
      let k = or_parts (names thrown_local g.exp) (conditions_name thrown_local gs) h in
      choose_corresponds answers SameKind _ _ _ _ _ _ (sym (holds_alike l m n f.others g.exp k.0)) (λ t. checked_alike gs k.1)
      (λ t. fault_corresponds answers SameKind g.kind g.kind refl)

  -- nothing is thrown, so what is asked is the same
  asked : (e : Exp) → holds_on l n (Imp (Not is_thrown) e) ≡ holds_on l n e
  asked e = ap (λ v. not (not (truth_in v)) || holds_on l n e) f.flag

  pub checked_unless : (gs : List Condition) → conditions_name thrown_local gs ≡ false → Corresponds answers SameKind (checked l gs m p) (checked l (unless_thrown gs) n q)
  checked_unless [] h = c
  checked_unless (g ∷ gs) h =
      let k = or_parts (names thrown_local g.exp) (conditions_name thrown_local gs) h in
      choose_corresponds answers SameKind _ _ _ _ _ _ (sym (asked g.exp ∙ holds_alike l m n f.others g.exp k.0)) (λ t. checked_unless gs k.1)
      (λ t. fault_corresponds answers SameKind g.kind g.kind refl)

module _ (l : Layout) (gs : List Condition) (e : Exp) (h : conditions_name thrown_local gs ≡ false) (k : names thrown_local e ≡ false) where
  turn_or_end : (m n : Machine) → Flagged false m n → (b b' : Bool) → b ≡ b' →
      Corresponds (Either (Flagged false) Shows) SameKind (choose b (done (inl m)) (done (inr (Normal m)))) (choose b' (done (inl n)) (done (inr (Normal n))))
  turn_or_end m n f b b' d =
      choose_corresponds (Either (Flagged false) Shows) SameKind _ _ _ _ _ _ d (λ t. done_corresponds (Either (Flagged false) Shows) SameKind (inl m) (inl n) f)
      (λ t. done_corresponds (Either (Flagged false) Shows) SameKind (inr (Normal m)) (inr (Normal n)) f)

  pub enters_alike : (m n : Machine) → Flagged false m n → Corresponds (Either (Flagged false) Shows) SameKind (entered l gs e m) (entered l gs e n)
  enters_alike m n f = checked_alike (Either (Flagged false) Shows) l m n f _ _ (turn_or_end m n f _ _ (sym (holds_alike l m n f.others e k))) gs h

  pub enters_unless : (m n : Machine) → Flagged false m n →
      Corresponds (Either (Flagged false) Shows) SameKind (entered l gs e m) (entered l (unless_thrown gs) (And (Not is_thrown) e) n)
  enters_unless m n f =
      checked_unless (Either (Flagged false) Shows) l m n f _ _
      (turn_or_end m n f _ _ (sym (ap (λ v. not (truth_in v) && holds_on l n e) f.flag ∙ holds_alike l m n f.others e k))) gs h

pub turned_quiet : (f f' : Flow) → ShowsNormal f f' → Corresponds (Either (Flagged false) Shows) SameKind (turned f) (turned f')
turned_quiet (Normal m) (Normal n) h = done_corresponds (Either (Flagged false) Shows) SameKind (inl m) (inl n) h
turned_quiet _ _ h = absurd h

-- the left side has left the loop by an exception, and the right side is about to look at its flag
abbrev pub Leaves : Flow → Machine → Type 0
Leaves (Normal m) n = ⊥
Leaves (Abrupt m) n = Flagged true m n

pub turned_leaving : (f f' : Flow) → Shows f f' → Corresponds (Leaving (Flagged false) Shows Leaves) SameKind (turned f) (turned f')
turned_leaving (Normal m) (Normal n) h = done_corresponds (Leaving (Flagged false) Shows Leaves) SameKind (inl m) (inl n) h
turned_leaving (Abrupt m) (Normal n) h = done_corresponds (Leaving (Flagged false) Shows Leaves) SameKind (inr (Abrupt m)) (inl n) h
turned_leaving _ _ h = absurd h

module _ (l : Layout) (e : Exp) (m n : Machine) (f : Flagged true m n) where
  -- the left side has thrown, and the right side's loop has ended
  abbrev Left : Flow → Machine ⊎ Flow → Type 0
  Left a z = (a ≡ Abrupt m) × (z ≡ inr (Normal n))

  -- no condition is asked once something was thrown
  none_asked : (q : Ends (Machine ⊎ Flow) GuardKind) → Corresponds Left SameKind (done (Abrupt m)) q → (gs : List Condition) →
      Corresponds Left SameKind (done (Abrupt m)) (checked l (unless_thrown gs) n q)
  none_asked q c [] = c
  none_asked q c (g ∷ gs) =
      subst (λ b. Corresponds Left SameKind (done (Abrupt m)) (choose b (checked l (unless_thrown gs) n q) (fault g.kind)))
      (sym (ap (λ v. not (not (truth_in v)) || holds_on l n g.exp) f.flag)) (none_asked q c gs)

  not_entered : (gs : List Condition) → Corresponds Left SameKind (done (Abrupt m)) (entered l (unless_thrown gs) (And (Not is_thrown) e) n)
  not_entered gs =
      none_asked _
      (subst (λ b. Corresponds Left SameKind (done (Abrupt m)) (choose b (done (inl n)) (done (inr (Normal n))))) (sym (ap (λ v. not (truth_in v) && holds_on l n e) f.flag))
      (done_corresponds Left SameKind (Abrupt m) (inr (Normal n)) (refl, refl))) gs

  ends_shown : (r : Machine → Ends Flow GuardKind) (a : Flow) (z : Machine ⊎ Flow) → Left a z → Corresponds Shows SameKind (done a) (continued r z)
  ends_shown r a z h =
      subst (λ y. Corresponds Shows SameKind (done a) (continued r y)) (sym h.1)
      (subst (λ b. Corresponds Shows SameKind (done b) (done (Normal n))) (sym h.0) (done_corresponds Shows SameKind (Abrupt m) (Normal n) f))

  pub leaves : (body : List Runs → Machine → Ends (Machine ⊎ Flow) GuardKind) (gs : List Condition) (fs : List Runs) →
      Corresponds Shows SameKind (done (Abrupt m)) (loop (entered l (unless_thrown gs) (And (Not is_thrown) e)) body fs n)
  leaves body gs [] = right_goes_on Left Shows SameKind _ _ _ (not_entered gs) (ends_shown _)
  leaves body gs (g ∷ fs) = right_goes_on Left Shows SameKind _ _ _ (not_entered gs) (ends_shown _)

pub leaves_early : (l : Layout) (e : Exp) (body : List Runs → Machine → Ends (Machine ⊎ Flow) GuardKind) (gs : List Condition) (f : Flow) (n : Machine) → Leaves f n → (fs : List Runs) →
    Corresponds Shows SameKind (done f) (loop (entered l (unless_thrown gs) (And (Not is_thrown) e)) body fs n)
leaves_early l e body gs (Normal m) n h fs = absurd h
leaves_early l e body gs (Abrupt m) n h fs = leaves l e m n h body gs fs
