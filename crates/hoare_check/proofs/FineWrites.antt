-- What is fine at each write and call, of what is covered at each write and in range at each call; and programs without a write of a
-- typed heap, as those on bytes are that something is derived of.
use Rattle.std.proofs.Common.{◌≡◌, ℕ, Bool, true, false, List, [], ◌∷◌, Option, sym, ◌∙◌}
use Rattle.std.proofs.lemmas.Bool.{true≢false}
use Rattle.correspondence.specs.Outcome.{Done}
use Rattle.c_values.specs.Name.{Name}
use Rattle.c_values.specs.Layout.{Layout}
use Rattle.c_values.specs.Choice.{Choice}
use Rattle.expression_lang.specs.Expression.{Exp}
use Rattle.expression_lang.specs.Evaluation.{Env, State, holds}
use Rattle.expression_lang.specs.Signature.{bound}
use Rattle.ac_expr.specs.Fact.{Fact}
use Rattle.monad_lang.specs.Program as M
use Rattle.monad_lang.specs.Program.{Mon, FinalUnit}
use Rattle.monad_lang.specs.Run.{Answer, Runs, runs, start_names, start_values}
use Rattle.monad_lang.specs.Reach.{AtEach, EachTurn, IfTrue, IfFalse}
use Rattle.monad_lang.specs.Steady.{WriteCovered, CallInRange}
use Rattle.rule_trees.specs.RuleTree.{Tree, Accepts, AllHold}
use Rattle.rule_trees.proofs.Induction.{holds as accepted_holds}
use Rattle.triple_lang.specs.Deriv as R
use Rattle.triple_lang.specs.Deriv.{Rule, Ground, Names, Claim, entailed, derived}
use Rattle.hoare_check.specs.DeriveTable.{row, table}
use Rattle.hoare_check.specs.Accepted.{IsFine}

both_chosen : (b : Bool) (A B C A' B' C' : Type 0) → (A → B → C) → (A' → B' → C') → IfTrue b A × IfFalse b A' → IfTrue b B × IfFalse b B' → IfTrue b C
    × IfFalse b C'
both_chosen true A B C A' B' C' f g h k = (f h.0 k.0, tt)
both_chosen false A B C A' B' C' f g h k = (tt, g h.1 k.1)

module _ (l : Layout) (p : Choice) (P Q S : Mon → Env → State → Type 0) (depth : Option ℕ) where
  -- what holds of a program where both hold at each write and call
  module _ (Has : Mon → Type 0) (parts : (m : Mon) (xs : List Name) (n : Mon) → Has (M.Bind m xs n) → Has m × Has n)
      (arms : (e : Exp) (m n : Mon) → Has (M.If e m n) → Has m × Has n)
      (body : (starts : List M.Start) (guard test : Exp) (m : Mon) → Has (M.Loop starts guard test m) → Has m)
      (write : (place : M.Place) (e : Exp) (env : Env) (s : State) → Has (M.Write place e) → P (M.Write place e) env s → Q (M.Write place e) env s → S
      (M.Write place e) env s)
      (call : (f : Name) (es : List Exp) (env : Env) (s : State) → Has (M.Call f es) → P (M.Call f es) env s → Q (M.Call f es) env s → S
      (M.Call f es) env s) where
    abbrev BothGive : Mon → Type 1
    BothGive m =
        Unit {1} → (env : Env) (fs : List Runs) (s : State) → Has m → AtEach l p P m env depth fs s → AtEach l p Q m env depth fs s →
        AtEach l p S m env depth fs s

    abbrev turns : (Mon → Env → State → Type 0) → Exp → Exp → Mon → (Answer → Env) → List Runs → Answer → Type 0
    turns T guard test m inside fs a =
        EachTurn (λ b. (holds l (inside b) b.state guard ≡ true) × (holds l (inside b) b.state test ≡ true))
        (λ gs b. AtEach l p T m (inside b) depth gs b.state)
        (λ gs b c. runs l p m (inside b) depth gs b.state (Done c)) fs a

    turns_give : (guard test : Exp) (m : Mon) (inside : Answer → Env) → Has m → BothGive m → (fs : List Runs) (a : Answer) → turns P guard test m inside fs a →
        turns Q guard test m inside fs a →
        turns S guard test m inside fs a
    turns_give guard test m inside has give [] a h k = tt
    turns_give guard test m inside has give (f ∷ fs) a h k = λ made.
        (give tt (inside a) fs a.state has (h made).0 (k made).0, λ b r. turns_give guard test m inside has give fs b ((h made).1 b r) ((k made).1 b r))

    pub both_give : (m : Mon) → BothGive m
    both_give (M.Ret es) u env fs s has h k = tt
    both_give (M.Bind m xs n) u env fs s has h k =
        let w = parts m xs n has in (both_give m u env fs s w.0 h.0 k.0, λ a r. both_give n u (bound xs a.values env) fs a.state w.1 (h.1 a r) (k.1 a r))
    both_give (M.Guard e) u env fs s has h k = tt
    both_give (M.If e m n) u env fs s has h k =
        let w = arms e m n has in
        both_chosen (holds l env s e) _ _ _ _ _ _ (λ i j. both_give m u env fs s w.0 i j) (λ i j. both_give n u env fs s w.1 i j) h k
    both_give (M.Write place e) u env fs s has h k = write place e env s has h k
    both_give (M.Loop starts guard test m) u env fs s has h k =
        turns_give guard test m (λ a. bound (start_names starts) a.values env) (body starts guard test m has) (both_give m) fs
        (record { values = start_values l env s starts; state = s }) h k
    both_give (M.Call f es) u env fs s has h k = call f es env s has h k
    both_give (M.Pick kind) u env fs s has h k = tt

-- what is covered and in range is fine
pub covered_fine : (u : FinalUnit) (p : Choice) (depth : Option ℕ) (m : Mon) (env : Env) (fs : List Runs) (s : State) → AtEach u.layout p
    (WriteCovered u.layout) m env depth fs s →
    AtEach u.layout p (CallInRange u) m env depth fs s → AtEach u.layout p (IsFine u) m env depth fs s
covered_fine u p depth m env fs s h k =
    both_give u.layout p (WriteCovered u.layout) (CallInRange u) (IsFine u) depth (λ n. Unit {0}) (λ n xs o w. (tt, tt)) (λ e n o w. (tt, tt))
    (λ starts guard test n w. tt)
    (λ place e env s w i j. (i, j)) (λ f es env s w i j. (i, j)) m tt env fs s tt h k

-- no write of a typed heap
abbrev pub WritesNoObject : Mon → Type 0
WritesNoObject (M.Bind m xs n) = WritesNoObject m × WritesNoObject n
WritesNoObject (M.If e m n) = WritesNoObject m × WritesNoObject n
WritesNoObject (M.Write (M.Written t p path) e) = ⊥
WritesNoObject (M.Loop starts guard test m) = WritesNoObject m
WritesNoObject _ = Unit {0}

pub in_range_fine : (u : FinalUnit) (p : Choice) (depth : Option ℕ) (m : Mon) (env : Env) (fs : List Runs) (s : State) → WritesNoObject m →
    AtEach u.layout p (CallInRange u) m env depth fs s → AtEach u.layout p (IsFine u) m env depth fs s
in_range_fine u p depth m env fs s none h =
    both_give u.layout p (CallInRange u) (CallInRange u) (IsFine u) depth WritesNoObject (λ n xs o w. w) (λ e n o w. w) (λ starts guard test n w. w) at_write
    (λ f es env s w i j. (tt, i)) m tt env fs s none h h
  where
    at_write : (place : M.Place) (e : Exp) (env : Env) (s : State) → WritesNoObject (M.Write place e) → CallInRange u (M.Write place e) env s → CallInRange u
        (M.Write place e) env s →
        IsFine u (M.Write place e) env s
    at_write (M.Written t q path) e env s w i j = absurd w
    at_write (M.Stored t q path) e env s w i j = (tt, tt)
    at_write (M.Global x path) e env s w i j = (tt, tt)

-- a program that something is derived of in a function on bytes
module _ (k : Ground) (bytes : k.lifted ≡ false) where
  abbrev WritesNone : Claim → Type 1
  WritesNone (entailed ns fs q) = Unit {1}
  WritesNone (derived ns fs m xs q) = Unit {1} → WritesNoObject m

  row_writes : (ns : Names) (fs : List Fact) (rule : Rule) (m : Mon) (xs : List Name) (q : Exp) → (row k ns fs rule m xs q).holds → AllHold WritesNone
      (row k ns fs rule m xs q).parts → WritesNoObject m
  row_writes ns fs (R.Ret e) (M.Ret es) xs q a h = tt
  row_writes ns fs (R.Bind e) (M.Bind m ys n) xs q a h = (h.0 tt, h.1.0 tt)
  row_writes ns fs R.Guard (M.Guard e) xs q a h = tt
  row_writes ns fs R.If (M.If e m n) xs q a h = (h.0 tt, h.1.0 tt)
  row_writes ns fs (R.Loop inv first last) (M.Loop starts guard test m) xs q a h = h.1.1.0 tt
  row_writes ns fs (R.Call i ls before after) (M.Call g es) xs q a h = tt
  row_writes ns fs R.Pick (M.Pick kind) xs q a h = tt
  row_writes ns fs (R.Write e) (M.Write (M.Written t p path) v) xs q a h = absurd (true≢false (sym a.0 ∙ bytes))
  row_writes ns fs (R.Gset e) (M.Write (M.Global x path) v) xs q a h = tt
  row_writes _ _ _ _ _ _ a _ = absurd a

  claims_write : (rule : Rule) (c : Claim) → (table k rule c).holds → AllHold WritesNone (table k rule c).parts → WritesNone c
  claims_write rule (entailed ns fs q) a h = tt
  claims_write rule (derived ns fs m xs q) a h = λ u. row_writes ns fs rule m xs q a h

  pub bytes_write_no_object : (t : Tree Rule) (ns : Names) (fs : List Fact) (m : Mon) (xs : List Name) (q : Exp) → Accepts (table k) t (derived ns fs m xs q) →
      WritesNoObject m
  bytes_write_no_object t ns fs m xs q h = accepted_holds (table k) WritesNone claims_write t (derived ns fs m xs q) h tt
