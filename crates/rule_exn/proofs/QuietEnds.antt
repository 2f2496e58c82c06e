-- A quiet command ends normally whenever it ends.
use Rattle.std.proofs.Common.{◌≡◌, ℕ, Bool, true, false, List, [], ◌∷◌, Option, ◌⊎◌, inl, inr, sym, subst}
use Rattle.std.proofs.lemmas.Bool.{false≢true, and_parts, or_cases}
use Rattle.correspondence.specs.Outcome.{Ends, done, fault, choose}
use Rattle.correspondence.specs.Always.{Always}
use Rattle.correspondence.proofs.Always.{then_always, Ended, loop_always}
use Rattle.c_values.specs.Layout.{Layout}
use Rattle.c_values.specs.Choice.{Choice}
use Rattle.expression_lang.specs.Expression.{Exp}
use Rattle.expression_lang.specs.GuardKind.{GuardKind}
use Rattle.expression_lang.specs.Machine.{Machine}
use Rattle.expression_lang.specs.Signature.{Binder}
use Rattle.simpl_lang.specs.Command.{Condition, Simpl, Skip, Throw, Set, SetGlobal, Store, Pick, Seq, Cond, Guard, Catch, While, Call}
use Rattle.simpl_lang.specs.Exec.{Flow, Normal, Abrupt, Runs, holds_on, normally, handled, turned, checked, entered, execs}
use Rattle.rule_exn.specs.Quiet.{quiet}

abbrev pub IsNormal : Flow → Type 0
IsNormal (Normal m) = Unit {0}
IsNormal (Abrupt m) = ⊥

done_always : {A : Type 0} (P : A → Type 0) (a : A) → P a → Always {F = GuardKind} P (done a)
done_always P a h b e = subst P (sym e) h

choose_always : {A : Type 0} (P : A → Type 0) (t : Bool) (p q : Ends A GuardKind) → Always P p → Always P q → Always P (choose t p q)
choose_always P true p q h k = h
choose_always P false p q h k = k

fault_always : {A : Type 0} (P : A → Type 0) (k : GuardKind) → Always {A = A} P (fault k)
fault_always P k a h = absurd h

module _ (l : Layout) (p : Choice) (locals : List Binder) (depth : Option ℕ) where
  checked_always : {A : Type 0} (P : A → Type 0) (cs : List Condition) (m : Machine) (next : Ends A GuardKind) → Always P next → Always P (checked l cs m next)
  checked_always P [] m next h = h
  checked_always P (c ∷ cs) m next h = choose_always P (holds_on l m c.exp) _ _ (checked_always P cs m next h) (fault_always P c.kind)

  enters_normal : (cs : List Condition) (e : Exp) (m : Machine) → Always (Ended IsNormal) (entered l cs e m)
  enters_normal cs e m =
      checked_always (Ended IsNormal) cs m _
      (choose_always (Ended IsNormal) (holds_on l m e) _ _ (done_always (Ended IsNormal) (inl m) tt) (done_always (Ended IsNormal) (inr (Normal m)) tt))

  turned_normal : (f : Flow) → IsNormal f → Always (Ended IsNormal) (turned f)
  turned_normal (Normal m) h = done_always (Ended IsNormal) (inl m) tt
  turned_normal (Abrupt m) h = absurd h

  normally_normal : (next : Machine → Ends Flow GuardKind) → ((m : Machine) → Always IsNormal (next m)) → (f : Flow) → IsNormal f → Always IsNormal (normally next f)
  normally_normal next h (Normal m) k = h m
  normally_normal next h (Abrupt m) k = absurd k

  handled_quiet : (next : Machine → Ends Flow GuardKind) → (f : Flow) → IsNormal f → Always IsNormal (handled next f)
  handled_quiet next (Normal m) h = done_always IsNormal (Normal m) tt
  handled_quiet next (Abrupt m) h = absurd h

  handler_quiet : (next : Machine → Ends Flow GuardKind) → ((m : Machine) → Always IsNormal (next m)) → (f : Flow) → Unit {0} → Always IsNormal (handled next f)
  handler_quiet next h (Normal m) k = done_always IsNormal (Normal m) tt
  handler_quiet next h (Abrupt m) k = h m

  catch_normal : (fs : List Runs) (a b : Simpl) (m : Machine) → (quiet a ≡ true) ⊎ (quiet b ≡ true) → (quiet a ≡ true → Always IsNormal (execs l p locals a depth fs m)) →
      (quiet b ≡ true → (n : Machine) → Always IsNormal (execs l p locals b depth fs n)) → Always IsNormal (execs l p locals (Catch a b) depth fs m)
  catch_normal fs a b m (inl q) h k = then_always IsNormal IsNormal _ _ (h q) (handled_quiet _)
  catch_normal fs a b m (inr q) h k = then_always (λ f. Unit {0}) IsNormal _ _ (λ f h. tt) (handler_quiet _ (k q))

  pub quiet_ends_normally : (a : Simpl) → quiet a ≡ true → (fs : List Runs) (m : Machine) → Always IsNormal (execs l p locals a depth fs m)
  quiet_ends_normally Skip q fs m = done_always IsNormal _ tt
  quiet_ends_normally Throw q fs m = absurd (false≢true q)
  quiet_ends_normally (Set x e) q fs m = done_always IsNormal _ tt
  quiet_ends_normally (SetGlobal x path e) q fs m = done_always IsNormal _ tt
  quiet_ends_normally (Store t a path e) q fs m = done_always IsNormal _ tt
  quiet_ends_normally (Pick x) q fs m = then_always (λ v. Unit {0}) IsNormal _ _ (λ a h. tt) (λ v h. done_always IsNormal _ tt)
  quiet_ends_normally (Seq a b) q fs m =
      let h = and_parts (quiet a) (quiet b) q in
      then_always IsNormal IsNormal _ _ (quiet_ends_normally a h.0 fs m) (normally_normal _ (quiet_ends_normally b h.1 fs))
  quiet_ends_normally (Cond e a b) q fs m =
      let h = and_parts (quiet a) (quiet b) q in
      choose_always IsNormal (holds_on l m e) _ _ (quiet_ends_normally a h.0 fs m) (quiet_ends_normally b h.1 fs m)
  quiet_ends_normally (Guard c a) q fs m = choose_always IsNormal (holds_on l m c.exp) _ _ (quiet_ends_normally a q fs m) (fault_always IsNormal c.kind)
  quiet_ends_normally (Catch a b) q fs m = catch_normal fs a b m (or_cases (quiet a) (quiet b) q) (λ h. quiet_ends_normally a h fs m) (λ h. quiet_ends_normally b h fs)
  quiet_ends_normally (While cs e a) q fs m =
      loop_always IsNormal _ _ (enters_normal cs e) (λ gs n. then_always IsNormal (Ended IsNormal) _ _ (quiet_ends_normally a q gs n) turned_normal) fs m
  quiet_ends_normally (Call x f es) q fs m = then_always (λ r. Unit {0}) IsNormal _ _ (λ a h. tt) (λ r h. done_always IsNormal _ tt)
