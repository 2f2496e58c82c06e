-- A local that a command doesn't assign stays as it is.
use Rattle.std.proofs.Common.{◌≡◌, ℕ, Bool, true, false, List, [], ◌∷◌, Option, Some, None, ◌⊎◌, inl, inr, sym, subst, ◌∙◌}
use Rattle.std.proofs.lemmas.Bool.{or_parts}
use Rattle.correspondence.specs.Outcome.{Ends, done, fault, choose, continued, loop}
use Rattle.correspondence.specs.Always.{Always}
use Rattle.correspondence.proofs.Always.{then_always}
use Rattle.c_values.specs.Name.{Name}
use Rattle.c_values.specs.Value.{Value}
use Rattle.c_values.specs.Layout.{Layout}
use Rattle.c_values.specs.Choice.{Choice}
use Rattle.expression_lang.specs.Expression.{Exp}
use Rattle.expression_lang.specs.GuardKind.{GuardKind}
use Rattle.expression_lang.specs.Machine.{Machine, Returned}
use Rattle.expression_lang.specs.Signature.{Binder}
use Rattle.expression_lang.proofs.Bound.{name_stays}
use Rattle.simpl_lang.specs.Command.{Condition, Simpl, Skip, Throw, Set, SetGlobal, Store, Pick, Seq, Cond, Guard, Catch, While, Call}
use Rattle.simpl_lang.specs.Exec.{Flow, Normal, Abrupt, Runs, holds_on, normally, handled, turned, checked, entered, execs, result_into}
use Rattle.simpl_lang.specs.Names.{is_target}
use Rattle.rule_local.specs.Assigned.{assigns}

-- from where a loop goes on, and its end
abbrev pub EndsIn : {X A : Type 0} → (X → Type 0) → (A → Type 0) → X ⊎ A → Type 0
EndsIn Q P (inl x) = Q x
EndsIn Q P (inr a) = P a

module _ {Function : Type 1} {X A F : Type 0} (Q : X → Type 0) (P : A → Type 0) (enter : X → Ends (X ⊎ A) F) (body : List Function → X → Ends (X ⊎ A) F)
    (enters : (x : X) → Q x → Always (EndsIn Q P) (enter x)) (turn : (fs : List Function) (x : X) → Q x → Always (EndsIn Q P) (body fs x)) where
  continued_keeps : (r : X → Ends A F) → ((x : X) → Q x → Always P (r x)) → (z : X ⊎ A) → EndsIn Q P z → Always P (continued r z)
  continued_keeps r h (inl x) e = h x e
  continued_keeps r h (inr a) e = λ b e'. subst P (sym e') e

  pub loop_keeps : (fs : List Function) (x : X) → Q x → Always P (loop enter body fs x)
  loop_keeps [] x q = then_always (EndsIn Q P) P _ _ (enters x q) (continued_keeps _ (λ y r a e. absurd e))
  loop_keeps (f ∷ fs) x q =
      then_always (EndsIn Q P) P _ _ (enters x q) (continued_keeps _ (λ y r. then_always (EndsIn Q P) P _ _ (turn fs y r) (continued_keeps _ (loop_keeps fs))))

abbrev pub HasAt : Name → Value → Flow → Type 0
HasAt y v (Normal m) = m.locals y ≡ v
HasAt y v (Abrupt m) = m.locals y ≡ v

done_always : {A : Type 0} (P : A → Type 0) (a : A) → P a → Always {F = GuardKind} P (done a)
done_always P a h b e = subst P (sym e) h

choose_always : {A : Type 0} (P : A → Type 0) (t : Bool) (p q : Ends A GuardKind) → Always P p → Always P q → Always P (choose t p q)
choose_always P true p q h k = h
choose_always P false p q h k = k

fault_always : {A : Type 0} (P : A → Type 0) (k : GuardKind) → Always {A = A} P (fault k)
fault_always P k a h = absurd h

module _ (l : Layout) (p : Choice) (locals : List Binder) (depth : Option ℕ) (y : Name) (v : Value) where
  abbrev Kept : Flow → Type 0
  Kept = HasAt y v

  abbrev At : Machine → Type 0
  At m = m.locals y ≡ v

  checked_always : {A : Type 0} (P : A → Type 0) (cs : List Condition) (m : Machine) (next : Ends A GuardKind) → Always P next → Always P (checked l cs m next)
  checked_always P [] m next h = h
  checked_always P (c ∷ cs) m next h = choose_always P (holds_on l m c.exp) _ _ (checked_always P cs m next h) (fault_always P c.kind)

  enters_kept : (cs : List Condition) (e : Exp) (m : Machine) → At m → Always (EndsIn At Kept) (entered l cs e m)
  enters_kept cs e m h =
      checked_always (EndsIn At Kept) cs m _
      (choose_always (EndsIn At Kept) (holds_on l m e) _ _ (done_always (EndsIn At Kept) (inl m) h) (done_always (EndsIn At Kept) (inr (Normal m)) h))

  turned_kept : (f : Flow) → Kept f → Always (EndsIn At Kept) (turned f)
  turned_kept (Normal m) h = done_always (EndsIn At Kept) (inl m) h
  turned_kept (Abrupt m) h = done_always (EndsIn At Kept) (inr (Abrupt m)) h

  normally_kept : (next : Machine → Ends Flow GuardKind) → ((m : Machine) → At m → Always Kept (next m)) → (f : Flow) → Kept f → Always Kept (normally next f)
  normally_kept next h (Normal m) k = h m k
  normally_kept next h (Abrupt m) k = done_always Kept (Abrupt m) k

  handled_kept : (next : Machine → Ends Flow GuardKind) → ((m : Machine) → At m → Always Kept (next m)) → (f : Flow) → Kept f → Always Kept (handled next f)
  handled_kept next h (Normal m) k = done_always Kept (Normal m) k
  handled_kept next h (Abrupt m) k = h m k

  result_kept : (x : Option Name) (r : Returned) (m : Machine) → is_target y x ≡ false → At m → At (result_into x r m.locals)
  result_kept None r m h k = k
  result_kept (Some x) r m h k = name_stays x y _ m.locals h ∙ k

  pub unassigned_stays : (a : Simpl) → assigns y a ≡ false → (fs : List Runs) (m : Machine) → At m → Always Kept (execs l p locals a depth fs m)
  unassigned_stays Skip h fs m k = done_always Kept _ k
  unassigned_stays Throw h fs m k = done_always Kept _ k
  unassigned_stays (Set x e) h fs m k = done_always Kept _ (name_stays x y _ m.locals h ∙ k)
  unassigned_stays (SetGlobal x path e) h fs m k = done_always Kept _ k
  unassigned_stays (Store t a path e) h fs m k = done_always Kept _ k
  unassigned_stays (Pick x) h fs m k = then_always (λ u. Unit {0}) Kept _ _ (λ a e. tt) (λ u e. done_always Kept _ (name_stays x y u m.locals h ∙ k))
  unassigned_stays (Seq a b) h fs m k =
      let d = or_parts (assigns y a) (assigns y b) h in then_always Kept Kept _ _ (unassigned_stays a d.0 fs m k) (normally_kept _ (unassigned_stays b d.1 fs))
  unassigned_stays (Cond e a b) h fs m k =
      let d = or_parts (assigns y a) (assigns y b) h in choose_always Kept (holds_on l m e) _ _ (unassigned_stays a d.0 fs m k) (unassigned_stays b d.1 fs m k)
  unassigned_stays (Guard c a) h fs m k = choose_always Kept (holds_on l m c.exp) _ _ (unassigned_stays a h fs m k) (fault_always Kept c.kind)
  unassigned_stays (Catch a b) h fs m k =
      let d = or_parts (assigns y a) (assigns y b) h in then_always Kept Kept _ _ (unassigned_stays a d.0 fs m k) (handled_kept _ (unassigned_stays b d.1 fs))
  unassigned_stays (While cs e a) h fs m k =
      loop_keeps At Kept _ _ (enters_kept cs e) (λ gs n r. then_always Kept (EndsIn At Kept) _ _ (unassigned_stays a h gs n r) turned_kept) fs m k
  unassigned_stays (Call x f es) h fs m k = then_always (λ r. Unit {0}) Kept _ _ (λ a e. tt) (λ r e. done_always Kept _ (result_kept x r m h k))
