-- The rules are sound: one lemma for each row of the table, and the induction over an accepted tree.
use Rattle.std.proofs.Common.{◌≡◌, ℕ, true, false, ◌||◌, List, Option, refl, sym, subst, ap, ap₂, ◌∙◌}
use Rattle.std.proofs.lemmas.Bool.{or_parts}
use Rattle.correspondence.specs.Outcome.{Ends, done}
use Rattle.correspondence.specs.Corresponds.{Corresponds, Either, Leaving, Paired}
use Rattle.correspondence.proofs.Corresponds.{done_corresponds, then_corresponds, choose_corresponds, loop_corresponds, leaving_corresponds, called_corresponds}
use Rattle.correspondence.proofs.Steps.{left_goes_on}
use Rattle.c_values.specs.Name.{Name, same_name, with_name}
use Rattle.c_values.specs.Types.{CType}
use Rattle.c_values.specs.Value.{Value, Truth, word_in}
use Rattle.c_values.specs.Layout.{Layout}
use Rattle.c_values.specs.Path.{Step, upd}
use Rattle.c_values.specs.Choice.{Choice}
use Rattle.c_memory.specs.Heap.{write_heap}
use Rattle.expression_lang.specs.Expression.{Exp, Path}
use Rattle.expression_lang.specs.Evaluation.{State, steps}
use Rattle.expression_lang.specs.Mentions.{names}
use Rattle.expression_lang.specs.GuardKind.{GuardKind}
use Rattle.expression_lang.specs.Machine.{Machine, with_local}
use Rattle.expression_lang.specs.Signature.{Binder, Invocation, values_of}
use Rattle.simpl_lang.specs.Command.{Simpl, Skip, Throw, Set, SetGlobal, Store, Pick, Seq, Cond, Guard, Catch, While, Call, kind_of}
use Rattle.simpl_lang.specs.Exec.{Normal, Runs, execs, picked_local, value_on, result_into}
use Rattle.simpl_lang.specs.Names.{command_names, path_names, conditions_name, some_names, is_target}
use Rattle.simpl_lang.specs.Flag.{thrown_local}
use Rattle.rule_trees.specs.RuleTree.{Tree, AllHold}
use Rattle.rule_trees.proofs.Induction.{holds}
use Rattle.rule_exn.specs.Rule as R
use Rattle.rule_exn.specs.Rule.{Rule, Claim}
use Rattle.rule_exn.specs.Table.{is_thrown, cleared, unless_thrown, row, table, Takes}
use Rattle.rule_exn.specs.Units.{RunAlike}
use Rattle.rule_exn.specs.Flagged.{Flagged, Shows}
use Rattle.rule_exn.proofs.QuietEnds.{quiet_ends_normally}
use Rattle.rule_exn.proofs.KeepsFlag.{flag_set, both_set, state_set, value_alike, holds_alike, steps_alike, values_alike, result_alike}
use Rattle.rule_exn.proofs.SoundParts.{SameKind, fault_shown, ShowsNormal, normal_only, after_quiet, unhandled, after_test, after_catch, after_skipped, enters_alike, enters_unless, turned_quiet, Leaves, turned_leaving, leaves_early}

abbrev Same : {A : Type 0} → A → A → Type 0
Same a b = b ≡ a

module _ (l : Layout) (p : Choice) where
  -- the right side does what the left side does, from machines where nothing is thrown
  abbrev pub Sound : Simpl → Simpl → Type 1
  Sound a a' =
      command_names thrown_local a ≡ false → (locals : List Binder) (depth : Option ℕ) (fs gs : List Runs) → Paired RunAlike fs gs → (m n : Machine) → Flagged false m n →
      Corresponds Shows SameKind (execs l p locals a depth fs m) (execs l p locals a' depth gs n)

  set_local : (x : Name) (e : Exp) → Sound (Set x e) (Set x e)
  set_local x e h locals depth fs gs k m n f =
      let d = or_parts (same_name thrown_local x) (names thrown_local e) h in
      done_corresponds Shows SameKind _ _ (both_set x _ _ m n d.0 (value_alike l m n f.others e d.1) f)

  set_global : (x : Name) (path : Path) (e : Exp) → Sound (SetGlobal x path e) (SetGlobal x path e)
  set_global x path e h locals depth fs gs k m n f =
      let d = or_parts (path_names thrown_local path) (names thrown_local e) h in
      let write : State → List Step → Value → State = λ s ss v. record { heap = s.heap; globals = with_name x (upd (s.globals x) ss v) s.globals } in
      done_corresponds Shows SameKind _ _ (state_set (write m.state (steps l m.locals m.state path) (value_on l m e)) (write n.state (steps l n.locals n.state path) (value_on l n e)) m n
      (ap (λ s. write s (steps l n.locals n.state path) (value_on l n e)) f.others.state
      ∙ ap₂ (λ ss v. write m.state ss v) (steps_alike l m n f.others path d.0) (value_alike l m n f.others e d.1)) f)

  store : (t : CType) (a : Exp) (path : Path) (e : Exp) → Sound (Store t a path e) (Store t a path e)
  store t a path e h locals depth fs gs k m n f =
      let d = or_parts (names thrown_local a || path_names thrown_local path) (names thrown_local e) h in
      let c = or_parts (names thrown_local a) (path_names thrown_local path) d.0 in
      let write : State → Value → List Step → Value → State = λ s u ss v. record { heap = write_heap l s.heap t (word_in u).bits ss v; globals = s.globals } in
      done_corresponds Shows SameKind _ _ (state_set (write m.state (value_on l m a) (steps l m.locals m.state path) (value_on l m e)) (write n.state (value_on l n a) (steps l n.locals n.state path) (value_on l n e)) m n
      (ap (λ s. write s (value_on l n a) (steps l n.locals n.state path) (value_on l n e)) f.others.state
      ∙ ap (λ u. write m.state u (steps l n.locals n.state path) (value_on l n e)) (value_alike l m n f.others a c.0)
      ∙ ap₂ (λ ss v. write m.state (value_on l m a) ss v) (steps_alike l m n f.others path c.1) (value_alike l m n f.others e d.1)) f)

  itself_corresponds : {A : Type 0} (q : Ends A GuardKind) → Corresponds Same SameKind q q
  itself_corresponds q = record {
    done = λ a h. (a, refl, h);
    done_back = λ a h. (a, refl, h);
    failed = λ k h. (k, refl, h);
    failed_back = λ k h. (k, refl, h);
    stopped = λ w h. h;
    stopped_back = λ w h. h;
  }

  pick : (x : Name) → Sound (Pick x) (Pick x)
  pick x h locals depth fs gs k m n f =
      then_corresponds Same Shows SameKind _ _ _ _ (itself_corresponds (picked_local p (kind_of locals x)))
      (λ v v' e. done_corresponds Shows SameKind (Normal (with_local x v m)) (Normal (with_local x v' n)) (both_set x v v' m n h e f))

  call : (x : Option Name) (g : Name) (es : List Exp) → Sound (Call x g es) (Call x g es)
  call x g es h locals depth fs gs k m n f =
      let d = or_parts (is_target thrown_local x) (some_names thrown_local es) h in
      let asked : List Value → State → Invocation = λ vs s. record { name = g; arguments = vs; state = s } in
      then_corresponds Same Shows SameKind _ _ _ _
      (called_corresponds Same Same SameKind fs gs k depth (asked (values_of l m.locals m.state es) m.state) (asked (values_of l n.locals n.state es) n.state)
      (ap (λ vs. asked vs n.state) (values_alike l m n f.others es d.1) ∙ ap (λ s. asked (values_of l m.locals m.state es) s) f.others.state))
      (λ r r' e. subst (λ z. Corresponds Shows SameKind (done (Normal (result_into x r m.locals))) (done (Normal (result_into x z n.locals)))) (sym e)
      (done_corresponds Shows SameKind _ _ (result_alike x r m n d.0 f)))

  abbrev AllSound : List Claim → Type 1
  AllSound cs = AllHold (λ c. Sound c.left c.right) cs

  -- one case for each row
  row_sound : (rule : Rule) (a a' : Simpl) → (row rule a a').holds → AllSound (row rule a a').parts → Sound a a'
  row_sound R.Skip Skip a' e s = subst (λ c. Sound Skip c) (sym e) (λ h locals depth fs gs k m n f. done_corresponds Shows SameKind _ _ f)
  row_sound R.Set (Set x v) a' e s = subst (λ c. Sound (Set x v) c) (sym e) (set_local x v)
  row_sound R.Set (SetGlobal x path v) a' e s = subst (λ c. Sound (SetGlobal x path v) c) (sym e) (set_global x path v)
  row_sound R.Set (Store t q path v) a' e s = subst (λ c. Sound (Store t q path v) c) (sym e) (store t q path v)
  row_sound R.Pick (Pick x) a' e s = subst (λ c. Sound (Pick x) c) (sym e) (pick x)
  row_sound R.Call (Call x g es) a' e s = subst (λ c. Sound (Call x g es) c) (sym e) (call x g es)
  row_sound R.Throw Throw a' e s =
      subst (λ c. Sound Throw c) (sym e)
      (λ h locals depth fs gs k m n f. done_corresponds Shows SameKind _ _ (record { others = flag_set (Truth true) m n f.others; flag = refl }))
  row_sound R.SeqPlain (Seq a b) (Seq a' b') q s =
      λ h locals depth fs gs k m n f.
      let d = or_parts (command_names thrown_local a) (command_names thrown_local b) h in
      then_corresponds ShowsNormal Shows SameKind _ _ _ _ (normal_only (quiet_ends_normally l p locals depth a q fs m) (s.0 d.0 locals depth fs gs k m n f))
      (after_quiet _ _ (s.1.0 d.1 locals depth fs gs k))
  row_sound R.SeqTest (Seq a b) (Seq a' (Cond t c b')) e s =
      subst (λ u. Sound (Seq a b) (Seq a' (Cond u c b'))) (sym e.0) (subst (λ c. Sound (Seq a b) (Seq a' (Cond is_thrown c b'))) (sym e.1) (λ h locals depth fs gs k m n f.
      let d = or_parts (command_names thrown_local a) (command_names thrown_local b) h in
      then_corresponds Shows Shows SameKind _ _ _ _ (s.0 d.0 locals depth fs gs k m n f) (after_test l _ _ (s.1.0 d.1 locals depth fs gs k))))
  row_sound R.Cond (Cond t a b) (Cond t' a' b') e s =
      subst (λ u. Sound (Cond t a b) (Cond u a' b')) (sym e) (λ h locals depth fs gs k m n f.
      let d = or_parts (names thrown_local t || command_names thrown_local a) (command_names thrown_local b) h in
      let c = or_parts (names thrown_local t) (command_names thrown_local a) d.0 in
      choose_corresponds Shows SameKind _ _ _ _ _ _ (sym (holds_alike l m n f.others t c.0)) (λ w. s.0 c.1 locals depth fs gs k m n f) (λ w. s.1.0 d.1 locals depth fs gs k m n f))
  row_sound R.Guard (Guard g a) (Guard g' a') e s =
      subst (λ u. Sound (Guard g a) (Guard u a')) (sym e) (λ h locals depth fs gs k m n f.
      let d = or_parts (names thrown_local g.exp) (command_names thrown_local a) h in
      choose_corresponds Shows SameKind _ _ _ _ _ _ (sym (holds_alike l m n f.others g.exp d.0)) (λ w. s.0 d.1 locals depth fs gs k m n f) (λ w. fault_shown g.kind))
  row_sound R.WhilePlain (While cs t a) (While cs' t' a') e s =
      subst (λ c. Sound (While cs t a) (While c t' a')) (sym e.1) (subst (λ u. Sound (While cs t a) (While cs u a')) (sym e.2) (λ h locals depth fs gs k m n f.
      let d = or_parts (conditions_name thrown_local cs || names thrown_local t) (command_names thrown_local a) h in
      let c = or_parts (conditions_name thrown_local cs) (names thrown_local t) d.0 in
      loop_corresponds RunAlike (Flagged false) Shows SameKind _ _ _ _ (enters_alike l cs t c.0 c.1)
      (λ fs' gs' k' m' n' f'.
      then_corresponds ShowsNormal (Either (Flagged false) Shows) SameKind _ _ _ _ (normal_only (quiet_ends_normally l p locals depth a e.0 fs' m') (s.0 d.1 locals depth fs' gs' k' m' n' f')) turned_quiet)
      fs gs k m n f))
  row_sound R.WhileTest (While cs t a) (While cs' t' a') e s =
      subst (λ c. Sound (While cs t a) (While c t' a')) (sym e.0) (subst (λ u. Sound (While cs t a) (While (unless_thrown cs) u a')) (sym e.1) (λ h locals depth fs gs k m n f.
      let d = or_parts (conditions_name thrown_local cs || names thrown_local t) (command_names thrown_local a) h in
      let c = or_parts (conditions_name thrown_local cs) (names thrown_local t) d.0 in
      leaving_corresponds RunAlike (Flagged false) Shows Leaves SameKind _ _ _ _ (enters_unless l cs t c.0 c.1)
      (λ fs' gs' k' m' n' f'. then_corresponds Shows (Leaving (Flagged false) Shows Leaves) SameKind _ _ _ _ (s.0 d.1 locals depth fs' gs' k' m' n' f') turned_leaving)
      (leaves_early l t _ cs) fs gs k m n f))
  row_sound R.CatchPlain (Catch a b) a' q s =
      λ h locals depth fs gs k m n f.
      let d = or_parts (command_names thrown_local a) (command_names thrown_local b) h in
      left_goes_on ShowsNormal Shows SameKind _ _ _ (normal_only (quiet_ends_normally l p locals depth a q fs m) (s.0 d.0 locals depth fs gs k m n f)) (unhandled _)
  row_sound R.CatchTest (Catch a b) (Seq a' (Cond t (Seq c b') o)) e s =
      subst (λ u. Sound (Catch a b) (Seq a' (Cond u (Seq c b') o))) (sym e.0)
      (subst (λ u. Sound (Catch a b) (Seq a' (Cond is_thrown (Seq u b') o))) (sym e.1)
      (subst (λ u. Sound (Catch a b) (Seq a' (Cond is_thrown (Seq cleared b') u))) (sym e.2) (λ h locals depth fs gs k m n f.
      let d = or_parts (command_names thrown_local a) (command_names thrown_local b) h in
      then_corresponds Shows Shows SameKind _ _ _ _ (s.0 d.0 locals depth fs gs k m n f) (after_catch l _ _ (s.1.0 d.1 locals depth fs gs k)))))
  row_sound R.CatchSkip (Catch a Skip) (Seq a' c) e s =
      subst (λ u. Sound (Catch a Skip) (Seq a' u)) (sym e) (λ h locals depth fs gs k m n f.
      let d = or_parts (command_names thrown_local a) false h in
      then_corresponds Shows Shows SameKind _ _ _ _ (s.0 d.0 locals depth fs gs k m n f) after_skipped)
  row_sound _ _ _ e s = absurd e

  pub takes_sound : (t : Tree Rule) (a a' : Simpl) → Takes t a a' → Sound a a'
  takes_sound t a a' h = holds table (λ c. Sound c.left c.right) (λ rule c e s. row_sound rule c.left c.right e s) t (record { left = a; right = a' }) h
