-- Facts that hold before a program hold after it, but for those that name what its values are bound to, or read what it may have
-- changed; and a guard that was passed holds.
use Rattle.std.proofs.Common.{◌≡◌, ℕ, Bool, true, false, not, cond, List, [], ◌∷◌, Option, inl, inr, refl, sym, ◌∙◌, subst}
use Rattle.std.proofs.lemmas.Bool.{or_parts, not-true, true≢false}
use Rattle.correspondence.specs.Outcome.{Done, done, fault, choose}
use Rattle.correspondence.specs.Always.{Always}
use Rattle.correspondence.proofs.Always.{then_always}
use Rattle.program_facts.proofs.KeptAlong.{Keeps, loop_keeps, choose_always, done_always}
use Rattle.c_values.specs.Name.{Name, with_name}
use Rattle.c_values.specs.Value.{Value, truth_in}
use Rattle.c_values.specs.Layout.{Layout}
use Rattle.c_values.specs.Choice.{Choice}
use Rattle.c_memory.specs.Heap.{heap_tags}
use Rattle.expression_lang.specs.Expression.{Exp}
use Rattle.expression_lang.specs.Evaluation.{Env, State, holds}
use Rattle.expression_lang.specs.Signature.{bound}
use Rattle.ac_expr.specs.Fact.{Fact, stands_for, AllSay}
use Rattle.expression_lang.specs.Mentions.{names, reads}
use Rattle.ac_expr.specs.Facts.{facts_where, without_name, without_reads}
use Rattle.ac_expr.proofs.SameValues.{unnamed_same, unread_same}
use Rattle.monad_lang.specs.Program.{Mon, Ret, Bind, Guard, If, Loop, Pick}
use Rattle.monad_lang.specs.Run.{Answer, Failure, Runs, runs}
use Rattle.ac_expr.specs.Passed.{without_names, with_guard, where_unchanged}
use Rattle.program_facts.specs.Flow.{changes_state, guard_in, facts_after}
use Rattle.program_facts.specs.Lasting.{AllKeepTags}
use Rattle.program_facts.proofs.KeepsTags.{runs_keep_tags}

-- without a write or a call the state is as it was
abbrev pub SameState : State → Answer → Type 0
SameState s a = a.state ≡ s

module _ (l : Layout) (p : Choice) where
  pub state_unchanged : (m : Mon) → changes_state m ≡ false → (env : Env) (depth : Option ℕ) (gs : List Runs) (s : State) → Always (SameState s) (runs l p m env depth gs s)
  state_unchanged (Ret es) n env depth gs s = done_always (SameState s) _ refl
  state_unchanged (Bind m xs k) n env depth gs s =
      let o = or_parts (changes_state m) (changes_state k) n in
      then_always (SameState s) (SameState s) _ _ (state_unchanged m o.0 env depth gs s) (λ a i b e. state_unchanged k o.1 _ depth gs a.state b e ∙ i)
  state_unchanged (Guard e) n env depth gs s = choose_always (SameState s) (holds l env s e) _ _ (λ i. done_always (SameState s) _ refl) (λ i b e'. absurd e')
  state_unchanged (If e m k) n env depth gs s =
      let o = or_parts (changes_state m) (changes_state k) n in
      choose_always (SameState s) (holds l env s e) _ _ (λ i. state_unchanged m o.0 env depth gs s) (λ i. state_unchanged k o.1 env depth gs s)
  state_unchanged (Loop starts guard test m) n env depth gs s =
      let K = Keeps (SameState s) (SameState s) in
      loop_keeps (λ fs. Unit {0}) (λ f fs k. tt) (SameState s) (SameState s) _ _
      (λ a k. choose_always K (holds l _ a.state guard) _ _ (λ i. choose_always K (holds l _ a.state test) _ _ (λ j. done_always K (inl a) k) (λ j. done_always K (inr a) k)) (λ i b e. absurd e))
      (λ fs q a k. then_always (SameState s) K _ _ (λ b e. state_unchanged m n _ depth fs a.state b e ∙ k) (λ b j. done_always K (inl b) j))
      gs tt _ refl
  state_unchanged (Pick k) n env depth gs s = then_always (λ v. Unit {0}) (SameState s) _ _ (λ v e. tt) (λ v u. done_always (SameState s) _ refl)
  state_unchanged _ n _ _ _ _ = absurd (true≢false n)

module _ (l : Layout) where
  -- the facts that pass a test
  where_hold : (test : Exp → Bool) (env env' : Env) (s s' : State) → ((e : Exp) → test e ≡ true → holds l env s e ≡ true → holds l env' s' e ≡ true) →
      (fs : List Fact) → AllSay l env s fs → AllSay l env' s' (facts_where test fs)
  where_hold test env env' s s' k [] h = tt
  where_hold test env env' s s' k (f ∷ fs) h = by_test (test (stands_for f)) refl (where_hold test env env' s s' k fs h.1)
    where
      by_test : (b : Bool) → test (stands_for f) ≡ b → AllSay l env' s' (facts_where test fs) → AllSay l env' s' (cond b (f ∷ facts_where test fs) (facts_where test fs))
      by_test true e r = (k (stands_for f) e h.0, r)
      by_test false e r = r

  pub without_name_hold : (x : Name) (v : Value) (env : Env) (s : State) (fs : List Fact) → AllSay l env s fs → AllSay l (with_name x v env) s (without_name x fs)
  without_name_hold x v env s =
      where_hold (λ e. not (names x e)) env (with_name x v env) s s
      (λ e n h. subst (λ u. truth_in u ≡ true) (unnamed_same l x v env s e (not-true (names x e) n)) h)

  -- fewer facts
  fewer_hold : (x : Name) (env : Env) (s : State) (fs : List Fact) → AllSay l env s fs → AllSay l env s (without_name x fs)
  fewer_hold x env s = where_hold (λ e. not (names x e)) env env s s (λ e n h. h)

  pub without_reads_hold : (env : Env) (s s' : State) → heap_tags s'.heap ≡ heap_tags s.heap → (fs : List Fact) → AllSay l env s fs → AllSay l env s' (without_reads fs)
  without_reads_hold env s s' tags =
      where_hold (λ e. not (reads e)) env env s s'
      (λ e n h. subst (λ u. truth_in u ≡ true) (unread_same l env s s' tags e (not-true (reads e) n)) h)

  pub without_names_hold : (xs : List Name) (vs : List Value) (env : Env) (s : State) (fs : List Fact) → AllSay l env s fs → AllSay l (bound xs vs env) s (without_names xs fs)
  without_names_hold [] vs env s fs h = h
  without_names_hold (x ∷ xs) (v ∷ vs) env s fs h = without_names_hold xs vs (with_name x v env) s (without_name x fs) (without_name_hold x v env s fs h)
  without_names_hold (x ∷ xs) [] env s fs h = none_bound xs (without_name x fs) (fewer_hold x env s fs h)
    where
      none_bound : (xs : List Name) (fs : List Fact) → AllSay l env s fs → AllSay l env s (without_names xs fs)
      none_bound [] fs h = h
      none_bound (y ∷ ys) fs h = none_bound ys (without_name y fs) (fewer_hold y env s fs h)

passed : (b : Bool) (a c : Answer) → choose {F = Failure} b (done a) (fault tt) (Done c) → (b ≡ true) × (c ≡ a)
passed true a c h = (refl, h)
passed false a c h = absurd h

module _ (l : Layout) (p : Choice) where
  guard_holds : (m : Mon) (env : Env) (depth : Option ℕ) (gs : List Runs) (s : State) (a : Answer) → runs l p m env depth gs s (Done a) → (fs : List Fact) →
      AllSay l env a.state fs → AllSay l env a.state (with_guard (guard_in m) fs)
  guard_holds (Guard e) env depth gs s a r fs h =
      let q = passed (holds l env s e) (record { values = []; state = s }) a r in
      (subst (λ c. holds l env c.state e ≡ true) (sym q.1) q.0, h)
  guard_holds m env depth gs s a r fs h = h

  pub facts_after_hold : (m : Mon) (xs : List Name) (fs : List Fact) (env : Env) (depth : Option ℕ) (gs : List Runs) → AllKeepTags gs → (s : State) → AllSay l env s fs →
      (a : Answer) → runs l p m env depth gs s (Done a) → AllSay l (bound xs a.values env) a.state (facts_after m xs fs)
  facts_after_hold m xs fs env depth gs k s h a r =
      let kept = by_change (changes_state m) refl in
      without_names_hold l xs a.values env a.state _ (guard_holds m env depth gs s a r _ kept)
    where
      by_change : (b : Bool) → changes_state m ≡ b → AllSay l env a.state (where_unchanged b fs)
      by_change true e = without_reads_hold l env s a.state (runs_keep_tags l p m env depth gs k s a r) fs h
      by_change false e = subst (λ t. AllSay l env t fs) (sym (state_unchanged l p m e env depth gs s a r)) h
