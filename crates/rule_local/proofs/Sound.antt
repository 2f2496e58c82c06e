-- The rules are sound: one lemma for each row of the table, and the induction over an accepted tree.
use Rattle.std.proofs.Common.{◌≡◌, ℕ, Bool, true, false, not, ◌&&◌, ◌||◌, List, [], ◌∷◌, Option, Some, None, ◌⊎◌, inl, inr, refl, sym, subst, ap, ap₂, ◌∙◌}
use Rattle.std.proofs.lemmas.Bool.{false≢true, or_left, or_right, or_parts, and_from, not_from_false}
use Rattle.correspondence.specs.Outcome.{Ends, done, fault, Then, choose, loop}
use Rattle.correspondence.specs.Corresponds.{Corresponds, Either, Paired}
use Rattle.correspondence.proofs.Corresponds.{done_corresponds, then_corresponds, choose_corresponds, loop_corresponds}
use Rattle.correspondence.proofs.Steps.{same_on_right, after_done, in_brackets, right_goes_on}
use Rattle.c_values.specs.Name.{Name, same_name, with_name, is_among}
use Rattle.c_values.specs.Types.{CType}
use Rattle.c_values.specs.Value.{Value, word_in}
use Rattle.c_values.specs.Layout.{Layout}
use Rattle.c_values.specs.Path.{Step, upd}
use Rattle.c_values.specs.Choice.{Choice}
use Rattle.c_memory.specs.Heap.{write_heap}
use Rattle.expression_lang.specs.Expression.{Exp, Path}
use Rattle.expression_lang.specs.Evaluation.{Env, State, value, steps, holds}
use Rattle.expression_lang.specs.Mentions.{names}
use Rattle.expression_lang.specs.GuardKind.{GuardKind}
use Rattle.expression_lang.specs.Sort.{Kind}
use Rattle.expression_lang.specs.Machine.{Machine, machine_with, with_local, Returned}
use Rattle.expression_lang.specs.Signature.{Signature, Invocation, values_of, bound, signature}
use Rattle.expression_lang.proofs.Bound.{name_stays}
use Rattle.simpl_lang.specs.Command as C
use Rattle.simpl_lang.specs.Command.{Condition, Simpl, kind_of}
use Rattle.simpl_lang.specs.Exec as Simpl
use Rattle.simpl_lang.specs.Exec.{Flow, Normal, Abrupt, execs, holds_on, value_on, normally, turned, result_into}
use Rattle.simpl_lang.specs.Names.{path_names}
use Rattle.monad_lang.specs.Program as M
use Rattle.monad_lang.specs.Program.{Mon, Place}
use Rattle.monad_lang.specs.Names.{is_free, is_in_some, is_in_start}
use Rattle.monad_lang.specs.Run as Mon
use Rattle.monad_lang.specs.Run.{Answer, Failure, runs, written, start_names, start_values}
use Rattle.monad_lang.specs.Reach.{IfTrue}
use Rattle.rule_trees.specs.RuleTree.{Tree, Accepts, AllHold}
use Rattle.rule_trees.proofs.Induction.{holds as accepted_holds}
use Rattle.rule_local.specs.Assigned.{assigns, Carries}
use Rattle.rule_local.specs.Rule as R
use Rattle.rule_local.specs.Rule.{Rule, Context, Claim}
use Rattle.rule_local.specs.Table.{vars, vars_with, as_starts, conj, picked_kind, zeros, is_needed, AreNone, AllFreeAmong, row, table, Takes, TakesWhole}
use Rattle.monad_lang.specs.Agree.{AgreeOn}
use Rattle.rule_local.specs.Agree.{held, Gives, GivesAt, Begins}
use Rattle.rule_local.specs.Kept.{BothFail, SameResult, SameFilled, CallsFit, as_values}
use Rattle.rule_local.proofs.Signed.{SameSigned, KeptAsSigned, also}
use Rattle.monad_lang.proofs.Agreeing.{agree_left, agree_right}
use Rattle.monad_lang.proofs.AgreeingValues.{value_agrees, holds_agrees, steps_agree, values_agree}
use Rattle.rule_local.proofs.Values.{vars_held, vars_with_held, others_held, held_alike}
use Rattle.rule_local.proofs.Stays.{unassigned_stays}
use Rattle.rule_local.proofs.Parts.{Same, Stays, called_related, picks_alike, guarded, checked_at_once, rebound, free_after, unassigned, set_held, in_vars, starts_named, starts_held, zeros_held, call_filled, result_there, into_target}

abbrev DoesSame : List Name → Ends Flow GuardKind → Ends Answer Failure → Type 0
DoesSame vs q r = Corresponds (GivesAt vs) BothFail q r

module _ (l : Layout) (p : Choice) (ctx : Context) (signatures : List Signature) where
  abbrev pub SoundFrom : (Env → Env → Type 0) → Simpl → Mon → List Name → Type 1
  SoundFrom related a b vs =
      (depth : Option ℕ) (fs : List Simpl.Runs) (gs : List Mon.Runs) → Paired (KeptAsSigned signatures) fs gs → CallsFit signatures a → (m : Machine) (env : Env) → related env m.locals →
      Corresponds (GivesAt vs) BothFail (execs l p ctx.locals a depth fs m) (runs l p b env depth gs m.state)

  -- the right side does what the left side does, where they agree on its free names
  abbrev pub Sound : Simpl → Mon → List Name → Type 1
  Sound a b vs = SoundFrom (AgreeOn (λ y. is_free y b)) a b vs

  abbrev pub SoundAt : Bool → Simpl → Mon → List Name → Type 1
  SoundAt true a b vs = SoundFrom (Begins ctx) a b vs
  SoundAt false a b vs = Sound a b vs

  -- what is sound from wherever they agree is sound from the start
  from_part : (w : Bool) (a : Simpl) (b : Mon) (vs : List Name) → IfTrue w (AllFreeAmong ctx.parameters b) → Sound a b vs → SoundAt w a b vs
  from_part true a b vs free s = λ depth fs gs k fit m env h. s depth fs gs k fit m env (λ y e. h.parameters y (free y e))
  from_part false a b vs free s = s

  given : (vs : List Name) (env locals : Env) (s : State) → AgreeOn (λ y. is_in_some y (vars vs)) env locals → values_of l env s (vars vs) ≡ held vs locals
  given vs env locals s h = vars_held l s vs env ∙ held_alike vs env locals h

  -- the last part, which gives the outputs
  gives : (vs : List Name) (m : Machine) (env : Env) (s : State) → s ≡ m.state → AgreeOn (λ y. is_in_some y (vars vs)) env m.locals →
      DoesSame vs (done (Normal m)) (done (record { values = values_of l env s (vars vs); state = s }))
  gives vs m env s e h = done_corresponds (GivesAt vs) BothFail (Normal m) _ (record { values = given vs env m.locals s h; state = e })

  skip : (vs : List Name) → Sound C.Skip (M.Ret (vars vs)) vs
  skip vs depth fs gs k fit m env h = gives vs m env m.state refl h

  set : (x : Name) (e : Exp) (vs : List Name) → Sound (C.Set x e) (M.Ret (vars_with x e vs)) vs
  set x e vs depth fs gs k fit m env h =
      done_corresponds (GivesAt vs) BothFail (Normal (with_local x (value_on l m e) m)) _
      (record { values = values_agree l env m.locals m.state (vars_with x e vs) h ∙ vars_with_held l m.state x e vs m.locals; state = refl })

  dead : (x : Name) (e : Exp) (vs : List Name) → is_among x vs ≡ false → Sound (C.Set x e) (M.Ret (vars vs)) vs
  dead x e vs n depth fs gs k fit m env h =
      done_corresponds (GivesAt vs) BothFail (Normal (with_local x (value_on l m e) m)) _
      (record { values = given vs env m.locals m.state h ∙ sym (others_held x (value_on l m e) vs m.locals n); state = refl })

  -- a write, and then the outputs
  write : (vs : List Name) (m : Machine) (env : Env) (place : Place) (e : Exp) (s : State) (depth : Option ℕ) (gs : List Mon.Runs) → written l env m.state place (value l env m.state e) ≡ s →
      AgreeOn (λ y. is_in_some y (vars vs)) env m.locals →
      DoesSame vs (done (Normal (machine_with m.locals s))) (runs l p (M.Bind (M.Write place e) [] (M.Ret (vars vs))) env depth gs m.state)
  write vs m env place e s depth gs w h = same_on_right (after_done _ _) (gives vs (machine_with m.locals s) env (written l env m.state place (value l env m.state e)) w h)

  global : (x : Name) (path : Path) (e : Exp) (vs : List Name) → Sound (C.SetGlobal x path e) (M.Bind (M.Write (M.Global x path) e) [] (M.Ret (vars vs))) vs
  global x path e vs depth fs gs k fit m env h =
      let c : AgreeOn (λ y. path_names y path || names y e) env m.locals = agree_left (λ y. path_names y path || names y e) (λ y. is_in_some y (vars vs)) env m.locals h in
      let to : List Step → Value → State = λ ss v. record { heap = m.state.heap; globals = with_name x (upd (m.state.globals x) ss v) m.state.globals } in
      write vs m env (M.Global x path) e _ depth gs
      (ap₂ to (steps_agree l env m.locals m.state path (agree_left (λ y. path_names y path) (λ y. names y e) env m.locals c))
      (value_agrees l env m.locals m.state e (agree_right (λ y. path_names y path) (λ y. names y e) env m.locals c)))
      (agree_right (λ y. path_names y path || names y e) (λ y. is_in_some y (vars vs)) env m.locals h)

  memory : (t : CType) (a : Exp) (path : Path) (e : Exp) (vs : List Name) → Sound (C.Store t a path e) (M.Bind (M.Write (M.Stored t a path) e) [] (M.Ret (vars vs))) vs
  memory t a path e vs depth fs gs k fit m env h =
      let c : AgreeOn (λ y. (names y a || path_names y path) || names y e) env m.locals = agree_left (λ y. (names y a || path_names y path) || names y e) (λ y. is_in_some y (vars vs)) env m.locals h in
      let d : AgreeOn (λ y. names y a || path_names y path) env m.locals = agree_left (λ y. names y a || path_names y path) (λ y. names y e) env m.locals c in
      let to : Value → List Step → Value → State = λ u ss v. record { heap = write_heap l m.state.heap t (word_in u).bits ss v; globals = m.state.globals } in
      write vs m env (M.Stored t a path) e _ depth gs
      (ap₂ (λ ss v. to (value l env m.state a) ss v) (steps_agree l env m.locals m.state path (agree_right (λ y. names y a) (λ y. path_names y path) env m.locals d))
      (value_agrees l env m.locals m.state e (agree_right (λ y. names y a || path_names y path) (λ y. names y e) env m.locals c))
      ∙ ap (λ u. to u (steps l m.locals m.state path) (value l m.locals m.state e)) (value_agrees l env m.locals m.state a (agree_left (λ y. names y a) (λ y. path_names y path) env m.locals d)))
      (agree_right (λ y. (names y a || path_names y path) || names y e) (λ y. is_in_some y (vars vs)) env m.locals h)

  -- a local of both is set, and then the outputs are given
  both_set : (x : Name) (v v' : Value) (vs : List Name) (q : Name → Bool) (m : Machine) (env : Env) (s s' : State) → v' ≡ v → s' ≡ s →
      AgreeOn (λ y. q y || (not (is_among y (x ∷ [])) && is_in_some y (vars vs))) env m.locals →
      DoesSame vs (done (Normal (machine_with (with_name x v m.locals) s)))
      (done (record { values = values_of l (bound (x ∷ []) (v' ∷ []) env) s' (vars vs); state = s' }))
  both_set x v v' vs q m env s s' e d h =
      gives vs (machine_with (with_name x v m.locals) s) (bound (x ∷ []) (v' ∷ []) env) s' d
      (rebound (x ∷ []) (v' ∷ []) env (with_name x v m.locals) (set_held x v v' m.locals e) (λ y. is_in_some y (vars vs))
      (λ y k n. free_after q (λ z. is_in_some z (vars vs)) (x ∷ []) env m.locals h y k n ∙ sym (name_stays x y v m.locals (not_among y n))))
    where
      not_among : (y : Name) → is_among y (x ∷ []) ≡ false → same_name y x ≡ false
      not_among y n = (or_parts (same_name y x) false n).0

  pick : (x : Name) (k : Kind) (vs : List Name) → picked_kind (kind_of ctx.locals x) ≡ Some k → Sound (C.Pick x) (M.Bind (M.Pick k) (x ∷ []) (M.Ret (vars vs))) vs
  pick x j vs e depth fs gs k fit m env h =
      same_on_right (in_brackets _ _ _)
      (then_corresponds Same (GivesAt vs) BothFail _ _ _ _ (picks_alike p (kind_of ctx.locals x) j e)
      (λ v v' d. same_on_right (after_done _ _) (both_set x v v' vs (λ y. false) m env m.state m.state d refl h)))

  seq : (a b : Simpl) (a' b' : Mon) (us vs : List Name) → Carries us a (λ y. is_free y b') → Sound a a' us → Sound b b' vs → Sound (C.Seq a b) (M.Bind a' us b') vs
  seq a b a' b' us vs c sa sb depth fs gs k fit m env h =
      then_corresponds (λ f x. GivesAt us f x × Stays a m f) (GivesAt vs) BothFail _ _ _ _
      (also (Stays a m) (sa depth fs gs k fit.0 m env (agree_left (λ y. is_free y a') (λ y. not (is_among y us) && is_free y b') env m.locals h))
      (λ f e y n. unassigned_stays l p ctx.locals depth y (m.locals y) a n fs m refl f e))
      after
    where
      after : (f : Flow) (x : Answer) → GivesAt us f x × Stays a m f →
          Corresponds (GivesAt vs) BothFail (normally (λ n. execs l p ctx.locals b depth fs n) f) (runs l p b' (bound us x.values env) depth gs x.state)
      after (Normal n) x g =
          subst (λ s. Corresponds (GivesAt vs) BothFail (execs l p ctx.locals b depth fs n) (runs l p b' (bound us x.values env) depth gs s)) (sym g.0.state)
          (sb depth fs gs k fit.1 n (bound us x.values env) (rebound us x.values env n.locals g.0.values (λ y. is_free y b')
          (λ y t d. free_after (λ z. is_free z a') (λ z. is_free z b') us env m.locals h y t d ∙ sym (g.1 y (unassigned us a (λ z. is_free z b') c y t d)))))
      after (Abrupt n) x g = absurd g.0

  choice : (e : Exp) (a b : Simpl) (a' b' : Mon) (vs : List Name) → Sound a a' vs → Sound b b' vs → Sound (C.Cond e a b) (M.If e a' b') vs
  choice e a b a' b' vs sa sb depth fs gs k fit m env h =
      let c : AgreeOn (λ y. names y e || is_free y a') env m.locals = agree_left (λ y. names y e || is_free y a') (λ y. is_free y b') env m.locals h in
      choose_corresponds (GivesAt vs) BothFail _ _ _ _ _ _ (sym (holds_agrees l env m.locals m.state e (agree_left (λ y. names y e) (λ y. is_free y a') env m.locals c)))
      (λ t. sa depth fs gs k fit.0 m env (agree_right (λ y. names y e) (λ y. is_free y a') env m.locals c))
      (λ t. sb depth fs gs k fit.1 m env (agree_right (λ y. names y e || is_free y a') (λ y. is_free y b') env m.locals h))

  guard : (g : Condition) (a : Simpl) (a' : Mon) (vs : List Name) → Sound a a' vs → Sound (C.Guard g a) (M.Bind (M.Guard g.exp) [] a') vs
  guard g a a' vs sa depth fs gs k fit m env h =
      guarded vs (holds_on l m g.exp) (holds l env m.state g.exp) g.kind _ _ _ (holds_agrees l env m.locals m.state g.exp (agree_left (λ y. names y g.exp) (λ y. is_free y a') env m.locals h))
      (sa depth fs gs k fit m env (agree_right (λ y. names y g.exp) (λ y. is_free y a') env m.locals h))

  -- the same call, with the arguments that fit
  same_call : (x : Option Name) (f : Name) (es : List Exp) (m : Machine) (env : Env) → CallsFit signatures (C.Call x f es) → AgreeOn (λ y. is_in_some y es) env m.locals →
      SameFilled signatures (record { name = f; arguments = values_of l m.locals m.state es; state = m.state }) (record { name = f; arguments = values_of l env m.state es; state = m.state })
  same_call x f es m env fit h = record {
    same = ap (λ vs. record { name = f; arguments = vs; state = m.state }) (values_agree l env m.locals m.state es h);
    filled = call_filled l m.locals m.state (signature signatures f) x es fit;
  }

  call : (x f : Name) (es : List Exp) (vs : List Name) → Sound (C.Call (Some x) f es) (M.Bind (M.Call f es) (x ∷ []) (M.Ret (vars vs))) vs
  call x f es vs depth fs gs k fit m env h =
      let c : Invocation = record { name = f; arguments = values_of l m.locals m.state es; state = m.state } in
      then_corresponds (SameSigned signatures c) (GivesAt vs) BothFail _ _ _ _
      (called_related (SameFilled signatures) (SameSigned signatures) BothFail fs gs k depth c (record { name = f; arguments = values_of l env m.state es; state = m.state })
      (same_call (Some x) f es m env fit (agree_left (λ y. is_in_some y es) (λ y. not (is_among y (x ∷ [])) && is_in_some y (vars vs)) env m.locals h)))
      after
    where
      with_result : (r : Returned) (a : Answer) (v : Value) → r.result ≡ Some v → SameResult r a →
          DoesSame vs (done (Normal (result_into (Some x) r m.locals))) (done (record { values = values_of l (bound (x ∷ []) a.values env) a.state (vars vs); state = a.state }))
      with_result r a v e g =
          subst (λ n. DoesSame vs (done (Normal n)) (done (record { values = values_of l (bound (x ∷ []) a.values env) a.state (vars vs); state = a.state }))) (sym (into_target x r v m.locals e))
          (subst (λ us. DoesSame vs (done (Normal (machine_with (with_name x v m.locals) r.state))) (done (record { values = values_of l (bound (x ∷ []) us env) a.state (vars vs); state = a.state })))
          (sym (g.values ∙ ap as_values e)) (both_set x v v vs (λ y. is_in_some y es) m env r.state a.state refl g.state h))

      after : (r : Returned) (a : Answer) → SameSigned signatures (record { name = f; arguments = values_of l m.locals m.state es; state = m.state }) r a →
          DoesSame vs (done (Normal (result_into (Some x) r m.locals))) (done (record { values = values_of l (bound (x ∷ []) a.values env) a.state (vars vs); state = a.state }))
      after r a g = let t = result_there (signature signatures f) x es r.result fit g.signed in with_result r a t.0 t.1 g.same

  void : (f : Name) (es : List Exp) (vs : List Name) → Sound (C.Call None f es) (M.Bind (M.Call f es) [] (M.Ret (vars vs))) vs
  void f es vs depth fs gs k fit m env h =
      let c : Invocation = record { name = f; arguments = values_of l m.locals m.state es; state = m.state } in
      then_corresponds (SameSigned signatures c) (GivesAt vs) BothFail _ _ _ _
      (called_related (SameFilled signatures) (SameSigned signatures) BothFail fs gs k depth c (record { name = f; arguments = values_of l env m.state es; state = m.state })
      (same_call None f es m env fit (agree_left (λ y. is_in_some y es) (λ y. is_in_some y (vars vs)) env m.locals h)))
      (λ r a g. gives vs (machine_with m.locals r.state) env a.state g.same.state (agree_right (λ y. is_in_some y es) (λ y. is_in_some y (vars vs)) env m.locals h))

  -- what a loop's machine and values have in common: the names that are handed on, the state, and what the body leaves alone
  pub record InLoop (a : Simpl) (us : List Name) (before : Env) (n : Machine) (x : Answer) : Type 0 where
    pub now : Gives us n x
    pub stays : (y : Name) → assigns y a ≡ false → n.locals y ≡ before y

  abbrev AfterLoop : Simpl → List Name → Env → Flow → Answer → Type 0
  AfterLoop a us before (Normal n) x = InLoop a us before n x
  AfterLoop a us before (Abrupt n) x = ⊥

  module _ (gs : List Condition) (e : Exp) (a : Simpl) (a' : Mon) (us vs : List Name) (c : Carries us a (is_needed (conj gs) e a' vs)) (sa : Sound a a' us) (depth : Option ℕ) (fit : CallsFit signatures a)
      (before env : Env)
      (inner : (y : Name) → (names y (conj gs) || names y e || is_free y a') ≡ true → is_among y us ≡ false → env y ≡ before y)
      (later : (y : Name) → is_in_some y (vars vs) ≡ true → is_among y us ≡ false → env y ≡ before y) where
    abbrev In : Machine → Answer → Type 0
    In = InLoop a us before

    abbrev After : Flow → Answer → Type 0
    After = AfterLoop a us before

    abbrev TurnsSame : Ends (Machine ⊎ Flow) GuardKind → Ends (Answer ⊎ Answer) Failure → Type 0
    TurnsSame q r = Corresponds (Either In After) BothFail q r

    -- in a turn both agree on what is looked at
    agree_inside : (n : Machine) (x : Answer) → In n x → AgreeOn (λ y. names y (conj gs) || names y e || is_free y a') (bound us x.values env) n.locals
    agree_inside n x g =
        rebound us x.values env n.locals g.now.values (λ y. names y (conj gs) || names y e || is_free y a')
        (λ y t d. inner y t d ∙ sym (g.stays y (unassigned us a (is_needed (conj gs) e a' vs) c y (or_left (names y (conj gs) || names y e || is_free y a') (is_among y vs) t) d)))

    agree_after : (n : Machine) (x : Answer) → In n x → AgreeOn (λ y. is_in_some y (vars vs)) (bound us x.values env) n.locals
    agree_after n x g =
        rebound us x.values env n.locals g.now.values (λ y. is_in_some y (vars vs))
        (λ y t d. later y t d ∙ sym (g.stays y (unassigned us a (is_needed (conj gs) e a' vs) c y (or_right (names y (conj gs) || names y e || is_free y a') (is_among y vs) (sym (in_vars y vs) ∙ t)) d)))

    agree_tests : (n : Machine) (x : Answer) → In n x → AgreeOn (λ y. names y (conj gs) || names y e) (bound us x.values env) n.locals
    agree_tests n x g = agree_left (λ y. names y (conj gs) || names y e) (λ y. is_free y a') (bound us x.values env) n.locals (agree_inside n x g)

    -- a test has the value on both sides
    tested : (n : Machine) (x : Answer) → In n x → (t : Exp) → AgreeOn (λ y. names y t) (bound us x.values env) n.locals → holds_on l n t ≡ holds l (bound us x.values env) x.state t
    tested n x g t h = sym (ap (λ s. holds l (bound us x.values env) s t) g.now.state ∙ holds_agrees l (bound us x.values env) n.locals n.state t h)

    enters : (n : Machine) (x : Answer) → In n x → Corresponds (Either In After) BothFail (Simpl.entered l gs e n) (Mon.entered l (conj gs) e (λ b. bound us b.values env) x)
    enters n x g =
        subst (λ b. Corresponds (Either In After) BothFail (Simpl.entered l gs e n) (choose b (choose (holds l (bound us x.values env) x.state e) (done (inl x)) (done (inr x))) (fault tt)))
        (tested n x g (conj gs) (agree_left (λ y. names y (conj gs)) (λ y. names y e) (bound us x.values env) n.locals (agree_tests n x g)))
        (checked_at_once (Either In After) l n _ _
        (choose_corresponds (Either In After) BothFail _ _ _ _ _ _ (tested n x g e (agree_right (λ y. names y (conj gs)) (λ y. names y e) (bound us x.values env) n.locals (agree_tests n x g)))
        (λ t. done_corresponds (Either In After) BothFail (inl n) (inl x) g) (λ t. done_corresponds (Either In After) BothFail (inr (Normal n)) (inr x) g)) gs)

    turn : (fs : List Simpl.Runs) (hs : List Mon.Runs) → Paired (KeptAsSigned signatures) fs hs → (n : Machine) (x : Answer) → In n x →
        Corresponds (Either In After) BothFail (Then (execs l p ctx.locals a depth fs n) turned) (Then (runs l p a' (bound us x.values env) depth hs x.state) (λ b. done (inl b)))
    turn fs hs k n x g =
        then_corresponds (λ f b. GivesAt us f b × Stays a n f) (Either In After) BothFail _ _ _ _
        (also (Stays a n)
        (subst (λ s. Corresponds (GivesAt us) BothFail (execs l p ctx.locals a depth fs n) (runs l p a' (bound us x.values env) depth hs s)) (sym g.now.state)
        (sa depth fs hs k fit n (bound us x.values env) (agree_right (λ y. names y (conj gs) || names y e) (λ y. is_free y a') (bound us x.values env) n.locals (agree_inside n x g))))
        (λ f e y d. unassigned_stays l p ctx.locals depth y (n.locals y) a d fs n refl f e))
        after_turn
      where
        after_turn : (f : Flow) (b : Answer) → GivesAt us f b × Stays a n f → TurnsSame (turned f) (done (inl b))
        after_turn (Normal m) b t = done_corresponds (Either In After) BothFail (inl m) (inl b) (record { now = t.0; stays = λ y d. t.1 y d ∙ g.stays y d })
        after_turn (Abrupt m) b t = absurd t.0

    looped : (fs : List Simpl.Runs) (hs : List Mon.Runs) → Paired (KeptAsSigned signatures) fs hs → (m : Machine) → m.locals ≡ before → (first : List Value) → first ≡ held us before →
        Corresponds (GivesAt vs) BothFail (execs l p ctx.locals (C.While gs e a) depth fs m)
        (Then (loop (Mon.entered l (conj gs) e (λ b. bound us b.values env)) (λ hs b. Then (runs l p a' (bound us b.values env) depth hs b.state) (λ d. done (inl d))) hs (record { values = first; state = m.state }))
        (λ b. runs l p (M.Ret (vars vs)) (bound us b.values env) depth hs b.state))
    looped fs hs k m o first h =
        right_goes_on After (GivesAt vs) BothFail _ _ _
        (loop_corresponds (KeptAsSigned signatures) In After BothFail _ _ _ _ enters turn fs hs k m (record { values = first; state = m.state })
        (record { now = record { values = h ∙ ap (held us) (sym o); state = refl }; stays = λ y d. ap (λ env. env y) o }))
        after_loop
      where
        after_loop : (f : Flow) (x : Answer) → After f x → DoesSame vs (done f) (runs l p (M.Ret (vars vs)) (bound us x.values env) depth hs x.state)
        after_loop (Normal n) x g = gives vs n (bound us x.values env) x.state g.now.state (agree_after n x g)
        after_loop (Abrupt n) x g = absurd g

  while : (gs : List Condition) (e : Exp) (a : Simpl) (a' : Mon) (us vs : List Name) → Carries us a (is_needed (conj gs) e a' vs) → Sound a a' us →
      Sound (C.While gs e a) (M.Bind (M.Loop (as_starts us) (conj gs) e a') us (M.Ret (vars vs))) vs
  while gs e a a' us vs c sa depth fs hs k fit m env h =
      subst
      (λ ns. DoesSame vs (execs l p ctx.locals (C.While gs e a) depth fs m)
      (Then (loop (Mon.entered l (conj gs) e (λ b. bound ns b.values env)) (λ hs b. Then (runs l p a' (bound ns b.values env) depth hs b.state) (λ d. done (inl d))) hs (record { values = start_values l env m.state (as_starts us); state = m.state }))
      (λ b. runs l p (M.Ret (vars vs)) (bound us b.values env) depth hs b.state)))
      (sym (starts_named us))
      (looped gs e a a' us vs c sa depth fit m.locals env
      (λ y t d. free_after (λ z. is_in_start z (as_starts us)) (λ z. names z (conj gs) || names z e || is_free z a') (start_names (as_starts us)) env m.locals of_loop y t (ap (is_among y) (starts_named us) ∙ d))
      (λ y t d. free_after (λ z. is_free z (M.Loop (as_starts us) (conj gs) e a')) (λ z. is_in_some z (vars vs)) us env m.locals h y t d)
      fs hs k m refl (start_values l env m.state (as_starts us))
      (starts_held l m.state us env m.locals
      (agree_left (λ z. is_in_start z (as_starts us)) (λ z. not (is_among z (start_names (as_starts us))) && (names z (conj gs) || names z e || is_free z a')) env m.locals of_loop)))
    where
      of_loop : AgreeOn (λ z. is_free z (M.Loop (as_starts us) (conj gs) e a')) env m.locals
      of_loop = agree_left (λ z. is_free z (M.Loop (as_starts us) (conj gs) e a')) (λ z. not (is_among z us) && is_in_some z (vars vs)) env m.locals h

  -- locals that are no parameters begin with zeros
  start : (w : Bool) (d : Simpl) (zs : List Exp) (xs : List Name) (d' : Mon) (vs : List Name) → w ≡ true → zeros ctx.locals xs ≡ Some zs → AreNone xs ctx.parameters →
      IfTrue w (AllFreeAmong ctx.parameters (M.Bind (M.Ret zs) xs d')) → Sound d d' vs → SoundAt w d (M.Bind (M.Ret zs) xs d') vs
  start false d zs xs d' vs e z n free s = absurd (false≢true e)
  start true d zs xs d' vs e z n free s = λ depth fs gs k fit m env h.
      same_on_right (after_done _ _) (s depth fs gs k fit m (bound xs (values_of l env m.state zs) env)
      (rebound xs (values_of l env m.state zs) env m.locals (zeros_held l m.state env m.locals ctx.locals xs zs z (λ x j t. h.others x j (n x t))) (λ y. is_free y d')
      (λ y t b. h.parameters y (free y (or_right (is_in_some y zs) (not (is_among y xs) && is_free y d') (and_from (not (is_among y xs)) (is_free y d') (not_from_false (is_among y xs) b) t))))))

  abbrev AllSound : List Claim → Type 1
  AllSound cs = AllHold (λ c. SoundAt c.is_whole c.left c.right c.outputs) cs

  -- one case for each row
  row_sound : (w : Bool) (vs : List Name) (rule : Rule) (a : Simpl) (b : Mon) → (row ctx w vs rule a b).holds → IfTrue w (AllFreeAmong ctx.parameters b) → AllSound (row ctx w vs rule a b).parts → SoundAt w a b vs
  row_sound w vs R.Skip C.Skip (M.Ret es) e free s = from_part w C.Skip (M.Ret es) vs free (subst (λ os. Sound C.Skip (M.Ret os) vs) (sym e) (skip vs))
  row_sound w vs R.Set (C.Set x v) (M.Ret es) e free s = from_part w (C.Set x v) (M.Ret es) vs free (subst (λ os. Sound (C.Set x v) (M.Ret os) vs) (sym e.1) (set x v vs))
  row_sound w vs R.Dead (C.Set x v) (M.Ret es) e free s = from_part w (C.Set x v) (M.Ret es) vs free (subst (λ os. Sound (C.Set x v) (M.Ret os) vs) (sym e.1) (dead x v vs e.0))
  row_sound w vs R.Global (C.SetGlobal x path v) (M.Bind (M.Write place v') [] (M.Ret es)) e free s =
      from_part w (C.SetGlobal x path v) (M.Bind (M.Write place v') [] (M.Ret es)) vs free
      (subst (λ q. Sound (C.SetGlobal x path v) (M.Bind (M.Write q v') [] (M.Ret es)) vs) (sym e.0)
      (subst (λ u. Sound (C.SetGlobal x path v) (M.Bind (M.Write (M.Global x path) u) [] (M.Ret es)) vs) (sym e.1)
      (subst (λ os. Sound (C.SetGlobal x path v) (M.Bind (M.Write (M.Global x path) v) [] (M.Ret os)) vs) (sym e.2) (global x path v vs))))
  row_sound w vs R.Memory (C.Store t q path v) (M.Bind (M.Write place v') [] (M.Ret es)) e free s =
      from_part w (C.Store t q path v) (M.Bind (M.Write place v') [] (M.Ret es)) vs free
      (subst (λ r. Sound (C.Store t q path v) (M.Bind (M.Write r v') [] (M.Ret es)) vs) (sym e.0)
      (subst (λ u. Sound (C.Store t q path v) (M.Bind (M.Write (M.Stored t q path) u) [] (M.Ret es)) vs) (sym e.1)
      (subst (λ os. Sound (C.Store t q path v) (M.Bind (M.Write (M.Stored t q path) v) [] (M.Ret os)) vs) (sym e.2) (memory t q path v vs))))
  row_sound w vs R.Pick (C.Pick x) (M.Bind (M.Pick k) (y ∷ []) (M.Ret es)) e free s =
      from_part w (C.Pick x) (M.Bind (M.Pick k) (y ∷ []) (M.Ret es)) vs free
      (subst (λ z. Sound (C.Pick x) (M.Bind (M.Pick k) (z ∷ []) (M.Ret es)) vs) (sym e.1)
      (subst (λ os. Sound (C.Pick x) (M.Bind (M.Pick k) (x ∷ []) (M.Ret os)) vs) (sym e.2) (pick x k vs e.0)))
  row_sound w vs R.Seq (C.Seq a b) (M.Bind a' us b') e free s = from_part w (C.Seq a b) (M.Bind a' us b') vs free (seq a b a' b' us vs e s.0 s.1.0)
  row_sound w vs R.Cond (C.Cond v a b) (M.If v' a' b') e free s =
      from_part w (C.Cond v a b) (M.If v' a' b') vs free (subst (λ u. Sound (C.Cond v a b) (M.If u a' b') vs) (sym e) (choice v a b a' b' vs s.0 s.1.0))
  row_sound w vs R.Guard (C.Guard g a) (M.Bind (M.Guard v) [] a') e free s =
      from_part w (C.Guard g a) (M.Bind (M.Guard v) [] a') vs free (subst (λ u. Sound (C.Guard g a) (M.Bind (M.Guard u) [] a') vs) (sym e) (guard g a a' vs s.0))
  row_sound w vs R.While (C.While gs v a) (M.Bind (M.Loop starts c v' a') us (M.Ret es)) e free s =
      from_part w (C.While gs v a) (M.Bind (M.Loop starts c v' a') us (M.Ret es)) vs free
      (subst (λ z. Sound (C.While gs v a) (M.Bind (M.Loop z c v' a') us (M.Ret es)) vs) (sym e.0)
      (subst (λ os. Sound (C.While gs v a) (M.Bind (M.Loop (as_starts us) c v' a') us (M.Ret os)) vs) (sym e.3) (loop_of e.1 e.2 e.4)))
    where
      loop_of : c ≡ conj gs → v' ≡ v → Carries us a (is_needed c v' a' vs) → Sound (C.While gs v a) (M.Bind (M.Loop (as_starts us) c v' a') us (M.Ret (vars vs))) vs
      loop_of i j = subst (λ d. Carries us a (is_needed d v' a' vs) → Sound (C.While gs v a) (M.Bind (M.Loop (as_starts us) d v' a') us (M.Ret (vars vs))) vs) (sym i)
          (subst (λ u. Carries us a (is_needed (conj gs) u a' vs) → Sound (C.While gs v a) (M.Bind (M.Loop (as_starts us) (conj gs) u a') us (M.Ret (vars vs))) vs) (sym j)
          (λ k. while gs v a a' us vs k s.0))
  row_sound w vs R.Call (C.Call (Some x) f es) (M.Bind (M.Call g es') (y ∷ []) (M.Ret os)) e free s =
      from_part w (C.Call (Some x) f es) (M.Bind (M.Call g es') (y ∷ []) (M.Ret os)) vs free
      (subst (λ h. Sound (C.Call (Some x) f es) (M.Bind (M.Call h es') (y ∷ []) (M.Ret os)) vs) (sym e.0)
      (subst (λ us. Sound (C.Call (Some x) f es) (M.Bind (M.Call f us) (y ∷ []) (M.Ret os)) vs) (sym e.1)
      (subst (λ z. Sound (C.Call (Some x) f es) (M.Bind (M.Call f es) (z ∷ []) (M.Ret os)) vs) (sym e.2)
      (subst (λ us. Sound (C.Call (Some x) f es) (M.Bind (M.Call f es) (x ∷ []) (M.Ret us)) vs) (sym e.3) (call x f es vs)))))
  row_sound w vs R.Void (C.Call None f es) (M.Bind (M.Call g es') [] (M.Ret os)) e free s =
      from_part w (C.Call None f es) (M.Bind (M.Call g es') [] (M.Ret os)) vs free
      (subst (λ h. Sound (C.Call None f es) (M.Bind (M.Call h es') [] (M.Ret os)) vs) (sym e.0)
      (subst (λ us. Sound (C.Call None f es) (M.Bind (M.Call f us) [] (M.Ret os)) vs) (sym e.1)
      (subst (λ us. Sound (C.Call None f es) (M.Bind (M.Call f es) [] (M.Ret us)) vs) (sym e.2) (void f es vs))))
  row_sound w vs R.Start d (M.Bind (M.Ret zs) xs d') e free s = start w d zs xs d' vs e.0 e.1 e.2 free s.0
  row_sound _ _ _ _ _ e free s = absurd e

  sound_at : (w : Bool) (t : Tree Rule) (a : Simpl) (b : Mon) (vs : List Name) → Accepts (table ctx) t (record { left = a; right = b; outputs = vs; is_whole = w }) → SoundAt w a b vs
  sound_at w t a b vs h =
      accepted_holds (table ctx) (λ c. SoundAt c.is_whole c.left c.right c.outputs) (λ rule c e s. row_sound c.is_whole c.outputs rule c.left c.right e.0 e.1 s) t
      (record { left = a; right = b; outputs = vs; is_whole = w }) h

  pub takes_sound : (t : Tree Rule) (a : Simpl) (b : Mon) (vs : List Name) → Takes ctx t a b vs → Sound a b vs
  takes_sound = sound_at false

  pub takes_whole_sound : (t : Tree Rule) (a : Simpl) (b : Mon) (vs : List Name) → TakesWhole ctx t a b vs → SoundFrom (Begins ctx) a b vs
  takes_whole_sound = sound_at true
