-- Two programs that do the same, put together: the same answers from one state, failing alike and stopping alike; and what holds at each
-- write and each call that the left side reaches holds at each that the right side reaches.
use Rattle.std.proofs.Common.{◌≡◌, ℕ, Bool, true, false, List, [], ◌∷◌, Option, ◌⊎◌, inl, inr, refl, sym, ap, ◌∙◌, subst}
use Rattle.correspondence.specs.Outcome.{Done, Ends, done, Then, choose, loop}
use Rattle.correspondence.specs.Corresponds.{Corresponds, Either, Paired}
use Rattle.correspondence.specs.Related.{Related, Same, BothFail}
use Rattle.correspondence.proofs.Corresponds.{done_corresponds, fault_corresponds, then_corresponds, choose_corresponds}
use Rattle.correspondence.proofs.Related.{called_related}
use Rattle.correspondence.proofs.Turning.{turning_corresponds, Reached, reached}
use Rattle.c_values.specs.Name.{Name}
use Rattle.c_values.specs.Value.{truth_in}
use Rattle.c_values.specs.Layout.{Layout, GlobalVar}
use Rattle.c_values.specs.Choice.{Choice}
use Rattle.expression_lang.specs.Expression.{Exp}
use Rattle.expression_lang.specs.Evaluation.{Env, State, value, holds}
use Rattle.expression_lang.specs.Sort.{Kind, sort_of_kind}
use Rattle.expression_lang.specs.Signature.{Signature, Invocation, values_of, bound}
use Rattle.monad_lang.specs.Program as M
use Rattle.monad_lang.specs.Program.{Mon, Place, Start}
use Rattle.monad_lang.specs.Run.{Answer, Failure, Runs, runs, written, entered, start_names, start_values}
use Rattle.monad_lang.specs.Reach.{AtEach, EachTurn, IsTurn, IfTrue, IfFalse}
use Rattle.program_facts.specs.Places.{place_children, place_head}
use Rattle.program_facts.specs.Lasting.{FunctionLasts, FunctionKeepsTags, AllLast, AllKeepTags, CanBeCalled}
use Rattle.rule_eq.specs.Kept.{SameCall}
use Rattle.program_facts.proofs.PlacesAgree.{written_same}

-- what holds at a write or a call hangs on its values alone
pub record Respects (l : Layout) (P : Mon → Env → State → Type 0) : Type 0 where
  pub write : (env env' : Env) (s : State) (q q' : Place) (e e' : Exp) → place_head q' ≡ place_head q → values_of l env' s (place_children q') ≡ values_of l env s (place_children q) → P (M.Write q e) env s → P (M.Write q' e') env' s
  pub call : (env env' : Env) (s : State) (f : Name) (es es' : List Exp) → values_of l env' s es' ≡ values_of l env s es → P (M.Call f es) env s → P (M.Call f es') env' s

-- any run does as itself
pub itself : {A F : Type 0} (q : Ends A F) → Corresponds Same BothFail q q
itself q = record {
  done = λ a x. (a, refl, x);
  done_back = λ a x. (a, refl, x);
  failed = λ f x. (f, tt, x);
  failed_back = λ f x. (f, tt, x);
  stopped = λ w x. x;
  stopped_back = λ w x. x;
}

-- one of two, by tests that are the same
pub chosen : (b b' : Bool) (A A' B B' : Type 0) → b' ≡ b → (b ≡ true → A → A') → (b ≡ false → B → B') → IfTrue b A × IfFalse b B → IfTrue b' A' × IfFalse b' B'
chosen true true A A' B B' e f g h = (f refl h.0, tt)
chosen false false A A' B B' e f g h = (tt, g refl h.1)
chosen true false A A' B B' e f g h = absurd cc
chosen false true A A' B B' e f g h = absurd cc

module _ (l : Layout) (p : Choice) (vs : List GlobalVar) (sigs : List Signature) (P : Mon → Env → State → Type 0) (respects : Respects l P) where
  -- functions of both sides, which do the same, last and keep the tags
  pub record AreFunctions (f g : Runs) : Type 0 where
    pub same : Related (SameCall l vs sigs) (λ c. Same) BothFail f g
    pub last_left : FunctionLasts l vs sort_of_kind sigs f
    pub last_right : FunctionLasts l vs sort_of_kind sigs g
    pub tags_left : FunctionKeepsTags f
    pub tags_right : FunctionKeepsTags g

  abbrev pub Pairs : List Runs → List Runs → Type 0
  Pairs fs gs = Paired AreFunctions fs gs

  all_same : (fs gs : List Runs) → Pairs fs gs → Paired (Related (SameCall l vs sigs) (λ c. Same) BothFail) fs gs
  all_same [] [] h = tt
  all_same (f ∷ fs) (g ∷ gs) h = (h.0.same, all_same fs gs h.1)
  all_same [] (g ∷ gs) h = absurd h
  all_same (f ∷ fs) [] h = absurd h

  pub lasts_left : (fs gs : List Runs) → Pairs fs gs → AllLast l vs sort_of_kind sigs fs
  lasts_left [] [] h = tt
  lasts_left (f ∷ fs) (g ∷ gs) h = (h.0.last_left, lasts_left fs gs h.1)
  lasts_left [] (g ∷ gs) h = absurd h
  lasts_left (f ∷ fs) [] h = absurd h

  pub lasts_right : (fs gs : List Runs) → Pairs fs gs → AllLast l vs sort_of_kind sigs gs
  lasts_right [] [] h = tt
  lasts_right (f ∷ fs) (g ∷ gs) h = (h.0.last_right, lasts_right fs gs h.1)
  lasts_right [] (g ∷ gs) h = absurd h
  lasts_right (f ∷ fs) [] h = absurd h

  pub keep_left : (fs gs : List Runs) → Pairs fs gs → AllKeepTags fs
  keep_left [] [] h = tt
  keep_left (f ∷ fs) (g ∷ gs) h = (h.0.tags_left, keep_left fs gs h.1)
  keep_left [] (g ∷ gs) h = absurd h
  keep_left (f ∷ fs) [] h = absurd h

  pub keep_right : (fs gs : List Runs) → Pairs fs gs → AllKeepTags gs
  keep_right [] [] h = tt
  keep_right (f ∷ fs) (g ∷ gs) h = (h.0.tags_right, keep_right fs gs h.1)
  keep_right [] (g ∷ gs) h = absurd h
  keep_right (f ∷ fs) [] h = absurd h

  -- the right side's functions with themselves
  pub with_themselves : (fs gs : List Runs) → Pairs fs gs → Pairs gs gs
  with_themselves [] [] h = tt
  with_themselves (f ∷ fs) (g ∷ gs) h = (
    record {
      same = λ depth c c' k. subst (λ d. Corresponds Same BothFail (g depth c) (g depth d)) (sym k.same) (itself (g depth c));
      last_left = h.0.last_right;
      last_right = h.0.last_right;
      tags_left = h.0.tags_right;
      tags_right = h.0.tags_right;
    },
    with_themselves fs gs h.1,
  )
  with_themselves [] (g ∷ gs) h = absurd h
  with_themselves (f ∷ fs) [] h = absurd h

  abbrev pub AreSame : Ends Answer Failure → Ends Answer Failure → Type 0
  AreSame q r = Corresponds Same BothFail q r

  -- The right side, in its environment and over its functions, does what the left side does in its own.
  pub record Does (m m' : Mon) (env env' : Env) (depth : Option ℕ) (fs gs : List Runs) (s : State) : Type 0 where
    pub same : AreSame (runs l p m env depth fs s) (runs l p m' env' depth gs s)
    pub reach : AtEach l p P m env depth fs s → AtEach l p P m' env' depth gs s

  pub ret_does : (es es' : List Exp) (env env' : Env) (depth : Option ℕ) (fs gs : List Runs) (s : State) → values_of l env' s es' ≡ values_of l env s es → Does (M.Ret es) (M.Ret es') env env' depth fs gs s
  ret_does es es' env env' depth fs gs s h =
      record { same = done_corresponds Same BothFail _ _ (ap (λ us. let a : Answer = record { values = us; state = s } in a) h); reach = λ r. tt }

  pub guard_does : (e e' : Exp) (env env' : Env) (depth : Option ℕ) (fs gs : List Runs) (s : State) → value l env' s e' ≡ value l env s e → Does (M.Guard e) (M.Guard e') env env' depth fs gs s
  guard_does e e' env env' depth fs gs s h =
      record {
        same = choose_corresponds Same BothFail (holds l env s e) (holds l env' s e') _ _ _ _ (sym (ap truth_in h)) (λ i. done_corresponds Same BothFail _ _ refl) (λ i. fault_corresponds Same BothFail tt tt tt);
        reach = λ r. tt;
      }

  pub choice_does : (e e' : Exp) (m m' n n' : Mon) (env env' : Env) (depth : Option ℕ) (fs gs : List Runs) (s : State) → value l env' s e' ≡ value l env s e →
      (holds l env s e ≡ true → Does m m' env env' depth fs gs s) → (holds l env s e ≡ false → Does n n' env env' depth fs gs s) → Does (M.If e m n) (M.If e' m' n') env env' depth fs gs s
  choice_does e e' m m' n n' env env' depth fs gs s h j k =
      record {
        same = choose_corresponds Same BothFail (holds l env s e) (holds l env' s e') _ _ _ _ (sym (ap truth_in h)) (λ i. (j i).same) (λ i. (k i).same);
        reach = chosen (holds l env s e) (holds l env' s e') (AtEach l p P m env depth fs s) (AtEach l p P m' env' depth gs s) (AtEach l p P n env depth fs s) (AtEach l p P n' env' depth gs s)
            (ap truth_in h) (λ i. (j i).reach) (λ i. (k i).reach);
      }

  pub bind_does : (m m' : Mon) (xs : List Name) (n n' : Mon) (env env' : Env) (depth : Option ℕ) (fs gs : List Runs) (s : State) → Does m m' env env' depth fs gs s →
      ((a : Answer) → runs l p m env depth fs s (Done a) → runs l p m' env' depth gs s (Done a) → Does n n' (bound xs a.values env) (bound xs a.values env') depth fs gs a.state) →
      Does (M.Bind m xs n) (M.Bind m' xs n') env env' depth fs gs s
  bind_does m m' xs n n' env env' depth fs gs s d k =
      record {
        same = then_corresponds (Reached Same left right) Same BothFail left right _ _ (reached Same BothFail left right d.same) rest;
        reach = λ h. (d.reach h.0, λ a r. let y = d.same.done_back a r in let i : left (Done a) = subst (λ b. left (Done b)) (sym y.1) y.2 in (k a i r).reach (h.1 a i));
      }
    where
      left : Ends Answer Failure
      left = runs l p m env depth fs s

      right : Ends Answer Failure
      right = runs l p m' env' depth gs s

      rest : (a b : Answer) → Reached Same left right a b → AreSame (runs l p n (bound xs a.values env) depth fs a.state) (runs l p n' (bound xs b.values env') depth gs b.state)
      rest a b r =
          subst (λ c. AreSame (runs l p n (bound xs a.values env) depth fs a.state) (runs l p n' (bound xs c.values env') depth gs c.state)) (sym r.related)
          (k a r.left (subst (λ c. right (Done c)) r.related r.right)).same

  pub write_does : (q q' : Place) (e e' : Exp) (env env' : Env) (depth : Option ℕ) (fs gs : List Runs) (s : State) → place_head q' ≡ place_head q → values_of l env' s (place_children q') ≡ values_of l env s (place_children q) →
      value l env' s e' ≡ value l env s e → Does (M.Write q e) (M.Write q' e') env env' depth fs gs s
  write_does q q' e e' env env' depth fs gs s h k i =
      record {
        same = done_corresponds Same BothFail _ _
            (ap (λ t. let a : Answer = record { values = []; state = t } in a) (ap (λ v. written l env' s q' v) i ∙ written_same l env env' s q q' (value l env s e) h k));
        reach = respects.write env env' s q q' e e' h k;
      }

  pub call_does : (f : Name) (es es' : List Exp) (env env' : Env) (depth : Option ℕ) (fs gs : List Runs) (s : State) → Pairs fs gs → CanBeCalled l vs sigs (record { name = f; arguments = values_of l env s es; state = s }) →
      values_of l env' s es' ≡ values_of l env s es → Does (M.Call f es) (M.Call f es') env env' depth fs gs s
  call_does f es es' env env' depth fs gs s paired can h =
      record {
        same = called_related (SameCall l vs sigs) (λ c. Same) BothFail fs gs (all_same fs gs paired) depth _ _
            (record { same = ap (λ us. let c : Invocation = record { name = f; arguments = us; state = s } in c) h; call = can });
        reach = respects.call env env' s f es es' h;
      }

  pub pick_does : (k : Kind) (env env' : Env) (depth : Option ℕ) (fs gs : List Runs) (s : State) → Does (M.Pick k) (M.Pick k) env env' depth fs gs s
  pick_does k env env' depth fs gs s = record { same = itself _; reach = λ h. tt }

  -- Loops whose guards and tests are the same wherever a turn may begin, and whose bodies do the same there, and end where a turn may begin.
  module _ (xs : List Name) (guard guard' test test' : Exp) (m m' : Mon) (env env' : Env) (depth : Option ℕ) (Inv : Answer → Type 0)
      (guards : (a : Answer) → Inv a → holds l (bound xs a.values env') a.state guard' ≡ holds l (bound xs a.values env) a.state guard)
      (tests : (a : Answer) → Inv a → holds l (bound xs a.values env) a.state guard ≡ true → holds l (bound xs a.values env') a.state test' ≡ holds l (bound xs a.values env) a.state test)
      (body : (fs gs : List Runs) → Pairs fs gs → (a : Answer) → Inv a → IsTurn l guard test (bound xs a.values env) a.state → Does m m' (bound xs a.values env) (bound xs a.values env') depth fs gs a.state)
      (goes_on : (fs gs : List Runs) → Pairs fs gs → (a : Answer) → Inv a → (b : Answer) → runs l p m (bound xs a.values env) depth fs a.state (Done b) → runs l p m' (bound xs a.values env') depth gs a.state (Done b) → Inv b) where
    abbrev env_of : Answer → Env
    env_of a = bound xs a.values env

    abbrev env_of' : Answer → Env
    env_of' a = bound xs a.values env'

    -- between turns, and where a turn is made
    pub record Between (a b : Answer) : Type 0 where
      pub related : b ≡ a
      pub may : Inv a

    record Inside (a b : Answer) : Type 0 where
      pub between : Between a b
      pub turn : IsTurn l guard test (env_of a) a.state

    abbrev Next : Answer ⊎ Answer → Answer ⊎ Answer → Type 0
    Next = Either Inside Same

    abbrev Turned : Answer ⊎ Answer → Answer ⊎ Answer → Type 0
    Turned = Either Between Same

    enters_at : (a : Answer) → Inv a → Corresponds Next BothFail (entered l guard test env_of a) (entered l guard' test' env_of' a)
    enters_at a i =
        choose_corresponds Next BothFail (holds l (env_of a) a.state guard) (holds l (env_of' a) a.state guard') _ _ _ _ (sym (guards a i)) tested (λ h. fault_corresponds Next BothFail tt tt tt)
      where
        tested : holds l (env_of a) a.state guard ≡ true →
            Corresponds {F = Failure} {G = Failure} Next BothFail (choose (holds l (env_of a) a.state test) (done (inl a)) (done (inr a))) (choose (holds l (env_of' a) a.state test') (done (inl a)) (done (inr a)))
        tested h =
            choose_corresponds Next BothFail (holds l (env_of a) a.state test) (holds l (env_of' a) a.state test') _ _ _ _ (sym (tests a i h))
            (λ k. done_corresponds Next BothFail (inl a) (inl a) (record { between = record { related = refl; may = i }; turn = (h, k) })) (λ k. done_corresponds Next BothFail (inr a) (inr a) refl)

    enters : (a b : Answer) → Between a b → Corresponds Next BothFail (entered l guard test env_of a) (entered l guard' test' env_of' b)
    enters a b i = subst (λ c. Corresponds Next BothFail (entered l guard test env_of a) (entered l guard' test' env_of' c)) (sym i.related) (enters_at a i.may)

    turn_at : (fs gs : List Runs) → Pairs fs gs → (a : Answer) → Inv a → IsTurn l guard test (env_of a) a.state →
        Corresponds Turned BothFail (Then (runs l p m (env_of a) depth fs a.state) (λ b. done (inl b))) (Then (runs l p m' (env_of' a) depth gs a.state) (λ b. done (inl b)))
    turn_at fs gs paired a i t =
        let left = runs l p m (env_of a) depth fs a.state in
        let right = runs l p m' (env_of' a) depth gs a.state in
        then_corresponds (Reached Same left right) Turned BothFail left right _ _ (reached Same BothFail left right (body fs gs paired a i t).same)
        (λ b c r. done_corresponds Turned BothFail (inl b) (inl c) (record { related = r.related; may = goes_on fs gs paired a i b r.left (subst (λ d. right (Done d)) r.related r.right) }))

    turn : (fs gs : List Runs) → Pairs fs gs → (a b : Answer) → Inside a b →
        Corresponds Turned BothFail (Then (runs l p m (env_of a) depth fs a.state) (λ c. done (inl c))) (Then (runs l p m' (env_of' b) depth gs b.state) (λ c. done (inl c)))
    turn fs gs paired a b i =
        subst (λ c. Corresponds Turned BothFail (Then (runs l p m (env_of a) depth fs a.state) (λ d. done (inl d))) (Then (runs l p m' (env_of' c) depth gs c.state) (λ d. done (inl d))))
        (sym i.between.related) (turn_at fs gs paired a i.between.may i.turn)

    pub turns_same : (fs gs : List Runs) → Pairs fs gs → (a : Answer) → Inv a →
        AreSame (loop (entered l guard test env_of) (λ hs b. Then (runs l p m (env_of b) depth hs b.state) (λ c. done (inl c))) fs a)
        (loop (entered l guard' test' env_of') (λ hs b. Then (runs l p m' (env_of' b) depth hs b.state) (λ c. done (inl c))) gs a)
    turns_same fs gs paired a i =
        turning_corresponds AreFunctions Between Inside Same BothFail (entered l guard test env_of) (entered l guard' test' env_of')
        (λ hs b. Then (runs l p m (env_of b) depth hs b.state) (λ c. done (inl c))) (λ hs b. Then (runs l p m' (env_of' b) depth hs b.state) (λ c. done (inl c)))
        enters turn fs gs paired a a (record { related = refl; may = i })

    abbrev LeftTurns : List Runs → Answer → Type 0
    LeftTurns fs a = EachTurn (λ b. IsTurn l guard test (env_of b) b.state) (λ hs b. AtEach l p P m (env_of b) depth hs b.state) (λ hs b c. runs l p m (env_of b) depth hs b.state (Done c)) fs a

    abbrev RightTurns : List Runs → Answer → Type 0
    RightTurns gs a = EachTurn (λ b. IsTurn l guard' test' (env_of' b) b.state) (λ hs b. AtEach l p P m' (env_of' b) depth hs b.state) (λ hs b c. runs l p m' (env_of' b) depth hs b.state (Done c)) gs a

    pub turns_reach : (fs gs : List Runs) → Pairs fs gs → (a : Answer) → Inv a → LeftTurns fs a → RightTurns gs a
    turns_reach [] [] paired a i h = tt
    turns_reach [] (g ∷ gs) paired a i h = absurd paired
    turns_reach (f ∷ fs) [] paired a i h = absurd paired
    turns_reach (f ∷ fs) (g ∷ gs) paired a i h =
        λ t'.
        let guarded : holds l (env_of a) a.state guard ≡ true = sym (guards a i) ∙ t'.0 in
        let t : IsTurn l guard test (env_of a) a.state = (guarded, sym (tests a i guarded) ∙ t'.1) in
        let d = body fs gs paired.1 a i t in
        let k = h t in (
          d.reach k.0,
          λ b r. let y = d.same.done_back b r in let j : runs l p m (env_of a) depth fs a.state (Done b) = subst (λ c. runs l p m (env_of a) depth fs a.state (Done c)) (sym y.1) y.2 in
              turns_reach fs gs paired.1 b (goes_on fs gs paired.1 a i b j r) (k.1 b j),
        )

  pub loop_does : (starts starts' : List Start) (guard guard' test test' : Exp) (m m' : Mon) (env env' : Env) (depth : Option ℕ) (Inv : Answer → Type 0) →
      ((a : Answer) → Inv a → holds l (bound (start_names starts) a.values env') a.state guard' ≡ holds l (bound (start_names starts) a.values env) a.state guard) →
      ((a : Answer) → Inv a → holds l (bound (start_names starts) a.values env) a.state guard ≡ true → holds l (bound (start_names starts) a.values env') a.state test' ≡ holds l (bound (start_names starts) a.values env) a.state test) →
      ((fs gs : List Runs) → Pairs fs gs → (a : Answer) → Inv a → IsTurn l guard test (bound (start_names starts) a.values env) a.state → Does m m' (bound (start_names starts) a.values env) (bound (start_names starts) a.values env') depth fs gs a.state) →
      ((fs gs : List Runs) → Pairs fs gs → (a : Answer) → Inv a → (b : Answer) → runs l p m (bound (start_names starts) a.values env) depth fs a.state (Done b) → runs l p m' (bound (start_names starts) a.values env') depth gs a.state (Done b) → Inv b) →
      (fs gs : List Runs) → Pairs fs gs → (s : State) → start_names starts' ≡ start_names starts → start_values l env' s starts' ≡ start_values l env s starts → Inv (record { values = start_values l env s starts; state = s }) →
      Does (M.Loop starts guard test m) (M.Loop starts' guard' test' m') env env' depth fs gs s
  loop_does starts starts' guard guard' test test' m m' env env' depth Inv guards tests body goes_on fs gs paired s named begun i =
      let xs = start_names starts in
      let a : Answer = record { values = start_values l env s starts; state = s } in
      let a' : Answer = record { values = start_values l env' s starts'; state = s } in
      let same : a' ≡ a = ap (λ us. let b : Answer = record { values = us; state = s } in b) begun in
      let does = turns_same xs guard guard' test test' m m' env env' depth Inv guards tests body goes_on fs gs paired a i in
      let reach = turns_reach xs guard guard' test test' m m' env env' depth Inv guards tests body goes_on fs gs paired a i in
      record {
        same = subst (λ ys. AreSame (runs l p (M.Loop starts guard test m) env depth fs s) (loop (entered l guard' test' (λ b. bound ys b.values env')) (λ hs b. Then (runs l p m' (bound ys b.values env') depth hs b.state) (λ c. done (inl c))) gs a')) (sym named)
            (subst (λ b'. AreSame (runs l p (M.Loop starts guard test m) env depth fs s) (loop (entered l guard' test' (λ b. bound xs b.values env')) (λ hs b. Then (runs l p m' (bound xs b.values env') depth hs b.state) (λ c. done (inl c))) gs b')) (sym same) does);
        reach = λ h. subst (λ ys. EachTurn (λ b. IsTurn l guard' test' (bound ys b.values env') b.state) (λ hs b. AtEach l p P m' (bound ys b.values env') depth hs b.state) (λ hs b c. runs l p m' (bound ys b.values env') depth hs b.state (Done c)) gs a') (sym named)
            (subst (λ b'. EachTurn (λ b. IsTurn l guard' test' (bound xs b.values env') b.state) (λ hs b. AtEach l p P m' (bound xs b.values env') depth hs b.state) (λ hs b c. runs l p m' (bound xs b.values env') depth hs b.state (Done c)) gs b') (sym same) (reach h));
      }
