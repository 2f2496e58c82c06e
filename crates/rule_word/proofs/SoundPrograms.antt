-- The rules of programs are sound: one lemma for each row of the table, and the induction over an accepted tree.
use Rattle.std.proofs.Common.{◌≡◌, ℕ, suc, Bool, true, false, ◌&&◌, List, [], ◌∷◌, ◌++◌, length, map, Option, Some, None, inl, inr, refl, sym, subst, ap, ap₂, ◌∙◌}
use Rattle.std.proofs.lemmas.Bool.{not_from_false}
use Rattle.correspondence.specs.Outcome.{Done, Ends, done, fault, Then, choose, loop}
use Rattle.correspondence.specs.Corresponds.{Corresponds, Either, Paired}
use Rattle.correspondence.specs.Related.{BothFail}
use Rattle.correspondence.proofs.Corresponds.{done_corresponds, fault_corresponds, then_corresponds, choose_corresponds, corresponds_weaker}
use Rattle.correspondence.proofs.Related.{called_related}
use Rattle.correspondence.proofs.Steps.{right_goes_on}
use Rattle.correspondence.proofs.Turning.{turning_corresponds, Reached, reached}
use Rattle.c_values.specs.Name.{Name, are_distinct}
use Rattle.c_values.specs.Word.{unsigned, signed}
use Rattle.c_values.specs.Value.{Value, Bits, Number, truth_in}
use Rattle.c_values.specs.Choice.{Choice, picked}
use Rattle.c_values.specs.Layout.{Layout, IsLayout}
use Rattle.expression_lang.specs.Expression.{Exp}
use Rattle.expression_lang.specs.Evaluation.{Env, State, value, holds}
use Rattle.expression_lang.specs.Sort.{Kind, WordKind, NatKind, IntKind, BoolKind, word_sort_of, WordSort, NumberSort, is_width}
use Rattle.expression_lang.specs.Signature.{Signature, Invocation, kinds_of, signature, bound, values_of}
use Rattle.expression_lang.specs.States.{IsEnvironment, IsState}
use Rattle.expression_lang.specs.View.{views_at, view_at, AreOfKinds, picked_at}
use Rattle.ac_expr.specs.Fact.{Fact, Whole, NotTrue, AllSay}
use Rattle.program_facts.specs.Lasting.{AreOfSorts, FunctionKeepsTags, FunctionLasts, AllKeepTags, AllLast, Lasts}
use Rattle.monad_lang.specs.Program as M
use Rattle.monad_lang.specs.Program.{Mon, Place, Start}
use Rattle.monad_lang.specs.Reach.{AtEach, EachTurn, IsTurn, IfTrue, IfFalse}
use Rattle.monad_lang.specs.Run.{Answer, Failure, Runs, runs, written, entered, start_names, start_values}
use Rattle.monad_lang.specs.Sorted.{scalars_given, setting_with, start_scalars, one_for_each, where_fits}
use Rattle.program_facts.specs.Flow.{facts_after}
use Rattle.program_facts.specs.Places.{place_children, place_head}
use Rattle.rule_trees.specs.RuleTree.{AllHold, Tree, Accepts}
use Rattle.rule_trees.proofs.Induction.{holds as accepted_holds}
use Rattle.rule_word.specs.Rule as R
use Rattle.rule_word.specs.Rule.{Rule, Context, Point, View, Claim, expression, program}
use Rattle.rule_word.specs.Scopes.{with_kinds, words, view_for, result_as_list}
use Rattle.rule_word.specs.Table.{knowing, truth, each, AreMatched, views_for, owns, recasts, call_row, program_row, table}
use Rattle.rule_parts.specs.Starts.{start_exps}
use Rattle.rule_word.specs.Exact.{AreSeen, Meets, Views}
use Rattle.rule_word.specs.Kept.{WordsKept, AtItsKinds, AnswersAtItsKinds, kinds_taken, kinds_given}
use Rattle.program_facts.proofs.RunsLast.{runs_last}
use Rattle.program_facts.proofs.SortedValues.{bound_sorted}
use Rattle.program_facts.proofs.FactsAfter.{facts_after_hold}
use Rattle.rule_word.proofs.InRange.{views_fit}
use Rattle.program_facts.proofs.PlacesAgree.{written_same, place_as_many, first_of, others_of}
use Rattle.rule_word.proofs.ProgramSorts.{then_inv, if_inv, bind_inv, loop_inv, loop_parts}
use Rattle.rule_word.proofs.ProgramsGive.{Gives, GivesThere, claim_gives}
use Rattle.rule_word.proofs.Recasts.{recast_sorts, recast_values}
use Rattle.rule_word.proofs.ScopesAfter.{names_after, setting_after, seen_kind, sort_of_view, seen_after}
use Rattle.rule_word.proofs.SoundExpressions.{Seen, owned, all_own, one_less, scalar_sorted, row_sound as expression_sound}

module _ (ctx : Context) (lay : IsLayout ctx.layout) (p : Choice) where
  abbrev l : Layout
  l = ctx.layout

  -- functions of both sides, at one bound
  pub record Function (f g : Runs) : Type 0 where
    pub kept : WordsKept ctx f g
    pub lasts : FunctionLasts ctx.layout ctx.globals word_sort_of ctx.functions f
    pub tags : FunctionKeepsTags g

  kept_of : (fs gs : List Runs) → Paired Function fs gs → Paired (WordsKept ctx) fs gs
  kept_of [] [] k = tt
  kept_of (f ∷ fs) (g ∷ gs) k = (k.0.kept, kept_of fs gs k.1)
  kept_of [] (g ∷ gs) k = absurd k
  kept_of (f ∷ fs) [] k = absurd k

  last_of : (fs gs : List Runs) → Paired Function fs gs → AllLast l ctx.globals word_sort_of ctx.functions fs
  last_of [] [] k = tt
  last_of (f ∷ fs) (g ∷ gs) k = (k.0.lasts, last_of fs gs k.1)
  last_of [] (g ∷ gs) k = absurd k
  last_of (f ∷ fs) [] k = absurd k

  tags_of : (fs gs : List Runs) → Paired Function fs gs → AllKeepTags gs
  tags_of [] [] k = tt
  tags_of (f ∷ fs) (g ∷ gs) k = (k.0.tags, tags_of fs gs k.1)
  tags_of [] (g ∷ gs) k = absurd k
  tags_of (f ∷ fs) [] k = absurd k

  abbrev pub Sorted : Point → Mon → List Kind → Type 0
  Sorted at m ks = scalars_given (words ctx at.names) m ≡ Some (map word_sort_of ks)

  -- expressions, each at its kind
  abbrev AllAt : Point → List Exp → List Kind → List Exp → Type 0
  AllAt at [] [] [] = Unit {0}
  AllAt at (e ∷ es) (k ∷ ks) (a ∷ as') = Seen ctx lay at e (view_for k) a × AllAt at es ks as'
  AllAt at _ _ _ = ⊥

  values_at : (at : Point) (es : List Exp) (ks : List Kind) (as' : List Exp) → AllAt at es ks as' → (env env' : Env) (s : State) → Meets ctx at env env' s → values_of l env' s as' ≡ views_at ks (values_of l env s es)
  values_at at [] [] [] h env env' s m = refl
  values_at at (e ∷ es) (k ∷ ks) (a ∷ as') h env env' s m = ap₂ (λ v vs. v ∷ vs) (h.0.is env env' s m ∙ seen_kind k (value l env s e)) (values_at at es ks as' h.1 env env' s m)
  values_at at _ _ _ h env env' s m = absurd h

  sorts_at : (at : Point) (es : List Exp) (ks : List Kind) (as' : List Exp) → AllAt at es ks as' → (env env' : Env) (s : State) → Meets ctx at env env' s → AreOfSorts (map word_sort_of ks) (values_of l env s es)
  sorts_at at [] [] [] h env env' s m = tt
  sorts_at at (e ∷ es) (k ∷ ks) (a ∷ as') h env env' s m =
      (scalar_sorted (words ctx at.names).scope lay ctx.globals refl env m.environment s m.state e (word_sort_of k) (h.0.sort ∙ sort_of_view k), sorts_at at es ks as' h.1 env env' s m)
  sorts_at at _ _ _ h env env' s m = absurd h

  -- an environment with more names
  environment_after : (names : _) (xs : List Name) (ks : List Kind) (us : List Value) (env : Env) → AreOfSorts (map word_sort_of ks) us → IsEnvironment (words ctx names).scope env →
      IsEnvironment (words ctx (with_kinds xs ks names)).scope (bound xs us env)
  environment_after names xs ks us env h n x c e =
      bound_sorted (words ctx names).scope xs (map word_sort_of ks) us env h n x c (ap (λ t. t x) (names_after word_sort_of xs ks names) ∙ e)

  -- where a turn of a loop begins on both sides
  pub record Turning (js : List Kind) (x y : Answer) : Type 0 where
    pub views : Views js x y
    pub sorts : AreOfSorts (map word_sort_of js) x.values
    pub can_be : IsState ctx.layout ctx.globals x.state

  module _ (P Q : Mon → Env → State → Type 0)
      (writes : (place place' : Place) (e e' : Exp) (env env' : Env) (s : State) → place_head place' ≡ place_head place → values_of l env' s (place_children place') ≡ values_of l env s (place_children place) → P (M.Write place e) env s → Q (M.Write place' e') env' s)
      (calls : (f : Name) (g : Signature) (es es' : List Exp) (env env' : Env) (s : State) → signature ctx.functions f ≡ Some g → AreOfKinds (kinds_of g.params) (values_of l env' s es') → P (M.Call f es) env s → Q (M.Call f es') env' s) where
    abbrev pub IsSame : Point → Mon → Mon → List Kind → Type 1
    IsSame at m m' ks =
        (depth : Option ℕ) (fs gs : List Runs) → Paired Function fs gs → Sorted at m ks → (env env' : Env) (s : State) → Meets ctx at env env' s →
        Corresponds (Views ks) BothFail (runs l p m env depth fs s) (runs l p m' env' depth gs s)

    abbrev pub IsEach : Point → Mon → Mon → List Kind → Type 1
    IsEach at m m' ks =
        (depth : Option ℕ) (fs gs : List Runs) → Paired Function fs gs → Sorted at m ks → (env env' : Env) (s : State) → Meets ctx at env env' s → AtEach l p P m env depth fs s → AtEach l p Q m' env' depth gs s

    -- the right side does what the left side does, and has Q where the left side has P
    pub record Does (at : Point) (m m' : Mon) (ks : List Kind) : Type 1 where
      pub same : IsSame at m m' ks
      pub each : IsEach at m m' ks

    ret : (at : Point) (es : List Exp) (ks : List Kind) (es' : List Exp) → AllAt at es ks es' → Does at (M.Ret es) (M.Ret es') ks
    ret at es ks es' h = record {
      same = λ depth fs gs k q env env' s m. done_corresponds (Views ks) BothFail _ _ (record { values = values_at at es ks es' h env env' s m; state = refl });
      each = λ depth fs gs k q env env' s m r. tt;
    }

    -- a test has one value on both sides
    tested : (at : Point) (e e' : Exp) → Seen ctx lay at e truth e' → (env env' : Env) (s : State) → Meets ctx at env env' s → holds l env s e ≡ holds l env' s e'
    tested at e e' h env env' s m = sym (ap truth_in (h.is env env' s m))

    guard : (at : Point) (e e' : Exp) → Seen ctx lay at e truth e' → Does at (M.Guard e) (M.Guard e') []
    guard at e e' h = record {
      same = λ depth fs gs k q env env' s m.
          choose_corresponds (Views []) BothFail (holds l env s e) (holds l env' s e') _ _ _ _ (tested at e e' h env env' s m)
          (λ t. done_corresponds (Views []) BothFail _ _ (record { values = refl; state = refl })) (λ t. fault_corresponds (Views []) BothFail tt tt tt);
      each = λ depth fs gs k q env env' s m r. tt;
    }

    knows : (f : Fact) (at : Point) (env env' : Env) (s : State) → Meets ctx at env env' s → AllSay l env' s (f ∷ []) → Meets ctx (knowing f at) env env' s
    knows f at env env' s m h = record { environment = m.environment; names = m.names; facts = (h.0, m.facts); state = m.state }

    either_each : (b b' : Bool) (X Y X' Y' : Type 0) → b ≡ b' → (b' ≡ true → X → X') → (b' ≡ false → Y → Y') → IfTrue b X × IfFalse b Y → IfTrue b' X' × IfFalse b' Y'
    either_each b true X Y X' Y' e f g h = (f refl (subst (λ c. IfTrue c X) e h.0), tt)
    either_each b false X Y X' Y' e f g h = (tt, g refl (subst (λ c. IfFalse c Y) e h.1))

    branches : (at : Point) (e : Exp) (m n : Mon) (e' : Exp) (m' n' : Mon) (ks : List Kind) → Seen ctx lay at e truth e' → Does (knowing (Whole e') at) m m' ks → Does (knowing (NotTrue e') at) n n' ks → Does at (M.If e m n) (M.If e' m' n') ks
    branches at e m n e' m' n' ks h a b = record {
      same = λ depth fs gs k q env env' s i.
          let r = if_inv (scalars_given (words ctx at.names) m) (scalars_given (words ctx at.names) n) _ (map word_sort_of ks) q in
          let t = tested at e e' h env env' s i in
          choose_corresponds (Views ks) BothFail (holds l env s e) (holds l env' s e') _ _ _ _ t
          (λ x. a.same depth fs gs k r.0 env env' s (knows (Whole e') at env env' s i (sym t ∙ x, tt)))
          (λ x. b.same depth fs gs k r.1 env env' s (knows (NotTrue e') at env env' s i (not_from_false (holds l env' s e') (sym t ∙ x), tt)));
      each = λ depth fs gs k q env env' s i.
          let r = if_inv (scalars_given (words ctx at.names) m) (scalars_given (words ctx at.names) n) _ (map word_sort_of ks) q in
          let t = tested at e e' h env env' s i in
          either_each (holds l env s e) (holds l env' s e') _ _ _ _ t
          (λ x. a.each depth fs gs k r.0 env env' s (knows (Whole e') at env env' s i (x, tt)))
          (λ x. b.each depth fs gs k r.1 env env' s (knows (NotTrue e') at env env' s i (not_from_false (holds l env' s e') x, tt)));
    }

    write : (at : Point) (place place' : Place) (e e' : Exp) → place_head place' ≡ place_head place →
        ((env env' : Env) (s : State) → Meets ctx at env env' s → (values_of l env' s (place_children place') ≡ values_of l env s (place_children place)) × (value l env' s e' ≡ value l env s e)) →
        Does at (M.Write place e) (M.Write place' e') []
    write at place place' e e' h v = record {
      same = λ depth fs gs k q env env' s m.
          let w = v env env' s m in
          done_corresponds (Views []) BothFail _ _ (record { values = refl; state = ap (written l env' s place') w.1 ∙ written_same l env env' s place place' (value l env s e) h w.0 });
      each = λ depth fs gs k q env env' s m r. writes place place' e e' env env' s h (v env env' s m).0 r;
    }

    -- what holds after a first part, of the answers that both sides reach
    after : (at : Point) (m m' : Mon) (xs : List Name) (js : List Kind) (depth : Option ℕ) (fs gs : List Runs) → Paired Function fs gs → Sorted at m js → (env env' : Env) (s : State) → Meets ctx at env env' s →
        (a b : Answer) → Views js a b → runs l p m env depth fs s (Done a) → runs l p m' env' depth gs s (Done b) →
        Meets ctx (record { facts = facts_after m' xs at.facts; names = with_kinds xs js at.names }) (bound xs a.values env) (bound xs b.values env') a.state
    after at m m' xs js depth fs gs k q env env' s i a b v left right =
        let last : Lasts l ctx.globals (map word_sort_of js) s a = runs_last p ctx.globals m (words ctx at.names) (map word_sort_of js) lay refl q env i.environment depth fs (last_of fs gs k) s i.state a left in
        record {
          environment = environment_after at.names xs js a.values env last.values i.environment;
          names = subst (λ us. AreSeen (with_kinds xs js at.names) (bound xs a.values env) (bound xs us env')) (sym v.values) (seen_after xs js a.values at.names env env' last.values i.names);
          facts = subst (λ (t : State). AllSay l (bound xs b.values env') t (facts_after m' xs at.facts)) v.state (facts_after_hold l p m' xs at.facts env' depth gs (tags_of fs gs k) s i.facts b right);
          state = last.state;
        }

    bind : (at : Point) (m m' n n' : Mon) (xs : List Name) (js ks : List Kind) → Gives ctx at m js → Does at m m' js → Does (record { facts = facts_after m' xs at.facts; names = with_kinds xs js at.names }) n n' ks →
        Does at (M.Bind m xs n) (M.Bind m' xs n') ks
    bind at m m' n n' xs js ks gm a b = record {
      same = λ depth fs gs k q env env' s i.
          then_corresponds (Reached (Views js) (runs l p m env depth fs s) (runs l p m' env' depth gs s)) (Views ks) BothFail _ _ _ _
          (reached (Views js) BothFail _ _ (a.same depth fs gs k (first_sorted q) env env' s i))
          (λ x y r. subst (λ (t : State). Corresponds (Views ks) BothFail (runs l p n (bound xs x.values env) depth fs x.state) (runs l p n' (bound xs y.values env') depth gs t)) (sym r.related.state)
          (b.same depth fs gs k (rest_sorted q) (bound xs x.values env) (bound xs y.values env') x.state (after at m m' xs js depth fs gs k (first_sorted q) env env' s i x y r.related r.left r.right)));
      each = λ depth fs gs k q env env' s i h. (
        a.each depth fs gs k (first_sorted q) env env' s i h.0,
        λ y right.
            let c = (a.same depth fs gs k (first_sorted q) env env' s i).done_back y right in
            subst (λ (t : State). AtEach l p Q n' (bound xs y.values env') depth gs t) (sym c.1.state)
            (b.each depth fs gs k (rest_sorted q) (bound xs c.0.values env) (bound xs y.values env') c.0.state (after at m m' xs js depth fs gs k (first_sorted q) env env' s i c.0 y c.1 c.2 right) (h.1 c.0 c.2)),
      );
    }
      where
        first_sorted : Sorted at (M.Bind m xs n) ks → Sorted at m js
        first_sorted q =
            let r = then_inv (scalars_given (words ctx at.names) m) (λ ss. where_fits (one_for_each xs ss && are_distinct xs) (scalars_given (setting_with xs ss (words ctx at.names)) n)) (map word_sort_of ks) q in
            r.1 ∙ ap (λ ss. Some ss) (gm.gives r.0 r.1)

        rest_sorted : Sorted at (M.Bind m xs n) ks → scalars_given (words ctx (with_kinds xs js at.names)) n ≡ Some (map word_sort_of ks)
        rest_sorted q =
            sym (ap (λ t. scalars_given t n) (setting_after word_sort_of ctx xs js at.names))
            ∙ bind_inv (scalars_given (words ctx at.names) m) (λ ss. one_for_each xs ss && are_distinct xs) (λ ss. scalars_given (setting_with xs ss (words ctx at.names)) n) (map word_sort_of js) (map word_sort_of ks) (first_sorted q) q

    module _ (at : Point) (js : List Kind) (xs : List Name) (guard guard' test test' : Exp) (m m' : Mon)
        (cg : Seen ctx lay (record { facts = []; names = with_kinds xs js at.names }) guard truth guard')
        (ct : Seen ctx lay (record { facts = Whole guard' ∷ []; names = with_kinds xs js at.names }) test truth test')
        (body : Does (record { facts = Whole test' ∷ Whole guard' ∷ []; names = with_kinds xs js at.names }) m m' js)
        (sorted : scalars_given (words ctx (with_kinds xs js at.names)) m ≡ Some (map word_sort_of js))
        (env env' : Env) (outer : IsEnvironment (words ctx at.names).scope env) (names : AreSeen at.names env env') (depth : Option ℕ) where
      abbrev inner : Point
      inner = record { facts = Whole test' ∷ Whole guard' ∷ []; names = with_kinds xs js at.names }

      abbrev Turn : Answer → Answer → Type 0
      Turn x y = Turning js x y

      -- where the body of a turn begins
      pub record Inside (x y : Answer) : Type 0 where
        pub turn : Turn x y
        pub facts : AllSay ctx.layout (bound xs y.values env') x.state (Whole test' ∷ Whole guard' ∷ [])

      meets : (fs : List Fact) (x y : Answer) → Turn x y → AllSay l (bound xs y.values env') x.state fs → Meets ctx (record { facts = fs; names = with_kinds xs js at.names }) (bound xs x.values env) (bound xs y.values env') x.state
      meets fs x y t h = record {
        environment = environment_after at.names xs js x.values env t.sorts outer;
        names = subst (λ us. AreSeen (with_kinds xs js at.names) (bound xs x.values env) (bound xs us env')) (sym t.views.values) (seen_after xs js x.values at.names env env' t.sorts names);
        facts = h;
        state = t.can_be;
      }

      guard_same : (x y : Answer) → Turn x y → holds l (bound xs x.values env) x.state guard ≡ holds l (bound xs y.values env') x.state guard'
      guard_same x y t = tested (record { facts = []; names = with_kinds xs js at.names }) guard guard' cg (bound xs x.values env) (bound xs y.values env') x.state (meets [] x y t tt)

      test_same : (x y : Answer) → Turn x y → holds l (bound xs y.values env') x.state guard' ≡ true → holds l (bound xs x.values env) x.state test ≡ holds l (bound xs y.values env') x.state test'
      test_same x y t h =
          tested (record { facts = Whole guard' ∷ []; names = with_kinds xs js at.names }) test test' ct (bound xs x.values env) (bound xs y.values env') x.state (meets (Whole guard' ∷ []) x y t (h, tt))

      abbrev env_on_right : Answer → Env
      env_on_right y = bound xs y.values env'

      enters : (x y : Answer) → Turn x y → Corresponds (Either Inside (Views js)) BothFail (entered l guard test (λ a. bound xs a.values env) x) (entered l guard' test' (λ a. bound xs a.values env') y)
      enters x y t =
          subst (λ (s : State). Corresponds (Either Inside (Views js)) BothFail (entered l guard test (λ a. bound xs a.values env) x) (choose (holds l (env_on_right y) s guard') (choose (holds l (env_on_right y) s test') (done (inl y)) (done (inr y))) (fault tt)))
          (sym t.views.state)
          (choose_corresponds (Either Inside (Views js)) BothFail _ _ _ _ _ _ (guard_same x y t)
          (λ g. let g' = sym (guard_same x y t) ∙ g in
          choose_corresponds (Either Inside (Views js)) BothFail _ _ _ _ _ _ (test_same x y t g')
          (λ u. done_corresponds (Either Inside (Views js)) BothFail (inl x) (inl y) (record { turn = t; facts = (sym (test_same x y t g') ∙ u, (g', tt)) }))
          (λ u. done_corresponds (Either Inside (Views js)) BothFail (inr x) (inr y) t.views))
          (λ g. fault_corresponds (Either Inside (Views js)) BothFail tt tt tt))

      body_same : (fs gs : List Runs) → Paired Function fs gs → (x y : Answer) → Inside x y →
          Corresponds (Views js) BothFail (runs l p m (bound xs x.values env) depth fs x.state) (runs l p m' (bound xs y.values env') depth gs y.state)
      body_same fs gs k x y i =
          subst (λ (s : State). Corresponds (Views js) BothFail (runs l p m (bound xs x.values env) depth fs x.state) (runs l p m' (bound xs y.values env') depth gs s)) (sym i.turn.views.state)
          (body.same depth fs gs k sorted (bound xs x.values env) (bound xs y.values env') x.state (meets (Whole test' ∷ Whole guard' ∷ []) x y i.turn i.facts))

      -- the next turn begins where the body ends
      next : (fs gs : List Runs) → Paired Function fs gs → (x y : Answer) → Inside x y → (a b : Answer) → Views js a b → runs l p m (bound xs x.values env) depth fs x.state (Done a) → Turn a b
      next fs gs k x y i a b v left =
          let last : Lasts l ctx.globals (map word_sort_of js) x.state a = runs_last p ctx.globals m (words ctx (with_kinds xs js at.names)) (map word_sort_of js) lay refl sorted (bound xs x.values env)
          (environment_after at.names xs js x.values env i.turn.sorts outer) depth fs (last_of fs gs k) x.state i.turn.can_be a left in
          record { views = v; sorts = last.values; can_be = last.state }

      turn : (fs gs : List Runs) → Paired Function fs gs → (x y : Answer) → Inside x y →
          Corresponds (Either Turn (Views js)) BothFail (Then (runs l p m (bound xs x.values env) depth fs x.state) (λ b. done (inl b))) (Then (runs l p m' (bound xs y.values env') depth gs y.state) (λ b. done (inl b)))
      turn fs gs k x y i =
          then_corresponds (Reached (Views js) (runs l p m (bound xs x.values env) depth fs x.state) (runs l p m' (bound xs y.values env') depth gs y.state)) (Either Turn (Views js)) BothFail _ _ _ _
          (reached (Views js) BothFail _ _ (body_same fs gs k x y i))
          (λ a b r. done_corresponds (Either Turn (Views js)) BothFail (inl a) (inl b) (next fs gs k x y i a b r.related r.left))

      loop_same : (fs gs : List Runs) → Paired Function fs gs → (x y : Answer) → Turn x y →
          Corresponds (Views js) BothFail
          (loop (entered l guard test (λ a. bound xs a.values env)) (λ gs a. Then (runs l p m (bound xs a.values env) depth gs a.state) (λ b. done (inl b))) fs x)
          (loop (entered l guard' test' (λ a. bound xs a.values env')) (λ gs a. Then (runs l p m' (bound xs a.values env') depth gs a.state) (λ b. done (inl b))) gs y)
      loop_same = turning_corresponds Function Turn Inside (Views js) BothFail _ _ _ _ enters turn

      abbrev LeftTurns : List Runs → Answer → Type 0
      LeftTurns fs x =
          EachTurn (λ a. IsTurn l guard test (bound xs a.values env) a.state) (λ gs a. AtEach l p P m (bound xs a.values env) depth gs a.state)
          (λ gs a b. runs l p m (bound xs a.values env) depth gs a.state (Done b)) fs x

      abbrev RightTurns : List Runs → Answer → Type 0
      RightTurns fs x =
          EachTurn (λ a. IsTurn l guard' test' (bound xs a.values env') a.state) (λ gs a. AtEach l p Q m' (bound xs a.values env') depth gs a.state)
          (λ gs a b. runs l p m' (bound xs a.values env') depth gs a.state (Done b)) fs x

      each_turn : (fs gs : List Runs) → Paired Function fs gs → (x y : Answer) → Turn x y → LeftTurns fs x → RightTurns gs y
      each_turn [] [] k x y t h = tt
      each_turn (f ∷ fs) (g ∷ gs) k x y t h = λ r.
          let g' = subst (λ (s : State). holds l (env_on_right y) s guard' ≡ true) t.views.state r.0 in
          let u' = subst (λ (s : State). holds l (env_on_right y) s test' ≡ true) t.views.state r.1 in
          let i : Inside x y = record { turn = t; facts = (u', (g', tt)) } in
          let left = h (guard_same x y t ∙ g', test_same x y t g' ∙ u') in (
            subst (λ (s : State). AtEach l p Q m' (env_on_right y) depth gs s) (sym t.views.state)
                (body.each depth fs gs k.1 sorted (bound xs x.values env) (bound xs y.values env') x.state (meets (Whole test' ∷ Whole guard' ∷ []) x y t i.facts) left.0),
            λ b right.
                let c = (body_same fs gs k.1 x y i).done_back b right in
                each_turn fs gs k.1 c.0 b (next fs gs k.1 x y i c.0 b c.1 c.2) (left.1 c.0 c.2),
          )
      each_turn [] (g ∷ gs) k x y t h = absurd k
      each_turn (f ∷ fs) [] k x y t h = absurd k

    starts_values : (env : Env) (s : State) (xs : List Start) → start_values l env s xs ≡ values_of l env s (start_exps xs)
    starts_values env s [] = refl
    starts_values env s (x ∷ xs) = ap (λ vs. value l env s x.exp ∷ vs) (starts_values env s xs)

    looped : (at : Point) (js : List Kind) (starts starts' : List Start) (guard guard' test test' : Exp) (m m' : Mon) → start_names starts' ≡ start_names starts →
        AllAt at (start_exps starts) js (start_exps starts') →
        Seen ctx lay (record { facts = []; names = with_kinds (start_names starts) js at.names }) guard truth guard' →
        Seen ctx lay (record { facts = Whole guard' ∷ []; names = with_kinds (start_names starts) js at.names }) test truth test' →
        Does (record { facts = Whole test' ∷ Whole guard' ∷ []; names = with_kinds (start_names starts) js at.names }) m m' js →
        Does at (M.Loop starts guard test m) (M.Loop starts' guard' test' m') js
    looped at js starts starts' guard guard' test test' m m' e cs cg ct body = record {
      same = λ depth fs gs k q env env' s i.
          subst (λ ys. Corresponds (Views js) BothFail (runs l p (M.Loop starts guard test m) env depth fs s)
          (loop (entered l guard' test' (λ a. bound ys a.values env')) (λ gs a. Then (runs l p m' (bound ys a.values env') depth gs a.state) (λ b. done (inl b))) gs (record { values = start_values l env' s starts'; state = s })))
          (sym e)
          (loop_same at js (start_names starts) guard guard' test test' m m' cg ct body (body_sorted q) env env' i.environment i.names depth fs gs k
          (record { values = start_values l env s starts; state = s }) (record { values = start_values l env' s starts'; state = s }) (begins env env' s i));
      each = λ depth fs gs k q env env' s i h.
          subst (λ ys. EachTurn (λ a. IsTurn l guard' test' (bound ys a.values env') a.state) (λ gs a. AtEach l p Q m' (bound ys a.values env') depth gs a.state)
          (λ gs a b. runs l p m' (bound ys a.values env') depth gs a.state (Done b)) gs (record { values = start_values l env' s starts'; state = s }))
          (sym e)
          (each_turn at js (start_names starts) guard guard' test test' m m' cg ct body (body_sorted q) env env' i.environment i.names depth fs gs k
          (record { values = start_values l env s starts; state = s }) (record { values = start_values l env' s starts'; state = s }) (begins env env' s i) h);
    }
      where
        begins : (env env' : Env) (s : State) → Meets ctx at env env' s → Turning js (record { values = start_values l env s starts; state = s }) (record { values = start_values l env' s starts'; state = s })
        begins env env' s i = record {
          views = record { values = starts_values env' s starts' ∙ values_at at (start_exps starts) js (start_exps starts') cs env env' s i ∙ ap (views_at js) (sym (starts_values env s starts)); state = refl };
          sorts = subst (AreOfSorts (map word_sort_of js)) (sym (starts_values env s starts)) (sorts_at at (start_exps starts) js (start_exps starts') cs env env' s i);
          can_be = i.state;
        }

        body_sorted : Sorted at (M.Loop starts guard test m) js → scalars_given (words ctx (with_kinds (start_names starts) js at.names)) m ≡ Some (map word_sort_of js)
        body_sorted q =
            sym (ap (λ t. scalars_given t m) (setting_after word_sort_of ctx (start_names starts) js at.names))
            ∙ loop_inv (start_scalars (words ctx at.names).scope starts) _ (λ ss. scalars_given (setting_with (start_names starts) ss (words ctx at.names)) m) (map word_sort_of js) (map word_sort_of js)
            (loop_parts (start_scalars (words ctx at.names).scope starts) _ (λ ss. scalars_given (setting_with (start_names starts) ss (words ctx at.names)) m) (map word_sort_of js) q) q

    call : (at : Point) (f : Name) (g : Signature) (es es' : List Exp) (ks : List Kind) → signature ctx.functions f ≡ Some g → ks ≡ result_as_list g.result → AllAt at es (kinds_of g.params) es' → Does at (M.Call f es) (M.Call f es') ks
    call at f g es es' ks e r h = record {
      same = λ depth fs gs k q env env' s i.
          let c : Invocation = record { name = f; arguments = values_of l env s es; state = s } in
          corresponds_weaker (AnswersAtItsKinds ctx c) (Views ks) BothFail BothFail _ _
          (λ a b v. record { values = v.values ∙ ap (λ js. views_at js a.values) (ap kinds_given e ∙ sym r); state = v.state }) (λ x y t. t)
          (called_related (AtItsKinds ctx) (AnswersAtItsKinds ctx) BothFail fs gs (kept_of fs gs k) depth c (record { name = f; arguments = values_of l env' s es'; state = s }) (at_kinds env env' s i));
      each = λ depth fs gs k q env env' s i p.
          calls f g es es' env env' s e (subst (AreOfKinds (kinds_of g.params)) (sym (values_at at es (kinds_of g.params) es' h env env' s i)) (views_fit (kinds_of g.params) (values_of l env s es) (sorts_at at es (kinds_of g.params) es' h env env' s i))) p;
    }
      where
        at_kinds : (env env' : Env) (s : State) → Meets ctx at env env' s →
            AtItsKinds ctx (record { name = f; arguments = values_of l env s es; state = s }) (record { name = f; arguments = values_of l env' s es'; state = s })
        at_kinds env env' s i = record {
          name = refl;
          words = subst (λ js. AreOfSorts (map word_sort_of js) (values_of l env s es)) (sym (ap kinds_taken e)) (sorts_at at es (kinds_of g.params) es' h env env' s i);
          arguments = values_at at es (kinds_of g.params) es' h env env' s i ∙ ap (λ js. views_at js (values_of l env s es)) (sym (ap kinds_taken e));
          in_range = subst (λ js. AreOfKinds js (values_of l env' s es')) (sym (ap kinds_taken e))
              (subst (AreOfKinds (kinds_of g.params)) (sym (values_at at es (kinds_of g.params) es' h env env' s i)) (views_fit (kinds_of g.params) (values_of l env s es) (sorts_at at es (kinds_of g.params) es' h env env' s i)));
          state = refl;
          can_be = i.state;
        }

    -- picks
    itself : {A F : Type 0} (answers : A → A → Type 0) (q : Ends A F) → ((a : A) → answers a a) → Corresponds {F = F} {G = F} answers BothFail q q
    itself answers q h = record {
      done = λ a x. (a, h a, x);
      done_back = λ a x. (a, h a, x);
      failed = λ f x. (f, tt, x);
      failed_back = λ f x. (f, tt, x);
      stopped = λ w x. x;
      stopped_back = λ w x. x;
    }

    abbrev IsViewOf : Kind → Value → Value → Type 0
    IsViewOf k v w = w ≡ view_at k v

    word_picked : (n : ℕ) → Corresponds {F = Failure} {G = Failure} (IsViewOf (WordKind n)) BothFail (picked_at p (WordKind n)) (picked_at p (WordKind n))
    word_picked n = itself (IsViewOf (WordKind n)) (picked_at p (WordKind n)) (λ v. refl)

    nat_picked : (n : ℕ) → Corresponds {F = Failure} {G = Failure} (IsViewOf (NatKind n)) BothFail (picked_at p (WordKind n)) (picked_at p (NatKind n))
    nat_picked n =
        then_corresponds (λ v w. w ≡ v) (IsViewOf (NatKind n)) BothFail _ _ _ _ (itself (λ v w. w ≡ v) (picked p n) (λ v. refl))
        (λ v w e. done_corresponds (IsViewOf (NatKind n)) BothFail (Bits v) (Number (unsigned w)) (ap (λ x. Number (unsigned x)) e))

    int_picked : (n : ℕ) → Corresponds {F = Failure} {G = Failure} (IsViewOf (IntKind n)) BothFail (picked_at p (WordKind n)) (picked_at p (IntKind n))
    int_picked n =
        then_corresponds (λ v w. w ≡ v) (IsViewOf (IntKind n)) BothFail _ _ _ _ (itself (λ v w. w ≡ v) (picked p n) (λ v. refl))
        (λ v w e. done_corresponds (IsViewOf (IntKind n)) BothFail (Bits v) (Number (signed w)) (ap (λ x. Number (signed x)) e))

    truth_picked : Corresponds {F = Failure} {G = Failure} (IsViewOf BoolKind) BothFail (picked_at p BoolKind) (picked_at p BoolKind)
    truth_picked = itself (IsViewOf BoolKind) (picked_at p BoolKind) (λ v. refl)

    picks : (at : Point) (j k : Kind) → Corresponds {F = Failure} {G = Failure} (IsViewOf k) BothFail (picked_at p j) (picked_at p k) → Does at (M.Pick j) (M.Pick k) (k ∷ [])
    picks at j k c = record {
      same = λ depth fs gs h q env env' s i.
          then_corresponds (IsViewOf k) (Views (k ∷ [])) BothFail _ _ _ _ c
          (λ v w e. done_corresponds (Views (k ∷ [])) BothFail _ _ (record { values = ap (λ x. x ∷ []) e; state = refl }));
      each = λ depth fs gs h q env env' s i r. tt;
    }

    -- a pick that stays gives a word or a truth value, since the left side is well-sorted
    pick : (at : Point) (k : Kind) → Does at (M.Pick k) (M.Pick k) (k ∷ [])
    pick at (WordKind n) = picks at (WordKind n) (WordKind n) (word_picked n)
    pick at BoolKind = picks at BoolKind BoolKind truth_picked
    pick at (NatKind n) = record { same = λ depth fs gs h q env env' s i. absurd (no_number n q); each = λ depth fs gs h q env env' s i r. tt }
      where
        no_number : (n : ℕ) → Sorted at (M.Pick (NatKind n)) (NatKind n ∷ []) → ⊥
        no_number n q = pick_inv n (is_width n) q
          where
            pick_inv : (n : ℕ) (b : Bool) → where_fits b (Some (NumberSort ∷ [])) ≡ Some (WordSort n ∷ []) → ⊥
            pick_inv n true h = cc
            pick_inv n false h = cc
    pick at (IntKind n) = record { same = λ depth fs gs h q env env' s i. absurd (no_number n q); each = λ depth fs gs h q env env' s i r. tt }
      where
        no_number : (n : ℕ) → Sorted at (M.Pick (IntKind n)) (IntKind n ∷ []) → ⊥
        no_number n q = pick_inv n (is_width n) q
          where
            pick_inv : (n : ℕ) (b : Bool) → where_fits b (Some (NumberSort ∷ [])) ≡ Some (WordSort n ∷ []) → ⊥
            pick_inv n true h = cc
            pick_inv n false h = cc

    recasted : (at : Point) (m m' : Mon) (ys : List Name) (js ks : List Kind) (es : List Exp) → recasts js ks ys ≡ Some es → are_distinct ys ≡ true → Does at m m' js → Does at m (M.Bind m' ys (M.Ret es)) ks
    recasted at m m' ys js ks es h d a = record {
      same = λ depth fs gs k q env env' s i.
          let qm = q ∙ ap (λ cs. Some cs) (sym (recast_sorts js ks ys es h)) in
          right_goes_on (Reached (Views js) (runs l p m env depth fs s) (runs l p m' env' depth gs s)) (Views ks) BothFail _ _ _ (reached (Views js) BothFail _ _ (a.same depth fs gs k qm env env' s i))
          (λ x y r.
          let last : Lasts l ctx.globals (map word_sort_of js) s x = runs_last p ctx.globals m (words ctx at.names) (map word_sort_of js) lay refl qm env i.environment depth fs (last_of fs gs k) s i.state x r.left in
          done_corresponds (Views ks) BothFail _ _ (record {
            values = ap (λ us. values_of l (bound ys us env') y.state es) r.related.values ∙ recast_values l env' y.state js ks ys es x.values h d last.values;
            state = r.related.state;
          }));
      each = λ depth fs gs k q env env' s i p. (a.each depth fs gs k (q ∙ ap (λ cs. Some cs) (sym (recast_sorts js ks ys es h))) env env' s i p, λ b r. tt);
    }

    -- what holds of a claim, as a case of the induction over trees
    pub record IsSeenThere (at : Point) (e : Exp) (v : View) (a : Exp) : Type 1 where
      pub seen : Seen ctx lay at e v a

    pub record DoesThere (at : Point) (m m' : Mon) (ks : List Kind) : Type 1 where
      pub gives : Gives ctx at m ks
      pub does : Does at m m' ks

    abbrev pub Holds : Claim → Type 1
    Holds (expression at e v a) = IsSeenThere at e v a
    Holds (program at m m' ks) = DoesThere at m m' ks

    all_at : (at : Point) (es : List Exp) (ks : List Kind) (as' : List Exp) → AreMatched es ks as' → AllHold Holds (each at es (views_for ks) as') → AllAt at es ks as'
    all_at at [] [] [] n h = tt
    all_at at (e ∷ es) (k ∷ ks) (a ∷ as') n h = (h.0.seen, all_at at es ks as' n h.1)
    all_at at _ _ _ n h = absurd n

    first_hold : (cs ds : List Claim) → AllHold Holds (cs ++ ds) → AllHold Holds cs
    first_hold [] ds h = tt
    first_hold (c ∷ cs) ds h = (h.0, first_hold cs ds h.1)

    others_hold : (cs ds : List Claim) → AllHold Holds (cs ++ ds) → AllHold Holds ds
    others_hold [] ds h = h
    others_hold (c ∷ cs) ds h = others_hold cs ds h.1

    -- the children of a place, and what is written there
    split : (env env' : Env) (s : State) (xs ys : List Exp) (e e' : Exp) → length ys ≡ length xs → values_of l env' s (ys ++ (e' ∷ [])) ≡ values_of l env s (xs ++ (e ∷ [])) →
        (values_of l env' s ys ≡ values_of l env s xs) × (value l env' s e' ≡ value l env s e)
    split env env' s [] [] e e' n h = (refl, ap first_of h)
    split env env' s (x ∷ xs) (y ∷ ys) e e' n h =
        let r = split env env' s xs ys e e' (one_less (length ys) (length xs) n) (ap others_of h) in (ap₂ (λ v vs. v ∷ vs) (ap first_of h) r.0, r.1)
    split env env' s [] (y ∷ ys) e e' n h = absurd cc
    split env env' s (x ∷ xs) [] e e' n h = absurd cc

    one_more : (xs ys : List Exp) (e e' : Exp) → length ys ≡ length xs → length (ys ++ (e' ∷ [])) ≡ length (xs ++ (e ∷ []))
    one_more [] [] e e' n = refl
    one_more (x ∷ xs) (y ∷ ys) e e' n = ap (λ k. suc k) (one_more xs ys e e' (one_less (length ys) (length xs) n))
    one_more [] (y ∷ ys) e e' n = absurd cc
    one_more (x ∷ xs) [] e e' n = absurd cc

    write_sound : (at : Point) (place place' : Place) (e e' : Exp) → place_head place' ≡ place_head place →
        AllHold Holds (each at (place_children place ++ (e ∷ [])) (owns (words ctx at.names).scope (place_children place ++ (e ∷ []))) (place_children place' ++ (e' ∷ []))) → Does at (M.Write place e) (M.Write place' e') []
    write_sound at place place' e e' h s = write at place place' e e' h (λ env env' st m.
        split env env' st (place_children place) (place_children place') e e' (place_as_many place place' h)
        (owned ctx lay at env env' st m (place_children place ++ (e ∷ [])) (place_children place' ++ (e' ∷ [])) (one_more (place_children place) (place_children place') e e' (place_as_many place place' h))
        (all_own ctx lay Holds (λ at e v a h. h.seen) at (place_children place ++ (e ∷ [])) (place_children place' ++ (e' ∷ [])) s)))

    call_sound : (at : Point) (o : Option Signature) (f : Name) (es es' : List Exp) (ks : List Kind) → signature ctx.functions f ≡ o → (call_row o at es es' ks).holds → AllHold Holds (call_row o at es es' ks).parts → Does at (M.Call f es) (M.Call f es') ks
    call_sound at None f es es' ks e h s = absurd h
    call_sound at (Some g) f es es' ks e h s = call at f g es es' ks e h.0 (all_at at es (kinds_of g.params) es' h.1 s)

    -- one case for each row
    row_sound : (at : Point) (rule : Rule) (m m' : Mon) (ks : List Kind) → (program_row ctx at rule m m' ks).holds → AllHold Holds (program_row ctx at rule m m' ks).parts → Does at m m' ks
    row_sound at R.Ret (M.Ret es) (M.Ret es') ks h s = ret at es ks es' (all_at at es ks es' h s)
    row_sound at R.Guard (M.Guard e) (M.Guard e') [] h s = guard at e e' s.0.seen
    row_sound at R.If (M.If e m n) (M.If e' m' n') ks h s = branches at e m n e' m' n' ks s.0.seen s.1.0.does s.1.1.0.does
    row_sound at R.Global (M.Write (M.Global x path) e) (M.Write p' e') [] h s = write_sound at (M.Global x path) p' e e' h s
    row_sound at R.Write (M.Write (M.Stored t q path) e) (M.Write p' e') [] h s = write_sound at (M.Stored t q path) p' e e' h s
    row_sound at R.Write (M.Write (M.Written t q path) e) (M.Write p' e') [] h s = write_sound at (M.Written t q path) p' e e' h s
    row_sound at R.Pick (M.Pick k) (M.Pick k') ks h s = subst (λ j. Does at (M.Pick k) (M.Pick j) ks) (sym h.0) (subst (λ js. Does at (M.Pick k) (M.Pick k) js) (sym h.1) (pick at k))
    row_sound at R.PickNat (M.Pick (WordKind n)) (M.Pick k') ks h s =
        subst (λ j. Does at (M.Pick (WordKind n)) (M.Pick j) ks) (sym h.0) (subst (λ js. Does at (M.Pick (WordKind n)) (M.Pick (NatKind n)) js) (sym h.1) (picks at (WordKind n) (NatKind n) (nat_picked n)))
    row_sound at R.PickInt (M.Pick (WordKind n)) (M.Pick k') ks h s =
        subst (λ j. Does at (M.Pick (WordKind n)) (M.Pick j) ks) (sym h.0) (subst (λ js. Does at (M.Pick (WordKind n)) (M.Pick (IntKind n)) js) (sym h.1) (picks at (WordKind n) (IntKind n) (int_picked n)))
    row_sound at (R.Bind js) (M.Bind m xs n) (M.Bind m' xs' n') ks h s = subst (λ ys. Does at (M.Bind m xs n) (M.Bind m' ys n') ks) (sym h) (bind at m m' n n' xs js ks s.0.gives s.0.does s.1.0.does)
    row_sound at (R.Loop js) (M.Loop starts guard test m) (M.Loop starts' guard' test' m') ks h s =
        let first = each at (start_exps starts) (views_for js) (start_exps starts') in
        let t = others_hold first _ s in
        subst (λ is. Does at (M.Loop starts guard test m) (M.Loop starts' guard' test' m') is) (sym h.1)
        (looped at js starts starts' guard guard' test test' m m' h.0
        (all_at at (start_exps starts) js (start_exps starts') h.2 (first_hold first _ s))
        t.0.seen t.1.0.seen t.1.1.0.does)
    row_sound at R.Call (M.Call f es) (M.Call g es') ks h s = subst (λ x. Does at (M.Call f es) (M.Call x es') ks) (sym h.0) (call_sound at (signature ctx.functions f) f es es' ks refl h.1 s)
    row_sound at (R.Recast js) m (M.Bind m' ys (M.Ret es)) ks h s = recasted at m m' ys js ks es h.0 h.1 s.0.does
    row_sound _ _ _ _ _ h s = absurd h

    gives_of : (c : Claim) → Holds c → GivesThere ctx c
    gives_of (expression at e v a) h = record { sort = h.seen.sort }
    gives_of (program at m m' ks) h = h.gives

    all_give : (cs : List Claim) → AllHold Holds cs → AllHold (GivesThere ctx) cs
    all_give [] h = tt
    all_give (c ∷ cs) h = (gives_of c h.0, all_give cs h.1)

    claim_sound : (rule : Rule) (c : Claim) → (table ctx rule c).holds → AllHold Holds (table ctx rule c).parts → Holds c
    claim_sound rule (expression at e v a) h s = record { seen = record { sort = h.0; is = expression_sound ctx lay Holds (λ at e v a h. h.seen) at rule e v a h.0 h.1 s } }
    claim_sound rule (program at m m' ks) h s = record {
      gives = claim_gives ctx rule (program at m m' ks) h (all_give (table ctx rule (program at m m' ks)).parts s);
      does = row_sound at rule m m' ks h s;
    }

    pub taken_does : (at : Point) (t : Tree Rule) (m m' : Mon) (ks : List Kind) → Accepts (table ctx) t (program at m m' ks) → Does at m m' ks
    taken_does at t m m' ks h = (accepted_holds (table ctx) Holds claim_sound t (program at m m' ks) h).does
