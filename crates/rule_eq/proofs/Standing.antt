-- What an accepted tree gives of two programs alone: the same answers; calls in range where the left side's are; and steadiness where the
-- left side is steady.
use Rattle.std.proofs.Common.{◌≡◌, ℕ, Bool, true, false, cond, List, [], ◌∷◌, map, Option, Some, None, sym, ap, subst}
use Rattle.correspondence.specs.Outcome.{Done, Ends}
use Rattle.correspondence.specs.Corresponds.{Corresponds, Paired}
use Rattle.correspondence.specs.Related.{Same, BothFail}
use Rattle.c_values.specs.Name.{Name, same_name}
use Rattle.c_values.specs.Types.{CType}
use Rattle.c_values.specs.Value.{Value, word_in}
use Rattle.c_values.specs.Layout.{Layout, shape_of}
use Rattle.c_values.specs.Path.{in_range}
use Rattle.c_values.specs.Choice.{Choice}
use Rattle.c_memory.specs.TypedHeap.{view}
use Rattle.c_memory.specs.Heap.{OnBytes, OnTypes, is_tagged}
use Rattle.expression_lang.specs.Expression.{Exp}
use Rattle.expression_lang.specs.Evaluation.{Env, State, value, steps}
use Rattle.expression_lang.specs.Sort.{Scalar, sort_of_kind}
use Rattle.expression_lang.specs.Signature.{Signature, signature, kinds_of, values_of, bound}
use Rattle.expression_lang.specs.States.{state_with}
use Rattle.expression_lang.specs.View.{AreOfKinds}
use Rattle.ac_expr.specs.Fact.{Fact}
use Rattle.ac_expr.proofs.HeadsAgree.{steps_same}
use Rattle.monad_lang.specs.Program as M
use Rattle.monad_lang.specs.Program.{Mon, Place, FinalFn, FinalUnit, final_fn}
use Rattle.monad_lang.specs.Reach.{AtEach, EachTurn, IsTurn, IfTrue, IfFalse}
use Rattle.monad_lang.specs.Run.{Answer, Failure, Runs, runs, functions_below, start_names, start_values}
use Rattle.monad_lang.specs.Sorted.{scalars_given, signature_of, IsWellFormed}
use Rattle.monad_lang.specs.Steady.{TakesThem, CallInRange, WriteCovered, Alike}
use Rattle.program_facts.specs.Places.{place_children, place_head}
use Rattle.program_facts.specs.Lasting.{AllLast, AllKeepTags, setting_in}
use Rattle.program_facts.proofs.KeepsTags.{units_keep_tags}
use Rattle.program_facts.proofs.RunsLast.{formed_units_last}
use Rattle.rule_trees.specs.RuleTree.{Tree}
use Rattle.rule_eq.specs.Rule.{Rule}
use Rattle.rule_eq.specs.Table.{point, Takes}
use Rattle.rule_eq.specs.Kept.{EqualKept}
use Rattle.rule_eq.specs.Exact.{AreAlike, Begins, DoesSame}
use Rattle.program_facts.proofs.PlacesAgree.{path_in, first_of, others_of}
use Rattle.rule_eq.proofs.Together.{Respects, AreFunctions, Does}
use Rattle.rule_eq.proofs.Sound.{taken_sounds}

-- what follows of a property at each write and each call

chosen_each : (b : Bool) (A A' B B' : Type 0) → (A → A') → (B → B') → IfTrue b A × IfFalse b B → IfTrue b A' × IfFalse b B'
chosen_each true A A' B B' f g h = (f h.0, tt)
chosen_each false A A' B B' f g h = (tt, g h.1)

turns_each : (turns : Answer → Type 0) (P Q : List Runs → Answer → Type 0) (next : List Runs → Answer → Answer → Type 0) → ((fs : List Runs) (a : Answer) → P fs a → Q fs a) → (fs : List Runs) (a : Answer) →
    EachTurn turns P next fs a → EachTurn turns Q next fs a
turns_each turns P Q next k [] a h = tt
turns_each turns P Q next k (f ∷ fs) a h = λ t. let i = h t in (k fs a i.0, λ b r. turns_each turns P Q next k fs b (i.1 b r))

module _ (l : Layout) (p : Choice) (P Q : Mon → Env → State → Type 0) (k : (m : Mon) (env : Env) (s : State) → P m env s → Q m env s) where
  pub each_follows : (m : Mon) (env : Env) (depth : Option ℕ) (fs : List Runs) (s : State) → AtEach l p P m env depth fs s → AtEach l p Q m env depth fs s
  each_follows (M.Bind m xs n) env depth fs s h = (each_follows m env depth fs s h.0, λ a r. each_follows n (bound xs a.values env) depth fs a.state (h.1 a r))
  each_follows (M.If e m n) env depth fs s h =
      chosen_each _ (AtEach l p P m env depth fs s) (AtEach l p Q m env depth fs s) (AtEach l p P n env depth fs s) (AtEach l p Q n env depth fs s) (each_follows m env depth fs s) (each_follows n env depth fs s) h
  each_follows (M.Write q e) env depth fs s h = k (M.Write q e) env s h
  each_follows (M.Loop starts guard test m) env depth fs s h =
      turns_each (λ a. IsTurn l guard test (bound (start_names starts) a.values env) a.state) (λ gs a. AtEach l p P m (bound (start_names starts) a.values env) depth gs a.state)
      (λ gs a. AtEach l p Q m (bound (start_names starts) a.values env) depth gs a.state) (λ gs a b. runs l p m (bound (start_names starts) a.values env) depth gs a.state (Done b))
      (λ gs a i. each_follows m (bound (start_names starts) a.values env) depth gs a.state i) fs (record { values = start_values l env s starts; state = s }) h
  each_follows (M.Call f es) env depth fs s h = k (M.Call f es) env s h
  each_follows _ _ _ _ _ _ = tt

-- that calls are in range, and that writes are covered, hangs on values alone

calls_respected : (u : FinalUnit) → Respects u.layout (CallInRange u)
calls_respected u = record {
  write = λ env env' s q q' e e' heads same h. tt;
  call = λ env env' s f es es' same h. subst (λ us. TakesThem (final_fn u.functions f) us) (sym same) h;
}

abbrev type_of_place : CType → Place → CType
type_of_place d (M.Stored t a path) = d
type_of_place d (M.Written t a path) = t
type_of_place d (M.Global x path) = d

module _ (l : Layout) where
  covered_same : (env env' : Env) (s : State) (q q' : Place) (e e' : Exp) → place_head q' ≡ place_head q → values_of l env' s (place_children q') ≡ values_of l env s (place_children q) → WriteCovered l (M.Write q e) env s → WriteCovered l (M.Write q' e') env' s
  covered_same env env' s (M.Written t a path) (M.Written u b way) e e' heads same h =
      subst (λ w. (is_tagged l s.heap w (word_in (value l env' s b)).bits ≡ true) × (in_range (shape_of l w) (steps l env' s way) ≡ true)) (sym (ap (type_of_place t) heads))
      (subst (λ v. (is_tagged l s.heap t (word_in v).bits ≡ true) × (in_range (shape_of l t) (steps l env' s way) ≡ true)) (sym (ap first_of same))
      (subst (λ ps. (is_tagged l s.heap t (word_in (value l env s a)).bits ≡ true) × (in_range (shape_of l t) ps ≡ true)) (sym (steps_same l env env' s s path way (ap path_in heads) (ap others_of same))) h))
  covered_same env env' s (M.Written t a path) (M.Stored u b way) e e' heads same h = absurd cc
  covered_same env env' s (M.Written t a path) (M.Global x way) e e' heads same h = absurd cc
  covered_same env env' s (M.Stored t a path) (M.Written u b way) e e' heads same h = absurd cc
  covered_same env env' s (M.Global x path) (M.Written u b way) e e' heads same h = absurd cc
  covered_same env env' s q q' e e' heads same h = tt

  covers_respected : Respects l (WriteCovered l)
  covers_respected = record { write = covered_same; call = λ env env' s f es es' same h. tt }

  pub any_respected : Respects l (λ m env s. Unit {0})
  any_respected = record { write = λ env env' s q q' e e' heads same h. tt; call = λ env env' s f es es' same h. tt }

-- both units take the same arguments

abbrev Taken : Option Signature → List Value → Type 0
Taken None vs = ⊥
Taken (Some f) vs = AreOfKinds (kinds_of f.params) vs

abbrev BothTake : Option FinalFn → Option Signature → List Value → Type 0
BothTake o q vs = (TakesThem o vs → Taken q vs) × (Taken q vs → TakesThem o vs)

by_name : (f : FinalFn) (o : Option FinalFn) (q : Option Signature) (vs : List Value) → BothTake o q vs → (b : Bool) → BothTake (cond b (Some f) o) (cond b (Some (signature_of f)) q) vs
by_name f o q vs h true = (λ k. k, λ k. k)
by_name f o q vs h false = h

signed : (fs : List FinalFn) (x : Name) (vs : List Value) → BothTake (final_fn fs x) (signature (map signature_of fs) x) vs
signed [] x vs = (λ h. h, λ h. h)
signed (f ∷ fs) x vs = by_name f (final_fn fs x) (signature (map signature_of fs) x) vs (signed fs x vs) (same_name f.name x)

calls_alike : (u v : FinalUnit) → AreAlike u v → (m : Mon) (env : Env) (s : State) → CallInRange u m env s → CallInRange v m env s
calls_alike u v a (M.Call f es) env s h =
    subst (λ l. TakesThem (final_fn v.functions f) (values_of l env s es)) (sym a.layout)
    ((signed v.functions f (values_of u.layout env s es)).1 (subst (λ gs. Taken (signature gs f) (values_of u.layout env s es)) (sym a.functions) ((signed u.functions f (values_of u.layout env s es)).0 h)))
calls_alike u v a m env s h = tt

-- a run on bytes and one on typed heaps that are viewed alike stay so where both are taken to others
still_viewed : {V : Answer → Answer → Type 0} (q q' r r' : Ends Answer Failure) → Corresponds Same BothFail q q' → Corresponds Same BothFail r r' → Corresponds V Alike q r → Corresponds V Alike q' r'
still_viewed {V} q q' r r' a b c = record {
  done = λ x h.
      let y = a.done_back x h in
      let z = c.done y.0 y.2 in
      let w = b.done z.0 z.2 in (w.0, subst (λ x'. V x' w.0) (sym y.1) (subst (λ w'. V y.0 w') (sym w.1) z.1), w.2);
  done_back = λ x h.
      let y = b.done_back x h in
      let z = c.done_back y.0 y.2 in
      let w = a.done z.0 z.2 in (w.0, subst (λ x'. V w.0 x') (sym y.1) (subst (λ w'. V w' y.0) (sym w.1) z.1), w.2);
  failed = λ f h. let y = a.failed_back f h in let z = c.failed y.0 y.2 in let w = b.failed z.0 z.2 in (w.0, tt, w.2);
  failed_back = λ f h. let y = b.failed_back f h in let z = c.failed_back y.0 y.2 in let w = a.failed z.0 z.2 in (w.0, tt, w.2);
  stopped = λ w h. b.stopped w (c.stopped w (a.stopped_back w h));
  stopped_back = λ w h. a.stopped w (c.stopped_back w (b.stopped_back w h));
}

module _ (u v : FinalUnit) (formed : IsWellFormed u) (formed' : IsWellFormed v) (a : AreAlike u v) (p : Choice) (n : ℕ) where
  abbrev sigs : List Signature
  sigs = map signature_of u.functions

  right_lasts : AllLast u.layout u.globals sort_of_kind sigs (functions_below v p n)
  right_lasts =
      subst (λ l. AllLast l u.globals sort_of_kind sigs (functions_below v p n)) a.layout
      (subst (λ vs. AllLast v.layout vs sort_of_kind sigs (functions_below v p n)) a.globals (subst (λ fs. AllLast v.layout v.globals sort_of_kind fs (functions_below v p n)) a.functions ((formed_units_last v formed').below p n)))

  module _ (P : Mon → Env → State → Type 0) (respects : Respects u.layout P) where
    pub pairs : (fs gs : List Runs) → Paired (EqualKept u) fs gs → AllLast u.layout u.globals sort_of_kind sigs fs → AllLast u.layout u.globals sort_of_kind sigs gs → AllKeepTags fs → AllKeepTags gs →
        Paired (AreFunctions u.layout p u.globals sigs P respects) fs gs
    pairs [] [] h i j t k = tt
    pairs (f ∷ fs) (g ∷ gs) h i j t k = (record { same = h.0; last_left = i.0; last_right = j.0; tags_left = t.0; tags_right = k.0 }, pairs fs gs h.1 i.1 j.1 t.1 k.1)
    pairs [] (g ∷ gs) h i j t k = absurd h
    pairs (f ∷ fs) [] h i j t k = absurd h

    module _ (below : Paired (EqualKept u) (functions_below u p n) (functions_below v p n)) (fs : List Fact) (names : Name → Option Scalar) (t : Tree Rule) (left right : Mon) (cs ds : List Scalar)
        (takes : Takes (point fs (setting_in sort_of_kind u names)) t left right) (sorted : scalars_given (setting_in sort_of_kind u names) left ≡ Some cs) (sorted' : scalars_given (setting_in sort_of_kind u names) right ≡ Some ds)
        (depth : Option ℕ) (env : Env) where
      pub does_there : (s : State) → Begins u fs names env s → Does u.layout p u.globals sigs P respects left right env env depth (functions_below u p n) (functions_below v p n) s
      does_there s b =
          taken_sounds u.layout formed.layout p u.globals sigs P respects fs names t left right takes names cs ds sorted sorted' env depth (functions_below u p n) (functions_below v p n) s
          (record {
            functions = pairs (functions_below u p n) (functions_below v p n) below ((formed_units_last u formed).below p n) right_lasts (units_keep_tags u p n) (units_keep_tags v p n);
            on_left = b.environment;
            on_right = b.environment;
            state = b.state;
            said = b.facts;
          })

  pub taken_does_same : Paired (EqualKept u) (functions_below u p n) (functions_below v p n) → (fs : List Fact) (names : Name → Option Scalar) (t : Tree Rule) (left right : Mon) (cs ds : List Scalar) →
      Takes (point fs (setting_in sort_of_kind u names)) t left right → scalars_given (setting_in sort_of_kind u names) left ≡ Some cs → scalars_given (setting_in sort_of_kind u names) right ≡ Some ds →
      (depth : Option ℕ) (env : Env) → DoesSame u v p n fs names left right depth env
  taken_does_same below fs names t left right cs ds takes sorted sorted' depth env = record {
    same = λ s b. (does_there (λ m env s. Unit {0}) (any_respected u.layout) below fs names t left right cs ds takes sorted sorted' depth env s b).same;
    in_range = λ s b h.
        let d = does_there (CallInRange u) (calls_respected u) below fs names t left right cs ds takes sorted sorted' depth env s b in
        subst (λ l. AtEach l p (CallInRange v) right env depth (functions_below v p n) s) (sym a.layout)
        (each_follows u.layout p (CallInRange u) (CallInRange v) (calls_alike u v a) right env depth (functions_below v p n) s (d.reach h));
    steady = λ memory globals b c h.
        let d = does_there (WriteCovered u.layout) (covers_respected u.layout) below fs names t left right cs ds takes sorted sorted' depth env (state_with (OnBytes memory) globals) b in
        let e = does_there (WriteCovered u.layout) (covers_respected u.layout) below fs names t left right cs ds takes sorted sorted' depth env (state_with (OnTypes (view u.layout memory)) globals) c in
        record {
          covered_on_bytes = d.reach h.covered_on_bytes;
          covered_on_types = e.reach h.covered_on_types;
          alike = still_viewed _ _ _ _ d.same e.same h.alike;
        };
  }
