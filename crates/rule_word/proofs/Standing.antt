-- What an accepted tree gives of two programs alone.
use Rattle.std.proofs.Common.{◌≡◌, ℕ, Bool, true, false, cond, List, [], ◌∷◌, map, Option, Some, sym, subst, ap, ◌∙◌}
use Rattle.correspondence.specs.Corresponds.{Corresponds, After, Paired}
use Rattle.correspondence.specs.Outcome.{Ends}
use Rattle.correspondence.specs.Related.{BothFail}
use Rattle.correspondence.proofs.Corresponds.{there, back, both, corresponds_after, corresponds_weaker}
use Rattle.c_values.specs.Name.{Name, same_name}
use Rattle.c_values.specs.Choice.{Choice}
use Rattle.c_values.specs.Value.{Value, word_in}
use Rattle.c_values.specs.Layout.{Layout, IsLayout, shape_of}
use Rattle.c_values.specs.Path.{in_range}
use Rattle.c_values.proofs.Options.{some_is}
use Rattle.c_memory.specs.TypedHeap.{view}
use Rattle.c_memory.specs.Heap.{OnBytes, OnTypes, is_tagged}
use Rattle.expression_lang.specs.Expression.{Exp}
use Rattle.expression_lang.specs.Evaluation.{Env, State, value, steps, holds}
use Rattle.expression_lang.specs.Sort.{Kind, word_sort_of}
use Rattle.expression_lang.specs.States.{state_with}
use Rattle.expression_lang.specs.Signature.{Signature, kinds_of, signature, values_of, bound}
use Rattle.expression_lang.specs.View.{AreOfKinds, views_at}
use Rattle.ac_expr.proofs.HeadsAgree.{steps_same}
use Rattle.program_facts.specs.Lasting.{AllLast, AllKeepTags}
use Rattle.monad_lang.specs.Program as M
use Rattle.monad_lang.specs.Program.{Mon, Place, Stored, Written, Global, FinalFn, FinalUnit, final_fn}
use Rattle.monad_lang.specs.Reach.{AtEach, EachTurn, IfTrue, IfFalse}
use Rattle.monad_lang.specs.Run.{Answer, Failure, Runs, functions_below, start_names}
use Rattle.monad_lang.specs.Sorted.{signature_of}
use Rattle.monad_lang.specs.Steady.{TakesThem, CallInRange, WriteCovered, Viewed, Alike}
use Rattle.program_facts.specs.Places.{place_children, place_head}
use Rattle.rule_trees.specs.RuleTree.{Tree, Accepts}
use Rattle.rule_word.specs.Rule.{Rule, Context, Point, program}
use Rattle.rule_word.specs.Table.{table}
use Rattle.rule_word.specs.Exact.{Views, StandsFor}
use Rattle.rule_word.specs.Kept.{context_of, WordsKept}
use Rattle.program_facts.proofs.KeepsTags.{units_keep_tags}
use Rattle.program_facts.proofs.PlacesAgree.{type_in, path_in, first_of, others_of}
use Rattle.rule_word.proofs.SoundPrograms.{Function, taken_does}

functions_of : (ctx : Context) (lay : IsLayout ctx.layout) (p : Choice) (fs gs : List Runs) → Paired (WordsKept ctx) fs gs → AllLast ctx.layout ctx.globals word_sort_of ctx.functions fs → AllKeepTags gs → Paired (Function ctx lay p) fs gs
functions_of ctx lay p [] [] k a t = tt
functions_of ctx lay p (f ∷ fs) (g ∷ gs) k a t = (record { kept = k.0; lasts = a.0; tags = t.0 }, functions_of ctx lay p fs gs k.1 a.1 t.1)
functions_of ctx lay p [] (g ∷ gs) k a t = absurd k
functions_of ctx lay p (f ∷ fs) [] k a t = absurd k

-- what asks nothing holds everywhere
abbrev pub Nothing : Mon → Env → State → Type 0
Nothing m env s = Unit {0}

if_true : (b : Bool) (X : Type 0) → X → IfTrue b X
if_true true X x = x
if_true false X x = tt

if_false : (b : Bool) (X : Type 0) → X → IfFalse b X
if_false true X x = tt
if_false false X x = x

each_turn : (turns : Answer → Type 0) (P : List Runs → Answer → Type 0) (next : List Runs → Answer → Answer → Type 0) → ((fs : List Runs) (a : Answer) → P fs a) → (fs : List Runs) (a : Answer) → EachTurn turns P next fs a
each_turn turns P next h [] a = tt
each_turn turns P next h (f ∷ fs) a = λ t. (h fs a, λ b n. each_turn turns P next h fs b)

everywhere : (l : Layout) (p : Choice) (m : Mon) (env : Env) (depth : Option ℕ) (fs : List Runs) (s : State) → AtEach l p Nothing m env depth fs s
everywhere l p (M.Bind m xs n) env depth fs s = (everywhere l p m env depth fs s, λ a r. everywhere l p n (bound xs a.values env) depth fs a.state)
everywhere l p (M.If e m n) env depth fs s = (if_true (holds l env s e) _ (everywhere l p m env depth fs s), if_false (holds l env s e) _ (everywhere l p n env depth fs s))
everywhere l p (M.Loop starts guard test m) env depth fs s = each_turn _ _ _ (λ gs a. everywhere l p m (bound (start_names starts) a.values env) depth gs a.state) fs _
everywhere _ _ _ _ _ _ _ = tt

taken_by_name : (f : FinalFn) (o : Option FinalFn) (q : Option Signature) (g : Signature) (vs : List Value) → AreOfKinds (kinds_of g.params) vs → (b : Bool) → (q ≡ Some g → TakesThem o vs) → cond b (Some (signature_of f)) q ≡ Some g → TakesThem (cond b (Some f) o) vs
taken_by_name f o q g vs h true k e = subst (λ (s : Signature). AreOfKinds (kinds_of s.params) vs) (sym (some_is e)) h
taken_by_name f o q g vs h false k e = k e

takes_them : (fs : List FinalFn) (x : Name) (g : Signature) (vs : List Value) → signature (map signature_of fs) x ≡ Some g → AreOfKinds (kinds_of g.params) vs → TakesThem (final_fn fs x) vs
takes_them [] x g vs e h = absurd cc
takes_them (f ∷ fs) x g vs e h = taken_by_name f (final_fn fs x) (signature (map signature_of fs) x) g vs h (same_name f.name x) (λ q. takes_them fs x g vs q h) e

-- a write that is covered on the left is on the right
covered : (l : Layout) (place place' : Place) (e e' : Exp) (env env' : Env) (s : State) → place_head place' ≡ place_head place → values_of l env' s (place_children place') ≡ values_of l env s (place_children place) →
    WriteCovered l (M.Write place e) env s → WriteCovered l (M.Write place' e') env' s
covered l (Written t p path) (Written t' p' path') e e' env env' s h k c =
    let same_type : t' ≡ t = ap (type_in t) h in
    subst (λ u. (is_tagged l s.heap u (word_in (value l env' s p')).bits ≡ true) × (in_range (shape_of l u) (steps l env' s path') ≡ true)) (sym same_type) (
      ap (λ (v : Value). is_tagged l s.heap t (word_in v).bits) (ap first_of k) ∙ c.0,
      ap (in_range (shape_of l t)) (steps_same l env env' s s path path' (ap path_in h) (ap others_of k)) ∙ c.1,
    )
covered l (Stored t p path) (Written t' p' path') e e' env env' s h k c = absurd cc
covered l (Global x path) (Written t' p' path') e e' env env' s h k c = absurd cc
covered _ _ _ _ _ _ _ _ _ _ _ = tt

turned_round : {A B F G : Type 0} (answers : A → B → Type 0) (faults : F → G → Type 0) (p : Ends A F) (q : Ends B G) → Corresponds answers faults p q → Corresponds (λ b a. answers a b) (λ g f. faults f g) q p
turned_round answers faults p q c = both (back c) (there c)

-- views of answers on bytes and on the typed heaps that view them
viewed : (l : Layout) (ks : List Kind) (a b : Answer) → After (λ y x. Views ks x y) (After (Viewed l) (Views ks)) a b → Viewed l a b
viewed l ks a b h = record {
  memory = h.2.1.memory;
  values = h.1.values ∙ ap (views_at ks) h.2.1.values ∙ sym h.2.2.values;
  bytes = ap (λ (s : State). s.heap) h.1.state ∙ h.2.1.bytes;
  types = ap (λ (s : State). s.heap) h.2.2.state ∙ h.2.1.types;
  globals = ap (λ (s : State). s.globals) h.1.state ∙ h.2.1.globals ∙ sym (ap (λ (s : State). s.globals) h.2.2.state);
}

-- the right side from bytes and from their view, where the left side does the same from both
right_alike : (l : Layout) (ks : List Kind) (bytes types bytes' types' : Ends Answer Failure) → Corresponds (Views ks) BothFail bytes bytes' → Corresponds (Views ks) BothFail types types' → Corresponds (Viewed l) Alike bytes types →
    Corresponds (Viewed l) Alike bytes' types'
right_alike l ks bytes types bytes' types' c d e =
    corresponds_weaker (After (λ y x. Views ks x y) (After (Viewed l) (Views ks))) (Viewed l) (After (λ g f. BothFail f g) (After Alike BothFail)) Alike bytes' types' (viewed l ks) (λ f g h. tt)
    (corresponds_after (λ y x. Views ks x y) (After (Viewed l) (Views ks)) (λ g f. BothFail f g) (After Alike BothFail) bytes' bytes types' (turned_round (Views ks) BothFail bytes bytes' c)
    (corresponds_after (Viewed l) (Views ks) Alike BothFail bytes types types' e d))

pub taken_stands : (v : FinalUnit) (at : Point) (t : Tree Rule) (left right : Mon) (ks : List Kind) → Accepts (table (context_of v)) t (program at left right ks) → StandsFor v at left right ks
taken_stands v at t left right ks h u p n lay k a q depth env env' =
    let ctx = context_of v in
    let fs = functions_below u p n in
    let gs = functions_below v p n in
    let k' = functions_of ctx lay p fs gs k a (units_keep_tags v p n) in
    let ranged = taken_does ctx lay p Nothing (CallInRange v) (λ place place' e e' env env' s i j r. tt) (λ f g es es' env env' s i r j. takes_them v.functions f g (values_of v.layout env' s es') i r) at t left right ks h in
    let covers = taken_does ctx lay p (WriteCovered v.layout) (WriteCovered v.layout) (covered v.layout) (λ f g es es' env env' s i r j. tt) at t left right ks h in
    record {
      same = λ s m. ranged.same depth fs gs k' q env env' s m;
      in_range = λ s m. ranged.each depth fs gs k' q env env' s m (everywhere v.layout p left env depth fs s);
      steady = λ memory globals m m' r. record {
        covered_on_bytes = covers.each depth fs gs k' q env env' (state_with (OnBytes memory) globals) m r.covered_on_bytes;
        covered_on_types = covers.each depth fs gs k' q env env' (state_with (OnTypes (view v.layout memory)) globals) m' r.covered_on_types;
        alike = right_alike v.layout ks _ _ _ _ (ranged.same depth fs gs k' q env env' (state_with (OnBytes memory) globals) m)
            (ranged.same depth fs gs k' q env env' (state_with (OnTypes (view v.layout memory)) globals) m') r.alike;
      };
    }
