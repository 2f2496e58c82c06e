-- Units whose bodies the rules take to programs on typed heaps keep what functions do.
use Rattle.std.proofs.Common.{◌≡◌, ℕ, zero, suc, Bool, true, false, cond, List, [], ◌∷◌, map, Option, Some, None, refl, sym, subst, ap, ap₂, ◌∙◌}
use Rattle.std.proofs.lemmas.Bool.{and_parts, true≢false}
use Rattle.correspondence.specs.Outcome.{Ends}
use Rattle.correspondence.specs.Corresponds.{Corresponds, Paired}
use Rattle.correspondence.specs.Related.{Same, BothFail}
use Rattle.correspondence.proofs.Corresponds.{corresponds_weaker}
use Rattle.correspondence.proofs.Turning.{Reached, reached}
use Rattle.c_values.specs.Name.{Name, same_name}
use Rattle.c_values.specs.Choice.{Choice}
use Rattle.c_values.specs.Layout.{Layout, global_type}
use Rattle.c_values.proofs.Laid.{name_is}
use Rattle.c_memory.specs.Memory.{Memory}
use Rattle.c_memory.specs.TypedHeap.{view}
use Rattle.c_memory.specs.Footprint.{KeepsMemory}
use Rattle.c_memory.specs.Heap.{Heap, OnBytes, OnTypes, heap_tags}
use Rattle.expression_lang.specs.Evaluation.{Env, State}
use Rattle.expression_lang.specs.Sort.{Level, Scalar, Scope, is_lifted, sort_of_kind}
use Rattle.expression_lang.specs.Sorted.{names_with}
use Rattle.expression_lang.specs.Signature.{Signature, Invocation, names_of, kinds_of, bound, no_env}
use Rattle.expression_lang.specs.States.{IsEnvironment, IsState, state_with}
use Rattle.monad_lang.specs.Program.{FinalFn, FinalUnit, final_fn}
use Rattle.monad_lang.specs.Run.{Answer, Failure, runs, function_runs, functions_below, program_runs}
use Rattle.monad_lang.specs.Sorted.{signature_of, scalars_given, are_scalars, has_few, IsWellFormed}
use Rattle.c_memory.specs.LevelHeap.{heap_for}
use Rattle.monad_lang.proofs.Given.{given_there}
use Rattle.program_facts.specs.Lasting.{AreOfSorts, setting_in, setting_for, is_sorted_for, are_sorted_for}
use Rattle.program_facts.proofs.KeepsTags.{units_keep_tags, calls_keep_tags}
use Rattle.program_facts.proofs.KeepsBytes.{IsOnBytes, bytes_there, calls_keep_bytes}
use Rattle.program_facts.proofs.SortedValues.{bound_sorted}
use Rattle.program_facts.proofs.RunsLast.{Found, found, sorted_at_kinds, formed_units_last}
use Rattle.rule_heap.specs.Kept.{IsCall, OnItsHeap, AnswersOnItsHeap, HeapsKept}
use Rattle.rule_heap.specs.Exact.{AnswersViewed, Place, StandsFor}
use Rattle.rule_heap.specs.Units.{IsBodyTaken, IsTakenWhere, IsTakenTo, AreTakenTo, IsUnitTakenTo, UnitsKeepHeaps}
use Rattle.rule_heap.proofs.Viewed.{IsSame, same_alike, heap_placed}
use Rattle.rule_heap.proofs.Sound.{AlikeAnswers}
use Rattle.rule_heap.proofs.Itself.{program_itself, calls_any}
use Rattle.rule_heap.proofs.Standing.{answer, lifted_heap, call_is, same_all, taken_stands}

-- what both units have under a name
abbrev FoundBoth : Layout → (Name → Level) → Name → Option FinalFn → Option FinalFn → Type 0
FoundBoth l levels x None None = Unit {0}
FoundBoth l levels x (Some f) (Some g) = (f.level ≡ levels x) × IsTakenTo l levels f g
FoundBoth l levels x _ _ = ⊥

by_name : (l : Layout) (levels : Name → Level) (x : Name) (f g : FinalFn) (o o' : Option FinalFn) (b : Bool) → (b ≡ true → FoundBoth l levels x (Some f) (Some g)) → FoundBoth l levels x o o' →
    FoundBoth l levels x (cond b (Some f) o) (cond b (Some g) o')
by_name l levels x f g o o' true h k = h refl
by_name l levels x f g o o' false h k = k

both_found : (l : Layout) (levels : Name → Level) (fs gs : List FinalFn) → AreTakenTo l levels fs gs → (x : Name) → FoundBoth l levels x (final_fn fs x) (final_fn gs x)
both_found l levels [] [] h x = tt
both_found l levels (f ∷ fs) (g ∷ gs) h x =
    subst (λ y. FoundBoth l levels x (cond (same_name f.name x) (Some f) (final_fn fs x)) (cond (same_name y x) (Some g) (final_fn gs x))) (sym h.0.name)
    (by_name l levels x f g (final_fn fs x) (final_fn gs x) (same_name f.name x) (λ e. (h.0.level ∙ ap levels (name_is f.name x e), h.0)) (both_found l levels fs gs h.1 x))
both_found l levels [] (g ∷ gs) h x = absurd h
both_found l levels (f ∷ fs) [] h x = absurd h

-- the other unit's
pub record Other (l : Layout) (levels : Name → Level) (x : Name) (f : FinalFn) (o : Option FinalFn) : Type 0 where
  pub function : FinalFn
  pub there : o ≡ Some function
  pub level : f.level ≡ levels x
  pub taken : IsTakenTo l levels f function

other : (l : Layout) (levels : Name → Level) (x : Name) (f : FinalFn) (o : Option FinalFn) → FoundBoth l levels x (Some f) o → Other l levels x f o
other l levels x f None h = absurd h
other l levels x f (Some g) h = record { function = g; there = refl; level = h.0; taken = h.1 }

heap_is : (s : State) (h : Heap) → s.heap ≡ h → s ≡ state_with h s.globals
heap_is s h e = ap (λ x. state_with x s.globals) e

module _ (levels : Name → Level) (u v : FinalUnit) (formed : IsWellFormed u) (taken : IsUnitTakenTo levels u v) (p : Choice) (n : ℕ)
    (below : Paired (HeapsKept u levels) (functions_below u p n) (functions_below v p n)) where
  abbrev sigs : List Signature
  sigs = map signature_of u.functions

  -- a call, and what it finds
  module _ (f g : FinalFn) (sorted : is_sorted_for sort_of_kind u f ≡ true) (t : IsTakenTo u.layout levels f g) (depth : Option ℕ) (c : Invocation) (arguments : AreOfSorts (map sort_of_kind (kinds_of f.params)) c.arguments)
      (state : IsState u.layout u.globals c.state) where
    abbrev names : Name → Option Scalar
    names = names_with (names_of f.params) (map sort_of_kind (kinds_of f.params)) (λ x. None)

    abbrev env : Env
    env = bound (names_of f.params) c.arguments no_env

    gives : scalars_given (setting_in sort_of_kind u names) f.body ≡ Some (map sort_of_kind f.results)
    gives = given_there (map sort_of_kind f.results) (scalars_given (setting_for sort_of_kind u f) f.body) (and_parts (has_few f.results) (are_scalars (map sort_of_kind f.results) (scalars_given (setting_for sort_of_kind u f) f.body)) sorted).1

    environment : IsEnvironment (setting_in sort_of_kind u names).scope env
    environment =
        let start : Scope = record { layout = u.layout; names = λ x. None; globals = global_type u.globals } in
        bound_sorted start (names_of f.params) (map sort_of_kind (kinds_of f.params)) c.arguments no_env arguments (λ x e h. absurd cc)

    abbrev left : Ends Answer Failure
    left = runs u.layout p f.body env depth (functions_below u p n) c.state

    abbrev right : State → Ends Answer Failure
    right s = runs u.layout p g.body env depth (functions_below v p n) s

    abbrev place : Place u levels names
    place = record { target = v; choice = p; turns = n; below = below; depth = depth; environment = env; sorted = environment }

    stands : IsBodyTaken u.layout levels f.body g.body → StandsFor u levels [] names f.body g.body
    stands b = taken_stands u levels formed [] names (map sort_of_kind f.results) b.tree f.body g.body b.takes b.bytes gives b.calls

    lifted_one : IsBodyTaken u.layout levels f.body g.body → Corresponds Same BothFail left (right c.state)
    lifted_one b = (stands b).on_one_heap place c.state state tt

    itself_one : g.body ≡ f.body → Corresponds Same BothFail left (right c.state)
    itself_one e =
        subst (λ m. Corresponds Same BothFail left (runs u.layout p m env depth (functions_below v p n) c.state)) (sym e)
        (corresponds_weaker (AlikeAnswers u.layout formed.layout p u.globals sigs (λ x. true) (IsSame u.layout) (same_alike u.layout)) Same BothFail BothFail left (runs u.layout p f.body env depth (functions_below v p n) c.state)
        (λ x y h. ap₂ (λ vs s. answer vs s) h.values h.near.same) (λ i j h. h)
        (program_itself u.layout formed.layout p u.globals sigs [] f.body names (map sort_of_kind f.results) gives (calls_any f.body) env depth (functions_below u p n) (functions_below v p n) c.state c.state
        (record {
          functions = same_all u levels formed.layout p (λ x. true) (functions_below u p n) (functions_below v p n) below ((formed_units_last u formed).below p n) (units_keep_tags v p n);
          environment = environment;
          state = state;
          near = record { same = refl; placed = heap_placed u.layout c.state.heap state.heap };
          said = tt;
        })))

    one : (b : Bool) → IsTakenWhere b u.layout levels f.body g.body → Corresponds Same BothFail left (right c.state)
    one true b = lifted_one b
    one false e = itself_one e

    on_one : Corresponds Same BothFail left (right c.state)
    on_one = one (is_lifted f.level) t.body

    -- from the view of the bytes
    module _ (m : Memory) (bytes : c.state.heap ≡ OnBytes m) where
      viewed : IsBodyTaken u.layout levels f.body g.body → Corresponds (AnswersViewed u.layout m) BothFail left (right (state_with (OnTypes (view u.layout m)) c.state.globals))
      viewed b =
          subst (λ s. Corresponds (AnswersViewed u.layout m) BothFail (runs u.layout p f.body env depth (functions_below u p n) s) (right (state_with (OnTypes (view u.layout m)) c.state.globals))) (sym (heap_is c.state (OnBytes m) bytes))
          ((stands b).on_types place m c.state.globals (subst (λ s. IsState u.layout u.globals s) (heap_is c.state (OnBytes m) bytes) state) tt)

  all_sorted : are_sorted_for sort_of_kind u u.functions ≡ true
  all_sorted = sorted_at_kinds u u.functions formed.functions

  -- what a call finds in either unit
  abbrev Here : Invocation → Signature → Type 0
  Here c s = Found sort_of_kind u (final_fn u.functions c.name) s

  here : (c : Invocation) (k : IsCall u c) → Here c k.function
  here c k = found sort_of_kind u u.functions c.name k.function all_sorted k.found

  there : (c : Invocation) (s : Signature) (f : Here c s) → Other u.layout levels c.name f.function (final_fn v.functions c.name)
  there c s f =
      other u.layout levels c.name f.function (final_fn v.functions c.name)
      (subst (λ o. FoundBoth u.layout levels c.name o (final_fn v.functions c.name)) f.there (both_found u.layout levels u.functions v.functions taken.functions c.name))

  arguments_there : (c : Invocation) (k : IsCall u c) (f : Here c k.function) → AreOfSorts (map sort_of_kind (kinds_of f.function.params)) c.arguments
  arguments_there c k f = subst (λ s. AreOfSorts (map sort_of_kind (kinds_of s.params)) c.arguments) (sym f.signed) k.sorted

  -- from runs of the bodies that were found
  to_bodies : (answers : Answer → Answer → Type 0) (f g : FinalFn) (depth : Option ℕ) (c c' : Invocation) → final_fn u.functions c.name ≡ Some f → final_fn v.functions c'.name ≡ Some g → g.params ≡ f.params →
      Corresponds answers BothFail (runs u.layout p f.body (bound (names_of f.params) c.arguments no_env) depth (functions_below u p n) c.state)
      (runs u.layout p g.body (bound (names_of f.params) c'.arguments no_env) depth (functions_below v p n) c'.state) →
      Corresponds answers BothFail (program_runs u p n depth c) (program_runs v p n depth c')
  to_bodies answers f g depth c c' e e' same h =
      subst (λ o. Corresponds answers BothFail (function_runs u.layout p o depth (functions_below u p n) c) (program_runs v p n depth c')) (sym e)
      (subst (λ o. Corresponds answers BothFail (function_runs u.layout p (Some f) depth (functions_below u p n) c) (function_runs v.layout p o depth (functions_below v p n) c')) (sym e')
      (subst (λ l. Corresponds answers BothFail (function_runs u.layout p (Some f) depth (functions_below u p n) c) (function_runs l p (Some g) depth (functions_below v p n) c')) (sym taken.layout)
      (subst (λ bs. Corresponds answers BothFail (function_runs u.layout p (Some f) depth (functions_below u p n) c) (runs u.layout p g.body (bound (names_of bs) c'.arguments no_env) depth (functions_below v p n) c'.state)) (sym same) h)))

  one_heap : (depth : Option ℕ) (c : Invocation) → IsCall u c → Corresponds Same BothFail (program_runs u p n depth c) (program_runs v p n depth c)
  one_heap depth c k =
      let f = here c k in
      let g = there c k.function f in
      to_bodies Same f.function g.function depth c c f.there g.there g.taken.parameters (on_one f.function g.function f.sorted g.taken depth c (arguments_there c k f) k.state)

  -- a function at bytes: memory stays bytes, and keeps its tags
  at_bytes : (depth : Option ℕ) (c c' : Invocation) (k : OnItsHeap u levels c c') → is_lifted (levels c.name) ≡ false →
      Corresponds (AnswersOnItsHeap u.layout levels c) BothFail (program_runs u p n depth c) (program_runs v p n depth c')
  at_bytes depth c c' k low =
      subst (λ d. Corresponds (AnswersOnItsHeap u.layout levels c) BothFail (program_runs u p n depth c) (program_runs v p n depth d)) (sym same)
      (corresponds_weaker (Reached Same (program_runs u p n depth c) (program_runs v p n depth c)) (AnswersOnItsHeap u.layout levels c) BothFail BothFail (program_runs u p n depth c) (program_runs v p n depth c) answers (λ i j h. h)
      (reached Same BothFail (program_runs u p n depth c) (program_runs v p n depth c) (one_heap depth c k.call)))
    where
      level_heap : (m : Memory) → heap_for u.layout (is_lifted (levels c.name)) m ≡ OnBytes m
      level_heap m = ap (λ b. heap_for u.layout b m) low

      same : c' ≡ c
      same = call_is c c' k.name k.arguments (ap₂ (λ h g. state_with h g) (k.heap ∙ level_heap k.memory ∙ sym k.bytes) k.globals)

      answers : (a b : Answer) → Reached Same (program_runs u p n depth c) (program_runs v p n depth c) a b → AnswersOnItsHeap u.layout levels c a b
      answers a b r =
          let m = bytes_there a.state.heap (calls_keep_bytes u p n depth c (subst (λ h. IsOnBytes h) (sym k.bytes) tt) a r.left) in
          record {
            before = k.memory;
            after = m.0;
            began = k.bytes;
            bytes = m.1;
            heap = ap (λ x. x.state.heap) r.related ∙ m.1 ∙ sym (level_heap m.0);
            values = ap (λ x. x.values) r.related;
            globals = ap (λ x. x.state.globals) r.related;
            keeps = record { tags = sym (ap heap_tags m.1) ∙ calls_keep_tags u p n depth c a r.left ∙ ap heap_tags k.bytes; bytes = λ e x out. absurd (true≢false (sym e ∙ low)) };
          }

  -- a lifted function: from the view
  at_types : (depth : Option ℕ) (c c' : Invocation) (k : OnItsHeap u levels c c') → is_lifted (levels c.name) ≡ true →
      Corresponds (AnswersOnItsHeap u.layout levels c) BothFail (program_runs u p n depth c) (program_runs v p n depth c')
  at_types depth c c' k high =
      let f = here c k.call in
      let g = there c k.call.function f in
      let body : IsBodyTaken u.layout levels f.function.body g.function.body = subst (λ b. IsTakenWhere b u.layout levels f.function.body g.function.body) (ap is_lifted g.level ∙ high) g.taken.body in
      to_bodies (AnswersOnItsHeap u.layout levels c) f.function g.function depth c c' f.there (ap (λ x. final_fn v.functions x) k.name ∙ g.there) g.taken.parameters
      (subst (λ vs. Corresponds (AnswersOnItsHeap u.layout levels c) BothFail (from f.function) (runs u.layout p g.function.body (bound (names_of f.function.params) vs no_env) depth (functions_below v p n) c'.state)) (sym k.arguments)
      (subst (λ s. Corresponds (AnswersOnItsHeap u.layout levels c) BothFail (from f.function) (to f.function g.function s)) (sym there_state)
      (corresponds_weaker (AnswersViewed u.layout k.memory) (AnswersOnItsHeap u.layout levels c) BothFail BothFail (from f.function) (to f.function g.function (state_with (OnTypes (view u.layout k.memory)) c.state.globals)) answers (λ i j h. h)
      (viewed f.function g.function f.sorted g.taken depth c (arguments_there c k.call f) k.call.state k.memory k.bytes body))))
    where
      from : FinalFn → Ends Answer Failure
      from f = runs u.layout p f.body (bound (names_of f.params) c.arguments no_env) depth (functions_below u p n) c.state

      to : FinalFn → FinalFn → State → Ends Answer Failure
      to f g s = runs u.layout p g.body (bound (names_of f.params) c.arguments no_env) depth (functions_below v p n) s

      there_state : c'.state ≡ state_with (OnTypes (view u.layout k.memory)) c.state.globals
      there_state = ap₂ (λ h g. state_with h g) (k.heap ∙ lifted_heap u.layout (is_lifted (levels c.name)) k.memory high) k.globals

      answers : (a b : Answer) → AnswersViewed u.layout k.memory a b → AnswersOnItsHeap u.layout levels c a b
      answers a b h = record {
        before = k.memory;
        after = h.after;
        began = k.bytes;
        bytes = h.bytes;
        heap = h.types ∙ sym (lifted_heap u.layout (is_lifted (levels c.name)) h.after high);
        values = h.values;
        globals = h.globals;
        keeps = subst (λ b. KeepsMemory u.layout b k.memory h.after) (sym high) h.keeps;
      }

  its_heap : (depth : Option ℕ) (c c' : Invocation) (k : OnItsHeap u levels c c') → Corresponds (AnswersOnItsHeap u.layout levels c) BothFail (program_runs u p n depth c) (program_runs v p n depth c')
  its_heap depth c c' k = by_level (is_lifted (levels c.name)) refl
    where
      by_level : (b : Bool) → is_lifted (levels c.name) ≡ b → Corresponds (AnswersOnItsHeap u.layout levels c) BothFail (program_runs u p n depth c) (program_runs v p n depth c')
      by_level true e = at_types depth c c' k e
      by_level false e = at_bytes depth c c' k e

  pub bodies_keep : HeapsKept u levels (program_runs u p n) (program_runs v p n)
  bodies_keep = record {
    on_its_heap = its_heap;
    on_one_heap = λ depth c c' k. subst (λ d. Corresponds Same BothFail (program_runs u p n depth c) (program_runs v p n depth d)) (sym k.same) (one_heap depth c k.call);
  }

module _ (levels : Name → Level) (u v : FinalUnit) (formed : IsWellFormed u) (taken : IsUnitTakenTo levels u v) (p : Choice) where
  pub below_keep : (n : ℕ) → Paired (HeapsKept u levels) (functions_below u p n) (functions_below v p n)
  below_keep zero = tt
  below_keep (suc n) = (bodies_keep levels u v formed taken p n (below_keep n), below_keep n)

pub units_keep_heaps : (levels : Name → Level) (u v : FinalUnit) → IsWellFormed u → IsUnitTakenTo levels u v → UnitsKeepHeaps levels u v
units_keep_heaps levels u v formed taken = record {
  below = λ p n. below_keep levels u v formed taken p n;
  runs = λ p n. bodies_keep levels u v formed taken p n (below_keep levels u v formed taken p n);
}
