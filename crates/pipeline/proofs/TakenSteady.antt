-- Of units that the rules take to each other, the last programs are in range, and those of lifted
-- functions are steady.
use Rattle.std.proofs.Common.{◌≡◌, ℕ, Bool, true, false, cond, ◌&&◌, List, [], ◌∷◌, map, Option, Some, None, refl, sym, subst, ap, ◌∙◌}
use Rattle.std.proofs.lemmas.Bool.{and_parts}
use Rattle.c_values.specs.Name.{Name, same_name, are_distinct}
use Rattle.c_values.specs.Value.{Value}
use Rattle.c_values.specs.Choice.{Choice}
use Rattle.c_values.specs.Layout.{Layout, IsLayout, GlobalVar, global_type}
use Rattle.c_values.proofs.Options.{none_some, some_is}
use Rattle.c_memory.specs.Memory.{Memory}
use Rattle.c_memory.specs.TypedHeap.{view}
use Rattle.c_memory.specs.Heap.{OnBytes, OnTypes}
use Rattle.expression_lang.specs.Evaluation.{Env, State}
use Rattle.expression_lang.specs.Sort.{Level, Scope, Kind, are_kinds, is_lifted, sort_of_kind, word_sort_of}
use Rattle.expression_lang.specs.States.{IsEnvironment, IsState, state_with}
use Rattle.expression_lang.specs.Signature.{names_of, kinds_of, bound, no_env}
use Rattle.expression_lang.specs.View.{AreOfKinds, views_at}
use Rattle.simpl_lang.specs.Command.{SimplUnit}
use Rattle.monad_lang.specs.Program.{FinalFn, FinalUnit, final_fn}
use Rattle.monad_lang.specs.Run.{functions_below}
use Rattle.monad_lang.specs.Sorted.{setting_of, scalars_given, are_scalars, has_few, is_fn_sorted, are_fns_sorted, IsWellFormed}
use Rattle.monad_lang.specs.Steady.{IsInRange, IsSteady}
use Rattle.program_facts.specs.Lasting.{AreOfSorts, setting_in}
use Rattle.program_facts.proofs.SortedValues.{bound_sorted}
use Rattle.rule_heap.specs.Exact as H
use Rattle.rule_heap.specs.Units as Heaps
use Rattle.rule_heap.proofs.Standing as HeapRules
use Rattle.rule_heap.proofs.UnitsKeep.{units_keep_heaps}
use Rattle.rule_word.specs.Rule.{Point}
use Rattle.rule_word.specs.Scopes.{words}
use Rattle.rule_word.specs.Exact as W
use Rattle.rule_word.specs.Exact.{Meets}
use Rattle.rule_word.specs.Kept.{context_of}
use Rattle.rule_word.specs.Units.{in_scope, IsAbstractedTo, AreAbstractedTo}
use Rattle.rule_word.proofs.ScopesAfter.{names_after, seen_after}
use Rattle.rule_word.proofs.Standing as WordRules
use Rattle.rule_word.proofs.UnitsFormed.{units_formed}
use Rattle.rule_word.proofs.UnitsKeep.{fn_sorted, body_sorted, units_keep_words}
use Rattle.rule_eq.specs.Exact as E
use Rattle.rule_eq.specs.Units as Equality
use Rattle.rule_eq.specs.Units.{parameters_of}
use Rattle.rule_eq.proofs.UnitsKeep.{units_keep}
use Rattle.c_lang.specs.Typed.{TypedUnit}
use Rattle.pipeline.specs.Taken.{AreTaken}
use Rattle.pipeline.proofs.Begins.{kinds_sorted, heap_can_be}
use Rattle.exactness.specs.SteadyUnits.{begins}
use Rattle.pipeline.proofs.KindWords.{StandsForWords, words_there}

-- Functions by name

module _ (levels : Name → Level) (local heap word last : FinalUnit) where
  -- what stands for a last function in the units before, each taken to the next
  record Taken (f : FinalFn) (there : Option FinalFn) : Type 0 where
    pub local_fn : FinalFn
    pub heap_fn : FinalFn
    pub word_fn : FinalFn
    pub found : there ≡ Some word_fn
    pub to_heap : Heaps.IsTakenTo local.layout levels local_fn heap_fn
    pub to_word : IsAbstractedTo (context_of word) heap_fn word_fn
    pub to_last : Equality.IsTakenTo word word_fn f
    pub local_sorted : is_fn_sorted local local_fn ≡ true
    pub heap_sorted : is_fn_sorted heap heap_fn ≡ true
    pub last_sorted : is_fn_sorted last f ≡ true

  by_test : (w g f : FinalFn) (o o' : Option FinalFn) → Taken g (Some w) →
      (o' ≡ Some f → Taken f o) → (b : Bool) → cond b (Some g) o' ≡ Some f →
      Taken f (cond b (Some w) o)
  by_test w g f o o' one rest true e = subst (λ k. Taken k (Some w)) (some_is e) one
  by_test w g f o o' one rest false e = rest e

  taken_there : (ls hs ws gs : List FinalFn) → Heaps.AreTakenTo local.layout levels ls hs →
      AreAbstractedTo (context_of word) hs ws → Equality.AreTakenTo word ws gs →
      are_fns_sorted local ls ≡ true → are_fns_sorted heap hs ≡ true →
      are_fns_sorted last gs ≡ true → (x : Name) (f : FinalFn) → final_fn gs x ≡ Some f →
      Taken f (final_fn ws x)
  taken_there [] [] [] [] a b c i j k x f e = absurd (none_some e)
  taken_there (l ∷ ls) (h ∷ hs) (w ∷ ws) (g ∷ gs) a b c i j k x f e =
      let i' = and_parts (is_fn_sorted local l) (are_fns_sorted local ls) i in
      let j' = and_parts (is_fn_sorted heap h) (are_fns_sorted heap hs) j in
      let k' = and_parts (is_fn_sorted last g) (are_fns_sorted last gs) k in
      subst (λ y. Taken f (cond (same_name y x) (Some w) (final_fn ws x))) c.0.name
      (by_test w g f (final_fn ws x) (final_fn gs x)
      (record {
        local_fn = l;
        heap_fn = h;
        word_fn = w;
        found = refl;
        to_heap = a.0;
        to_word = b.0;
        to_last = c.0;
        local_sorted = i'.0;
        heap_sorted = j'.0;
        last_sorted = k'.0;
      })
      (taken_there ls hs ws gs a.1 b.1 c.1 i'.1 j'.1 k'.1 x f) (same_name g.name x) e)
  taken_there [] (h ∷ hs) ws gs a b c i j k x f e = absurd a
  taken_there (l ∷ ls) [] ws gs a b c i j k x f e = absurd a
  taken_there [] [] (w ∷ ws) gs a b c i j k x f e = absurd b
  taken_there [] [] [] (g ∷ gs) a b c i j k x f e = absurd c
  taken_there (l ∷ ls) (h ∷ hs) [] gs a b c i j k x f e = absurd b
  taken_there (l ∷ ls) (h ∷ hs) (w ∷ ws) [] a b c i j k x f e = absurd c

-- the kinds of its parameters are of the widths that there are
kinds_there : (u : FinalUnit) (f : FinalFn) → is_fn_sorted u f ≡ true →
    are_kinds (kinds_of f.params) ≡ true
kinds_there u f h =
    let kinds = are_kinds (kinds_of f.params) in
    let results = are_kinds f.results in
    let distinct = are_distinct (names_of f.params) in
    let few = has_few f.results in
    let gives = are_scalars (map sort_of_kind f.results) (scalars_given (setting_of u f) f.body) in
    let a = and_parts (kinds && results && distinct && few) gives h in
    let b = and_parts (kinds && results && distinct) few a.0 in
    let c = and_parts (kinds && results) distinct b.0 in
    (and_parts kinds results c.0).0

-- Where functions begin

-- in the environment of the parameters alone
parameters_sorted : (u : FinalUnit) (f : FinalFn) (vs : List Value) →
    AreOfSorts (map sort_of_kind (kinds_of f.params)) vs →
    IsEnvironment (setting_in sort_of_kind u (parameters_of f)).scope (begins f vs)
parameters_sorted u f vs h =
    let start : Scope = record {
      layout = u.layout;
      names = λ x. None;
      globals = global_type u.globals;
    } in
    bound_sorted start (names_of f.params) (map sort_of_kind (kinds_of f.params)) vs no_env h
    (λ x c e. absurd (none_some e))

-- with words on the left, and with their views on the right
abbrev point_of : FinalFn → Point
point_of f = record { facts = []; names = in_scope f }

meets : (u : FinalUnit) (f : FinalFn) (ws : List Value) (s : State) →
    AreOfSorts (map word_sort_of (kinds_of f.params)) ws → IsState u.layout u.globals s →
    Meets (context_of u) (point_of f) (begins f ws) (begins f (views_at (kinds_of f.params) ws)) s
meets u f ws s h state =
    let xs = names_of f.params in
    let ks = kinds_of f.params in
    record {
      environment = λ x c e.
          bound_sorted (words (context_of u) []).scope xs (map word_sort_of ks) ws no_env h
          (λ y d q. absurd (none_some q)) x c
          (ap (λ t. t x) (names_after word_sort_of xs ks []) ∙ e);
      names = seen_after xs ks ws [] no_env no_env h (λ x v q. absurd (none_some q));
      facts = tt;
      state = state;
    }

same_state : (l l' : Layout) (vs vs' : List GlobalVar) (s : State) → l' ≡ l → vs' ≡ vs →
    IsState l vs s → IsState l' vs' s
same_state l l' vs vs' s e i h =
    subst (λ k. IsState k vs' s) (sym e) (subst (λ ws. IsState l ws s) (sym i) h)

-- from bytes to the typed heap that views them
view_can_be : (l : Layout) (vs : List GlobalVar) (memory : Memory) (globals : Name → Value) →
    IsLayout l → IsState l vs (state_with (OnBytes memory) globals) →
    IsState l vs (state_with (OnTypes (view l memory)) globals)
view_can_be l vs memory globals lay h =
    record { heap = heap_can_be l true memory lay h.heap; globals = h.globals }

module _ (u : TypedUnit) (levels : Name → Level) (generated flat : SimplUnit)
    (local heap word last : FinalUnit)
    (taken : AreTaken u levels generated flat local heap word last) (x : Name) (f : FinalFn) (there : final_fn last.functions x ≡ Some f) where
  word_formed : IsWellFormed word
  word_formed = units_formed heap word taken.heap_formed taken.words

  before : Taken levels local heap word last f (final_fn word.functions x)
  before =
      taken_there levels local heap word last
      local.functions heap.functions word.functions last.functions
      taken.heaps.functions taken.words.functions taken.equality.functions
      taken.local_formed.functions taken.heap_formed.functions taken.last_formed.functions
      x f there

  abbrev local_fn : FinalFn
  local_fn = before.local_fn

  abbrev heap_fn : FinalFn
  heap_fn = before.heap_fn

  abbrev word_fn : FinalFn
  word_fn = before.word_fn

  abbrev kinds : List Kind
  kinds = kinds_of before.word_fn.params

  kinds_same : kinds_of f.params ≡ kinds
  kinds_same = ap (λ bs. kinds_of bs) before.to_last.parameters

  -- A state that can be on the right can be on the left.

  abbrev CanBe : FinalUnit → State → Type 0
  CanBe w s = IsState w.layout w.globals s

  word_state : (s : State) → CanBe last s → CanBe word s
  word_state s h =
      same_state last.layout word.layout last.globals word.globals s
      (sym taken.equality.layout) (sym taken.equality.globals) h

  local_state : (s : State) → CanBe last s → CanBe local s
  local_state s h =
      same_state word.layout local.layout word.globals local.globals s
      (sym (taken.words.layout ∙ taken.heaps.layout))
      (sym (taken.words.globals ∙ taken.heaps.globals)) (word_state s h)

  module _ (p : Choice) (n : ℕ) (depth : Option ℕ) (vs : List Value)
      (of_kinds : AreOfKinds (kinds_of f.params) vs) where
    -- Arguments

    -- words that the arguments stand for
    standing : StandsForWords (kinds_of f.params) vs
    standing = words_there (kinds_of f.params) vs (kinds_there last f before.last_sorted) of_kinds

    abbrev ws : List Value
    ws = standing.words

    words_sorted : AreOfSorts (map word_sort_of kinds) ws
    words_sorted = subst (λ ks. AreOfSorts (map word_sort_of ks) ws) kinds_same standing.sorted

    views_same : views_at kinds ws ≡ vs
    views_same = ap (λ ks. views_at ks ws) (sym kinds_same) ∙ standing.views

    arguments_sorted : AreOfSorts (map sort_of_kind kinds) vs
    arguments_sorted = kinds_sorted kinds vs (subst (λ ks. AreOfKinds ks vs) kinds_same of_kinds)

    last_begins : begins word_fn vs ≡ begins f vs
    last_begins = ap (λ bs. bound (names_of bs) vs no_env) (sym before.to_last.parameters)

    -- What the steps to words and to the last programs keep

    to_word : W.DoesSame heap word p n (point_of word_fn) heap_fn.body word_fn.body word_fn.results
        depth (begins word_fn ws) (begins word_fn (views_at kinds ws))
    to_word =
        let kept = units_keep_words heap word taken.heap_formed taken.words in
        WordRules.taken_stands word (point_of word_fn) before.to_word.tree heap_fn.body word_fn.body
        word_fn.results before.to_word.takes heap p n word_formed.layout (kept.below p n)
        (kept.lasts p n)
        (body_sorted heap word taken.words heap_fn word_fn before.to_word before.heap_sorted)
        depth (begins word_fn ws) (begins word_fn (views_at kinds ws))

    word_meets : (s : State) → CanBe word s →
        Meets (context_of word) (point_of word_fn) (begins word_fn ws)
        (begins word_fn (views_at kinds ws)) s
    word_meets s h = meets word word_fn ws s words_sorted h

    to_last : E.DoesSame word last p n [] (parameters_of word_fn) word_fn.body f.body depth
        (begins word_fn vs)
    to_last =
        (units_keep word last word_formed taken.last_formed taken.equality).bodies p n x word_fn f
        before.found there depth (begins word_fn vs)

    last_starts : (s : State) → CanBe word s →
        E.Begins word [] (parameters_of word_fn) (begins word_fn vs) s
    last_starts s h = record {
      environment = parameters_sorted word word_fn vs arguments_sorted;
      state = h;
      facts = tt;
    }

    -- In range

    abbrev InRange : FinalUnit → FinalFn → Env → State → Type 0
    InRange w g env s = IsInRange w p g.body env depth (functions_below w p n) s

    pub last_in_range : (s : State) → CanBe last s → InRange last f (begins f vs) s
    last_in_range s h =
        let state = word_state s h in
        subst (λ env. InRange last f env s) last_begins
        (to_last.in_range s (last_starts s state)
        (subst (λ us. InRange word word_fn (begins word_fn us) s) views_same
        (to_word.in_range s (word_meets s state))))

    -- Steady

    module _ (lifted : is_lifted f.level ≡ true) (memory : Memory) (globals : Name → Value)
        (can_be : IsState last.layout last.globals (state_with (OnBytes memory) globals)) where
      -- over the functions of a unit
      abbrev Steady : Layout → FinalUnit → FinalFn → Env → Type 0
      Steady l w g env = IsSteady l p g.body env depth (functions_below w p n) memory globals

      abbrev bytes : State
      bytes = state_with (OnBytes memory) globals

      abbrev types : State
      types = state_with (OnTypes (view word.layout memory)) globals

      word_bytes : CanBe word bytes
      word_bytes = word_state bytes can_be

      word_types : CanBe word types
      word_types =
          view_can_be word.layout word.globals memory globals word_formed.layout word_bytes

      local_lifted : is_lifted local_fn.level ≡ true
      local_lifted =
          ap is_lifted
          (sym (before.to_last.level ∙ before.to_word.level ∙ before.to_heap.same_level)) ∙ lifted

      body : Heaps.IsBodyTaken local.layout levels local_fn.body heap_fn.body
      body =
          subst (λ b. Heaps.IsTakenWhere b local.layout levels local_fn.body heap_fn.body)
          local_lifted before.to_heap.body

      local_arguments : AreOfSorts (map sort_of_kind (kinds_of local_fn.params)) ws
      local_arguments =
          subst (λ bs. AreOfSorts (map sort_of_kind (kinds_of bs)) ws) before.to_heap.parameters
          (subst (λ cs. AreOfSorts cs ws) (sym before.to_word.words) words_sorted)

      place : H.Place local levels (parameters_of local_fn)
      place = record {
        target = heap;
        choice = p;
        turns = n;
        below = (units_keep_heaps levels local heap taken.local_formed taken.heaps).below p n;
        depth = depth;
        environment = begins local_fn ws;
        sorted = parameters_sorted local local_fn ws local_arguments;
      }

      heap_steady : Steady local.layout heap heap_fn (begins local_fn ws)
      unfolding place
      heap_steady =
          (HeapRules.taken_stands local levels taken.local_formed [] (parameters_of local_fn)
          (map sort_of_kind local_fn.results) body.tree local_fn.body heap_fn.body body.takes
          body.bytes (fn_sorted local local_fn before.local_sorted).0 body.calls).steady
          place memory globals (local_state bytes can_be) tt tt

      heap_begins : begins local_fn ws ≡ begins word_fn ws
      heap_begins =
          ap (λ bs. bound (names_of bs) ws no_env) (sym before.to_heap.parameters)
          ∙ ap (λ xs. bound xs ws no_env) before.to_word.parameters

      heap_steady_there : Steady word.layout heap heap_fn (begins word_fn ws)
      heap_steady_there =
          subst (λ l. Steady l heap heap_fn (begins word_fn ws))
          (sym (taken.words.layout ∙ taken.heaps.layout))
          (subst (λ env. Steady local.layout heap heap_fn env) heap_begins heap_steady)

      word_steady : Steady word.layout word word_fn (begins word_fn vs)
      word_steady =
          subst (λ us. Steady word.layout word word_fn (begins word_fn us)) views_same
          (to_word.steady memory globals (word_meets bytes word_bytes) (word_meets types word_types)
          heap_steady_there)

      pub last_is_steady : Steady last.layout last f (begins f vs)
      last_is_steady =
          subst (λ l. Steady l last f (begins f vs)) (sym taken.equality.layout)
          (subst (λ env. Steady word.layout last f env) last_begins
          (to_last.steady memory globals (last_starts bytes word_bytes)
          (last_starts types word_types) word_steady))
