-- The run of what is generated with every function on bytes is that of the C.
use Rattle.std.proofs.Common.{◌≡◌, List, [], ◌∷◌, map, length, Some, refl, sym, ap, ap₂, subst, ◌∙◌}
use Rattle.std.specs.Prelude.{slice_get, string_bytes}
use Rattle.std.specs.Option.{option_map, IsSomeAnd}
use Rattle.std.proofs.lemmas.List.{length-map}
use Rattle.correspondence.specs.Outcome.{Outcome, Done, Failed, Stopped, Ends}
use Rattle.correspondence.specs.Corresponds.{Corresponds}
use Rattle.c_values.specs.Value.{Value}
use Rattle.c_values.specs.Choice.{Fill}
use Rattle.c_values.specs.Layout.{Layout}
use Rattle.c_values.specs.declared.values.Value as V
use Rattle.c_values.specs.CodeValue.{value_of, global_of}
use Rattle.c_memory.specs.Heap.{OnBytes}
use Rattle.c_memory.specs.Tags.{IsWellTagged}
use Rattle.c_memory.specs.CodeHeap as heaps
use Rattle.expression_lang.specs.Sort.{Level, Bytes, word_sort_of}
use Rattle.expression_lang.specs.Signature.{Invocation, kinds_of}
use Rattle.expression_lang.specs.States.{IsState, state_with}
use Rattle.expression_lang.specs.GuardKind.{GuardKind}
use Rattle.expression_lang.specs.Machine.{Returned}
use Rattle.expression_lang.specs.CodeExpression.{level_of}
use Rattle.expression_lang.specs.CodeSignature as signatures
use Rattle.expression_lang.specs.CodeState as states
use Rattle.expression_lang.specs.declared.signatures.Signature as G
use Rattle.simpl_lang.specs.Command.{SimplFn, SimplUnit}
use Rattle.simpl_lang.specs.Exec.{simpl_runs}
use Rattle.simpl_lang.specs.Sorted.{IsWellFormed}
use Rattle.simpl_lang.specs.CodeCommand.{simpl_fn_of, simpl_unit_of}
use Rattle.simpl_lang.specs.declared.units.SimplUnit as U
use Rattle.simpl_lang.specs.declared.units.SimplFn as F
use Rattle.narrow.specs.Narrow.{IsUnitNarrow}
use Rattle.command_runs.specs.Locals.{AreOfSorts}
use Rattle.command_runs.specs.CodeRun.{CanRun, TakesThem, IsStateOf, IsEnd, OnLasting, call_of, state_in}
use Rattle.command_runs.specs.declared.outcome.COutcome as O
use Rattle.command_runs.specs.declared.outcome.CState as C
use Rattle.c_lang.specs.Typed.{TypedFn, TypedUnit, Variable}
use Rattle.c_lang.specs.CodeTyped.{function_of}
use Rattle.c_lang.specs.declared.tree.TypedFn as T
use Rattle.c_levels.specs.declared.modes.Modes.{Modes}
use Rattle.c_levels.specs.CodeModes.{AreLevels}
use Rattle.c_meaning.specs.CRun.{plain}
use Rattle.c_meaning.specs.Fitting.{AreOfTypes}
use Rattle.c_meaning.specs.Kinds.{variables}
use Rattle.generation.specs.Generate as rules
use Rattle.generation.specs.Generate.{generated}
use Rattle.generation.proofs.ExactUnits.{generated_has_same_ends}
use Rattle.generation.proofs.WellFormedUnits.{generated_is_well_formed}
use Rattle.narrow_units.proofs.NarrowUnits.{generated_is_narrow}
use Rattle.pipeline.specs.Whole.{word_sorts}
use Rattle.pipeline.proofs.Begins.{kinds_are_words}
use Rattle.running.specs.declared.start.Start as S
use Rattle.running.specs.CodeRuns.{unit_at, function_at, memory_at, begin_at, IsStart, HasCEnd, c_ends_at}
use Rattle.running.proofs.Globals.{same_globals, of_types_there}
use Rattle.running.proofs.Starts.{behind_map, mapped, found, is_begin}

-- Levels

abbrev pub each_on_bytes : List T.TypedFn → List Level
each_on_bytes fs = map (λ (f : T.TypedFn). Bytes) fs

all_plain : (fs : List T.TypedFn) → map (λ (f : TypedFn). plain f.name) (map function_of fs) ≡ each_on_bytes fs
all_plain [] = refl
all_plain (f ∷ fs) = ap (λ ls. Bytes ∷ ls) (all_plain fs)

pub plain_levels : (fs : List T.TypedFn) (ls : List Level) → ls ≡ each_on_bytes fs → map (λ (f : TypedFn). plain f.name) (map function_of fs) ≡ ls
plain_levels fs ls e = all_plain fs ∙ sym e

pub as_many : (u : TypedUnit) (m : Modes) → AreLevels u m plain → length m.levels.items ≡ length u.functions
as_many u m h = sym (length-map m.levels.items level_of) ∙ sym (ap length h) ∙ length-map u.functions (λ (f : TypedFn). plain f.name)

-- Arguments

sorted : (l : Layout) (xs : List Variable) (vs : List Value) → AreOfTypes l xs vs → AreOfSorts (word_sorts l.target xs) vs
sorted l [] [] h = tt
sorted l (x ∷ xs) (v ∷ vs) h = (h.0, sorted l xs vs h.1)
sorted l [] (v ∷ vs) h = absurd h
sorted l (x ∷ xs) [] h = absurd h

-- Ends

ends_back : {A F : Type 0} (p q : Ends A F) → Corresponds (λ a b. b ≡ a) (λ k j. j ≡ k) p q → (o : Outcome A F) → q o → p o
ends_back p q h (Done b) e = let (a, same, there) = h.done_back b e in subst (λ x. p (Done x)) (sym same) there
ends_back p q h (Failed g) e = let (f, same, there) = h.failed_back g e in subst (λ x. p (Failed x)) (sym same) there
ends_back p q h (Stopped w) e = h.stopped_back w e

module _ (s : S.Start) (is : IsStart s) (u : U.SimplUnit) (made : simpl_unit_of u ≡ generated (unit_at s) plain) where
  layouts : u.layout ≡ (unit_at s).layout
  layouts = ap (λ (x : SimplUnit). x.layout) made

  globals : map global_of u.globals.items ≡ (unit_at s).globals
  globals = ap (λ (x : SimplUnit). x.globals) made

  pub can_run : CanRun u
  can_run = record {
    formed = subst IsWellFormed (sym made) (generated_is_well_formed (unit_at s) is.typed plain);
    narrow = subst IsUnitNarrow (sym made) (generated_is_narrow (unit_at s) is.typed plain);
  }

  -- the function stands at its place, and its signature too

  function_there : slice_get (map simpl_fn_of u.functions.items) s.position ≡ Some (rules.function_of (unit_at s).layout (plain (function_at s).name) (function_at s))
  function_there =
      ap (λ (x : SimplUnit). slice_get x.functions s.position) made
      ∙ mapped (λ (f : TypedFn). rules.function_of (unit_at s).layout (plain f.name) f) (unit_at s).functions s.position (function_at s) is.there

  signature_there : slice_get (map signatures.signature_of u.signatures.items) s.position ≡ Some (rules.signature_of (unit_at s).layout (plain (function_at s).name) (function_at s))
  signature_there =
      ap (λ (x : SimplUnit). slice_get x.signatures s.position) made
      ∙ mapped (λ (f : TypedFn). rules.signature_of (unit_at s).layout (plain f.name) f) (unit_at s).functions s.position (function_at s) is.there

  module _ (vs : List V.Value) (words : map value_of vs ≡ (begin_at s).arguments) where
    arguments_sorted : AreOfSorts (map word_sort_of (kinds_of (variables (unit_at s).layout.target Bytes (function_at s).params))) (map value_of vs)
    arguments_sorted =
        subst (λ ss. AreOfSorts ss (map value_of vs)) (sym (kinds_are_words (unit_at s).layout.target Bytes (function_at s).params))
        (subst (AreOfSorts (word_sorts (unit_at s).layout.target (function_at s).params)) (sym words)
        (sorted (unit_at s).layout (function_at s).params (begin_at s).arguments (is_begin s is).arguments))

    pub takes_them : TakesThem u s.position (map value_of vs)
    takes_them =
        let (g, there, same) = behind_map signatures.signature_of u.signatures.items s.position _ signature_there in
        subst (λ o. IsSomeAnd o (λ (r : G.Signature). AreOfSorts (map word_sort_of (kinds_of (map signatures.binder_of r.params.items))) (map value_of vs)))
        (sym there)
        (subst (λ r. AreOfSorts (map word_sort_of (kinds_of r.params)) (map value_of vs)) (sym same) arguments_sorted)

    module _ (state : C.CState) (copied : heaps.memory_of state.heap ≡ heaps.memory_of s.heap.now)
        (typed : states.AreOfTypes (unit_at s).layout s.unit.now.globals.items state.globals.items)
        (begin_globals : states.globals_of s.unit.now.globals.items state.globals.items ≡ (begin_at s).globals) where
      pub is_state : IsStateOf u state
      is_state = record {
        heap = subst (λ l. IsWellTagged l (heaps.memory_of state.heap)) (sym layouts) (subst (IsWellTagged (unit_at s).layout) (sym copied) is.tagged);
        globals = of_types_there (unit_at s).layout u.layout s.unit.now.globals.items u.globals.items state.globals.items (sym layouts) (sym globals) typed;
      }

      abbrev c_call : Invocation
      c_call = record { name = (function_at s).name; arguments = (begin_at s).arguments; state = state_with (OnBytes (begin_at s).memory) (begin_at s).globals }

      can_be : IsState (unit_at s).layout (unit_at s).globals c_call.state
      can_be = record { heap = (is_begin s is).tagged; globals = (is_begin s is).globals }

      same_state : state_in u state ≡ state_with (OnBytes (begin_at s).memory) (begin_at s).globals
      same_state =
          ap₂ (λ m gs. state_with (OnBytes m) gs) (copied ∙ is.heap)
          (same_globals u.globals.items s.unit.now.globals.items state.globals.items globals ∙ begin_globals)

      same_call : (g : F.SimplFn) → simpl_fn_of g ≡ rules.function_of (unit_at s).layout (plain (function_at s).name) (function_at s) →
          call_of g (map value_of vs) (state_in u state) ≡ c_call
      same_call g e =
          let name : string_bytes g.name ≡ (function_at s).name = ap (λ (x : SimplFn). x.name) e in
          ap (λ x. record { name = x; arguments = map value_of vs; state = state_in u state }) name
          ∙ ap₂ (λ ws st. record { name = (function_at s).name; arguments = ws; state = st }) words same_state

      -- what the generated function ends with, the C does
      ended : (o : Outcome Returned GuardKind) → simpl_runs (generated (unit_at s) plain) (Fill (memory_at s).fill) (memory_at s).turns (Some 256) c_call o → c_ends_at s o
      ended o h =
          ends_back (c_ends_at s) _
          (generated_has_same_ends (unit_at s) is.typed plain (Fill (memory_at s).fill) (memory_at s).turns (Some 256) c_call (function_at s) (found s is) (is_begin s is).arguments can_be)
          o h

      outcome_held : (o : O.COutcome) → IsEnd u (c_ends_at s) o → OnLasting u o → HasCEnd s o
      outcome_held (O.TheVariants.Value v st) h lasts = (
        subst (λ gs. c_ends_at s (Done (record { result = option_map value_of v; state = state_with (heaps.byte_content st.heap) gs })))
            (same_globals u.globals.items s.unit.now.globals.items st.globals.items globals) h,
        record {
          heap = subst (λ l. IsWellTagged l (heaps.memory_of st.heap)) layouts lasts.heap;
          globals = of_types_there u.layout (unit_at s).layout u.globals.items s.unit.now.globals.items st.globals.items layouts globals lasts.globals;
        },
      )
      outcome_held O.TheVariants.Memory h lasts = tt
      outcome_held _ h _ = h

      is_end : (p q : Ends Returned GuardKind) → ((o : Outcome Returned GuardKind) → p o → q o) → (o : O.COutcome) → IsEnd u p o → IsEnd u q o
      is_end p q f (O.TheVariants.Value v st) h = f _ h
      is_end p q f (O.TheVariants.Guard k) h = f _ h
      is_end p q f O.TheVariants.OutOfTurns h = f _ h
      is_end p q f O.TheVariants.Deep h = f _ h
      is_end p q f O.TheVariants.Memory h = tt

      pub c_end : (o : O.COutcome) →
          IsSomeAnd (slice_get u.functions.items s.position) (λ g. IsEnd u
          (simpl_runs (simpl_unit_of u) (Fill (memory_at s).fill) (memory_at s).turns (Some 256) (call_of g (map value_of vs) (state_in u state))) o) →
          OnLasting u o → HasCEnd s o
      c_end o h lasts =
          let (g, there, same) = behind_map simpl_fn_of u.functions.items s.position _ function_there in
          let runs = λ (x : SimplUnit) (c : Invocation). simpl_runs x (Fill (memory_at s).fill) (memory_at s).turns (Some 256) c in
          let here : IsEnd u (runs (simpl_unit_of u) (call_of g (map value_of vs) (state_in u state))) o =
          subst (λ q. IsSomeAnd q (λ f. IsEnd u (runs (simpl_unit_of u) (call_of f (map value_of vs) (state_in u state))) o)) there h in
          let as_generated : IsEnd u (runs (generated (unit_at s) plain) c_call) o =
          subst (λ x. IsEnd u (runs x c_call) o) made (subst (λ c. IsEnd u (runs (simpl_unit_of u) c) o) (same_call g same) here) in
          outcome_held o (is_end _ (c_ends_at s) ended o as_generated) lasts
