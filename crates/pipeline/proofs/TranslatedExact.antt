-- What the translations make of a well-typed unit are programs of its functions, and exact.
use Rattle.std.proofs.Common.{◌≡◌, Bool, true, List, [], ◌∷◌, map, Option, Some, None, refl}
use Rattle.c_values.specs.Name.{Name}
use Rattle.c_values.specs.Layout.{Layout}
use Rattle.expression_lang.specs.Expression.{Exp}
use Rattle.expression_lang.specs.Sort.{Level, Kind}
use Rattle.simpl_lang.specs.Command.{SimplUnit}
use Rattle.simpl_lang.specs.Sorted as Simpl
use Rattle.monad_lang.specs.Program.{FinalFn, FinalUnit}
use Rattle.monad_lang.specs.Sorted.{IsWellFormed}
use Rattle.rule_trees.specs.RuleTree.{node, no_trees}
use Rattle.rule_local.specs.Lifted.{functions_lifted, unit_lifted}
use Rattle.rule_local.proofs.UnitsLifted.{unit_is_taken}
use Rattle.rule_local.proofs.UnitsSorted.{unit_formed as local_unit_formed}
use Rattle.rule_heap.specs.HeapLifted.{functions_on_heaps}
use Rattle.rule_heap.proofs.HeapFormed.{unit_formed as heap_unit_formed, unit_taken as heap_unit_taken}
use Rattle.rule_word.specs.Rule.{Context}
use Rattle.rule_word.specs.Scopes.{result_as_list}
use Rattle.rule_word.specs.UnitAbstracted.{FunctionKinds, right_context, functions_abstracted, AreFor}
use Rattle.rule_word.specs.Units.{IsUnitAbstractedTo}
use Rattle.rule_word.proofs.UnitTaken.{unit_taken as word_unit_taken}
use Rattle.rule_word.proofs.UnitsFormed.{units_formed}
use Rattle.rule_eq.specs.Rule.{Refl}
use Rattle.rule_eq.specs.Units as Equality
use Rattle.c_lang.specs.Typed.{TypedFn, TypedUnit}
use Rattle.c_lang.specs.WellTyped.{IsWellTyped}
use Rattle.c_meaning.specs.Levels.{AreDefaultLevels}
use Rattle.generation.specs.Generate.{function_of, signature_of, generated}
use Rattle.generation.proofs.FlagUnused.{generated_leaves_the_flag}
use Rattle.generation.proofs.WellFormedUnits.{generated_is_well_formed}
use Rattle.pipeline.specs.Ready.{function_eliminated, unit_eliminated, CallsLifted}
use Rattle.pipeline.proofs.UnitsForHeaps.{generates_ready}
use Rattle.pipeline.proofs.DefaultLevels.{default_calls_lifted}
use Rattle.pipeline.specs.GeneratesReady.{kinds_of_functions, kinds_in, on_words, AreWordReady}
use Rattle.pipeline.proofs.UnitsForNumbers.{generates_word_ready}
use Rattle.exactness.specs.Exact.{results_of, ArePrograms, AreProgramsOf, IsExact}
use Rattle.pipeline.specs.Taken.{AreTaken}
use Rattle.pipeline.specs.Translated.{unit_translated}
use Rattle.pipeline.proofs.EliminatedUnits as Eliminated
use Rattle.pipeline.proofs.TakenExact.{taken_is_exact}

-- The rules take each program to itself.
functions_stay : (u : FinalUnit) (fs : List FinalFn) → Equality.AreTakenTo u fs fs
functions_stay u [] = tt
functions_stay u (f ∷ fs) = (
  record { name = refl; level = refl; parameters = refl; results = refl; tree = node Refl no_trees; takes = (refl, tt) },
  functions_stay u fs,
)

unit_stays : (u : FinalUnit) → Equality.IsUnitTakenTo u u
unit_stays u = record { layout = refl; globals = refl; functions = functions_stay u u.functions }

-- functions whose programs are ready have the kinds that are said
kinds_fit : (same : Exp → Exp → Bool) (ctx : Context) (fs : List FinalFn) (ks : List FunctionKinds) →
    AreWordReady same ctx fs ks → AreFor ctx fs ks
kinds_fit same ctx [] [] h = tt
kinds_fit same ctx (f ∷ fs) (k ∷ ks) h = (h.0.kinds, kinds_fit same ctx fs ks h.1)
kinds_fit same ctx [] (k ∷ ks) h = absurd h
kinds_fit same ctx (f ∷ fs) [] h = absurd h

pub same_results : (r : Option Kind) → result_as_list r ≡ results_of r
same_results None = refl
same_results (Some k) = refl

are_programs : (same : Exp → Exp → Bool) (ctx : Context) (l : Layout) (levels : Name → Level) (fs : List TypedFn) →
    ArePrograms l.target levels fs (functions_abstracted same ctx
    (functions_on_heaps (functions_lifted (map function_eliminated (map (λ f. function_of l (levels f.name) f) fs))
    (map (λ f. signature_of l (levels f.name) f) fs)))
    (kinds_of_functions (map (λ f. function_of l (levels f.name) f) fs) (map (λ f. signature_of l (levels f.name) f) fs)))
are_programs same ctx l levels [] = tt
are_programs same ctx l levels (f ∷ fs) = (
  record { name = refl; at_level = refl; params = refl; results = same_results (signature_of l (levels f.name) f).result },
  are_programs same ctx l levels fs,
)

pub translated_are_programs : (same : Exp → Exp → Bool) (u : TypedUnit) (levels : Name → Level) →
    AreProgramsOf u levels (unit_translated same u levels)
translated_are_programs same u levels = record {
  layout = refl;
  globals = refl;
  functions = are_programs same (right_context (on_words (generated u levels)) (kinds_in (generated u levels)))
      u.layout levels u.functions;
}

module _ (same : Exp → Exp → Bool) (is_same : (a b : Exp) → same a b ≡ true → a ≡ b) (u : TypedUnit) (typed : IsWellTyped u)
    (levels : Name → Level) (calls : CallsLifted levels u.functions) where
  abbrev g : SimplUnit
  g = generated u levels

  flat_formed : Simpl.IsWellFormed (unit_eliminated (generated u levels))
  flat_formed =
      Eliminated.unit_formed (generated u levels) (generated_is_well_formed u typed levels)
      (generated_leaves_the_flag u levels typed)

  local_formed : IsWellFormed (unit_lifted (unit_eliminated (generated u levels)))
  local_formed = local_unit_formed (unit_eliminated (generated u levels)) flat_formed

  heap_formed : IsWellFormed (on_words (generated u levels))
  heap_formed = heap_unit_formed (unit_lifted (unit_eliminated (generated u levels))) local_formed

  -- whatever the test, the kinds fit: readiness asks of it to find what is equal, as one that is always true does
  fit : AreFor (right_context (on_words g) (kinds_in g)) (on_words g).functions (kinds_in g)
  fit =
      kinds_fit (λ a b. true) (right_context (on_words g) (kinds_in g)) (on_words g).functions (kinds_in g)
      (generates_word_ready u typed (λ a b. true) (λ e. refl) levels)

  to_numbers : IsUnitAbstractedTo (on_words g) (unit_translated same u levels)
  to_numbers = word_unit_taken same is_same (on_words g) (kinds_in g) heap_formed fit

  pub translated_is_taken : AreTaken u levels (generated u levels) (unit_eliminated (generated u levels))
      (unit_lifted (unit_eliminated (generated u levels))) (on_words (generated u levels))
      (unit_translated same u levels) (unit_translated same u levels)
  translated_is_taken = record {
    typed = typed;
    generation = refl;
    exceptions = Eliminated.unit_taken (generated u levels);
    flat_formed = flat_formed;
    locals = unit_is_taken (unit_eliminated (generated u levels)) flat_formed (Eliminated.unit_flat (generated u levels));
    local_formed = local_formed;
    heaps = heap_unit_taken levels (unit_lifted (unit_eliminated (generated u levels))) (generates_ready u typed levels calls);
    heap_formed = heap_formed;
    words = to_numbers;
    equality = unit_stays (unit_translated same u levels);
    last_formed = units_formed (on_words g) (unit_translated same u levels) heap_formed to_numbers;
    programs = translated_are_programs same u levels;
  }

  pub translated_is_exact : IsExact u levels (unit_translated same u levels)
  translated_is_exact =
      taken_is_exact u levels g (unit_eliminated g) (unit_lifted (unit_eliminated g)) (on_words g)
      (unit_translated same u levels) (unit_translated same u levels) translated_is_taken

-- at the levels that functions have by default
pub translated_by_default : (same : Exp → Exp → Bool) → ((a b : Exp) → same a b ≡ true → a ≡ b) → (u : TypedUnit) →
    IsWellTyped u → (bytes words : List Name) (levels : Name → Level) → AreDefaultLevels u bytes words levels →
    IsExact u levels (unit_translated same u levels)
translated_by_default same is_same u typed bytes words levels default' =
    translated_is_exact same is_same u typed levels (default_calls_lifted u bytes words levels default' typed)
