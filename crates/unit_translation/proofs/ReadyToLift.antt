-- The locals of generated functions can be lifted, once exceptions are taken out.
use Rattle.std.proofs.Common.{◌≡◌, true, List, [], ◌∷◌, map, ◌&&◌}
use Rattle.std.proofs.lemmas.Bool.{and_parts}
use Rattle.c_values.specs.Name.{Name, same_name, are_distinct}
use Rattle.expression_lang.specs.Sort.{Level, are_kinds}
use Rattle.expression_lang.specs.Signature.{Signature, names_of, kinds_of}
use Rattle.simpl_lang.specs.Command.{SimplFn, SimplUnit}
use Rattle.simpl_lang.specs.Sorted.{are_fns_sorted, are_signed, come_first, holds_result, is_sorted, same_level, scope_of}
use Rattle.rule_local.proofs.InScope.{sorted_names_locals}
use Rattle.rule_local.proofs.UnitsLifted.{outputs_local}
use Rattle.c_lang.specs.Typed.{TypedUnit}
use Rattle.c_lang.specs.WellTyped.{IsWellTyped}
use Rattle.generation.specs.Generate.{generated}
use Rattle.generation.proofs.FlagUnused.{generated_leaves_the_flag}
use Rattle.generation.proofs.WellFormedUnits.{generated_is_well_formed}
use Rattle.pipeline.specs.Ready.{function_eliminated, unit_eliminated}
use Rattle.pipeline.proofs.EliminatedUnits.{unit_formed}
use Rattle.unit_translation.specs.CodeTranslated.{IsReadyToLift, AllReadyToLift}

module _ (v : SimplUnit) where
  one : (f : SimplFn) (fs : List SimplFn) (s : Signature) (ss : List Signature) →
      are_fns_sorted v (function_eliminated f ∷ fs) ≡ true → holds_result s.result f.locals ≡ true → IsReadyToLift f s
  one f fs s ss h r =
      let g = function_eliminated f in
      let p = and_parts (are_kinds (kinds_of g.locals) && are_distinct (names_of g.locals)
      && is_sorted (scope_of v g) v.signatures g.body) (are_fns_sorted v fs) h in
      let q = and_parts (are_kinds (kinds_of g.locals) && are_distinct (names_of g.locals))
      (is_sorted (scope_of v g) v.signatures g.body) p.0 in
      record {
        kinds = (and_parts (are_kinds (kinds_of g.locals)) (are_distinct (names_of g.locals)) q.0).0;
        names = λ x. sorted_names_locals v g x q.1;
        outputs = outputs_local s.result f.locals r;
      }

  rest : (f : SimplFn) (fs : List SimplFn) → are_fns_sorted v (f ∷ fs) ≡ true → are_fns_sorted v fs ≡ true
  rest f fs h =
      (and_parts (are_kinds (kinds_of f.locals) && are_distinct (names_of f.locals)
      && is_sorted (scope_of v f) v.signatures f.body) (are_fns_sorted v fs) h).1

  all : (fs : List SimplFn) (ss : List Signature) → are_fns_sorted v (map function_eliminated fs) ≡ true →
      are_signed fs ss ≡ true → AllReadyToLift fs ss
  all [] ss h k = tt
  all (f ∷ fs) [] h k = tt
  all (f ∷ fs) (s ∷ ss) h k =
      let p = and_parts (same_name f.name s.name && same_level f.level s.level && come_first s.params f.locals
      && holds_result s.result f.locals) (are_signed fs ss) k in
      let q = and_parts (same_name f.name s.name && same_level f.level s.level && come_first s.params f.locals)
      (holds_result s.result f.locals) p.0 in
      (one f (map function_eliminated fs) s ss h q.1, all fs ss (rest (function_eliminated f) (map function_eliminated fs) h) p.1)

pub generated_are_ready : (u : TypedUnit) → IsWellTyped u → (levels : Name → Level) →
    AllReadyToLift (generated u levels).functions (generated u levels).signatures
generated_are_ready u typed levels =
    let formed = generated_is_well_formed u typed levels in
    let flat = unit_formed (generated u levels) formed (generated_leaves_the_flag u levels typed) in
    all (unit_eliminated (generated u levels)) (generated u levels).functions (generated u levels).signatures flat.functions
    formed.signatures
