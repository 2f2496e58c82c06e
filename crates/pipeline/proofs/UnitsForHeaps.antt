-- The functions of a well-typed unit, generated, without exceptions and with their locals lifted, are ready for typed heaps.
use Rattle.std.proofs.Common.{◌≡◌, true, ◌&&◌, List, [], ◌∷◌, ◌++◌, map, refl}
use Rattle.std.specs.List.{list_all}
use Rattle.std.proofs.lemmas.Bool.{and_parts}
use Rattle.c_values.specs.Name.{Name, are_distinct}
use Rattle.c_values.specs.Layout.{Layout}
use Rattle.expression_lang.specs.Sort.{Level, is_lifted}
use Rattle.rule_exn.specs.Eliminated.{exceptions_eliminated}
use Rattle.rule_local.specs.Units.{outputs_of, context_of}
use Rattle.rule_local.specs.Lifted.{locals_lifted, function_lifted, functions_lifted}
use Rattle.monad_lang.specs.Program.{Mon}
use Rattle.monad_lang.specs.Calls.{calls_only}
use Rattle.rule_heap.specs.HeapLifted.{IsHeapReady, IsLiftable, IsFunctionReady, AreFunctionsReady}
use Rattle.c_lang.specs.Typed as C
use Rattle.c_lang.specs.WellTyped.{IsWellTyped, scope_in, nowhere, are_variables, is_result, are_statements, is_function, are_functions}
use Rattle.c_meaning.specs.Levels.{callees_in}
use Rattle.generation.specs.Generate.{commands, whole_body, function_of, signature_of}
use Rattle.pipeline.specs.Ready.{function_eliminated, CallsLifted, GeneratesReady}
use Rattle.pipeline.proofs.GeneratedForHeaps.{commands_ready, whole_ready}
use Rattle.pipeline.proofs.EliminatedForHeaps.{eliminated_ready}
use Rattle.pipeline.proofs.LiftedForHeaps.{locals_lifted_ready}
use Rattle.pipeline.proofs.ReadyBytes.{ready_is_bytes}
use Rattle.pipeline.proofs.CallsForHeaps.{commands_calls, whole_calls, eliminated_calls, locals_lifted_calls}

-- a program that is ready, and that calls lifted functions alone
is_liftable : (l : Layout) (levels : Name → Level) (m : Mon) → IsHeapReady l [] m → calls_only (λ x. is_lifted (levels x)) m ≡ true → IsLiftable l levels m
is_liftable l levels m h k = record { bytes = ready_is_bytes l m [] h; calls = k; ready = h }

module _ (u : C.TypedUnit) (levels : Name → Level) where
  function_ready : (f : C.TypedFn) → is_function u f ≡ true → (is_lifted (levels f.name) ≡ true → list_all (λ y. is_lifted (levels y)) (callees_in f.body) ≡ true) →
      IsFunctionReady u.layout levels (function_lifted (function_eliminated (function_of u.layout (levels f.name) f)) (signature_of u.layout (levels f.name) f))
  function_ready f w calls =
      let g = scope_in u f in
      let level = levels f.name in
      let test = λ (x : Name). is_lifted (levels x) in
      let body = commands u.layout level f.body in
      let whole = whole_body f.result body in
      let sig = signature_of u.layout level f in
      let ctx = context_of (function_eliminated (function_of u.layout level f)) sig in
      let vs = outputs_of sig.result in
      let flat = (exceptions_eliminated whole).right in
      let typed = (and_parts (are_variables (f.params ++ f.locals) && are_distinct (C.variable_names (f.params ++ f.locals)) && is_result f.result) (are_statements g nowhere f.body) w).1 in (
        refl,
        λ lifted. is_liftable u.layout levels (locals_lifted ctx flat vs).right
            (locals_lifted_ready u.layout ctx flat vs (eliminated_ready u.layout [] whole (whole_ready g level lifted f.result body (commands_ready g level lifted nowhere f.body typed))))
            (locals_lifted_calls test ctx flat vs (eliminated_calls test whole (whole_calls test f.result body (commands_calls test u.layout level f.body (calls lifted))))),
      )

  functions_ready : (fs : List C.TypedFn) → are_functions u fs ≡ true → CallsLifted levels fs →
      AreFunctionsReady u.layout levels (functions_lifted (map function_eliminated (map (λ f. function_of u.layout (levels f.name) f) fs)) (map (λ f. signature_of u.layout (levels f.name) f) fs))
  functions_ready [] w h = tt
  functions_ready (f ∷ fs) w h = let p = and_parts (is_function u f) (are_functions u fs) w in (function_ready f p.0 h.0, functions_ready fs p.1 h.1)

pub generates_ready : (u : C.TypedUnit) → IsWellTyped u → GeneratesReady u
generates_ready u w levels calls = functions_ready u levels u.functions w.functions calls
