-- The values of an environment and of globals are of the sorts of their scope.
use Rattle.std.proofs.Common.{◌≡◌, List, Option, Some, None, refl}
use Rattle.std.proofs.lemmas.Bool.{false≢true}
use Rattle.std.specs.Prelude.{IsSome}
use Rattle.c_values.specs.declared.values.Value as V
use Rattle.c_values.specs.declared.values.GlobalVar as G
use Rattle.c_values.specs.Value.{Value, nothing}
use Rattle.c_values.specs.Layout.{Layout, IsLayout}
use Rattle.c_memory.specs.Heap.{Heap, IsHeap}
use Rattle.expression_lang.specs.Expression.{Exp}
use Rattle.expression_lang.specs.Sort as S
use Rattle.expression_lang.specs.Sort.{Sort, sort_of}
use Rattle.expression_lang.specs.CodeReady.{IsReady}
use Rattle.expression_lang.specs.CodeState.{Bindings, env_of, scope_in, AreScalars, AreOfTypes, state_of}
use Rattle.expression_lang.proofs.Fine.{fine}
use Rattle.expression_lang.proofs.ScalarValues.{names_have, globals_have}

some_sort : (o : Option Sort) → IsSome o → (r : Sort) × (o ≡ Some r)
some_sort (Some r) h = (r, refl)
some_sort None h = absurd (false≢true h)

-- a well-sorted expression can be evaluated
pub sorted_ready : (l : Layout) (bs : Bindings) (heap : Heap) (vars : List G.GlobalVar) (vs : List V.Value) (e : Exp) → IsLayout l → AreScalars bs → AreOfTypes l vars vs → IsHeap l heap →
    IsSome (sort_of (scope_in l bs vars) e) → IsReady l (env_of bs) (state_of heap vars vs) e
sorted_ready l bs heap vars vs e h scalars types k some =
    let o = some_sort (sort_of (scope_in l bs vars) e) some in
    (fine (scope_in l bs vars) h (env_of bs) (state_of heap vars vs) (names_have bs (λ x. None) (λ x. nothing) scalars (λ x c q. absurd cc)) (globals_have l vars vs types) k e o.0 o.1).ready
