-- Values of sorts, and environments and states that can be.
use Rattle.std.specs.Prelude.{◌≡◌, List, Some}
use Rattle.c_values.specs.Name.{Name}
use Rattle.c_values.specs.Types.{CType}
use Rattle.c_values.specs.Value.{Value, Number, Truth}
use Rattle.c_values.specs.Layout.{Layout, GlobalVar, shape_of, global_type}
use Rattle.c_values.specs.Path.{HasShape, IsBits}
use Rattle.c_memory.specs.Heap.{Heap, IsHeap}
use Rattle.expression_lang.specs.Sort.{Scalar, WordSort, NumberSort, TruthSort, Scope}
use Rattle.expression_lang.specs.Evaluation.{Env, State}

abbrev pub IsOfSort : Scalar → Value → Type 0
IsOfSort (WordSort n) v = IsBits n v
IsOfSort NumberSort (Number n) = Unit {0}
IsOfSort TruthSort (Truth b) = Unit {0}
IsOfSort _ _ = ⊥

-- each name in scope has a value of its sort
abbrev pub IsEnvironment : Scope → Env → Type 0
IsEnvironment g env = (x : Name) (s : Scalar) → g.names x ≡ Some s → IsOfSort s (env x)

-- each global has a value of its type
abbrev pub AreGlobals : Layout → List GlobalVar → (Name → Value) → Type 0
AreGlobals l vs globals = (x : Name) (t : CType) → global_type vs x ≡ Some t → HasShape (shape_of l t) (globals x)

-- memory is well-tagged, and each global has a value of its type
pub record IsState (l : Layout) (vs : List GlobalVar) (s : State) : Type 0 where
  pub heap : IsHeap l s.heap
  pub globals : AreGlobals l vs s.globals

abbrev pub state_with : Heap → (Name → Value) → State
state_with h globals = record { heap = h; globals = globals }
