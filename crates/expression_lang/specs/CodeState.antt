-- What the code's environments and states stand for.
use Rattle.std.specs.Prelude.{List, [], ◌∷◌, map, Option, Some, None, if◌then◌else◌, String, string_bytes}
use Rattle.std.specs.declared.alloc.Global.{Global}
use Rattle.c_values.specs.declared.values.Value as V
use Rattle.c_values.specs.declared.values.GlobalVar as G
use Rattle.c_values.specs.Name.{Name, same_name, with_name}
use Rattle.c_values.specs.Word.{IsWord}
use Rattle.c_values.specs.Value.{Value, Bits, Number, Truth, Parts, nothing}
use Rattle.c_values.specs.Layout.{Layout, shape_of, global_type}
use Rattle.c_values.specs.Path.{HasShape}
use Rattle.c_values.specs.CodeTypes.{type_of}
use Rattle.c_values.specs.CodeValue.{value_of, global_of}
use Rattle.c_memory.specs.Heap.{Heap}
use Rattle.expression_lang.specs.Sort.{Scalar, WordSort, NumberSort, TruthSort, Scope}
use Rattle.expression_lang.specs.Evaluation.{Env, State}

abbrev pub Bindings : Type 0
Bindings = List (String Global × V.Value)

-- the values under the names; of two with one name the last counts
abbrev pub env_with : Bindings → Env → Env
env_with [] env = env
env_with (b ∷ bs) env = env_with bs (with_name (string_bytes b.0) (value_of b.1) env)

abbrev pub env_of : Bindings → Env
env_of bs = env_with bs (λ x. nothing)

-- the scalar of a value that has no parts
abbrev pub scalar_of_value : Value → Option Scalar
scalar_of_value (Bits w) = Some (WordSort w.width)
scalar_of_value (Number n) = Some NumberSort
scalar_of_value (Truth b) = Some TruthSort
scalar_of_value (Parts vs) = None

-- the names with their values' scalars
abbrev pub scalars_with : Bindings → (Name → Option Scalar) → Name → Option Scalar
scalars_with [] names = names
scalars_with (b ∷ bs) names = scalars_with bs (with_name (string_bytes b.0) (scalar_of_value (value_of b.1)) names)

-- the scope of an environment
abbrev pub scope_in : Layout → Bindings → List G.GlobalVar → Scope
scope_in l bs vars = record { layout = l; names = scalars_with bs (λ x. None); globals = global_type (map global_of vars) }

-- a word, a number or a truth value
abbrev pub IsScalar : Value → Type 0
IsScalar (Bits w) = IsWord w.width w
IsScalar (Number n) = Unit {0}
IsScalar (Truth b) = Unit {0}
IsScalar (Parts vs) = ⊥

-- the values are words, numbers and truth values
abbrev pub AreScalars : Bindings → Type 0
AreScalars [] = Unit {0}
AreScalars (b ∷ bs) = IsScalar (value_of b.1) × AreScalars bs

-- each global's value, in the order of the globals
abbrev pub globals_of : List G.GlobalVar → List V.Value → Name → Value
globals_of (g ∷ gs) (v ∷ vs) x = if same_name (string_bytes g.name) x then value_of v else globals_of gs vs x
globals_of _ _ x = nothing

-- each value is of its global's type
abbrev pub AreOfTypes : Layout → List G.GlobalVar → List V.Value → Type 0
AreOfTypes l [] [] = Unit {0}
AreOfTypes l (g ∷ gs) (v ∷ vs) = HasShape (shape_of l (type_of g.ty)) (value_of v) × AreOfTypes l gs vs
AreOfTypes l [] (v ∷ vs) = ⊥
AreOfTypes l (g ∷ gs) [] = ⊥

abbrev pub state_of : Heap → List G.GlobalVar → List V.Value → State
state_of heap vars globals = record { heap = heap; globals = globals_of vars globals }
