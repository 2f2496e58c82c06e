-- What is said of a call of a C function: how its run ends, from a memory whose bytes and tags are given, at a number of
-- turns, at a limit of nested calls and with a fill number; in C, and in the Simpl that is generated for it.
use Rattle.std.specs.Prelude.{◌≡◌, ℕ, zero, suc, ◌+◌, ◌-◌, List, [], ◌∷◌, Option, Some, nat_lt, if◌then◌else◌, get_or, length}
use Rattle.correspondence.specs.Outcome.{Limit, Done, Failed, Stopped, Ends}
use Rattle.c_values.specs.Name.{Name, same_name}
use Rattle.c_values.specs.Types.{CType}
use Rattle.c_values.specs.Value.{Value, nothing}
use Rattle.c_values.specs.Layout.{GlobalVar}
use Rattle.c_values.specs.Choice.{Fill}
use Rattle.c_memory.specs.Memory.{Tag, Memory}
use Rattle.c_memory.specs.Heap.{Heap, OnBytes, OnTypes, read_heap}
use Rattle.expression_lang.specs.Sort.{Level, Words, Numbers}
use Rattle.expression_lang.specs.Signature.{Invocation}
use Rattle.expression_lang.specs.GuardKind.{GuardKind}
use Rattle.expression_lang.specs.Machine.{Returned}
use Rattle.simpl_lang.specs.Exec.{simpl_runs}
use Rattle.c_lang.specs.Typed.{TypedUnit}
use Rattle.c_meaning.specs.CRun.{c_runs}
use Rattle.generation.specs.Generate.{generated}

pub record Case : Type 0 where
  pub unit : TypedUnit
  pub name : Name
  pub arguments : List Value
  pub turns : ℕ
  pub depth : Option ℕ
  pub fill : ℕ
  pub memory : Memory

-- bytes from an address on, over others
abbrev pub bytes_from : ℕ → List ℕ → (ℕ → ℕ) → ℕ → ℕ
bytes_from a bs others x = if nat_lt x a then others x else get_or bs (x - a) (others x)

abbrev pub zeros : ℕ → ℕ
zeros x = 0

abbrev pub no_memory : Memory
no_memory = record { bytes = zeros; tags = [] }

abbrev pub tag : ℕ → CType → Tag
tag a t = record { address = a; type = t }

-- a call at 100 turns and 256 nested calls, with the fill number 0, in a memory
abbrev pub call : TypedUnit → Name → List Value → Memory → Case
call u f vs m = record { unit = u; name = f; arguments = vs; turns = 100; depth = Some 256; fill = 0; memory = m }

-- the values that globals begin with
abbrev pub initial : List GlobalVar → Name → Value
initial [] x = nothing
initial (v ∷ vs) x = if same_name v.name x then v.initial else initial vs x

abbrev pub invocation : Case → Invocation
invocation c = record { name = c.name; arguments = c.arguments; state = record { heap = OnBytes c.memory; globals = initial c.unit.globals } }

-- the ends of the call's runs, each function watched by its level
abbrev pub ends : (Name → Level) → Case → Ends Returned GuardKind
ends levels c = c_runs c.unit levels (Fill c.fill) c.turns c.depth (invocation c)

-- every function at one level
abbrev pub words : Name → Level
words x = Words

abbrev pub numbers : Name → Level
numbers x = Numbers

-- so many bytes from an address on
abbrev pub bytes_at : (ℕ → ℕ) → ℕ → ℕ → List ℕ
bytes_at bytes a zero = []
bytes_at bytes a (suc n) = bytes a ∷ bytes_at bytes (a + 1) n

abbrev pub heap_bytes : Heap → ℕ → ℕ
heap_bytes (OnBytes m) = m.bytes
heap_bytes (OnTypes cells) = zeros

-- the ends of the same call in the Simpl that is generated for the unit
abbrev pub simpl_ends : (Name → Level) → Case → Ends Returned GuardKind
simpl_ends levels c = simpl_runs (generated c.unit levels) (Fill c.fill) c.turns c.depth (invocation c)

-- The run returns this result, in C and in the generated Simpl.
pub record Returns (levels : Name → Level) (c : Case) (v : Option Value) : Type 0 where
  pub returned : Returned
  pub is_end : ends levels c (Done returned)
  pub is_result : returned.result ≡ v
  pub in_simpl : Returned
  pub is_simpl_end : simpl_ends levels c (Done in_simpl)
  pub is_simpl_result : in_simpl.result ≡ v

-- It returns the result and leaves these bytes from an address on.
pub record Leaves (levels : Name → Level) (c : Case) (v : Option Value) (a : ℕ) (bs : List ℕ) : Type 0 where
  pub returned : Returned
  pub is_end : ends levels c (Done returned)
  pub is_result : returned.result ≡ v
  pub has_bytes : bytes_at (heap_bytes returned.state.heap) a (length bs) ≡ bs
  pub in_simpl : Returned
  pub is_simpl_end : simpl_ends levels c (Done in_simpl)
  pub is_simpl_result : in_simpl.result ≡ v
  pub has_simpl_bytes : bytes_at (heap_bytes in_simpl.state.heap) a (length bs) ≡ bs

-- It leaves this value of a type at an address.
pub record Holds (levels : Name → Level) (c : Case) (t : CType) (a : ℕ) (v : Value) : Type 0 where
  pub returned : Returned
  pub is_end : ends levels c (Done returned)
  pub has_value : read_heap c.unit.layout returned.state.heap t a [] ≡ v
  pub in_simpl : Returned
  pub is_simpl_end : simpl_ends levels c (Done in_simpl)
  pub has_simpl_value : read_heap c.unit.layout in_simpl.state.heap t a [] ≡ v

-- It is undefined, and the guard of that kind fails in the generated Simpl.
pub record Undefined (levels : Name → Level) (c : Case) (k : GuardKind) : Type 0 where
  pub is_end : ends levels c (Failed k)
  pub is_simpl_end : simpl_ends levels c (Failed k)

pub record Stops (levels : Name → Level) (c : Case) (w : Limit) : Type 0 where
  pub is_end : ends levels c (Stopped w)
  pub is_simpl_end : simpl_ends levels c (Stopped w)

-- The same in C alone, for runs that are long.
pub record ReturnsInC (levels : Name → Level) (c : Case) (v : Option Value) : Type 0 where
  pub returned : Returned
  pub is_end : ends levels c (Done returned)
  pub is_result : returned.result ≡ v

pub record StopsInC (levels : Name → Level) (c : Case) (w : Limit) : Type 0 where
  pub is_end : ends levels c (Stopped w)
