-- Two functions, their memories, and the states after them.
use Rattle.std.specs.Prelude.{ℕ, false, List, [], ◌∷◌, Option, Some, None, pos, codes}
use Rattle.correspondence.specs.Outcome.{Outcome, Done}
use Rattle.c_values.specs.Name.{Name}
use Rattle.c_values.specs.Types.{Lp64, CType, Integer, Int, UInt, Ptr, Struct}
use Rattle.c_values.specs.Value.{Value, Bits, Number, Parts, no_values, more, nothing}
use Rattle.c_values.specs.Layout.{StructDef}
use Rattle.c_memory.specs.Memory as bytes
use Rattle.c_memory.specs.Ranges.{Run, run_byte}
use Rattle.c_memory.specs.Heap.{OnBytes, OnTypes}
use Rattle.c_memory.specs.TypedHeap.{Cell}
use Rattle.expression_lang.specs.GuardKind.{GuardKind}
use Rattle.expression_lang.specs.Machine.{Returned}
use Rattle.expression_lang.specs.States.{state_with}
use Rattle.expression_lang.specs.Wide.{Operation}
use Rattle.monad_lang.specs.Run.{Answer}
use Rattle.c_lang.specs.Typed.{TypedUnit, TypedFn, Variable, no_statements}
use Rattle.memory_text.specs.MemoryText.{Memory}

-- a function without its body, of which the lines say nothing
abbrev pub head : Name → Option CType → List Variable → TypedFn
head x result params = record { name = x; result = result; params = params; locals = []; folds_cast = false; body = no_statements }

abbrev pub no_globals : Name → Value
no_globals x = nothing

abbrev pub unsigned_pointer : Name → Variable
unsigned_pointer x = record { name = x; type = Ptr (Integer UInt) }

-- void swap(unsigned *a, unsigned *b)
abbrev pub swap : TypedFn
swap = head (codes "swap") None (unsigned_pointer (codes "a") ∷ unsigned_pointer (codes "b") ∷ [])

abbrev pub swap_unit : TypedUnit
swap_unit = record { layout = record { target = Lp64; structs = [] }; globals = []; functions = swap ∷ [] }

abbrev pub swap_tags : List bytes.Tag
swap_tags = record { address = 4096; type = Integer UInt } ∷ record { address = 4100; type = Integer UInt } ∷ []

abbrev pub swap_memory : Memory
swap_memory = record {
  function = codes "swap";
  arguments = more (Number (pos 4096)) (more (Number (pos 4100)) no_values);
  turns = 100;
  fill = 0;
  bytes = record { address = 4096; bytes = 1 ∷ 0 ∷ 0 ∷ 0 ∷ 2 ∷ 0 ∷ 0 ∷ 0 ∷ [] } ∷ [];
  tags = swap_tags;
  globals = [];
}

-- the numbers 2 and 1
abbrev pub swapped : Run
swapped = record { address = 4096; bytes = 2 ∷ 0 ∷ 0 ∷ 0 ∷ 1 ∷ 0 ∷ 0 ∷ 0 ∷ [] }

abbrev pub swap_end : Outcome Returned GuardKind
swap_end = Done (record { result = None; state = state_with (OnBytes (record { bytes = run_byte (swapped ∷ []); tags = swap_tags })) no_globals })

abbrev pub unsigned_cell : ℕ → ℕ → Cell
unsigned_cell a n = record { tag = record { address = a; type = Integer UInt }; value = Bits (record { width = 32; bits = n }) }

abbrev pub swap_program_end : Outcome Answer (Option Operation)
swap_program_end = Done (record { values = []; state = state_with (OnTypes (unsigned_cell 4096 2 ∷ unsigned_cell 4100 1 ∷ [])) no_globals })

-- struct s { int x; }; int h(struct s *p), which puts 5 there, and gives 1
abbrev pub s_type : CType
s_type = Struct (codes "s")

abbrev pub h : TypedFn
h = head (codes "h") (Some (Integer Int)) (record { name = codes "p"; type = Ptr s_type } ∷ [])

abbrev pub s_definition : StructDef
s_definition = record { name = codes "s"; members = record { name = codes "x"; type = Integer Int } ∷ [] }

abbrev pub h_unit : TypedUnit
h_unit = record { layout = record { target = Lp64; structs = s_definition ∷ [] }; globals = []; functions = h ∷ [] }

abbrev pub h_tags : List bytes.Tag
h_tags = record { address = 4096; type = s_type } ∷ []

abbrev pub h_memory : Memory
h_memory = record {
  function = codes "h";
  arguments = more (Number (pos 4096)) no_values;
  turns = 100;
  fill = 0;
  bytes = record { address = 4096; bytes = 4 ∷ 0 ∷ 0 ∷ 0 ∷ [] } ∷ [];
  tags = h_tags;
  globals = [];
}

abbrev pub one : Value
one = Bits (record { width = 32; bits = 1 })

abbrev pub five_there : Run
five_there = record { address = 4096; bytes = 5 ∷ 0 ∷ 0 ∷ 0 ∷ [] }

abbrev pub h_end : Outcome Returned GuardKind
h_end = Done (record { result = Some one; state = state_with (OnBytes (record { bytes = run_byte (five_there ∷ []); tags = h_tags })) no_globals })

abbrev pub s_cell : Cell
s_cell = record { tag = record { address = 4096; type = s_type }; value = Parts (more (Bits (record { width = 32; bits = 5 })) no_values) }

abbrev pub h_program_end : Outcome Answer (Option Operation)
h_program_end = Done (record { values = one ∷ []; state = state_with (OnTypes (s_cell ∷ [])) no_globals })
