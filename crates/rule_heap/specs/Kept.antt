-- What the phase keeps of functions. A lifted function's program on bytes and its program on typed heaps, called from
-- bytes and from the typed heap that views them, have the same values and globals and memories that are so related,
-- fail alike and stop alike; and called from one state both do the same.
use Rattle.std.specs.Prelude.{◌≡◌, map}
use Rattle.correspondence.specs.Related.{Related, Same, BothFail}
use Rattle.c_values.specs.Name.{Name}
use Rattle.c_values.specs.Layout.{Layout}
use Rattle.c_memory.specs.Memory.{Memory}
use Rattle.c_memory.specs.Footprint.{KeepsMemory}
use Rattle.c_memory.specs.Heap.{OnBytes}
use Rattle.expression_lang.specs.Sort.{Level, is_lifted}
use Rattle.expression_lang.specs.Signature.{Invocation}
use Rattle.monad_lang.specs.Program.{FinalUnit}
use Rattle.monad_lang.specs.Run.{Answer, Runs}
use Rattle.monad_lang.specs.Sorted.{signature_of}
use Rattle.c_memory.specs.LevelHeap.{heap_for}
use Rattle.program_facts.specs.Lasting.{CanBeCalled}

-- a call of a function of the unit that can be
abbrev pub IsCall : FinalUnit → Invocation → Type 0
IsCall u c = CanBeCalled u.layout u.globals (map signature_of u.functions) c

-- a call on bytes, and the same call on the heap that its function's level gives it for those bytes
pub record OnItsHeap (u : FinalUnit) (levels : Name → Level) (c c' : Invocation) : Type 0 where
  pub memory : Memory
  pub call : IsCall u c
  pub bytes : c.state.heap ≡ OnBytes memory
  pub heap : c'.state.heap ≡ heap_for u.layout (is_lifted (levels c.name)) memory
  pub name : c'.name ≡ c.name
  pub arguments : c'.arguments ≡ c.arguments
  pub globals : c'.state.globals ≡ c.state.globals

-- an answer on bytes, which are kept outside of the footprints, and the same answer on the heap of the level
pub record AnswersOnItsHeap (l : Layout) (levels : Name → Level) (c : Invocation) (a b : Answer) : Type 0 where
  pub before : Memory
  pub after : Memory
  pub began : c.state.heap ≡ OnBytes before
  pub bytes : a.state.heap ≡ OnBytes after
  pub heap : b.state.heap ≡ heap_for l (is_lifted (levels c.name)) after
  pub values : b.values ≡ a.values
  pub globals : b.state.globals ≡ a.state.globals
  pub keeps : KeepsMemory l (is_lifted (levels c.name)) before after

-- the same call
pub record SameCall (u : FinalUnit) (c c' : Invocation) : Type 0 where
  pub same : c' ≡ c
  pub call : IsCall u c

-- programs on bytes of the unit, and programs on typed heaps where the function is lifted: from the heap of the level,
-- and from one state, bytes or typed heaps
pub record HeapsKept (u : FinalUnit) (levels : Name → Level) (f g : Runs) : Type 0 where
  pub on_its_heap : Related (OnItsHeap u levels) (AnswersOnItsHeap u.layout levels) BothFail f g
  pub on_one_heap : Related (SameCall u) (λ c. Same) BothFail f g
