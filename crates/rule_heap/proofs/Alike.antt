-- What the rules need of two states that a program and its right side run from: they are the same, or the right one has the
-- typed heap that views the left one's bytes. A place that is covered and in range reads alike, and stays so where it is written.
use Rattle.std.proofs.Common.{◌≡◌, ℕ, true, List, Some}
use Rattle.c_values.specs.Name.{Name}
use Rattle.c_values.specs.Types.{CType}
use Rattle.c_values.specs.Value.{Value}
use Rattle.c_values.specs.Layout.{Layout, shape_of}
use Rattle.c_values.specs.Path.{Step, Spot, spot, in_range, HasShape}
use Rattle.c_memory.specs.Tags.{AreTags}
use Rattle.c_memory.specs.Heap.{heap_tags, is_tagged, read_heap, write_heap}
use Rattle.expression_lang.specs.Evaluation.{State}
use Rattle.expression_lang.specs.States.{state_with}

pub record AreAlike (l : Layout) (alike : State → State → Type 0) : Type 0 where
  pub globals : (s s' : State) → alike s s' → s'.globals ≡ s.globals
  pub tags : (s s' : State) → alike s s' → heap_tags s'.heap ≡ heap_tags s.heap
  pub placed : (s s' : State) → alike s s' → AreTags l (heap_tags s.heap)
  pub reads : (s s' : State) → alike s s' → (t : CType) (a : ℕ) (path : List Step) (q : Spot) → is_tagged l s.heap t a ≡ true → in_range (shape_of l t) path ≡ true →
      spot (shape_of l t) path ≡ Some q → read_heap l s'.heap t a path ≡ read_heap l s.heap t a path
  pub writes : (s s' : State) → alike s s' → (t : CType) (a : ℕ) (path : List Step) (q : Spot) (v : Value) → is_tagged l s.heap t a ≡ true → in_range (shape_of l t) path ≡ true →
      spot (shape_of l t) path ≡ Some q → HasShape q.shape v → alike (state_with (write_heap l s.heap t a path v) s.globals) (state_with (write_heap l s'.heap t a path v) s'.globals)
  pub sets : (s s' : State) → alike s s' → (globals : Name → Value) → alike (state_with s.heap globals) (state_with s'.heap globals)
