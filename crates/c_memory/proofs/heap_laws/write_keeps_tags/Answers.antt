use Rattle.std.proofs.Common.{◌≡◌, ℕ, List, refl}
use Rattle.c_values.specs.Types.{CType}
use Rattle.c_values.specs.Value.{Value}
use Rattle.c_values.specs.Layout.{Layout}
use Rattle.c_values.specs.Path.{Step}
use Rattle.c_memory.specs.Heap.{Heap, OnBytes, OnTypes, heap_tags, write_heap}
use Rattle.c_memory.proofs.Cells.{tags_written}
use Rattle.c_memory.proofs.heap_laws.write_keeps_tags.Goals as goal

keeps : (l : Layout) (h : Heap) (t : CType) (a : ℕ) (path : List Step) (v : Value) → heap_tags (write_heap l h t a path v) ≡ heap_tags h
keeps l (OnBytes m) t a path v = refl
keeps l (OnTypes cells) t a path v = tags_written l cells t a path v

pub returns : goal.returns
returns c = keeps
