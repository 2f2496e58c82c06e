-- What runs of programs from a memory give, on the heap of the function's level.
use Rattle.std.specs.Prelude.{Bool, true, false}
use Rattle.correspondence.specs.Outcome.{Ends}
use Rattle.c_values.specs.declared.program.Program as U
use Rattle.c_memory.specs.Heap.{Heap}
use Rattle.c_memory.specs.CodeHeap.{byte_content}
use Rattle.typed_heap.specs.CodeCells.{typed_content}
use Rattle.monad_lang.specs.declared.program.FinalFn as F
use Rattle.monad_lang.specs.Run.{Answer}
use Rattle.program_runs.specs.WideRun.{Trouble}
use Rattle.program_runs.specs.CodeRun.{IsEnd, OnLasting, OnResults}
use Rattle.ac_interp.specs.declared.abstract_runs.Ran as R

-- typed heaps where the function is lifted
abbrev pub is_typed : R.Ran → Bool
is_typed (R.TheVariants.Typed o) = true
is_typed (R.TheVariants.Bytes o) = false

-- what came of it is an end of the run; for want of memory there is none
abbrev pub HasEnd : U.Program F.FinalFn → Ends Answer Trouble → R.Ran → Type 0
HasEnd u ends (R.TheVariants.Typed o) = IsEnd typed_content u ends o
HasEnd u ends (R.TheVariants.Bytes o) = IsEnd byte_content u ends o

-- where there is a heap after it, it is one that can be, with the tags of the heap before, and each global has a value of its type
abbrev pub HasLasted : U.Program F.FinalFn → Heap → R.Ran → Type 0
HasLasted u before (R.TheVariants.Typed o) = OnLasting typed_content u before o
HasLasted u before (R.TheVariants.Bytes o) = OnLasting byte_content u before o

-- where it gives values, they are the function's results
abbrev pub HasResults : F.FinalFn → R.Ran → Type 0
HasResults f (R.TheVariants.Typed o) = OnResults f o
HasResults f (R.TheVariants.Bytes o) = OnResults f o
