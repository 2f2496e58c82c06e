-- The code's states are states that can be.
use Rattle.std.proofs.Common.{map}
use Rattle.c_values.specs.declared.values.Value as V
use Rattle.c_values.specs.declared.values.GlobalVar as G
use Rattle.c_values.specs.declared.program.Program as U
use Rattle.c_values.specs.CodeValue.{global_of}
use Rattle.c_memory.specs.Heap.{Heap}
use Rattle.expression_lang.specs.States.{IsState}
use Rattle.expression_lang.proofs.ScalarValues.{globals_have}
use Rattle.monad_lang.specs.declared.program.FinalFn as F
use Rattle.program_runs.specs.declared.machine.AState as A
use Rattle.program_runs.specs.CodeRun.{state_in, IsStateOf}

pub state_here : {H : Type 0} (content : H → Heap) (u : U.Program F.FinalFn) (s : A.AState H) → IsStateOf content u s → IsState u.layout (map global_of u.globals.items) (state_in content u s)
state_here content u s h = record { heap = h.heap; globals = globals_have u.layout u.globals.items s.globals.items h.globals }
