-- What C and Simpl run on, and what a function of either gives.
use Rattle.std.specs.Prelude.{Option}
use Rattle.c_values.specs.Name.{Name, with_name}
use Rattle.c_values.specs.Value.{Value}
use Rattle.expression_lang.specs.Evaluation.{Env, State}

-- the locals, with memory and globals
pub record Machine : Type 0 where
  pub locals : Env
  pub state : State

-- what a function gives: a value, where it has a result, and the state after it
pub record Returned : Type 0 where
  pub result : Option Value
  pub state : State

abbrev pub machine_with : Env → State → Machine
machine_with locals s = record { locals = locals; state = s }

abbrev pub with_local : Name → Value → Machine → Machine
with_local x v m = machine_with (with_name x v m.locals) m.state
