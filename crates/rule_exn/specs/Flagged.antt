-- What an accepted tree gives: the right side ends as the left side does, with the exception in a flag.
use Rattle.std.specs.Prelude.{◌≡◌, Bool, true, false}
use Rattle.c_values.specs.Value.{Truth}
use Rattle.expression_lang.specs.Machine.{Machine}
use Rattle.simpl_lang.specs.Exec.{Flow, Normal, Abrupt}
use Rattle.simpl_lang.specs.Names.{AgreeBut}
use Rattle.simpl_lang.specs.Flag.{thrown_local}

-- the same memory, globals and locals, but for the flag
pub record SameButFlag (m n : Machine) : Type 0 where
  pub locals : AgreeBut thrown_local m.locals n.locals
  pub state : n.state ≡ m.state

-- and the flag says whether something was thrown
pub record Flagged (thrown : Bool) (m n : Machine) : Type 0 where
  pub others : SameButFlag m n
  pub flag : n.locals thrown_local ≡ Truth thrown

-- the right side ends normally, its flag being `#f` where the left side ends normally and `#t` where it ends abruptly
abbrev pub Shows : Flow → Flow → Type 0
Shows (Normal m) (Normal n) = Flagged false m n
Shows (Abrupt m) (Normal n) = Flagged true m n
Shows (Normal m) (Abrupt n) = ⊥
Shows (Abrupt m) (Abrupt n) = ⊥
