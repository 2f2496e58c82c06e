-- What a choice and a loop hold beside the programs in them.
use Rattle.std.specs.Prelude.{Bool, List, Option, Some, None}
use Rattle.expression_lang.specs.Expression.{Exp, TruthLit}
use Rattle.monad_lang.specs.Program as M
use Rattle.monad_lang.specs.Program.{Mon, Start}

abbrev pub test_in : Mon → Option Exp
test_in (M.If e m n) = Some e
test_in m = None

-- which branch a constant chooses
abbrev pub chosen_in : Exp → Option Bool
chosen_in (TruthLit b) = Some b
chosen_in e = None

pub record Turn : Type 0 where
  pub starts : List Start
  pub guard : Exp
  pub test : Exp

abbrev pub turn_in : Mon → Option Turn
turn_in (M.Loop starts guard test m) = Some (record { starts = starts; guard = guard; test = test })
turn_in m = None
