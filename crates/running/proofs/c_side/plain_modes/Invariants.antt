-- The levels so far, and then one for each function that is left.
use Rattle.std.proofs.Common.{◌≡◌, ◌++◌, map, length}
use Rattle.expression_lang.specs.CodeExpression.{level_of}
use Rattle.running.proofs.CRuns.{each_on_bytes}
use Rattle.running.proofs.c_side.plain_modes.Given as goal

abbrev pub invariant-functions : goal.invariant-functions
invariant-functions l = map level_of l.levels.items ++ each_on_bytes l.rest ≡ each_on_bytes l.unit.functions.items

abbrev pub decreases-functions : goal.decreases-functions
decreases-functions l = length l.rest
