-- The copies so far are of the variables so far.
use Rattle.std.proofs.Common.{◌≡◌, map, take}
use Rattle.c_lang.specs.CodeTyped.{variable_of}
use Rattle.c_types.proofs.functions.copy_of_variables.Given as goal

abbrev pub invariant-loop-variable : goal.invariant-loop-variable
invariant-loop-variable l = map variable_of l.copy.items ≡ map variable_of (take l.variable-index l.variables)
