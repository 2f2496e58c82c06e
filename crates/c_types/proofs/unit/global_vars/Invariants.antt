-- What was made so far, and what is left, are all.
use Rattle.std.proofs.Common.{◌≡◌, ◌++◌, map}
use Rattle.c_values.specs.CodeValue.{global_of as var_of}
use Rattle.typing_rules.specs.Unit.{global_var}
use Rattle.typing_scope.specs.CodeScope.{global_of}
use Rattle.c_types.proofs.unit.global_vars.Given as goal

abbrev pub invariant-loop-global : goal.invariant-loop-global
invariant-loop-global l =
    map (global_var l.layout) (map global_of l.fn.globals.entries) ≡ map var_of l.vars.items ++ map (global_var l.layout) (map global_of l.global-iterator)
