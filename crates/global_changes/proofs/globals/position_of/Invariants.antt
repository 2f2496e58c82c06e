-- No global before has the name.
use Rattle.std.proofs.Common.{◌≡◌, ◌+◌, length, map}
use Rattle.std.specs.Option.{option_map}
use Rattle.c_values.specs.CodeValue.{global_of}
use Rattle.global_changes.specs.GlobalChange.{position_of}
use Rattle.global_changes.proofs.globals.position_of.Given as goal

abbrev pub invariant-globals : goal.invariant-globals
invariant-globals l = record {
  same : position_of l.name (map global_of l.vars) ≡ option_map (λ j. l.k + j) (position_of l.name (map global_of l.rest));
  passed : l.k + length l.rest ≡ length l.vars;
}

abbrev pub decreases-globals : goal.decreases-globals
decreases-globals l = length l.rest
