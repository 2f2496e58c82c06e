-- What puts the rest behind what is there puts all behind what was.
use Rattle.std.proofs.Common.{map, length}
use Rattle.c_values.specs.CodeValue.{value_of}
use Rattle.expression_lang.specs.CodeState.{Bindings}
use Rattle.program_runs.specs.Bound.{Extends}
use Rattle.program_runs.proofs.names.bind.Given as goal

abbrev pub invariant-names : goal.invariant-names
invariant-names g l = record {
  so_far : (new : Bindings) → Extends l.env.items (map g.N.Named.named l.rest) (map value_of l.left) new → Extends l.fn.env.items (map g.N.Named.named l.names) (map value_of l.values) new;
}

abbrev pub decreases-names : goal.decreases-names
decreases-names g l = length l.rest
