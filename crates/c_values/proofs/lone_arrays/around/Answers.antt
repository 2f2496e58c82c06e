-- At the end there is nothing to go through.
use Rattle.std.proofs.Common.{◌∙◌, sym}
use Rattle.c_values.specs.CodeTypes.{type_of}
use Rattle.c_values.specs.CodeValue.{value_of}
use Rattle.c_values.proofs.Lone.{around_other}
use Rattle.c_values.proofs.lone_arrays.around.Goals as goal

pub returns : goal.returns
returns c = sym (around_other (type_of c.outwards.outer.now) (value_of c.outwards.whole) c.in_default.ensures.none) ∙ c.outwards.invariant
