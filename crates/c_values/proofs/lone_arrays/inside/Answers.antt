-- At the end there is nothing to go through.
use Rattle.std.proofs.Common.{◌∙◌, sym}
use Rattle.c_values.specs.CodeTypes.{type_of}
use Rattle.c_values.proofs.Lone.{inside_other}
use Rattle.c_values.proofs.lone_arrays.inside.Goals as goal

pub returns : goal.returns
returns c = sym (inside_other (type_of c.inwards.inner.now) c.in_default.ensures.none) ∙ c.inwards.invariant
