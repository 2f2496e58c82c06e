use Rattle.std.proofs.Common.{◌∙◌, ap, sym}
use Rattle.c_values.specs.Value.{Parts}
use Rattle.c_values.specs.CodeValue.{value_of}
use Rattle.c_values.specs.CodeParts.{values_in}
use Rattle.c_values.proofs.Listed.{parts_value}
use Rattle.c_memory.proofs.parts_of_values.parts_of.Goals as goal

pub returns-in-Parts-clause-some : goal.returns-in-Parts-clause-some
returns-in-Parts-clause-some c = ap value_of c.in-Parts.is ∙ parts_value c.in-Parts.parts ∙ ap (λ vs. Parts (values_in vs)) (sym c.as_slice.ensures.value)
