-- Values that are written one after the other.
use Rattle.std.proofs.Common.{◌≡◌, List, [], sym, ap, ◌∙◌}
use Rattle.c_values.specs.declared.values.Value as C
use Rattle.c_values.specs.CodeParts.{values_in}
use Rattle.ac_sx.specs.Writing.{Writing, all_written}
use Rattle.memory_text.specs.ValueText.{value_trees}

-- none is left
pub values_ended : {S : Type 0} (w : Writing S) (vs : List C.Value) (s whole : S) → vs ≡ [] → all_written w s (value_trees (values_in vs)) ≡ whole → s ≡ whole
values_ended w vs s whole none so_far = ap (λ ws. all_written w s (value_trees (values_in ws))) (sym none) ∙ so_far
