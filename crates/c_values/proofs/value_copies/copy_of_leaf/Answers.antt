-- A leaf with parts has none of them.
use Rattle.std.proofs.Common.{◌∙◌, [], ap, sym, subst}
use Rattle.c_values.specs.CodeValue.{value_of}
use Rattle.c_values.specs.CodeParts.{IsLeaf}
use Rattle.c_values.proofs.Listed.{parts_listed, parts_value, leaf_parts}
use Rattle.c_values.proofs.value_copies.copy_of_leaf.Goals as goal

pub returns-in-Parts : goal.returns-in-Parts
returns-in-Parts c =
    let whole = ap value_of c.in-Parts.is ∙ parts_value c.in-Parts.field-0 in
    parts_listed c.new.result [] c.new.ensures.items
    ∙ sym (whole ∙ leaf_parts c.in-Parts.field-0.items (subst IsLeaf whole c.requires))
