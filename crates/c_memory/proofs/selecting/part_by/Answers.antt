-- The part to which a step leads lies in the list.
use Rattle.std.proofs.Common.{◌≡◌, ◌∙◌, IfSome, unwrap_or, ap, subst}
use Rattle.c_values.specs.Value.{Parts}
use Rattle.c_values.specs.CodeValue.{value_of}
use Rattle.c_memory.specs.CodeStep.{step_of}
use Rattle.c_values.specs.CodeParts.{values_in}
use Rattle.c_values.proofs.Follow.{part_selected}
use Rattle.c_memory.proofs.selecting.part_by.Goals as goal

pub returns : goal.returns
returns c =
    let some : IfSome c.parts_of.result (λ parts. value_of c.args.whole.now ≡ Parts (values_in parts.now)) = c.parts_of.ensures.some in
    let whole = subst (λ o. IfSome o (λ parts. value_of c.args.whole.now ≡ Parts (values_in parts.now))) c.unwrap-parts.ensures some in
    part_selected (value_of c.args.whole.now) c.unwrap-parts.result.now (step_of c.args.step) c.unwrap_or-k.result c.index-parts-k.result c.requires whole
    (c.unwrap_or-k.ensures ∙ ap (λ o. unwrap_or o 0) c.place_of.ensures)
    c.index-parts-k.is
