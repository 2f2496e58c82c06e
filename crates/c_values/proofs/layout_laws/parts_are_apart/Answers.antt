use Rattle.std.proofs.Common.{sym, ◌∙◌, subst₂}
use Rattle.c_values.specs.Layout.{size}
use Rattle.c_values.proofs.Geometry.{AreApart, leads_apart}
use Rattle.c_values.proofs.Laid.{shape_good}
use Rattle.c_values.proofs.Parts.{part_of}
use Rattle.c_values.proofs.layout_laws.parts_are_apart.Goals as goal
use Rattle.c_values.proofs.Steps.{same_number}

pub returns : goal.returns
returns c l t path other q r d e h complete range_p spot_p offset_p range_o spot_o offset_o left right =
    let p = part_of l t path q h complete range_p spot_p in
    let o = part_of l t other r h complete range_o spot_o in
    subst₂ (λ a b. AreApart a (size q.shape) b (size r.shape)) (same_number p.at d (sym p.offset ∙ offset_p)) (same_number o.at e (sym o.offset ∙ offset_o))
    (leads_apart (shape_good l h t complete).formed p.leads o.leads (record { left = left; right = right }))
