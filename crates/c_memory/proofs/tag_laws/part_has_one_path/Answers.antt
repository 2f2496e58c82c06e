use Rattle.std.proofs.Common.{pos, ap, ◌∙◌, sym}
use Rattle.c_values.specs.Layout.{shape_of, type_of}
use Rattle.c_values.proofs.Leads.{leads_of}
use Rattle.c_values.proofs.Geometry.{leads_within}
use Rattle.c_values.proofs.Laid.{shape_good, shape_type, structs_of}
use Rattle.c_values.proofs.Parts.{formed_complete}
use Rattle.c_values.proofs.Steps.{same_number}
use Rattle.c_memory.specs.Tags.{is_root_type, root_path}
use Rattle.c_memory.proofs.OnePath.{leads_found}
use Rattle.c_memory.proofs.tag_laws.part_has_one_path.Goals as goal

pub returns : goal.returns
returns c l u t d path h complete root range e =
    let g = shape_good l h u complete in
    let p = leads_of (shape_of l u) path (record { offset = pos d; shape = shape_of l t }) range e in
    let whole = shape_type l h t (formed_complete (shape_of l t) (leads_within g.formed p.2).formed) in
    ap (λ x. root_path (shape_of l u) x d) (sym whole) ∙ ap (λ x. root_path (shape_of l u) (type_of (shape_of l t)) x) (same_number d p.0 p.1)
    ∙ leads_found l.target (structs_of l) g.formed g.laid p.2 (ap is_root_type whole ∙ root)
