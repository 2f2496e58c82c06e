use Rattle.std.proofs.Common.{ap, ◌∙◌, sym}
use Rattle.c_values.specs.Layout.{shape_of}
use Rattle.c_values.proofs.Laid.{shape_good, structs_of}
use Rattle.c_memory.specs.Tags.{is_root_type, root_path}
use Rattle.c_memory.proofs.Roots.{part_reached}
use Rattle.c_memory.proofs.OnePath.{leads_found}
use Rattle.c_memory.proofs.tag_laws.search_finds_each_part.Goals as goal

pub returns : goal.returns
returns c l u t d h complete part =
    let g = shape_good l h u complete in
    let r = part_reached l.target (structs_of l) g.laid part in
    (r.path, ap (λ v. root_path (shape_of l u) v d) (sym r.type) ∙ leads_found l.target (structs_of l) g.formed g.laid r.leads (ap is_root_type r.type ∙ r.root))
