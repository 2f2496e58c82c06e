use Rattle.c_values.proofs.Laid.{structs_of}
use Rattle.c_memory.proofs.Covered.{covered_tag, tag_among, tag_good, root_of}
use Rattle.c_memory.proofs.Roots.{part_reached}
use Rattle.c_memory.proofs.tag_laws.covered_root_is_a_part.Goals as goal

pub returns : goal.returns
returns c l tags t a h known covered =
    let u = covered_tag l tags t a covered in
    let is = tag_among l tags u.0 known u.1 in
    let r = root_of l h u.0 t a u.2 is u.3 in
    (u.0, u.1, r.at, r.address, r.part, (part_reached l.target (structs_of l) (tag_good l h u.0 is).laid r.part).root)
