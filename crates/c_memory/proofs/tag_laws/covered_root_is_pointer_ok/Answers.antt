use Rattle.c_memory.proofs.Covered.{covered_tag, tag_among, root_pointer_ok}
use Rattle.c_memory.proofs.tag_laws.covered_root_is_pointer_ok.Goals as goal

pub returns : goal.returns
returns c l tags t a h known covered =
    let u = covered_tag l tags t a covered in
    root_pointer_ok l h u.0 t a u.2 (tag_among l tags u.0 known u.1) u.3
