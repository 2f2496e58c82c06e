use Rattle.std.proofs.Common.{◌+◌}
use Rattle.c_memory.proofs.Covered.{tag_among, tag_covers, part_path}
use Rattle.c_memory.proofs.tag_laws.part_is_covered.Goals as goal

pub returns : goal.returns
returns c l tags u t d h known among part =
    let p = part_path l h u t d (tag_among l tags u known among) part in
    tag_covers l tags t (u.address + d) u p.0 among p.1
