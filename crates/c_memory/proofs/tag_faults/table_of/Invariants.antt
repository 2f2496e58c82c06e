use Rattle.std.proofs.Common.{◌≡◌, [], map, take, drop}
use Rattle.c_memory.specs.Tags.{AreTags}
use Rattle.c_memory.specs.CodeTag.{tag_of}
use Rattle.c_memory.specs.TagFault.{first_fault}
use Rattle.c_memory.proofs.tag_faults.table_of.Given as goal

abbrev pub invariant-loop-k : goal.invariant-loop-k
invariant-loop-k l = record {
  tags : l.table ≡ map tag_of (take l.k l.tags);
  well_tagged : AreTags l.l l.table;
  faults : first_fault l.l [] 0 (map tag_of l.tags) ≡ first_fault l.l l.table l.k (map tag_of (drop l.k l.tags));
}
