use Rattle.std.proofs.Common.{◌≡◌, map, take}
use Rattle.c_memory.specs.CodeTag.{tag_of}
use Rattle.c_memory.proofs.tag_table.TagTable.copy.Given as goal

abbrev pub invariant-loop-address : goal.invariant-loop-address
invariant-loop-address l = map tag_of l.tags.items ≡ map tag_of (take l.address-index l.address-items)
