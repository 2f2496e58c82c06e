use Rattle.std.proofs.Common.{◌^◌, map}
use Rattle.c_values.specs.Layout.{space}
use Rattle.c_memory.specs.Ranges.{run_of}
use Rattle.c_memory.proofs.Objects.{space_small}
use Rattle.c_memory.proofs.Pieces.{runs_within}
use Rattle.c_memory.proofs.byte_heap.ByteHeap.new.Goals as goal

pub pages_of-requires : goal.pages_of-requires
pages_of-requires c = runs_within 0 (space c.args.l.now) (2 ^ 64) (map run_of c.args.bytes.now) (space_small c.args.l.now) c.requires.bytes
