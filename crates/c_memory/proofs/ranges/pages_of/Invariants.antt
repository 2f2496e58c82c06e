use Rattle.std.proofs.Common.{◌≡◌, map, take}
use Rattle.c_memory.specs.Memory.{AreBytes}
use Rattle.c_memory.specs.CodePages.{byte_at}
use Rattle.c_memory.specs.Ranges.{run_of, run_byte}
use Rattle.c_memory.proofs.ranges.pages_of.Given as goal

abbrev pub invariant-loop-address : goal.invariant-loop-address
invariant-loop-address l = record {
  value : byte_at l.pages ≡ run_byte (map run_of (take l.address-index l.ranges));
  bytes : AreBytes (byte_at l.pages);
}
