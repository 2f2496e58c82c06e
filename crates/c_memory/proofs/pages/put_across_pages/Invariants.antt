use Rattle.std.proofs.Common.{◌≡◌, ◌+◌, ◌-◌, ◌^◌}
use Rattle.c_values.specs.Types.{address_width}
use Rattle.c_values.specs.CodeTypes.{target_of}
use Rattle.c_memory.specs.Memory.{with_bytes}
use Rattle.c_memory.specs.CodePages.{byte_at, KeepsPages}
use Rattle.c_memory.proofs.pages.put_across_pages.Given as goal

abbrev pub invariant-loop-i : goal.invariant-loop-i
invariant-loop-i l = record {
  bytes :
      with_bytes (2 ^ address_width (target_of l.target)) (l.address + l.i) (l.size - l.i) l.rest (byte_at l.pages)
      ≡ with_bytes (2 ^ address_width (target_of l.target)) l.address l.size l.bits (byte_at l.initial.pages);
  pages : KeepsPages l.initial.pages l.pages;
}
