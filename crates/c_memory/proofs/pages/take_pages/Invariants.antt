use Rattle.std.proofs.Common.{◌≡◌, ℕ, ◌+◌, ◌/◌, ◌%◌, ◌^◌, ◌<◌, IsSome, nat_eq}
use Rattle.std.specs.HashMap.{get}
use Rattle.c_values.specs.Types.{address_width}
use Rattle.c_values.specs.CodeTypes.{target_of}
use Rattle.c_memory.specs.CodePages.{byte_at, KeepsPages}
use Rattle.c_memory.proofs.pages.take_pages.Given as goal

abbrev pub invariant-loop-k : goal.invariant-loop-k
invariant-loop-k l = record {
  pages : (i : ℕ) → i < l.size → (l.start + i) / 256 < l.k → IsSome (get nat_eq l.pages (((l.address + i) % 2 ^ address_width (target_of l.target)) / 256));
  bytes : byte_at l.pages ≡ byte_at l.fn.pages;
  kept : KeepsPages l.fn.pages l.pages;
}
