use Rattle.std.proofs.Common.{◌≡◌, ℕ, ◌+◌, ◌%◌, ◌^◌, ◌<◌, ◌≤◌, length, slice_index}
use Rattle.c_values.specs.Types.{address_width}
use Rattle.c_values.specs.CodeTypes.{target_of}
use Rattle.c_memory.specs.CodePages.{byte_at}
use Rattle.c_memory.proofs.pages.bytes_across_pages.Given as goal

abbrev pub invariant-loop-i : goal.invariant-loop-i
invariant-loop-i l = record {
  length : length l.bytes ≡ 8;
  here : (k : ℕ) → k < l.i → slice_index l.bytes k ≡ byte_at l.pages ((l.address + k) % 2 ^ address_width (target_of l.target));
  rest : (k : ℕ) → l.i ≤ k → slice_index l.bytes k ≡ 0;
}
