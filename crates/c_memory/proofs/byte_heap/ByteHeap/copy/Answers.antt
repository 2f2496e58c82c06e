use Rattle.std.proofs.Common.{ap₂, ℕ, List}
use Rattle.c_memory.specs.Memory.{Tag}
use Rattle.c_memory.proofs.Copied.{same_bytes}
use Rattle.c_memory.proofs.byte_heap.ByteHeap.copy.Goals as goal

pub returns : goal.returns
returns c =
    let bytes = same_bytes _ _ (λ x y h. h) (λ xs ys h i lt. h.at i 0 0 lt) c.args.self.now.pages c.in_ok-clone.field-0 c.in_ok-clone.ensures.cases in
    ap₂ (λ (b : ℕ → ℕ) (ts : List Tag). record { bytes = b; tags = ts }) bytes c.in_ok-copy.ensures
