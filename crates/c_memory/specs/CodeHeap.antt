-- What a heap of bytes stands for.
use Rattle.c_memory.specs.declared.byte_heap.ByteHeap as B
use Rattle.c_memory.specs.Memory.{Memory}
use Rattle.c_memory.specs.Heap.{Heap, OnBytes}
use Rattle.c_memory.specs.CodePages.{byte_at}

abbrev pub memory_of : B.ByteHeap → Memory
memory_of h = record { bytes = byte_at h.pages; tags = h.tags }

abbrev pub byte_content : B.ByteHeap → Heap
byte_content h = OnBytes (memory_of h)
