use Rattle.std.proofs.Common.{◌≡◌, map, drop}
use Rattle.ac_base.specs.MemoryShelf.{named, file_named}
use Rattle.ac_base.proofs.memory_shelf.file_named.Given as goal

-- no file so far has the name
abbrev pub invariant-loop-held : goal.invariant-loop-held
invariant-loop-held l = file_named l.name (map named (drop l.held-index l.files)) ≡ file_named l.name (map named l.files)
