-- The tags so far are roots.
use Rattle.std.proofs.Common.{map}
use Rattle.std.specs.Prelude.{All}
use Rattle.c_values.specs.Layout.{Layout}
use Rattle.c_memory.specs.TagFault.{IsRoot}
use Rattle.c_memory.specs.CodeTag.{tag_of}
use Rattle.language_tests.proofs.heaps.row_of_tags.Given as goal

abbrev pub invariant-loop-k : goal.invariant-loop-k
invariant-loop-k l = (t : Layout) → All (IsRoot t) (map tag_of l.tags.items)
