-- What is written and what is left are all lines; what is left are tags.
use Rattle.std.proofs.Common.{◌≡◌, ◌++◌, true, length, map}
use Rattle.c_memory.specs.CodeTag.{tag_of}
use Rattle.expression_text.specs.Lists.{each}
use Rattle.memory_text.specs.MemoryText.{is_tag}
use Rattle.run_lines.specs.RunLines.{tag_lines}
use Rattle.run_lines.proofs.states.tag_lines.Given as goal

abbrev pub invariant-tags : goal.invariant-tags
invariant-tags g l = record {
  same : l.lines.items ++ tag_lines l.who l.layout (g.H.Heap.content l.heap) (map tag_of l.rest) ≡ l.fn.lines.items ++ tag_lines l.who l.layout (g.H.Heap.content l.heap) (map tag_of l.fn.tags);
  tags : each (is_tag l.layout) (map tag_of l.rest) ≡ true;
}

abbrev pub decreases-tags : goal.decreases-tags
decreases-tags g l = length l.rest
