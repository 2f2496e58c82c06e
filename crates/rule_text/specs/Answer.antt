-- Which tree is whose text.
use Rattle.std.specs.Prelude.{◌≡◌, true}
use Rattle.ac_sx.specs.Tree.{Tree}
use Rattle.rule_heap.specs.Rule.{Rule}
use Rattle.rule_trees.specs.RuleTree as rules
use Rattle.rule_text.specs.HeapText as heaps

abbrev pub IsHeapText : Tree → rules.Tree Rule → Type 0
IsHeapText t x = (t ≡ heaps.text_of x) × (heaps.is_tree x ≡ true)
