-- What the answers of the reader say of a tree.
use Rattle.std.proofs.Common.{◌≡◌, ℕ, Ok, refl, ap, sym, ◌∙◌}
use Rattle.ac_sx.specs.Tree.{Tree}
use Rattle.expression_text.specs.declared.fault.TextFault.{TextFault}
use Rattle.expression_text.specs.declared.fault.TextFault.TheVariants as F
use Rattle.expression_text.specs.CodeFault.{Fails}
use Rattle.expression_text.proofs.Behind.{behind, value_ok}
use Rattle.rule_heap.specs.Rule.{Rule}
use Rattle.rule_trees.specs.RuleTree as rules
use Rattle.rule_text.specs.HeapText.{text_of, tree_at}
use Rattle.rule_text.specs.Answer.{IsHeapText}
use Rattle.rule_text.proofs.HeapLaws.{tree_reads, tree_spells}

pub heap_found : (t : Tree) (x : rules.Tree Rule) (n : ℕ) → tree_at 0 t ≡ Ok (x, n) → IsHeapText t x
heap_found t x n read = tree_spells t 0 x n read

given_text : (x : rules.Tree Rule) (t : Tree) → IsHeapText t x → tree_at 0 t ≡ Ok (x, behind 0 (text_of x))
given_text x t is = ap (tree_at 0) is.0 ∙ tree_reads x is.1 0

pub heap_only : (t : Tree) (x : rules.Tree Rule) (n : ℕ) (y : rules.Tree Rule) → tree_at 0 t ≡ Ok (x, n) → IsHeapText t y → x ≡ y
heap_only t x n y read is = value_ok x n y (behind 0 (text_of y)) (sym read ∙ given_text y t is)

-- no text of a tree of rules is refused
pub heap_not_refused : (x : rules.Tree Rule) (t : Tree) (fault : TextFault) → Fails fault (tree_at 0 t) → IsHeapText t x → fault ≡ F.Memory
heap_not_refused x t (F.Shape at) bad is = absurd (let read = sym bad ∙ given_text x t is in cc)
heap_not_refused x t F.Memory bad is = refl
heap_not_refused x t F.NotText bad is = absurd bad
heap_not_refused x t F.Deep bad is = absurd bad
