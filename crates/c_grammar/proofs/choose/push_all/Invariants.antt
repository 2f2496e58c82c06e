use Rattle.std.proofs.Common.{◌≡◌, ◌++◌, ◌≤◌, reverse, drop, length}
use Rattle.c_grammar.proofs.choose.push_all.Given as goal

abbrev pub invariant-loop-left : goal.invariant-loop-left
invariant-loop-left l = (l.left ≤ length l.next) × (reverse l.stack.items ≡ drop l.left l.next ++ reverse l.fn.stack.items)

abbrev pub decreases-loop-left : goal.decreases-loop-left
decreases-loop-left l = l.left
