-- What is left is of the names that are left where all are.
use Rattle.std.proofs.Common.{◌≡◌, ◌↔◌, map, length, string_bytes}
use Rattle.monad_lang.specs.CodeProgram.{start_of}
use Rattle.rule_local.specs.Table.{as_starts}
use Rattle.rule_local.proofs.expressions.are_starts_of.Given as goal

abbrev pub invariant-along : goal.invariant-along
invariant-along l = (map start_of l.left ≡ as_starts (map string_bytes l.right)) ↔ (map start_of l.starts ≡ as_starts (map string_bytes l.names))

abbrev pub decreases-along : goal.decreases-along
decreases-along l = length l.left
