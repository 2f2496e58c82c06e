-- What is left of both is the same where they are.
use Rattle.std.proofs.Common.{◌≡◌, ◌↔◌, map, length, string_bytes}
use Rattle.expression_lang.proofs.lists.same_names.Given as goal

abbrev pub invariant-along : goal.invariant-along
invariant-along l = (map string_bytes l.left ≡ map string_bytes l.right) ↔ (map string_bytes l.names ≡ map string_bytes l.others)

abbrev pub decreases-along : goal.decreases-along
decreases-along l = length l.left
