-- What is left of the second is what is left of the first without one, where all is.
use Rattle.std.proofs.Common.{◌≡◌, ◌↔◌, map, length, string_bytes}
use Rattle.rule_eq.specs.CodeTaken.{without}
use Rattle.rule_eq.proofs.taken.same_names_but.Given as goal

abbrev pub invariant-along : goal.invariant-along
invariant-along l =
    (map string_bytes l.right ≡ without l.count (map string_bytes l.left)) ↔ (map string_bytes l.others ≡ without l.position (map string_bytes l.names))

abbrev pub decreases-along : goal.decreases-along
decreases-along l = length l.left
