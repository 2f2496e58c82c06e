-- What is copied so far, and what is left, are all.
use Rattle.std.proofs.Common.{◌≡◌, ◌++◌, map, length, string_bytes}
use Rattle.polish.proofs.putting.and_names.Given as goal

abbrev pub invariant-along : goal.invariant-along
invariant-along l =
    map string_bytes l.all.items ++ map string_bytes l.rest ≡ map string_bytes l.fn.before.items ++ map string_bytes l.names

abbrev pub decreases-along : goal.decreases-along
decreases-along l = length l.rest
