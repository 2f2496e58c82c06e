-- The fact has none of the names exactly where it has none of those that are left.
use Rattle.std.proofs.Common.{◌≡◌, map, string_bytes, length}
use Rattle.ac_expr.specs.Fact.{stands_for}
use Rattle.ac_expr.specs.Lasting.{is_unnamed}
use Rattle.ac_expr.specs.CodeFacts.{fact_of}
use Rattle.ac_expr.proofs.lasting.is_unnamed.Given as goal

abbrev pub invariant-along : goal.invariant-along
invariant-along l = is_unnamed (map string_bytes l.rest) (stands_for (fact_of l.fact)) ≡ is_unnamed (map string_bytes l.names) (stands_for (fact_of l.fact))

abbrev pub decreases-along : goal.decreases-along
decreases-along l = length l.rest
