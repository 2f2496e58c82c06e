-- Those so far have names of their own.
use Rattle.std.proofs.Common.{◌≡◌, map, length}
use Rattle.c_values.specs.Name.{are_distinct}
use Rattle.expression_lang.proofs.distinct_names.are_distinct.Given as goal

abbrev pub invariant-items : goal.invariant-items
invariant-items g l = are_distinct (map g.T.Named.named l.rest) ≡ are_distinct (map g.T.Named.named l.items)

abbrev pub decreases-items : goal.decreases-items
decreases-items g l = length l.rest
