-- What is left gives the name what the whole gives it.
use Rattle.std.proofs.Common.{◌≡◌, map, string_bytes, length}
use Rattle.expression_lang.specs.CodeExpression.{exp_of}
use Rattle.assertion_walks.specs.Put.{exp_for}
use Rattle.assertion_walks.proofs.value_tables.ValuesForValues.value.Given as goal

abbrev pub invariant-along : goal.invariant-along
invariant-along l =
    exp_for (map string_bytes l.names) (map exp_of l.exps) l.name
    ≡ exp_for (map string_bytes l.self.names.now) (map exp_of l.self.exps.now) l.name

abbrev pub decreases-along : goal.decreases-along
decreases-along l = length l.names
