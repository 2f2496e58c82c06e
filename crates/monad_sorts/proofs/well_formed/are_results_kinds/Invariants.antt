-- Those so far are of kinds that are.
use Rattle.std.proofs.Common.{◌≡◌, map, drop}
use Rattle.expression_lang.specs.Sort.{are_kinds}
use Rattle.expression_lang.specs.CodeExpression.{kind_of}
use Rattle.monad_sorts.proofs.well_formed.are_results_kinds.Given as goal

abbrev pub invariant-kinds : goal.invariant-kinds
invariant-kinds l = are_kinds (map kind_of (drop l.kind-index l.kinds)) ≡ are_kinds (map kind_of l.kinds)
