-- The binders behind those that are left have other names, and fewer are left at each turn.
use Rattle.std.proofs.Common.{◌≡◌, Option, length}
use Rattle.c_values.specs.Name.{Name}
use Rattle.expression_lang.specs.Sort.{Scalar}
use Rattle.expression_lang.specs.CodeSort.{names_with_all}
use Rattle.expression_lang.proofs.names.scalar_among.Given as goal

abbrev pub invariant-binders : goal.invariant-binders
invariant-binders l = (names : Name → Option Scalar) → names_with_all l.binders names l.name ≡ names_with_all l.rest names l.name

abbrev pub decreases-binders : goal.decreases-binders
decreases-binders l = length l.rest
