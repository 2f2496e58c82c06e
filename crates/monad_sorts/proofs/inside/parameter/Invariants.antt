-- Those behind what is left have other names, and fewer are left at each turn.
use Rattle.std.proofs.Common.{◌≡◌, length}
use Rattle.monad_sorts.specs.CodeInside.{parameters_in, no_names}
use Rattle.monad_sorts.proofs.inside.parameter.Given as goal

abbrev pub invariant-binders : goal.invariant-binders
invariant-binders l = parameters_in l.phase l.rest no_names l.name ≡ parameters_in l.phase l.binders no_names l.name

abbrev pub decreases-binders : goal.decreases-binders
decreases-binders l = length l.rest
