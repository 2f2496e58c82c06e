-- Each part of a tree is less deep.
use Rattle.std.proofs.Common.{◌+◌, ◌*◌, max}
use Rattle.triple_lang.specs.declared.deriv.Deriv.{size-Deriv}
use Rattle.hoare_check.proofs.derivations.+derived.Given as goal

abbrev pub decreases-derived : goal.decreases-derived
decreases-derived g l = 4 * size-Deriv l.tree.now

abbrev pub decreases-derived_knowing : goal.decreases-derived_knowing
decreases-derived_knowing g l = 4 * size-Deriv l.tree.now + 1

abbrev pub decreases-derived_bind : goal.decreases-derived_bind
decreases-derived_bind g l = 4 * max (size-Deriv l.first.now) (size-Deriv l.last.now) + 2

abbrev pub decreases-derived_if : goal.decreases-derived_if
decreases-derived_if g l = 4 * max (size-Deriv l.first.now) (size-Deriv l.last.now) + 2

abbrev pub decreases-derived_loop : goal.decreases-derived_loop
decreases-derived_loop g l = 4 * size-Deriv l.kept.now + 2
