-- Each part of a tree is less deep.
use Rattle.std.proofs.Common.{◌+◌, ◌*◌, max}
use Rattle.triple_lang.specs.declared.entail.Entail.{size-Entail}
use Rattle.entailment.proofs.kernel.+showing.Given as goal

abbrev pub decreases-checked : goal.decreases-checked
decreases-checked g l = 4 * size-Entail l.tree.now

abbrev pub decreases-checked_knowing : goal.decreases-checked_knowing
decreases-checked_knowing g l = 4 * size-Entail l.tree.now + 1

abbrev pub decreases-checked_and : goal.decreases-checked_and
decreases-checked_and g l = 4 * max (size-Entail l.first.now) (size-Entail l.last.now) + 2

abbrev pub decreases-checked_between : goal.decreases-checked_between
decreases-checked_between g l = 4 * max (size-Entail l.first.now) (size-Entail l.last.now) + 2

abbrev pub decreases-checked_case : goal.decreases-checked_case
decreases-checked_case g l = 4 * max (size-Entail l.first.now) (size-Entail l.last.now) + 2

abbrev pub decreases-checked_cut : goal.decreases-checked_cut
decreases-checked_cut g l = 4 * max (size-Entail l.first.now) (size-Entail l.last.now) + 2

abbrev pub decreases-checked_rewrite : goal.decreases-checked_rewrite
decreases-checked_rewrite g l = 4 * max (size-Entail l.first.now) (size-Entail l.last.now) + 2

abbrev pub decreases-checked_imp : goal.decreases-checked_imp
decreases-checked_imp g l = 4 * size-Entail l.part.now + 2

abbrev pub decreases-checked_or : goal.decreases-checked_or
decreases-checked_or g l = 4 * size-Entail l.part.now + 2

abbrev pub decreases-checked_not : goal.decreases-checked_not
decreases-checked_not g l = 4 * size-Entail l.part.now + 2

abbrev pub decreases-checked_step : goal.decreases-checked_step
decreases-checked_step g l = 4 * size-Entail l.part.now + 2
