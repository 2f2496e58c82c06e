-- A part is smaller than the whole, and of several parts the largest one is.
use Rattle.std.proofs.Common.{◌+◌, ◌*◌, max}
use Rattle.expression_lang.specs.declared.expression.Exp.{size-Exp}
use Rattle.expression_lang.specs.declared.paths.Path.{size-Path}
use Rattle.expression_steps.proofs.exp_steps.+exp_steps.Given as goal

abbrev pub decreases-first_step : goal.decreases-first_step
decreases-first_step l = 3 * size-Exp l.e.now + 1

abbrev pub decreases-two_step : goal.decreases-two_step
decreases-two_step l = 3 * max (size-Exp l.a.now) (size-Exp l.b.now) + 3

abbrev pub decreases-right_step : goal.decreases-right_step
decreases-right_step l = 3 * size-Exp l.b.now + 2

abbrev pub decreases-if_step : goal.decreases-if_step
decreases-if_step l = 3 * max (size-Exp l.c.now) (max (size-Exp l.a.now) (size-Exp l.b.now)) + 3

abbrev pub decreases-padd_step : goal.decreases-padd_step
decreases-padd_step l = 3 * max (size-Exp l.p.now) (size-Exp l.n.now) + 3

abbrev pub decreases-place_step : goal.decreases-place_step
decreases-place_step l = 3 * max (size-Exp l.p.now) (size-Path l.path.now) + 3

abbrev pub decreases-path_step : goal.decreases-path_step
decreases-path_step l = 3 * size-Path l.path.now + 1
