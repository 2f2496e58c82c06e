use Rattle.ac_expr.proofs.ExactSteps.{steps_exact, places_exact}
use Rattle.ac_expr.proofs.step_laws.one_step_is_exact.Goals as goal

pub returns : goal.returns
returns c = record { steps = steps_exact; places = places_exact }
