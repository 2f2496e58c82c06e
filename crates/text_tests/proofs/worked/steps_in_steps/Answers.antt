use Rattle.std.proofs.Common.{refl}
use Rattle.std.specs.Fmt.{digits}
use Rattle.text_tests.proofs.worked.steps_in_steps.Goals as goal

pub returns : goal.returns
unfolding digits
returns c = refl
