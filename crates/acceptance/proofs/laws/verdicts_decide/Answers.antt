use Rattle.acceptance.proofs.Verdicts.{verdicts_decide, verdicts_are_one, accepted_by_steps, accepted_steps}
use Rattle.acceptance.proofs.laws.verdicts_decide.Goals as goal

pub returns : goal.returns
returns c = record {
  decided = verdicts_decide;
  one = verdicts_are_one;
  accepted = accepted_by_steps;
  back = accepted_steps;
}
