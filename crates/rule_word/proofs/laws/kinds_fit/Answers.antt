use Rattle.rule_word.proofs.ProgramsGive.{accepted_gives}
use Rattle.rule_word.proofs.laws.kinds_fit.Goals as goal

pub returns : goal.returns
returns c = λ ctx at t left right kinds given h q. accepted_gives ctx at t left right kinds given h q
