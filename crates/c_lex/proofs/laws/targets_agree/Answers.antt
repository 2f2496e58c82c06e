use Rattle.c_lex.proofs.NumberTypes.{targets_agree}
use Rattle.c_lex.proofs.laws.targets_agree.Goals as goal

pub returns : goal.returns
returns c = targets_agree
