use Rattle.std.proofs.Common.{◌∙◌}
use Rattle.ac_sx.specs.CodeSpeller.{spelt_of}
use Rattle.ac_sx.proofs.Taken.{whole_spelt}
use Rattle.ac_sx.proofs.speller.Speller.finish.Goals as goal

pub returns : goal.returns
returns c = λ t e. c.in_ok-push.ensures.items ∙ whole_spelt (spelt_of c.args.self) t e
