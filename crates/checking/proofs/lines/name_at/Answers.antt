use Rattle.std.proofs.Common.{◌∙◌}
use Rattle.checking.proofs.Named.{function_there}
use Rattle.checking.proofs.lines.name_at.Goals as goal

pub returns-in-Some : goal.returns-in-Some
returns-in-Some c = c.as_str.ensures.value ∙ function_there c.args.functions.now c.args.k c.in-Some.function c.in-Some.ensures.lookup
