-- What is known after no part is what was known.
use Rattle.std.proofs.Common.{ap, ◌∙◌}
use Rattle.expression_lang.specs.CodeExpression.{exp_of}
use Rattle.expression_steps.specs.Known.{is_known}
use Rattle.expression_steps.proofs.table_steps.holds.Goals as goal

pub returns : goal.returns
returns c = c.is_known.ensures ∙ ap (λ fs. is_known fs (exp_of c.args.e.now)) c.pass-here.ensures.facts
