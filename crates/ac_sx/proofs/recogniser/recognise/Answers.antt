use Rattle.std.proofs.Common.{◌∙◌}
use Rattle.ac_sx.proofs.Lined.{text_refused, text_ended}
use Rattle.ac_sx.proofs.recogniser.recognise.Goals as goal

pub returns-in_err-reading : goal.returns-in_err-reading
returns-in_err-reading c = text_refused c.args.text.now c.reach.result c.from_residual.result c.in_err-reading.field-0.0 c.reach.ensures c.in_err-reading.was c.from_residual.ensures.1

pub returns : goal.returns
returns c = c.ended.ensures ∙ text_ended c.args.text.now c.reach.result c.in_ok-reading.reading c.reach.ensures c.in_ok-reading.was
