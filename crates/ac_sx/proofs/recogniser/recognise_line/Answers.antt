use Rattle.std.proofs.Common.{[], ◌∷◌, sym, ◌∙◌}
use Rattle.ac_sx.specs.Tree.{line_end}
use Rattle.ac_sx.proofs.Lined.{line_refused, line_ended, line_broken}
use Rattle.ac_sx.proofs.recogniser.recognise_line.Goals as goal

pub returns-in_err-reading : goal.returns-in_err-reading
returns-in_err-reading c = line_refused c.args.line.now (line_end ∷ []) c.reach.result c.from_residual.result c.in_err-reading.field-0.0 c.reach.ensures c.in_err-reading.was c.from_residual.ensures.1

pub returns-then-ends : goal.returns-then-ends
returns-then-ends c = line_ended c.args.line.now c.reach.result c.in_ok-reading.reading c.reach.ensures c.in_ok-reading.was (sym c.ends.ensures ∙ c.if-ends.true)

pub returns-else-ends : goal.returns-else-ends
returns-else-ends c = line_broken c.args.line.now c.reach.result c.in_ok-reading.reading c.reach.ensures c.in_ok-reading.was (sym c.ends.ensures ∙ c.if-ends.false)
