use Rattle.std.proofs.Common.{◌∙◌, sym}
use Rattle.expression_text.proofs.TypesRead.{plain_bad}
use Rattle.expression_text.proofs.type_reading.plain_type_at.Goals as goal

pub returns-else-eq : goal.returns-else-eq
returns-else-eq c = plain_bad c.args.at c.args.word.now c.in_default.ensures.none (sym c.eq.ensures ∙ c.if-eq.false)
