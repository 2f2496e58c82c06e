use Rattle.memory_text.proofs.Sevens.{not_seven, just_seven}
use Rattle.memory_text.proofs.memory_reading.Parts.new.Goals as goal

pub returns-then-parts-ne7 : goal.returns-then-parts-ne7
returns-then-parts-ne7 c = not_seven c.args.parts.now c.if-parts-ne7.true

pub returns : goal.returns
returns c =
    just_seven c.args.parts.now c.index-parts-0.result c.index-parts-1.result c.index-parts-2.result c.index-parts-3.result c.index-parts-4.result c.index-parts-5.result c.index-parts-6.result c.if-parts-ne7.false c.index-parts-0.is c.index-parts-1.is
    c.index-parts-2.is c.index-parts-3.is c.index-parts-4.is c.index-parts-5.is c.index-parts-6.is
