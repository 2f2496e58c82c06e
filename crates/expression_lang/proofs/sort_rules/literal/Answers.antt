-- A word is of a width, and its bits are those of its width.
use Rattle.std.proofs.Common.{◌∙◌}
use Rattle.expression_lang.proofs.Sorting.{literal_sorted}
use Rattle.expression_lang.proofs.sort_rules.literal.Goals as goal

pub returns : goal.returns
returns c =
    c.word.ensures
    ∙ literal_sorted c.args.w.width c.args.w.bits c.width.result c.bits.result c.width.ensures.value c.width.ensures.width c.bits.ensures.value c.bits.ensures.fits
