-- The scope of the names is that of the context.
use Rattle.std.proofs.Common.{ap, ◌∙◌}
use Rattle.expression_lang.specs.Sort.{word_width}
use Rattle.rule_word.proofs.sorts.sorted_width.Goals as goal

pub returns : goal.returns
returns c = c.width_of.ensures ∙ ap word_width c.sort_of.ensures
