-- The names of the binders are those of what they stand for.
use Rattle.std.proofs.Common.{ap, ◌∙◌}
use Rattle.c_values.specs.Name.{are_distinct}
use Rattle.expression_lang.proofs.BinderNames.{names_are}
use Rattle.expression_lang.proofs.distinct_names.are_binders_distinct.Goals as goal

pub returns : goal.returns
returns c = c.are_distinct.ensures ∙ ap are_distinct (names_are c.args.binders.now)
