-- The names of the functions are those of what they stand for.
use Rattle.std.proofs.Common.{ap, ◌∙◌}
use Rattle.c_values.specs.Name.{are_distinct}
use Rattle.monad_sorts.proofs.Positions.{function_names_are}
use Rattle.monad_sorts.proofs.names.are_functions_distinct.Goals as goal

pub returns : goal.returns
returns c = c.are_distinct.ensures ∙ ap are_distinct (function_names_are c.args.functions.now)
