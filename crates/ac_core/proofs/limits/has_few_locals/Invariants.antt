-- The functions that are left have few locals where all functions have.
use Rattle.std.proofs.Common.{◌≡◌, map, length}
use Rattle.std.specs.List.{list_all}
use Rattle.simpl_lang.specs.CodeCommand.{simpl_fn_of}
use Rattle.ac_core.specs.CodeTasks.{are_few}
use Rattle.ac_core.proofs.limits.has_few_locals.Given as goal

abbrev pub invariant-functions : goal.invariant-functions
invariant-functions l = list_all are_few (map simpl_fn_of l.rest) ≡ list_all are_few (map simpl_fn_of l.u.functions.items)

abbrev pub decreases-functions : goal.decreases-functions
decreases-functions l = length l.rest
