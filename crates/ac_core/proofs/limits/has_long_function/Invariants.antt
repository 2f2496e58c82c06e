-- Some function that is left is long where some function is.
use Rattle.std.proofs.Common.{◌≡◌, map, length}
use Rattle.std.specs.List.{list_any}
use Rattle.simpl_lang.specs.CodeCommand.{simpl_fn_of}
use Rattle.ac_core.specs.Written.{is_long}
use Rattle.ac_core.proofs.limits.has_long_function.Given as goal

abbrev pub invariant-functions : goal.invariant-functions
invariant-functions l = list_any is_long (map simpl_fn_of l.rest) ≡ list_any is_long (map simpl_fn_of l.u.functions.items)

abbrev pub decreases-functions : goal.decreases-functions
decreases-functions l = length l.rest
