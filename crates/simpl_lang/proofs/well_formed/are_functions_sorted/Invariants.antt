-- Those so far are well-sorted.
use Rattle.std.proofs.Common.{◌≡◌, map, drop}
use Rattle.simpl_lang.specs.Sorted.{are_fns_sorted}
use Rattle.simpl_lang.specs.CodeCommand.{simpl_fn_of, simpl_unit_of}
use Rattle.simpl_lang.proofs.well_formed.are_functions_sorted.Given as goal

abbrev pub invariant-functions : goal.invariant-functions
invariant-functions l =
    are_fns_sorted (simpl_unit_of l.u) (map simpl_fn_of (drop l.f-index l.u.functions.items)) ≡ are_fns_sorted (simpl_unit_of l.u) (map simpl_fn_of l.u.functions.items)
