-- Those so far are well-sorted.
use Rattle.std.proofs.Common.{◌≡◌, map, drop}
use Rattle.monad_lang.specs.Sorted.{are_fns_sorted}
use Rattle.monad_lang.specs.CodeProgram.{final_fn_of, final_unit_of}
use Rattle.monad_sorts.proofs.well_formed.are_functions_sorted.Given as goal

abbrev pub invariant-functions : goal.invariant-functions
invariant-functions l =
    are_fns_sorted (final_unit_of l.u) (map final_fn_of (drop l.f-index l.u.functions.items))
    ≡ are_fns_sorted (final_unit_of l.u) (map final_fn_of l.u.functions.items)
