-- None so far has the name.
use Rattle.std.proofs.Common.{◌≡◌, map, drop}
use Rattle.c_values.specs.Name.{is_among}
use Rattle.expression_lang.specs.CodeSignature.{binder_of}
use Rattle.expression_lang.specs.Signature.{names_of}
use Rattle.simpl_lang.proofs.locals.is_bound.Given as goal

abbrev pub invariant-binders : goal.invariant-binders
invariant-binders l = is_among l.name (names_of (map binder_of (drop l.binder-index l.binders))) ≡ is_among l.name (names_of (map binder_of l.binders))
