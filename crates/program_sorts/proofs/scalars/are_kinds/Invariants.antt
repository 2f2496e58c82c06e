-- Those so far are of kinds that are.
use Rattle.std.proofs.Common.{◌≡◌, map, drop}
use Rattle.expression_lang.specs.Sort.{are_kinds}
use Rattle.expression_lang.specs.Signature.{kinds_of}
use Rattle.expression_lang.specs.CodeSignature.{binder_of}
use Rattle.program_sorts.proofs.scalars.are_kinds.Given as goal

abbrev pub invariant-binders : goal.invariant-binders
invariant-binders l = are_kinds (kinds_of (map binder_of (drop l.binder-index l.binders))) ≡ are_kinds (kinds_of (map binder_of l.binders))
