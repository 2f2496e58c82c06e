-- None so far holds the result, so one that is left does.
use Rattle.std.proofs.Common.{◌≡◌, true, map, drop}
use Rattle.c_values.specs.Name.{is_among}
use Rattle.expression_lang.specs.Signature.{names_of}
use Rattle.expression_lang.specs.CodeSignature.{binder_of}
use Rattle.simpl_lang.specs.Exec.{result_local}
use Rattle.acceptance.proofs.steps.outputs.Given as goal

abbrev pub invariant-locals : goal.invariant-locals
invariant-locals l = is_among result_local (names_of (map binder_of (drop l.local-index l.locals))) ≡ true
