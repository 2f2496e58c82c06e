-- What is left is ready and listed, and a verdict on it is one on the whole.
use Rattle.std.proofs.Common.{◌≡◌, ◌+◌, true, map, length, Ok}
use Rattle.expression_lang.specs.CodeSignature.{signature_of}
use Rattle.simpl_lang.specs.CodeCommand.{simpl_fn_of, simpl_unit_of}
use Rattle.acceptance.specs.CodeCertificate.{steps_of}
use Rattle.acceptance.specs.CodeReady.{are_ready}
use Rattle.acceptance.specs.UnitVerdict.{UnitAnswer, listed, AreFunctionsVerdict}
use Rattle.acceptance.proofs.units.check_each.Given as goal

abbrev pub invariant-functions : goal.invariant-functions
invariant-functions l = record {
  ready : are_ready (map simpl_fn_of l.left) (map signature_of l.signed) ≡ true;
  same : listed l.at (map simpl_fn_of l.left) (map steps_of l.right) ≡ Ok tt;
  whole : (r : UnitAnswer)
      → AreFunctionsVerdict (simpl_unit_of l.u) l.at (map simpl_fn_of l.left) (map signature_of l.signed) (map steps_of l.right) r
      → AreFunctionsVerdict (simpl_unit_of l.u) 0 (map simpl_fn_of l.functions) (map signature_of l.signatures) (map steps_of l.certificate) r;
  counted : l.at + length l.left ≡ length l.functions;
}

abbrev pub decreases-functions : goal.decreases-functions
decreases-functions l = length l.left
