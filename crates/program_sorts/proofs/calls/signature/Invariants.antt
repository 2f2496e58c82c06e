-- None so far has the name.
use Rattle.std.proofs.Common.{◌≡◌, map, drop}
use Rattle.expression_lang.specs.Signature.{signature}
use Rattle.expression_lang.specs.CodeSignature.{signature_of}
use Rattle.program_sorts.proofs.calls.signature.Given as goal

abbrev pub invariant-signatures : goal.invariant-signatures
invariant-signatures l = signature (map signature_of (drop l.signature-index l.signatures)) l.name ≡ signature (map signature_of l.signatures) l.name
