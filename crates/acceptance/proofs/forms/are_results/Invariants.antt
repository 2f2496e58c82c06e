-- Those so far give values of kinds that are, or none.
use Rattle.std.proofs.Common.{◌≡◌, map, drop}
use Rattle.expression_lang.specs.CodeSignature.{signature_of}
use Rattle.rule_word.specs.CodeNames.{are_results}
use Rattle.acceptance.proofs.forms.are_results.Given as goal

abbrev pub invariant-signatures : goal.invariant-signatures
invariant-signatures l = are_results (map signature_of (drop l.s-index l.signatures)) ≡ are_results (map signature_of l.signatures)
