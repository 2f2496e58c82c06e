-- What is left is no larger than the command, and calls such functions alone where the command does.
use Rattle.std.proofs.Common.{◌≡◌, ◌≤◌}
use Rattle.std.specs.Prelude.{map}
use Rattle.expression_lang.specs.Signature.{signature}
use Rattle.expression_lang.specs.CodeSignature.{signature_of}
use Rattle.simpl_lang.specs.declared.command.Simpl.{size-Simpl}
use Rattle.simpl_lang.specs.CodeCommand.{simpl_of}
use Rattle.acceptance.specs.Accepted.{calls_only, is_lifted_there}
use Rattle.acceptance.proofs.calls.+calls_only_lifted.Given as goal

abbrev pub invariant-down : goal.invariant-down
invariant-down l = record {
  same : calls_only (λ f. is_lifted_there (signature (map signature_of l.signatures) f)) (simpl_of l.rest)
      ≡ calls_only (λ f. is_lifted_there (signature (map signature_of l.signatures) f)) (simpl_of l.body);
  smaller : size-Simpl l.rest ≤ size-Simpl l.body;
}
