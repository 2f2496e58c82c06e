-- What is left of the functions has what is left of the signatures if all have.
use Rattle.std.proofs.Common.{◌≡◌, map, length}
use Rattle.expression_lang.specs.CodeSignature.{signature_of}
use Rattle.simpl_lang.specs.Sorted.{are_signed}
use Rattle.simpl_lang.specs.CodeCommand.{simpl_fn_of}
use Rattle.simpl_lang.proofs.signed.are_signed.Given as goal

abbrev pub invariant-functions : goal.invariant-functions
invariant-functions l =
    are_signed (map simpl_fn_of l.left) (map signature_of l.right) ≡ are_signed (map simpl_fn_of l.functions) (map signature_of l.signatures)

abbrev pub decreases-functions : goal.decreases-functions
decreases-functions l = length l.left
