-- What is left is ready, and a verdict on it is one on the whole; and how many are left.
use Rattle.std.proofs.Common.{◌≡◌, ◌+◌, true, map, length}
use Rattle.expression_lang.specs.CodeSignature.{signature_of}
use Rattle.simpl_lang.specs.CodeCommand.{simpl_fn_of, simpl_unit_of}
use Rattle.acceptance.specs.CodeReady.{are_ready}
use Rattle.checking.proofs.Along.{IsLeft}
use Rattle.checking.proofs.texts.check_each.Given as goal

abbrev pub invariant-functions : goal.invariant-functions
invariant-functions g l = record {
  ready : are_ready (map simpl_fn_of l.left) (map signature_of l.signed) ≡ true;
  whole : IsLeft (simpl_unit_of l.u) l.bytes l.at (map simpl_fn_of l.left) (map signature_of l.signed);
  counted : l.at + length l.left ≡ length l.index.functions.items;
}

abbrev pub decreases-functions : goal.decreases-functions
decreases-functions g l = length l.left
