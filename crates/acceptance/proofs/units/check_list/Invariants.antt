-- What is left of the list has the answer of the whole.
use Rattle.std.proofs.Common.{◌≡◌, ◌+◌, map, length}
use Rattle.simpl_lang.specs.CodeCommand.{simpl_fn_of}
use Rattle.acceptance.specs.CodeCertificate.{steps_of}
use Rattle.acceptance.specs.UnitVerdict.{listed}
use Rattle.acceptance.proofs.units.check_list.Given as goal

abbrev pub invariant-functions : goal.invariant-functions
invariant-functions l = record {
  same : listed l.at (map simpl_fn_of l.left) (map steps_of l.right) ≡ listed 0 (map simpl_fn_of l.functions) (map steps_of l.certificate);
  counted : l.at + length l.left ≡ length l.functions;
}

abbrev pub decreases-functions : goal.decreases-functions
decreases-functions l = length l.left
