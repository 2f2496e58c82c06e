-- What was made, and then the functions that are left, are all of them.
use Rattle.std.proofs.Common.{◌≡◌, ◌++◌, map, length}
use Rattle.expression_lang.specs.CodeSignature.{signature_of}
use Rattle.simpl_lang.specs.CodeCommand.{simpl_fn_of, simpl_unit_of}
use Rattle.monad_lang.specs.CodeProgram.{final_fn_of}
use Rattle.unit_translation.specs.CodeTranslated.{AllReadyToLift, last_functions}
use Rattle.unit_translation.proofs.units.functions.Given as goal

abbrev pub invariant-functions : goal.invariant-functions
invariant-functions g l = record {
  made : map final_fn_of l.made.items ++ last_functions (simpl_unit_of l.u) (map simpl_fn_of l.functions) (map signature_of l.signatures)
      ≡ last_functions (simpl_unit_of l.u) (map simpl_fn_of l.u.functions.items) (map signature_of l.u.signatures.items);
  ready : AllReadyToLift (map simpl_fn_of l.functions) (map signature_of l.signatures);
}

abbrev pub decreases-functions : goal.decreases-functions
decreases-functions g l = length l.functions
