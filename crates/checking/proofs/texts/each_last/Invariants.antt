-- What was made, and then the last programs of what is left, are all of them; and how many are left.
use Rattle.std.proofs.Common.{◌≡◌, ◌+◌, map, length}
use Rattle.expression_lang.specs.CodeSignature.{signature_of}
use Rattle.monad_lang.specs.CodeProgram.{final_fn_of}
use Rattle.checking.proofs.LastPrograms.{AreLast}
use Rattle.checking.proofs.texts.each_last.Given as goal

abbrev pub invariant-functions : goal.invariant-functions
invariant-functions l = record {
  whole : AreLast l.bytes (map signature_of l.signatures) (map final_fn_of l.made.items) l.at (map signature_of l.signed);
  counted : l.at + length l.listed ≡ length l.index.functions.items;
}

abbrev pub decreases-functions : goal.decreases-functions
decreases-functions l = length l.signed
