-- What was made, and then the last programs of what is left, are all of them.
use Rattle.std.proofs.Common.{◌≡◌, ◌++◌, map, length}
use Rattle.expression_lang.specs.CodeSignature.{signature_of}
use Rattle.monad_lang.specs.CodeProgram.{final_fn_of}
use Rattle.acceptance.specs.CodeCertificate.{steps_of}
use Rattle.checking.proofs.LastPrograms.{last_of}
use Rattle.checking.proofs.last_programs.last_functions.Given as goal

abbrev pub invariant-functions : goal.invariant-functions
invariant-functions l =
    map final_fn_of l.made.items ++ last_of (map signature_of l.signed) (map steps_of l.listed)
    ≡ last_of (map signature_of l.signatures) (map steps_of l.certificate)

abbrev pub decreases-functions : goal.decreases-functions
decreases-functions l = length l.signed
