-- None so far has the name.
use Rattle.std.proofs.Common.{◌≡◌, map, drop}
use Rattle.expression_lang.specs.Signature.{signature}
use Rattle.monad_lang.specs.Sorted.{signature_of}
use Rattle.monad_lang.specs.CodeProgram.{final_fn_of}
use Rattle.monad_sorts.proofs.counts.function.Given as goal

abbrev pub invariant-functions : goal.invariant-functions
invariant-functions l =
    signature (map signature_of (map final_fn_of (drop l.f-index l.functions))) l.name
    ≡ signature (map signature_of (map final_fn_of l.functions)) l.name
