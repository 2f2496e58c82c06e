-- No function before has the name.
use Rattle.std.proofs.Common.{◌≡◌, length, map}
use Rattle.monad_lang.specs.Program.{final_fn}
use Rattle.monad_lang.specs.CodeProgram.{final_fn_of}
use Rattle.hoare_check.proofs.called.function_in.Given as goal

abbrev pub invariant-functions : goal.invariant-functions
invariant-functions l = record {
  same : final_fn (map final_fn_of l.rest) l.name ≡ final_fn (map final_fn_of l.functions) l.name;
}

abbrev pub decreases-functions : goal.decreases-functions
decreases-functions l = length l.rest
