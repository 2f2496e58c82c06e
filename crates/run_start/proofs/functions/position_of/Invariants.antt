-- None before has the name.
use Rattle.std.proofs.Common.{◌≡◌, drop, map}
use Rattle.c_lang.specs.CodeTyped.{function_of}
use Rattle.c_lang.specs.Typed.{typed_fn}
use Rattle.run_start.proofs.functions.position_of.Given as goal

abbrev pub invariant-functions : goal.invariant-functions
invariant-functions l = typed_fn (map function_of l.functions) l.name ≡ typed_fn (map function_of (drop l.k l.functions)) l.name
