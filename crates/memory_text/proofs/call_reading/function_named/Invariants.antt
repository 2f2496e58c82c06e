-- None before has the name.
use Rattle.std.proofs.Common.{◌≡◌, length, map}
use Rattle.c_lang.specs.CodeTyped.{function_of}
use Rattle.c_lang.specs.Typed.{typed_fn}
use Rattle.memory_text.proofs.call_reading.function_named.Given as goal

abbrev pub invariant-functions : goal.invariant-functions
invariant-functions l = typed_fn (map function_of l.functions) l.name ≡ typed_fn (map function_of l.rest) l.name

abbrev pub decreases-functions : goal.decreases-functions
decreases-functions l = length l.rest
