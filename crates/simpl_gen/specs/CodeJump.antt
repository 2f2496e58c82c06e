-- What the code's jumps are told apart by.
use Rattle.std.specs.Prelude.{ℤ}
use Rattle.simpl_gen.specs.declared.jumps.Jump as J
use Rattle.generation.specs.Generate.{returned, broken, continued}

abbrev pub exception_of : J.Jump → ℤ
exception_of J.TheVariants.Return = returned
exception_of J.TheVariants.Break = broken
exception_of J.TheVariants.Continue = continued
