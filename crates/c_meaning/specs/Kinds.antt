-- What a level makes of the parameters and locals of a C function.
use Rattle.std.specs.Prelude.{List, [], ◌∷◌}
use Rattle.c_values.specs.Types.{Target}
use Rattle.expression_lang.specs.Sort.{Level}
use Rattle.expression_lang.specs.Signature.{Binder, kind_at, binder}
use Rattle.c_lang.specs.Typed as C

abbrev pub variables : Target → Level → List C.Variable → List Binder
variables t level [] = []
variables t level (v ∷ vs) = binder v.name (kind_at t level v.type) ∷ variables t level vs
