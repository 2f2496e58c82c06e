-- What the code's rows of types stand for.
use Rattle.std.specs.Prelude.{List, map, replicate}
use Rattle.c_values.specs.Types.{CType}
use Rattle.c_values.specs.CodeTypes.{type_of}
use Rattle.memory_text.specs.declared.types.Types as T

abbrev pub types_in : T.Types → List CType
types_in (T.TheVariants.Elements t n) = replicate n (type_of t.now)
types_in (T.TheVariants.Members ms) = map (λ m. type_of m.1) ms.now
types_in (T.TheVariants.Parameters vs) = map (λ v. type_of v.ty) vs.now
