-- What the code's values, globals and paths stand for.
use Rattle.std.specs.Prelude.{pos, string_bytes}
use Rattle.c_values.specs.declared.values.Value as V
use Rattle.c_values.specs.declared.values.Value.{Row_of-Value, end_of-Value, more_of-Value}
use Rattle.c_values.specs.declared.values.PathStep as P
use Rattle.c_values.specs.declared.values.GlobalVar as G
use Rattle.c_values.specs.Value.{Value, Bits, Number, Truth, Parts, Values, no_values, more}
use Rattle.c_values.specs.Path.{Step, Field, Index}
use Rattle.c_values.specs.Layout.{GlobalVar}
use Rattle.c_values.specs.CodeTypes.{type_of}

abbrev mutual
  pub value_of : V.Value → Value
  value_of (V.Word w) = Bits w
  value_of (V.Number n) = Number n
  value_of (V.Truth b) = Truth b
  value_of (V.Parts' shape vs) = Parts (values_of vs)

  pub values_of : {m : _} → Row_of-Value m → Values
  values_of end_of-Value = no_values
  values_of (more_of-Value v vs) = more (value_of v) (values_of vs)

abbrev pub step_of : P.PathStep → Step
step_of (P.TheVariants.Field k) = Field k
step_of (P.TheVariants.Index i) = Index (pos i)

abbrev pub global_of : G.GlobalVar → GlobalVar
global_of g = record { name = string_bytes g.name; type = type_of g.ty; initial = value_of g.initial }
