-- Lists of the code's values.
use Rattle.std.proofs.Common.{◌≡◌, List, [], ◌∷◌, map, refl, ap, ◌∙◌}
use Rattle.c_values.specs.declared.values.Value as V
use Rattle.c_values.specs.Value.{Values}
use Rattle.c_values.specs.CodeValue.{value_of}
use Rattle.c_values.specs.CodeParts.{values_in}
use Rattle.run_start.specs.Start.{listed}

listed_values : (vs : List V.Value) → map value_of vs ≡ listed (values_in vs)
listed_values [] = refl
listed_values (v ∷ vs) = ap (λ ws. value_of v ∷ ws) (listed_values vs)

pub listed_as : (vs : List V.Value) (ws : Values) → values_in vs ≡ ws → map value_of vs ≡ listed ws
listed_as vs ws e = listed_values vs ∙ ap listed e
