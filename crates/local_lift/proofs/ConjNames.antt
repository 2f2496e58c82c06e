-- Names of conditions as one.
use Rattle.std.proofs.Common.{◌≡◌, ◌||◌, List, [], ◌∷◌, refl, ap}
use Rattle.std.proofs.Math.Bool.{or-false}
use Rattle.c_values.specs.Name.{Name}
use Rattle.expression_lang.specs.Mentions.{names}
use Rattle.simpl_lang.specs.Command.{Condition}
use Rattle.simpl_lang.specs.Names.{conditions_name}
use Rattle.rule_local.specs.Table.{conj}

pub conj_names : (y : Name) (gs : List Condition) → conditions_name y gs ≡ names y (conj gs)
conj_names y [] = refl
conj_names y (g ∷ []) = or-false (names y g.exp)
conj_names y (g ∷ d ∷ gs) = ap (λ b. names y g.exp || b) (conj_names y (d ∷ gs))
