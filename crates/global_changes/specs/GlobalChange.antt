-- Where a global stands in the order of the globals, and what a part of it becomes.
use Rattle.std.specs.Prelude.{ℕ, zero, suc, List, [], ◌∷◌, Option, Some, None, if◌then◌else◌}
use Rattle.std.specs.Option.{option_map}
use Rattle.c_values.specs.Name.{Name, same_name}
use Rattle.c_values.specs.Layout.{GlobalVar}
use Rattle.c_values.specs.Value.{Value}
use Rattle.c_values.specs.Path.{Step, upd}

-- where the first global of the name stands
abbrev pub position_of : Name → List GlobalVar → Option ℕ
position_of x [] = None
position_of x (g ∷ gs) = if same_name g.name x then Some 0 else option_map suc (position_of x gs)

-- the part of a global takes a value
abbrev pub change_at : List Step → Value → ℕ → List Value → List Value
change_at ps w k [] = []
change_at ps w zero (v ∷ vs) = upd v ps w ∷ vs
change_at ps w (suc k) (v ∷ vs) = v ∷ change_at ps w k vs

abbrev pub change_in : Option ℕ → List Step → Value → List Value → List Value
change_in None ps w vs = vs
change_in (Some k) ps w vs = change_at ps w k vs
