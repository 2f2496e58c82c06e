-- The functions of a text, of whatever kind, with the layout and the globals that they stand over.
use Rattle.std.specs.Prelude.{List, [], ◌∷◌, Option, Some, None, if◌then◌else◌}
use Rattle.c_values.specs.Name.{Name, same_name}
use Rattle.c_values.specs.Layout.{Layout, GlobalVar}

pub record Program (F : Type 0) : Type 0 where
  pub layout : Layout
  pub globals : List GlobalVar
  pub functions : List F

-- the first function of a name
abbrev pub function_named : {F : Type 0} → (F → Name) → List F → Name → Option F
function_named name [] x = None
function_named name (f ∷ fs) x = if same_name (name f) x then Some f else function_named name fs x
