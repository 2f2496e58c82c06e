-- What the code answers of the levels of a certificate.
use Rattle.std.specs.Prelude.{◌≡◌, ℕ, List, Option, Some, None, Result, Ok, Err}
use Rattle.c_values.specs.Name.{Name}
use Rattle.expression_lang.specs.Sort.{Level}
use Rattle.c_levels.specs.declared.modes.Modes.{Modes}
use Rattle.c_levels.specs.CodeModes.{levels_in}
use Rattle.checking.specs.declared.levels.ListFault.{ListFault}
use Rattle.checking.specs.declared.levels.ListFault.TheVariants as F
use Rattle.checking.specs.Refused.{told}

-- The levels, where no name differs and memory doesn't run out; and where one does, its position.
abbrev pub AreTold : Option (ℕ × Name) → List Level → Result Modes ListFault → Type 0
AreTold (Some p) levels r = r ≡ Err (F.Differs (told p.0))
AreTold None levels (Ok modes) = levels_in modes ≡ levels
AreTold None levels (Err fault) = fault ≡ F.Memory
