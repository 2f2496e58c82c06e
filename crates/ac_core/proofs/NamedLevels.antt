-- The levels by position, with the names that options give, are those by default.
use Rattle.std.proofs.Common.{◌≡◌, List, length, subst}
use Rattle.c_values.specs.Name.{Name}
use Rattle.c_values.specs.declared.program.Program as P
use Rattle.expression_lang.specs.Sort.{Level}
use Rattle.c_lang.specs.CodeTyped.{unit_of}
use Rattle.c_lang.specs.WellTyped.{IsWellTyped}
use Rattle.c_lang.specs.declared.tree.TypedFn as F
use Rattle.c_meaning.specs.Levels.{AreDefaultLevels}
use Rattle.c_levels.specs.declared.modes.Modes.{Modes}
use Rattle.c_levels.specs.CodeModes.{AreLevels}
use Rattle.unit_translation.proofs.LevelsThere.{levels_of, are_levels}

pub named_levels : (u : P.Program F.TypedFn) (m : Modes) (by_bytes by_words bytes words : List Name) → IsWellTyped (unit_of u) →
    length m.levels.items ≡ length u.functions.items →
    ((levels : Name → Level) → IsWellTyped (unit_of u) → AreLevels (unit_of u) m levels → AreDefaultLevels (unit_of u) by_bytes by_words levels) →
    by_bytes ≡ bytes → by_words ≡ words → AreDefaultLevels (unit_of u) bytes words (levels_of u m)
named_levels u m by_bytes by_words bytes words typed each default' e f =
    let levels = levels_of u m in
    subst (λ xs. AreDefaultLevels (unit_of u) bytes xs levels) f
    (subst (λ xs. AreDefaultLevels (unit_of u) xs by_words levels) e (default' levels typed (are_levels u m typed each)))
