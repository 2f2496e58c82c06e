-- What the code's programs stand for, as sequences of parts.
use Rattle.std.specs.Prelude.{Bool, false, ◌||◌, List, [], ◌∷◌, map, string_bytes, Option, None}
use Rattle.expression_lang.specs.Expression.{Exp}
use Rattle.ac_expr.specs.Passed.{Part}
use Rattle.monad_lang.specs.CodeProgram.{mon_of}
use Rattle.program_facts.specs.declared.parts.Parts as P
use Rattle.program_facts.specs.Flow.{part, parts, guard_in, changes_state}

abbrev pub sequence : P.Parts → List Part
sequence P.TheVariants.None = []
sequence (P.TheVariants.Begins m xs n) = part (mon_of m.now.value) (map string_bytes xs.now) ∷ parts (mon_of n.now.value)
sequence (P.TheVariants.Whole m) = parts (mon_of m.now.value)

abbrev pub guard_at : P.Parts → Option Exp
guard_at (P.TheVariants.Whole m) = guard_in (mon_of m.now.value)
guard_at _ = None

abbrev pub changes_at : P.Parts → Bool
changes_at P.TheVariants.None = false
changes_at (P.TheVariants.Begins m xs n) = changes_state (mon_of m.now.value) || changes_state (mon_of n.now.value)
changes_at (P.TheVariants.Whole m) = changes_state (mon_of m.now.value)
