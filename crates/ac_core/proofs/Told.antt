-- Answers to a typed text where an option names no function, or a function has too many commands.
use Rattle.std.proofs.Common.{◌≡◌, ℕ, List, ◌++◌, true, Some, None, sym, subst}
use Rattle.std.specs.Prelude.{codes}
use Rattle.c_values.specs.Name.{Name}
use Rattle.expression_lang.specs.Sort.{Level}
use Rattle.c_meaning.specs.Levels.{AreDefaultLevels}
use Rattle.generation.specs.Generate.{generated}
use Rattle.c_lang.specs.Typed.{TypedUnit}
use Rattle.command_line.specs.Words.{Form, bytes_names, words_names, first_unknown}
use Rattle.ac_core.specs.Written.{is_function, has_long_function, IsWritten}
use Rattle.answers.specs.declared.status.Status.{Status}
use Rattle.answers.specs.declared.status.Status.TheVariants.{Words, Source, Limit}

module _ (form : Form) (options : List Name) where
  -- an option that names no function
  pub unnamed_answer : (unit : TypedUnit) (name : Name) (status : Status) (lines : List ℕ) → first_unknown (is_function unit) options ≡ Some name → (status ≡ Words) × (lines ≡ codes "words: unknown " ++ (name ++ codes "\n")) → IsWritten form options unit status lines
  unnamed_answer unit name status lines u a =
      subst (λ s. IsWritten form options unit s lines) (sym a.0) (record { name = name; unknown = u; written = a.1 })

  -- too many commands
  pub long_answer : (unit : TypedUnit) (levels : Name → Level) (status : Status) (lines : List ℕ) → first_unknown (is_function unit) options ≡ None → AreDefaultLevels unit (bytes_names options) (words_names options) levels →
      has_long_function (generated unit levels) ≡ true → (status ≡ Limit) × (lines ≡ codes "limit: commands\n") → IsWritten form options unit status lines
  long_answer unit levels status lines n d h a =
      subst (λ s. IsWritten form options unit s lines) (sym a.0) (record { named = n; levels = levels; default = d; long = h; written = a.1 })

  -- it is C
  pub is_typed : (unit : TypedUnit) (status : Status) (lines : List ℕ) → IsWritten form options unit status lines → status ≡ Source → ⊥
  is_typed unit status lines h e = subst (λ s. IsWritten form options unit s lines) e h
