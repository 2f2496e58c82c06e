-- What a trial says of a typed text: how many functions it has, how many of them are at numbers and how many on bytes, how long the text of their
-- certificate is, and that it is accepted.
use Rattle.std.specs.Prelude.{◌≡◌, ℕ, suc, List, [], ◌∷◌, ◌++◌, length, codes, if◌then◌else◌}
use Rattle.std.specs.Fmt.{decimal}
use Rattle.c_values.specs.Name.{Name}
use Rattle.c_values.specs.Types.{Target}
use Rattle.expression_lang.specs.Sort.{Level, Numbers, Bytes}
use Rattle.simpl_lang.specs.Command.{SimplFn}
use Rattle.simpl_lang.specs.Sorted.{same_level}
use Rattle.c_lang.specs.Typed.{TypedUnit}
use Rattle.c_meaning.specs.Levels.{AreDefaultLevels}
use Rattle.generation.specs.Generate.{generated}
use Rattle.acceptance.specs.Certificate.{Steps}
use Rattle.acceptance.specs.Accepted.{IsAccepted}
use Rattle.pipeline.specs.Units.{last_unit}
use Rattle.certificate_text.specs.CertificateText.{Two, certificate_text}
use Rattle.answers.specs.declared.status.Status.{Status}
use Rattle.answers.specs.declared.status.Status.TheVariants.{Done}
use Rattle.ac_core.specs.Written.{AreTranslated}

-- how many functions are at a level
abbrev pub count_at : Level → List SimplFn → ℕ
count_at l [] = 0
count_at l (f ∷ fs) = if same_level f.level l then suc (count_at l fs) else count_at l fs

-- a word and a number
abbrev pub number_line : List ℕ → ℕ → List ℕ
number_line word n = word ++ (codes " " ++ (decimal n ++ codes "\n"))

abbrev pub trial_lines : ℕ → ℕ → ℕ → ℕ → List ℕ
trial_lines functions on_numbers on_bytes bytes =
    (((number_line (codes "functions") functions
    ++ number_line (codes "numbers") on_numbers)
    ++ number_line (codes "bytes") on_bytes)
    ++ number_line (codes "certificate") bytes)
    ++ number_line (codes "accepted") functions

-- The certificate is accepted for what is generated at the levels by default, and its last programs are exact and tidy.
pub record IsTrial (target : Target) (unit : TypedUnit) (lines : List ℕ) : Type 0 where
  pub levels : Name → Level
  pub default : AreDefaultLevels unit [] [] levels
  pub certificate : List Steps
  pub accepted : IsAccepted (generated unit levels) certificate
  pub translated : AreTranslated unit levels (last_unit (generated unit levels) certificate)
  pub written : lines ≡ trial_lines (length (generated unit levels).functions) (count_at Numbers (generated unit levels).functions)
      (count_at Bytes (generated unit levels).functions) (length (certificate_text (record { version = Two target; functions = certificate })))

-- the answer to a typed text that is tried
abbrev pub IsTried : Target → TypedUnit → Status → List ℕ → Type 0
IsTried target unit Done lines = IsTrial target unit lines
IsTried target unit _ lines = ⊥
