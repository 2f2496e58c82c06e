-- What is written of a typed text whose programs are asked for, by the options: exact programs, as a tree, in lines or at the end of an accepted
-- certificate. Or why nothing is: an option names no function, or a function has too many commands.
use Rattle.std.specs.Prelude.{◌≡◌, ℕ, ◌≤◌, Bool, true, false, nat_lt, List, ◌++◌, map, Some, None, codes}
use Rattle.std.specs.List.{list_any}
use Rattle.ac_sx.specs.Tree.{depth, deepest}
use Rattle.c_values.specs.Name.{Name, is_among}
use Rattle.expression_lang.specs.Sort.{Level}
use Rattle.simpl_lang.specs.Command.{SimplFn, SimplUnit}
use Rattle.simpl_lang.specs.Form.{commands}
use Rattle.monad_lang.specs.Program.{FinalUnit}
use Rattle.monad_lang.specs.Sorted.{IsWellFormed}
use Rattle.command_line.specs.Words.{Form, AsTree, AsLines, AsCertificate, target_of, bytes_names, words_names, first_unknown}
use Rattle.c_lang.specs.Typed.{TypedUnit}
use Rattle.c_meaning.specs.Levels.{AreDefaultLevels}
use Rattle.generation.specs.Generate.{generated}
use Rattle.pipeline.specs.Made.{AreTidy}
use Rattle.unit_translation.specs.Forms.{AreOfTheirForms}
use Rattle.acceptance.specs.Certificate.{Steps}
use Rattle.acceptance.specs.Accepted.{IsAccepted}
use Rattle.pipeline.specs.Units.{last_unit}
use Rattle.certificate_text.specs.CertificateText.{Certificate, Two, certificate_text, certificate_tree}
use Rattle.certificate_text.specs.Answer.{IsCertificateText}
use Rattle.exactness.specs.Exact.{AreProgramsOf, IsExact}
use Rattle.unit_text.specs.UnitText.{unit_text, is_unit}
use Rattle.abs_print.specs.Programs.{unit_text as unit_lines}
use Rattle.answers.specs.declared.status.Status.{Status}
use Rattle.answers.specs.declared.status.Status.TheVariants.{Done, Words, Limit}

-- the most commands that a generated function may have
abbrev pub commands_limit : ℕ
commands_limit = 800

abbrev pub is_long : SimplFn → Bool
is_long f = nat_lt commands_limit (commands f.body)

abbrev pub has_long_function : SimplUnit → Bool
has_long_function u = list_any is_long u.functions

-- each function has at most so many, at its level by default and by the options
abbrev pub IsWithin : List Name → TypedUnit → Type 0
IsWithin options unit = (levels : Name → Level) → AreDefaultLevels unit (bytes_names options) (words_names options) levels → has_long_function (generated unit levels) ≡ false

abbrev pub is_function : TypedUnit → Name → Bool
is_function u x = is_among x (map (λ f. f.name) u.functions)

-- These are the programs of the C functions at their levels: exact, well-formed, each of its level's form, tidy, and with names, types
-- and numbers of the text alone.
pub record AreTranslated (unit : TypedUnit) (levels : Name → Level) (programs : FinalUnit) : Type 0 where
  pub of_unit : AreProgramsOf unit levels programs
  pub exact : IsExact unit levels programs
  pub well_formed : IsWellFormed programs
  pub formed : AreOfTheirForms programs.functions
  pub tidy : AreTidy programs.functions
  pub texts : is_unit programs ≡ true

-- the certificate of these steps, for the target that the options choose
abbrev pub certificate_for : List Name → List Steps → Certificate
certificate_for options cs = record { version = Two (target_of options); functions = cs }

module _ (options : List Name) (unit : TypedUnit) where
  -- Programs are written of a typed text at these levels: each function that an option names is there, the levels are those that the functions have by
  -- default and by the options, and no function has more commands than it may have once it is generated.
  pub record AreChosen (levels : Name → Level) : Type 0 where
    pub named : first_unknown (is_function unit) options ≡ None
    pub default : AreDefaultLevels unit (bytes_names options) (words_names options) levels
    pub within : has_long_function (generated unit levels) ≡ false

  -- what is written is the text of exact programs
  pub record Shows (written_as : FinalUnit → List ℕ) (lines : List ℕ) : Type 0 where
    pub levels : Name → Level
    pub chosen : AreChosen levels
    pub programs : FinalUnit
    pub shown : AreTranslated unit levels programs
    pub written : lines ≡ written_as programs

  -- What is written is the text of a certificate that is accepted for what is generated, so that its last programs are exact; and where it doesn't
  -- nest too deep, it is read back as this certificate.
  pub record Translates (lines : List ℕ) : Type 0 where
    pub levels : Name → Level
    pub chosen : AreChosen levels
    pub certificate : List Steps
    pub accepted : IsAccepted (generated unit levels) certificate
    pub translated : AreTranslated unit levels (last_unit (generated unit levels) certificate)
    pub written : lines ≡ certificate_text (certificate_for options certificate)
    pub read_back : depth (certificate_tree (certificate_for options certificate)) ≤ deepest → IsCertificateText lines (certificate_for options certificate)

  -- what is written, by the command's form
  abbrev pub gives : Form → List ℕ → Type 0
  gives AsTree = Shows unit_text
  gives AsLines = Shows unit_lines
  gives AsCertificate = Translates

  -- some function has more commands
  pub record IsLong (lines : List ℕ) : Type 0 where
    pub named : first_unknown (is_function unit) options ≡ None
    pub levels : Name → Level
    pub default : AreDefaultLevels unit (bytes_names options) (words_names options) levels
    pub long : has_long_function (generated unit levels) ≡ true
    pub written : lines ≡ codes "limit: commands\n"

  -- an option names what is no function of the text: this is the first
  pub record NamesNone (lines : List ℕ) : Type 0 where
    pub name : Name
    pub unknown : first_unknown (is_function unit) options ≡ Some name
    pub written : lines ≡ codes "words: unknown " ++ (name ++ codes "\n")

-- the answer to a typed text whose programs are asked for
abbrev pub IsWritten : Form → List Name → TypedUnit → Status → List ℕ → Type 0
IsWritten form options unit Done lines = gives options unit form lines
IsWritten form options unit Words lines = NamesNone options unit lines
IsWritten form options unit Limit lines = IsLong options unit lines
IsWritten form options unit _ lines = ⊥
