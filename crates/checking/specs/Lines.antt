-- The lines that say what became of a certificate: for each function that is accepted its level, and on bytes also why, and how many there are;
-- or the first place that isn't accepted.
use Rattle.std.specs.Prelude.{ℕ, List, [], ◌∷◌, ◌++◌, length, codes, if◌then◌else◌}
use Rattle.std.specs.Fmt.{decimal}
use Rattle.c_values.specs.Name.{Name}
use Rattle.expression_lang.specs.Sort.{Level}
use Rattle.c_lang.specs.Typed.{TypedFn}
use Rattle.c_meaning.specs.Levels.{Reason, ByCast, ByCall, ByChoice, reason, is_on_bytes}
use Rattle.acceptance.specs.Verdict as V
use Rattle.acceptance.specs.Verdict.{Phase}
use Rattle.certificate_text.specs.CertificateText.{level_word}

abbrev pub reason_text : Reason → List ℕ
reason_text ByCast = codes " cast"
reason_text (ByCall f) = codes " calls " ++ f
reason_text ByChoice = codes " chosen"

-- a function's name, its level, and on bytes why it has that
abbrev pub function_line : (Name → Level) → TypedFn → List ℕ
function_line levels f =
    f.name ++ (codes " " ++ (level_word (levels f.name)
    ++ ((if is_on_bytes (levels f.name) then reason_text (reason levels f) else []) ++ codes "\n")))

abbrev pub function_lines : (Name → Level) → List TypedFn → List ℕ
function_lines levels [] = []
function_lines levels (f ∷ fs) = function_line levels f ++ function_lines levels fs

abbrev pub accepted_lines : (Name → Level) → List TypedFn → List ℕ
accepted_lines levels fs = function_lines levels fs ++ (codes "accepted " ++ (decimal (length fs) ++ codes "\n"))

abbrev pub phase_text : Phase → List ℕ
phase_text V.Level = codes "level"
phase_text V.Exception = codes "exception"
phase_text V.Local = codes "local"
phase_text V.Heap = codes "heap"
phase_text V.Word = codes "word"
phase_text V.Equal = codes "equal"

-- the function, the step and the node of the first place that isn't accepted
abbrev pub refusal_line : Name → List ℕ → ℕ → List ℕ
refusal_line name phase node = codes "no: " ++ (name ++ (codes " " ++ (phase ++ (codes " " ++ (decimal node ++ codes "\n")))))
