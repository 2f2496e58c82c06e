-- The names and the levels of functions, as the code keeps them.
use Rattle.std.proofs.Common.{◌≡◌, ℕ, zero, suc, ◌<◌, List, [], ◌∷◌, map, length, get_or, Bor, Some, sym, ap, arith}
use Rattle.std.specs.Prelude.{slice_index_or, string_bytes}
use Rattle.std.specs.Slice.{IsItemAt}
use Rattle.std.proofs.lemmas.Simd.{map-map}
use Rattle.expression_lang.specs.CodeExpression.{level_of}
use Rattle.simpl_lang.specs.Command.{SimplFn}
use Rattle.simpl_lang.specs.CodeCommand.{simpl_fn_of}
use Rattle.simpl_lang.specs.declared.units.SimplFn as G
use Rattle.c_lang.specs.Typed.{TypedFn}
use Rattle.c_lang.specs.CodeTyped.{function_of}
use Rattle.c_lang.specs.declared.tree.TypedFn as F
use Rattle.acceptance.specs.Certificate.{Steps}
use Rattle.acceptance.specs.CodeCertificate.{steps_of}
use Rattle.acceptance.specs.declared.certificate.Steps as S
use Rattle.certificate_text.specs.CertificateIndex.{Entry}
use Rattle.certificate_text.specs.CodeIndex.{entry_of}
use Rattle.certificate_text.specs.declared.index.FunEntry as E
use Rattle.checking.specs.Checked.{function_names, names_in}
use Rattle.checking.specs.Refused.{generated_names}
use Rattle.checking.specs.Levels.{levels_listed, entry_names, entry_levels}

function_at : (fs : List F.TypedFn) (k : ℕ) (f : F.TypedFn) → k < length fs → f ≡ get_or fs k f →
    string_bytes f.name ≡ slice_index_or (function_names (map function_of fs)) k []
function_at [] k f lt e = absurd (omega (arith, lt))
function_at (g ∷ fs) zero f lt e = ap (λ (h : F.TypedFn). string_bytes h.name) e
function_at (g ∷ fs) (suc k) f lt e = function_at fs k f (omega (arith, lt)) e

pub function_there : (fs : List F.TypedFn) (k : ℕ) (f : Bor F.TypedFn) → IsItemAt fs k (Some f) →
    string_bytes f.now.name ≡ slice_index_or (function_names (map function_of fs)) k []
function_there fs k f h = function_at fs k f.now h.3.0 (h.3.1 f.now)

-- names and levels are those of what the code's lists stand for

pub typed_names : (fs : List F.TypedFn) → map (λ (f : F.TypedFn). string_bytes f.name) fs ≡ function_names (map function_of fs)
typed_names fs = sym (map-map (λ (f : TypedFn). f.name) function_of fs)

pub simpl_names : (fs : List G.SimplFn) → map (λ (f : G.SimplFn). string_bytes f.name) fs ≡ generated_names (map simpl_fn_of fs)
simpl_names fs = sym (map-map (λ (f : SimplFn). f.name) simpl_fn_of fs)

pub steps_names : (cs : List S.Steps) → map (λ (c : S.Steps). string_bytes c.name) cs ≡ names_in (map steps_of cs)
steps_names cs = sym (map-map (λ (c : Steps). c.name) steps_of cs)

pub steps_levels : (cs : List S.Steps) → map (λ (c : S.Steps). level_of c.level) cs ≡ levels_listed (map steps_of cs)
steps_levels cs = sym (map-map (λ (c : Steps). c.level) steps_of cs)

pub entries_names : (es : List E.FunEntry) → map (λ (e : E.FunEntry). string_bytes e.name) es ≡ entry_names (map entry_of es)
entries_names es = sym (map-map (λ (e : Entry). e.name) entry_of es)

pub entries_levels : (es : List E.FunEntry) → map (λ (e : E.FunEntry). level_of e.level) es ≡ entry_levels (map entry_of es)
entries_levels es = sym (map-map (λ (e : Entry). e.level) entry_of es)
