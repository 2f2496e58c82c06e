-- What the code's settings, scopes and answers stand for.
use Rattle.std.specs.Prelude.{◌≡◌, ℕ, List, Option, None, map}
use Rattle.c_values.specs.Name.{Name}
use Rattle.c_values.specs.CodeValue.{global_of}
use Rattle.expression_lang.specs.declared.signatures.Binder as B
use Rattle.expression_lang.specs.Sort.{Scalar}
use Rattle.expression_lang.specs.Signature as Signature
use Rattle.expression_lang.specs.Signature.{kinds_of}
use Rattle.expression_lang.specs.Sorted.{names_with}
use Rattle.expression_lang.specs.CodeSignature.{binder_of, signature_of}
use Rattle.expression_lang.specs.CodeSort.{scalar_of}
use Rattle.program_sorts.specs.declared.phases.Phase as P
use Rattle.program_sorts.specs.CodeSorts.{sort_for}
use Rattle.monad_lang.specs.Program.{Mon, Loop}
use Rattle.monad_lang.specs.Sorted as plain
use Rattle.monad_lang.specs.CodeProgram.{mon_of, final_fn_of}
use Rattle.monad_sorts.specs.CodeTold.{setting_over, names_given, told_at, names_after}
use Rattle.monad_sorts.specs.declared.settings.Setting as S
use Rattle.monad_sorts.specs.declared.settings.Functions as F
use Rattle.monad_sorts.specs.declared.tell.Told as T
use Rattle.monad_sorts.specs.declared.inside.Inside as I
use Rattle.std.specs.Option.{option_map}

-- functions that may be called
abbrev pub functions_in : F.Functions → List Signature.Signature
functions_in (F.TheVariants.Programs fs) = map plain.signature_of (map final_fn_of fs.now)
functions_in (F.TheVariants.Signatures ss) = map signature_of ss.now

-- the setting where these names are in scope
abbrev pub setting_in : S.Setting → (Name → Option Scalar) → plain.Setting
setting_in s names = setting_over (sort_for s.phase) s.layout.now (map global_of s.globals.now) (functions_in s.functions) names

-- what an answer says, where these names are in scope
abbrev pub scalar_by : (Name → Option Scalar) → T.Told → Option Scalar
scalar_by names (T.TheVariants.Known o) = option_map scalar_of o
scalar_by names (T.TheVariants.AsName x) = names x.now

-- the names of parameters, with what their kinds have in a phase
abbrev pub parameters_in : P.Phase → List B.Binder → (Name → Option Scalar) → Name → Option Scalar
parameters_in phase bs names =
    names_with (Signature.names_of (map binder_of bs)) (map (sort_for phase) (kinds_of (map binder_of bs))) names

abbrev pub no_names : Name → Option Scalar
no_names x = None

-- the names in scope
abbrev pub scalars_in : I.Inside → Name → Option Scalar
scalars_in (I.Parameters bs phase) x = parameters_in phase bs.now no_names x
scalars_in (I.Passed' p outer s m steps) x = names_after (setting_in s no_names) steps (λ y. scalars_in outer y) (mon_of m.now) x

-- the last of the names that is this one stands at a position, or none does
abbrev pub IsAt : List Name → Name → ℕ → Type 0
IsAt xs x k = (os : List (Option Scalar)) (names : Name → Option Scalar) → names_given xs os names x ≡ told_at os k

abbrev pub IsNowhere : List Name → Name → Type 0
IsNowhere xs x = (os : List (Option Scalar)) (names : Name → Option Scalar) → names_given xs os names x ≡ names x

abbrev pub IsLoop : Mon → Type 0
IsLoop (Loop starts guard test m) = Unit {0}
IsLoop _ = ⊥
