-- What the code's sorts and names stand for.
use Rattle.std.specs.Prelude.{◌≡◌, List, Option, Some, None, map, if◌then◌else◌}
use Rattle.c_values.specs.Name.{Name, same_name}
use Rattle.c_values.specs.Layout.{Layout, global_type}
use Rattle.c_values.specs.CodeTypes.{type_of}
use Rattle.c_values.specs.CodeValue.{global_of}
use Rattle.c_values.specs.declared.values.GlobalVar as G
use Rattle.expression_lang.specs.declared.sort.Scalar as A
use Rattle.expression_lang.specs.declared.sort.Sort as S
use Rattle.expression_lang.specs.declared.names.Names as N
use Rattle.expression_lang.specs.declared.signatures.Binder as B
use Rattle.expression_lang.specs.Sort.{Scalar, WordSort, NumberSort, TruthSort, Sort, Of, PartsSort, Scope, word_sort_of}
use Rattle.expression_lang.specs.Signature as Signature
use Rattle.expression_lang.specs.Signature.{kinds_of}
use Rattle.expression_lang.specs.Sorted.{names_with}
use Rattle.expression_lang.specs.CodeSignature.{binder_of}

abbrev pub scalar_of : A.Scalar → Scalar
scalar_of (A.TheVariants.Word n) = WordSort n
scalar_of A.TheVariants.Num = NumberSort
scalar_of A.TheVariants.Truth = TruthSort

abbrev pub sort_value : S.Sort → Sort
sort_value (S.TheVariants.Of s) = Of (scalar_of s)
sort_value (S.TheVariants.Parts t) = PartsSort (type_of t.now)

abbrev pub no_names : Name → Option Scalar
no_names x = None

-- the names of binders, with what the values of their kinds are before words become numbers
abbrev pub names_with_all : List B.Binder → (Name → Option Scalar) → Name → Option Scalar
names_with_all bs names = names_with (Signature.names_of (map binder_of bs)) (map word_sort_of (kinds_of (map binder_of bs))) names

-- binders give a name this scalar, whatever it has without them
abbrev pub IsScalarAmong : List B.Binder → Name → Scalar → Type 0
IsScalarAmong bs x s = (names : Name → Option Scalar) → names_with_all bs names x ≡ Some s

-- no binder has the name
abbrev pub IsAmongNone : List B.Binder → Name → Type 0
IsAmongNone bs x = (names : Name → Option Scalar) → names_with_all bs names x ≡ names x

abbrev pub names_of : N.Names → Name → Option Scalar
names_of N.Empty x = None
names_of (N.Named' p outer own s) x = if same_name own.now x then Some (scalar_of s) else names_of outer x
names_of (N.AllOf' p outer bs) x = names_with_all bs.now (λ y. names_of outer y) x

-- what is in scope
abbrev pub scope_by : Layout → (Name → Option Scalar) → List G.GlobalVar → Scope
scope_by l names globals = record { layout = l; names = names; globals = global_type (map global_of globals) }

abbrev pub scope_of : Layout → N.Names → List G.GlobalVar → Scope
scope_of l names globals = scope_by l (λ x. names_of names x) globals
