-- What is told of the scalars of expressions and of programs' values: what they are where all is well-sorted, and something else
-- may be where it isn't. So of each expression one operand is looked at alone.
use Rattle.std.specs.Prelude.{ℕ, zero, suc, List, [], ◌∷◌, map, Option, Some, None}
use Rattle.c_values.specs.Name.{Name, with_name}
use Rattle.c_values.specs.Types.{CType, address_width}
use Rattle.c_values.specs.Layout.{Layout, GlobalVar, Shape, Scalar as WordShape, Record, Row, shape_of, global_type}
use Rattle.c_values.specs.Path.{member_spot}
use Rattle.expression_lang.specs.Expression.{Exp, Var, WordLit, NumberLit, TruthLit, WordBinary, WordShift, WordUnary, WordCompare, Cast, ToNat, ToInt, ToWord, Arith, Negate, Lt, Le, Between, Eq, And, Or, Imp, Not, If, Padd, At, Load, Read, Tagged, PtrOk, Global, Sel, Upd, Path, Here, IntoField, IntoElement}
use Rattle.expression_lang.specs.Sort.{Scalar, WordSort, NumberSort, TruthSort, Kind, Scope, shape_in, sort_of_kind}
use Rattle.expression_lang.specs.Signature.{Signature, signature, names_of, kinds_of}
use Rattle.expression_lang.specs.Sorted.{names_with}
use Rattle.monad_lang.specs.Program as M
use Rattle.monad_lang.specs.Program.{Start, Mon, FinalFn, FinalUnit}
use Rattle.monad_lang.specs.Run.{start_names}
use Rattle.monad_lang.specs.Sorted.{Setting, signature_of}

-- the shape at the end of a path whose members are there
abbrev pub shape_through : Path → Shape → Option Shape
shape_through Here s = Some s
shape_through (IntoField k path) (Record x n align fs) = shape_in (member_spot fs k) (λ s. shape_through path s)
shape_through (IntoElement e path) (Row s n) = shape_through path s
shape_through _ _ = None

abbrev pub scalar_at : Option Shape → Option Scalar
scalar_at (Some (WordShape t width)) = Some (WordSort width)
scalar_at _ = None

abbrev pub part_told : Layout → CType → Path → Option Scalar
part_told l t path = scalar_at (shape_through path (shape_of l t))

abbrev pub global_told : Layout → Option CType → Path → Option Scalar
global_told l None path = None
global_told l (Some t) path = part_told l t path

abbrev pub address_told : Layout → Option Scalar
address_told l = Some (WordSort (address_width l.target))

-- the scalar of an expression, unless it has a `sel` or an `upd`
abbrev pub told : Scope → Exp → Option Scalar
told g (Var x) = g.names x
told g (WordLit w) = Some (WordSort w.width)
told g (NumberLit n) = Some NumberSort
told g (TruthLit b) = Some TruthSort
told g (WordBinary op a b) = told g b
told g (WordShift op a n) = told g a
told g (WordUnary op a) = told g a
told g (WordCompare op a b) = Some TruthSort
told g (Cast op width a) = Some (WordSort width)
told g (ToNat a) = Some NumberSort
told g (ToInt a) = Some NumberSort
told g (ToWord width a) = Some (WordSort width)
told g (Arith op a b) = Some NumberSort
told g (Negate a) = Some NumberSort
told g (Lt a b) = Some TruthSort
told g (Le a b) = Some TruthSort
told g (Between low a high) = Some TruthSort
told g (Eq a b) = Some TruthSort
told g (And a b) = Some TruthSort
told g (Or a b) = Some TruthSort
told g (Imp a b) = Some TruthSort
told g (Not a) = Some TruthSort
told g (If c a b) = told g b
told g (Padd t p n) = address_told g.layout
told g (At t p path) = address_told g.layout
told g (Load t p path) = part_told g.layout t path
told g (Read t p path) = part_told g.layout t path
told g (Tagged t p) = Some TruthSort
told g (PtrOk t p) = Some TruthSort
told g (Global x path) = global_told g.layout (g.globals x) path
told g (Sel e path) = None
told g (Upd e path v) = None

abbrev pub all_told : Scope → List Exp → List (Option Scalar)
all_told g [] = []
all_told g (e ∷ es) = told g e ∷ all_told g es

abbrev pub starts_told : Scope → List Start → List (Option Scalar)
starts_told g [] = []
starts_told g (x ∷ xs) = told g x.exp ∷ starts_told g xs

-- names with what is told of them; of two with one name the last counts
abbrev pub names_given : List Name → List (Option Scalar) → (Name → Option Scalar) → Name → Option Scalar
names_given [] os names = names
names_given (x ∷ xs) [] names = names_given xs [] (with_name x None names)
names_given (x ∷ xs) (o ∷ os) names = names_given xs os (with_name x o names)

-- the setting of a program over these structs, globals and functions, where these names are in scope and names have these scalars at
-- their kinds
abbrev pub setting_over : (Kind → Scalar) → Layout → List GlobalVar → List Signature → (Name → Option Scalar) → Setting
setting_over f l globals functions names = record {
  scope = record { layout = l; names = names; globals = global_type globals };
  functions = functions;
  sort_for = f;
}

-- the same in a unit
abbrev pub setting_by : (Kind → Scalar) → FinalUnit → (Name → Option Scalar) → Setting
setting_by f u names = setting_over f u.layout u.globals (map signature_of u.functions) names

-- the setting of a function's program
abbrev pub setting_for : (Kind → Scalar) → FinalUnit → FinalFn → Setting
setting_for f u g = setting_by f u (names_with (names_of g.params) (map f (kinds_of g.params)) (λ x. None))

-- a setting with other names
abbrev pub with_names : (Name → Option Scalar) → Setting → Setting
with_names names t = record {
  scope = record { layout = t.scope.layout; names = names; globals = t.scope.globals };
  functions = t.functions;
  sort_for = t.sort_for;
}

abbrev pub setting_given : List Name → List (Option Scalar) → Setting → Setting
setting_given xs os t = with_names (names_given xs os t.scope.names) t

abbrev pub result_told : (Kind → Scalar) → Option Kind → List (Option Scalar)
result_told f None = []
result_told f (Some k) = Some (f k) ∷ []

abbrev pub call_told : (Kind → Scalar) → Option Signature → List (Option Scalar)
call_told f None = []
call_told f (Some s) = result_told f s.result

-- the scalars of a program's values
abbrev pub values_told : Setting → Mon → List (Option Scalar)
values_told t (M.Ret es) = all_told t.scope es
values_told t (M.Bind m xs n) = values_told (setting_given xs (values_told t m) t) n
values_told t (M.Guard e) = []
values_told t (M.If e m n) = values_told t n
values_told t (M.Write place e) = []
values_told t (M.Loop starts guard test m) = starts_told t.scope starts
values_told t (M.Call f es) = call_told t.sort_for (signature t.functions f)
values_told t (M.Pick k) = Some (sort_of_kind k) ∷ []

-- what is told of the value at a position
abbrev pub told_at : List (Option Scalar) → ℕ → Option Scalar
told_at [] k = None
told_at (o ∷ os) zero = o
told_at (o ∷ os) (suc k) = told_at os k

-- the operand that has an expression's scalar
abbrev pub operand_of : Exp → Option Exp
operand_of (WordBinary op a b) = Some b
operand_of (WordShift op a n) = Some a
operand_of (WordUnary op a) = Some a
operand_of (If c a b) = Some b
operand_of _ = None

-- the part that has a program's values
abbrev pub giver_of : Mon → Option Mon
giver_of (M.Bind m xs n) = Some n
giver_of (M.If e m n) = Some n
giver_of _ = None

-- the last part of a program that has programs in it
abbrev pub last_of : Mon → Option Mon
last_of (M.Bind m xs n) = Some n
last_of (M.If e m n) = Some n
last_of (M.Loop starts guard test m) = Some m
last_of _ = None

-- a program's last part, or itself, and the names in scope there
abbrev pub last_part : Mon → Mon
last_part (M.Bind m xs n) = n
last_part (M.If e m n) = n
last_part (M.Loop starts guard test m) = m
last_part m = m

abbrev pub names_into : Setting → (Name → Option Scalar) → Mon → Name → Option Scalar
names_into t names (M.Bind m xs n) = names_given xs (values_told (with_names names t) m) names
names_into t names (M.Loop starts guard test m) =
    names_given (start_names starts) (starts_told (with_names names t).scope starts) names
names_into t names _ = names

-- the same after so many last parts
abbrev pub part_after : ℕ → Mon → Mon
part_after zero m = m
part_after (suc k) m = last_part (part_after k m)

abbrev pub names_after : Setting → ℕ → (Name → Option Scalar) → Mon → Name → Option Scalar
names_after t zero names m = names
names_after t (suc k) names m = names_into t (names_after t k names m) (part_after k m)
