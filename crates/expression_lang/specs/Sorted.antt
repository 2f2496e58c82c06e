-- What programs and commands ask of their expressions: sorts of lists, of places and of calls.
use Rattle.std.specs.Prelude.{Bool, true, false, ◌&&◌, List, [], ◌∷◌, map, Option, Some, None, if◌then◌else◌}
use Rattle.c_values.specs.Name.{Name, with_name}
use Rattle.c_values.specs.Types.{CType, address_width}
use Rattle.c_values.specs.Layout.{Shape, is_object, shape_of}
use Rattle.expression_lang.specs.Expression.{Exp, Path}
use Rattle.expression_lang.specs.Sort.{Scalar, Sort, Of, PartsSort, Kind, Scope, sort_of, shape_along, sort_at, same_scalar, same_sort, is_word_of}
use Rattle.expression_lang.specs.Form.{has, path_has, is_part_of_value}
use Rattle.expression_lang.specs.Signature.{Signature, kinds_of}

abbrev pub names_with : List Name → List Scalar → (Name → Option Scalar) → Name → Option Scalar
names_with (x ∷ xs) (s ∷ ss) names = names_with xs ss (with_name x (Some s) names)
names_with _ _ names = names

abbrev pub scope_with : List Name → List Scalar → Scope → Scope
scope_with xs ss g = record { layout = g.layout; names = names_with xs ss g.names; globals = g.globals }

-- an expression of a program: no `sel` and no `upd`
abbrev pub program_sort : Scope → Exp → Option Sort
program_sort g e = if has is_part_of_value e then None else sort_of g e

abbrev pub scalar_in : Option Sort → Option Scalar
scalar_in (Some (Of s)) = Some s
scalar_in (Some (PartsSort t)) = None
scalar_in None = None

abbrev pub with_scalar : Option Scalar → Option (List Scalar) → Option (List Scalar)
with_scalar (Some s) (Some ss) = Some (s ∷ ss)
with_scalar _ _ = None

-- the scalars of expressions
abbrev pub scalars_of : Scope → List Exp → Option (List Scalar)
scalars_of g [] = Some []
scalars_of g (e ∷ es) = with_scalar (scalar_in (program_sort g e)) (scalars_of g es)

abbrev pub same_scalars : List Scalar → List Scalar → Bool
same_scalars [] [] = true
same_scalars (a ∷ as') (b ∷ bs) = same_scalar a b && same_scalars as' bs
same_scalars _ _ = false

abbrev pub sort_in : Option Shape → Option Sort
sort_in None = None
sort_in (Some s) = sort_at s

-- a part of an object that a program may write to
abbrev pub part_place : Scope → CType → Path → Option Sort
part_place g t path = if path_has is_part_of_value path then None else sort_in (shape_along g path (shape_of g.layout t))

abbrev pub typed_place : Scope → CType → Exp → Path → Option Sort
typed_place g t p path =
    if is_object g.layout t && is_word_of (address_width g.layout.target) (program_sort g p) then part_place g t path else None

abbrev pub global_place : Scope → Option CType → Path → Option Sort
global_place g None path = None
global_place g (Some t) path = if is_object g.layout t then part_place g t path else None

abbrev pub fits_place : Option Sort → Option Sort → Bool
fits_place (Some s) (Some t) = same_sort s t
fits_place _ _ = false

abbrev pub result_scalars : (Kind → Scalar) → Option Kind → List Scalar
result_scalars f None = []
result_scalars f (Some k) = f k ∷ []

abbrev pub call_scalars : (Kind → Scalar) → Option Signature → Option (List Scalar) → Option (List Scalar)
call_scalars f (Some s) (Some ss) = if same_scalars (map f (kinds_of s.params)) ss then Some (result_scalars f s.result) else None
call_scalars f _ _ = None
