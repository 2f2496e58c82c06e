-- Which programs are well-sorted, and which units are well-formed.
use Rattle.std.specs.Prelude.{◌≡◌, ◌==◌, length, Bool, true, false, ◌&&◌, List, [], ◌∷◌, map, Option, Some, None}
use Rattle.c_values.specs.Name.{Name, are_distinct}
use Rattle.c_values.specs.Layout.{Layout, GlobalVar, IsLayout, global_type}
use Rattle.expression_lang.specs.Sort.{Scalar, Sort, Kind, Scope, is_truth, sort_of_kind, is_kind, are_kinds}
use Rattle.expression_lang.specs.Signature.{Signature, names_of, kinds_of, signature}
use Rattle.expression_lang.specs.Sorted.{scope_with, program_sort, scalar_in, with_scalar, scalars_of, same_scalars, typed_place, global_place, fits_place, result_scalars, call_scalars}
use Rattle.monad_lang.specs.Program.{Place, Stored, Written, Global, Start, Mon, Ret, Bind, Guard, If, Write, Loop, Call, Pick, FinalFn, FinalUnit}
use Rattle.monad_lang.specs.Run.{start_names}

-- what is in scope, the functions that may be called, and the sort that a kind's names have in the program's phase
pub record Setting : Type 0 where
  pub scope : Scope
  pub functions : List Signature
  pub sort_for : Kind → Scalar

abbrev pub setting_with : List Name → List Scalar → Setting → Setting
setting_with xs ss t = record { scope = scope_with xs ss t.scope; functions = t.functions; sort_for = t.sort_for }

abbrev pub start_scalars : Scope → List Start → Option (List Scalar)
start_scalars g [] = Some []
start_scalars g (x ∷ xs) = with_scalar (scalar_in (program_sort g x.exp)) (start_scalars g xs)

abbrev pub are_scalars : List Scalar → Option (List Scalar) → Bool
are_scalars ss (Some ts) = same_scalars ss ts
are_scalars ss None = false

-- the sort of what is written at a place
abbrev pub place_sort : Scope → Place → Option Sort
place_sort g (Stored t p path) = typed_place g t p path
place_sort g (Written t p path) = typed_place g t p path
place_sort g (Global x path) = global_place g (g.globals x) path

abbrev pub where_fits : Bool → Option (List Scalar) → Option (List Scalar)
where_fits true ss = ss
where_fits false ss = None

abbrev pub and_then_scalars : Option (List Scalar) → (List Scalar → Option (List Scalar)) → Option (List Scalar)
and_then_scalars None f = None
and_then_scalars (Some ss) f = f ss

abbrev pub one_for_each : List Name → List Scalar → Bool
one_for_each xs ss = length xs == length ss

-- the scalars of what a well-sorted program gives
abbrev pub scalars_given : Setting → Mon → Option (List Scalar)
scalars_given t (Ret es) = scalars_of t.scope es
scalars_given t (Bind m xs n) = and_then_scalars (scalars_given t m) (λ ss. where_fits (one_for_each xs ss && are_distinct xs) (scalars_given (setting_with xs ss t) n))
scalars_given t (Guard e) = where_fits (is_truth (program_sort t.scope e)) (Some [])
scalars_given t (If e m n) = and_then_scalars (scalars_given t m) (λ ss. where_fits (is_truth (program_sort t.scope e) && are_scalars ss (scalars_given t n)) (Some ss))
scalars_given t (Write place e) = where_fits (fits_place (place_sort t.scope place) (program_sort t.scope e)) (Some [])
scalars_given t (Loop starts guard test m) = and_then_scalars (start_scalars t.scope starts) (λ ss.
    let inner = setting_with (start_names starts) ss t in
    where_fits (are_distinct (start_names starts) && is_truth (program_sort inner.scope guard) && is_truth (program_sort inner.scope test) && are_scalars ss (scalars_given inner m)) (Some ss))
scalars_given t (Call f es) = call_scalars t.sort_for (signature t.functions f) (scalars_of t.scope es)
scalars_given t (Pick k) = where_fits (is_kind k) (Some (sort_of_kind k ∷ []))

abbrev pub signature_of : FinalFn → Signature
signature_of f = record { name = f.name; level = f.level; params = f.params; result = first f.results }
  where
    first : List Kind → Option Kind
    first [] = None
    first (k ∷ ks) = Some k

abbrev pub has_few : List Kind → Bool
has_few [] = true
has_few (k ∷ []) = true
has_few (k ∷ j ∷ ks) = false

abbrev pub setting_of : FinalUnit → FinalFn → Setting
setting_of u f = record {
  scope = scope_with (names_of f.params) (map sort_of_kind (kinds_of f.params)) (record { layout = u.layout; names = λ x. None; globals = global_type u.globals });
  functions = map signature_of u.functions;
  sort_for = sort_of_kind;
}

-- the setting of a program of a function with this signature, over these structs, globals and functions, where names have these scalars
-- at their kinds
abbrev pub setting_signed : (Kind → Scalar) → Layout → List GlobalVar → List Signature → Signature → Setting
setting_signed f l globals functions s = record {
  scope = scope_with (names_of s.params) (map f (kinds_of s.params)) (record { layout = l; names = λ x. None; globals = global_type globals });
  functions = functions;
  sort_for = f;
}

-- it is well-sorted, and gives the signature's result
abbrev pub is_body_sorted : (Kind → Scalar) → Layout → List GlobalVar → List Signature → Signature → Mon → Bool
is_body_sorted f l globals functions s m =
    are_scalars (result_scalars f s.result) (scalars_given (setting_signed f l globals functions s) m)

abbrev pub is_fn_sorted : FinalUnit → FinalFn → Bool
is_fn_sorted u f = are_kinds (kinds_of f.params) && are_kinds f.results && are_distinct (names_of f.params) && has_few f.results && are_scalars (map sort_of_kind f.results) (scalars_given (setting_of u f) f.body)

abbrev pub are_fns_sorted : FinalUnit → List FinalFn → Bool
are_fns_sorted u [] = true
are_fns_sorted u (f ∷ fs) = is_fn_sorted u f && are_fns_sorted u fs

-- Names are distinct, each function has at most one result, its program is well-sorted and gives values of its results'
-- sorts, and each call is of a function of the unit.
pub record IsWellFormed (u : FinalUnit) : Type 0 where
  pub layout : IsLayout u.layout
  pub globals : are_distinct (map (λ v. v.name) u.globals) ≡ true
  pub names : are_distinct (map (λ f. f.name) u.functions) ≡ true
  pub functions : are_fns_sorted u u.functions ≡ true
