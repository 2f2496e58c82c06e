-- Whether a program is well-sorted, decided with what is told of its values.
use Rattle.std.specs.Prelude.{ℕ, ◌==◌, Bool, true, false, ◌&&◌, List, [], ◌∷◌, map, length, Option, Some, None}
use Rattle.c_values.specs.Name.{are_distinct}
use Rattle.expression_lang.specs.Expression.{Exp}
use Rattle.expression_lang.specs.Sort.{Scalar, Sort, Of, Kind, Scope, is_truth, is_kind, same_scalar}
use Rattle.expression_lang.specs.Signature.{Signature, signature, kinds_of}
use Rattle.expression_lang.specs.Sorted.{program_sort, scalars_of, fits_place}
use Rattle.program_sorts.specs.Sorts.{may_take}
use Rattle.monad_lang.specs.Program as M
use Rattle.monad_lang.specs.Program.{Start, Mon, FinalFn, FinalUnit}
use Rattle.monad_lang.specs.Run.{start_names}
use Rattle.monad_lang.specs.Sorted.{Setting, place_sort, scalars_given, are_scalars, has_few, are_fns_sorted}
use Rattle.monad_sorts.specs.CodeTold.{starts_told, setting_given, setting_for, values_told}

abbrev pub is_scalar : Option Sort → Bool
is_scalar (Some (Of s)) = true
is_scalar _ = false

abbrev pub all_scalars : Scope → List Exp → Bool
all_scalars g [] = true
all_scalars g (e ∷ es) = is_scalar (program_sort g e) && all_scalars g es

abbrev pub starts_scalars : Scope → List Start → Bool
starts_scalars g [] = true
starts_scalars g (x ∷ xs) = is_scalar (program_sort g x.exp) && starts_scalars g xs

-- two values have one scalar
abbrev pub is_same : Option Scalar → Option Scalar → Bool
is_same (Some s) (Some r) = same_scalar s r
is_same _ _ = false

abbrev pub same_told : List (Option Scalar) → List (Option Scalar) → Bool
same_told [] [] = true
same_told (o ∷ os) (p ∷ ps) = is_same o p && same_told os ps
same_told _ _ = false

-- the kind of what a call gives
abbrev pub result_kind : Option Signature → Option Kind
result_kind None = None
result_kind (Some s) = s.result

-- how many values a call gives, and a program
abbrev pub call_count : Option Signature → ℕ
call_count None = 0
call_count (Some s) = result_count s.result
  where
    result_count : Option Kind → ℕ
    result_count None = 0
    result_count (Some k) = 1

abbrev pub count_of : List Signature → Mon → ℕ
count_of fs (M.Ret es) = length es
count_of fs (M.Bind m xs n) = count_of fs n
count_of fs (M.Guard e) = 0
count_of fs (M.If e m n) = count_of fs n
count_of fs (M.Write place e) = 0
count_of fs (M.Loop starts guard test m) = length starts
count_of fs (M.Call f es) = call_count (signature fs f)
count_of fs (M.Pick k) = 1

abbrev pub can_call : Setting → Option Signature → List Exp → Bool
can_call t None es = false
can_call t (Some s) es = may_take t.sort_for (kinds_of s.params) (scalars_of t.scope es)

abbrev pub setting_in_turn : Setting → List Start → Setting
setting_in_turn t starts = setting_given (start_names starts) (starts_told t.scope starts) t

abbrev pub is_sorted : Setting → Mon → Bool
is_sorted t (M.Ret es) = all_scalars t.scope es
is_sorted t (M.Bind m xs n) =
    is_sorted t m && (length xs == count_of t.functions m) && are_distinct xs && is_sorted
    (setting_given xs (values_told t m) t) n
is_sorted t (M.Guard e) = is_truth (program_sort t.scope e)
is_sorted t (M.If e m n) =
    is_sorted t m && is_truth (program_sort t.scope e) && same_told (values_told t m) (values_told t n) && is_sorted t n
is_sorted t (M.Write place e) = fits_place (place_sort t.scope place) (program_sort t.scope e)
is_sorted t (M.Loop starts guard test m) =
    starts_scalars t.scope starts && are_distinct (start_names starts)
    && is_truth (program_sort (setting_in_turn t starts).scope guard)
    && is_truth (program_sort (setting_in_turn t starts).scope test)
    && same_told (starts_told t.scope starts) (values_told (setting_in_turn t starts) m)
    && is_sorted (setting_in_turn t starts) m
is_sorted t (M.Call f es) = can_call t (signature t.functions f) es
is_sorted t (M.Pick k) = is_kind k

-- all that is asked of a program but that its last part is well-sorted
abbrev pub is_front_sorted : Setting → Mon → Bool
is_front_sorted t (M.Bind m xs n) = is_sorted t m && (length xs == count_of t.functions m) && are_distinct xs
is_front_sorted t (M.If e m n) =
    is_sorted t m && is_truth (program_sort t.scope e) && same_told (values_told t m) (values_told t n)
is_front_sorted t (M.Loop starts guard test m) =
    starts_scalars t.scope starts && are_distinct (start_names starts)
    && is_truth (program_sort (setting_in_turn t starts).scope guard)
    && is_truth (program_sort (setting_in_turn t starts).scope test)
    && same_told (starts_told t.scope starts) (values_told (setting_in_turn t starts) m)
is_front_sorted t m = is_sorted t m

-- a well-sorted program gives values of these scalars
abbrev pub gives : Setting → List Scalar → Mon → Bool
gives t ss m = is_sorted t m && same_told (map (λ s. Some s) ss) (values_told t m)

-- a function's program, in a phase where names have these scalars at their kinds
abbrev pub is_program_sorted : (Kind → Scalar) → FinalUnit → FinalFn → Bool
is_program_sorted f u g = has_few g.results && are_scalars (map f g.results) (scalars_given (setting_for f u g) g.body)

-- all that is asked of a unit but of its layout
abbrev pub is_formed : FinalUnit → Bool
is_formed u =
    are_distinct (map (λ v. v.name) u.globals) && are_distinct (map (λ f. f.name) u.functions) && are_fns_sorted u u.functions
