-- What is told of a well-sorted program's values is their scalars, and names have what is told of them.
use Rattle.std.proofs.Common.{◌≡◌, suc, Bool, true, false, ◌&&◌, List, [], ◌∷◌, map, length, Option, Some, None, if◌then◌else◌, refl, ap, ◌∙◌}
use Rattle.std.proofs.lemmas.Bool.{and_parts, eqb-true}
use Rattle.c_values.specs.Name.{Name, are_distinct, with_name}
use Rattle.expression_lang.specs.Expression.{Exp}
use Rattle.expression_lang.specs.Sort.{Scalar, Kind, Scope, is_truth, is_kind, sort_of_kind}
use Rattle.expression_lang.specs.Sorted.{names_with, program_sort, scalars_of, same_scalars, call_scalars, result_scalars, fits_place}
use Rattle.expression_lang.specs.Signature.{Signature, signature, kinds_of}
use Rattle.monad_lang.specs.Program as M
use Rattle.monad_lang.specs.Program.{Mon, Start}
use Rattle.monad_lang.specs.Run.{start_names}
use Rattle.monad_lang.specs.Sorted.{Setting, setting_with, start_scalars, scalars_given, one_for_each, where_fits, are_scalars, place_sort}
use Rattle.monad_lang.proofs.Given.{then_parts, given_there, fits_parts}
use Rattle.monad_sorts.specs.CodeTold.{all_told, starts_told, names_given, with_names, setting_given, result_told, call_told, values_told}
use Rattle.monad_sorts.specs.CodeSorted.{call_count, count_of}
use Rattle.monad_sorts.proofs.ToldSorts.{exps_told, starts_are}

abbrev pub somes : List Scalar → List (Option Scalar)
somes ss = map (λ s. Some s) ss

-- parts of what is given

call_is : (f : Kind → Scalar) (s : Option Signature) (o : Option (List Scalar)) (cs : List Scalar) →
    call_scalars f s o ≡ Some cs → (g : Signature) × (s ≡ Some g) × (result_scalars f g.result ≡ cs)
call_is f (Some g) (Some ss) cs h = by_test (same_scalars (map f (kinds_of g.params)) ss) h
  where
    by_test : (b : Bool) → (if b then Some (result_scalars f g.result) else None) ≡ Some cs →
        (s : Signature) × (Some g ≡ Some s) × (result_scalars f s.result ≡ cs)
    by_test true h = let e : result_scalars f g.result ≡ cs = cc in (g, refl, e)
    by_test false h = absurd cc
call_is f _ _ cs h = absurd cc

result_is : (f : Kind → Scalar) (k : Option Kind) → result_told f k ≡ somes (result_scalars f k)
result_is f None = refl
result_is f (Some k) = refl

-- as many values as are counted

exps_length : (g : Scope) (es : List Exp) → length (all_told g es) ≡ length es
exps_length g [] = refl
exps_length g (e ∷ es) = ap suc (exps_length g es)

starts_length : (g : Scope) (xs : List Start) → length (starts_told g xs) ≡ length xs
starts_length g [] = refl
starts_length g (x ∷ xs) = ap suc (starts_length g xs)

pub names_length : (g : Scope) (xs : List Start) → length (start_names xs) ≡ length (starts_told g xs)
names_length g [] = refl
names_length g (x ∷ xs) = ap suc (names_length g xs)

call_length : (f : Kind → Scalar) (s : Option Signature) → length (call_told f s) ≡ call_count s
call_length f None = refl
call_length f (Some s) = by_result s.result
  where
    by_result : (k : Option Kind) → length (result_told f k) ≡ call_count (Some (record s { result = k }))
    by_result None = refl
    by_result (Some k) = refl

pub count_is : (m : Mon) (t : Setting) → length (values_told t m) ≡ count_of t.functions m
count_is (M.Ret es) t = exps_length t.scope es
count_is (M.Bind m xs n) t = count_is n (setting_given xs (values_told t m) t)
count_is (M.If e m n) t = count_is n t
count_is (M.Loop starts guard test m) t = starts_length t.scope starts
count_is (M.Call f es) t = call_length t.sort_for (signature t.functions f)
count_is _ _ = refl

pub somes_length : (ss : List Scalar) → length (somes ss) ≡ length ss
somes_length [] = refl
somes_length (s ∷ ss) = ap suc (somes_length ss)

-- names

names_are : (xs : List Name) (ss : List Scalar) (names : Name → Option Scalar) → length xs ≡ length ss →
    names_given xs (somes ss) names ≡ names_with xs ss names
names_are [] ss names h = refl
names_are (x ∷ xs) [] names h = absurd cc
names_are (x ∷ xs) (s ∷ ss) names h = names_are xs ss (with_name x (Some s) names) (omega_suc xs ss h)
  where
    omega_suc : (xs : List Name) (ss : List Scalar) → length (x ∷ xs) ≡ length (s ∷ ss) → length xs ≡ length ss
    omega_suc xs ss h = cc

-- the setting with what is told is the one with the scalars
pub setting_is : (t : Setting) (xs : List Name) (os : List (Option Scalar)) (ss : List Scalar) → os ≡ somes ss →
    length xs ≡ length ss → setting_given xs os t ≡ setting_with xs ss t
setting_is t xs os ss e h =
    ap (λ ps. setting_given xs ps t) e ∙ ap (λ names. with_names names t) (names_are xs ss t.scope.names h)

-- values

pub values_are : (m : Mon) (t : Setting) (cs : List Scalar) → scalars_given t m ≡ Some cs → values_told t m ≡ somes cs
values_are (M.Ret es) t cs h = exps_told t.scope es cs h
values_are (M.Bind m xs n) t cs h =
    let o =
    then_parts (scalars_given t m)
    (λ ss. where_fits (one_for_each xs ss && are_distinct xs) (scalars_given (setting_with xs ss t) n)) cs h in
    let f = fits_parts (one_for_each xs o.0 && are_distinct xs) (scalars_given (setting_with xs o.0 t) n) cs o.2 in
    let many = eqb-true (length xs) (length o.0) (and_parts (one_for_each xs o.0) (are_distinct xs) f.0).0 in
    ap (λ r. values_told r n) (setting_is t xs (values_told t m) o.0 (values_are m t o.0 o.1) many)
    ∙ values_are n (setting_with xs o.0 t) cs f.1
values_are (M.Guard e) t cs h =
    let f = fits_parts (is_truth (program_sort t.scope e)) (Some []) cs h in
    let none : [] ≡ cs = cc in
    ap somes none
values_are (M.If e m n) t cs h =
    let o =
    then_parts (scalars_given t m)
    (λ ss. where_fits (is_truth (program_sort t.scope e) && are_scalars ss (scalars_given t n)) (Some ss)) cs h in
    let f = fits_parts (is_truth (program_sort t.scope e) && are_scalars o.0 (scalars_given t n)) (Some o.0) cs o.2 in
    let same =
    given_there o.0 (scalars_given t n)
    (and_parts (is_truth (program_sort t.scope e)) (are_scalars o.0 (scalars_given t n)) f.0).1 in
    values_are n t cs (same ∙ f.1)
values_are (M.Write place e) t cs h =
    let f = fits_parts (fits_place (place_sort t.scope place) (program_sort t.scope e)) (Some []) cs h in
    let none : [] ≡ cs = cc in
    ap somes none
values_are (M.Loop starts guard test m) t cs h =
    let o = then_parts (start_scalars t.scope starts) (λ ss.
    let inner = setting_with (start_names starts) ss t in
    where_fits (are_distinct (start_names starts) && is_truth (program_sort inner.scope guard)
    && is_truth (program_sort inner.scope test) && are_scalars ss (scalars_given inner m)) (Some ss)) cs h in
    let inner = setting_with (start_names starts) o.0 t in
    let f =
    fits_parts (are_distinct (start_names starts) && is_truth (program_sort inner.scope guard)
    && is_truth (program_sort inner.scope test) && are_scalars o.0 (scalars_given inner m)) (Some o.0) cs o.2 in
    starts_are t.scope starts cs (o.1 ∙ f.1)
values_are (M.Call f es) t cs h =
    let c = call_is t.sort_for (signature t.functions f) (scalars_of t.scope es) cs h in
    ap (λ s. call_told t.sort_for s) c.1 ∙ result_is t.sort_for c.0.result ∙ ap somes c.2
values_are (M.Pick k) t cs h =
    let f = fits_parts (is_kind k) (Some (sort_of_kind k ∷ [])) cs h in
    let one : sort_of_kind k ∷ [] ≡ cs = cc in
    ap somes one
