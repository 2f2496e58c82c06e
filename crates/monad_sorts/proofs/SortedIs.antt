-- A program is well-sorted where it is decided so.
use Rattle.std.proofs.Common.{◌≡◌, ◌==◌, Bool, true, false, ◌&&◌, List, [], ◌∷◌, map, length, Option, Some, None, if◌then◌else◌, refl, sym, ap, ap₂, ◌∙◌}
use Rattle.std.proofs.lemmas.Bool.{and_parts, eqb-true}
use Rattle.std.proofs.Math.Bool.{and-true, and-false}
use Rattle.c_values.specs.Name.{Name, are_distinct}
use Rattle.expression_lang.specs.Expression.{Exp}
use Rattle.expression_lang.specs.Sort.{Scalar, Sort, Of, Scope, same_scalar, is_truth, is_kind, sort_of_kind}
use Rattle.expression_lang.specs.Sorted.{program_sort, scalar_in, with_scalar, scalars_of, same_scalars, call_scalars, result_scalars, fits_place}
use Rattle.expression_lang.specs.Signature.{Signature, signature, kinds_of}
use Rattle.program_sorts.specs.Sorts.{may_take}
use Rattle.monad_lang.specs.Program as M
use Rattle.monad_lang.specs.Program.{Mon, Start}
use Rattle.monad_lang.specs.Run.{start_names}
use Rattle.monad_lang.specs.Sorted.{Setting, setting_with, start_scalars, scalars_given, one_for_each, and_then_scalars, where_fits, are_scalars, place_sort}
use Rattle.monad_sorts.specs.CodeTold.{starts_told, setting_given, values_told}
use Rattle.monad_sorts.specs.CodeSorted.{is_scalar, all_scalars, starts_scalars, same_told, count_of, can_call, setting_in_turn, is_sorted, gives}
use Rattle.monad_sorts.proofs.ToldSorts.{starts_are}
use Rattle.monad_sorts.proofs.ValuesTold.{somes, somes_length, names_length, count_is, setting_is, values_are}

abbrev pub is_given : Option (List Scalar) → Bool
is_given None = false
is_given (Some ss) = true

-- where values and tests fit

and_fits : (b z : Bool) (o : Option (List Scalar)) → (b ≡ true → z ≡ is_given o) → (b && z) ≡ is_given (where_fits b o)
and_fits true z o h = h refl
and_fits false z o h = refl

fits_alone : (b : Bool) (ss : List Scalar) → b ≡ is_given (where_fits b (Some ss))
fits_alone true ss = refl
fits_alone false ss = refl

pub same_is : (ss ts : List Scalar) → same_told (somes ss) (somes ts) ≡ same_scalars ss ts
same_is [] [] = refl
same_is [] (t ∷ ts) = refl
same_is (s ∷ ss) [] = refl
same_is (s ∷ ss) (t ∷ ts) = ap (λ b. same_scalar s t && b) (same_is ss ts)

-- a last part that gives the same scalars
ends_same : (x z : Bool) (os vs : List (Option Scalar)) (ss : List Scalar) (p : Option (List Scalar)) → os ≡ somes ss →
    z ≡ is_given p → ((ts : List Scalar) → p ≡ Some ts → vs ≡ somes ts) →
    (x && same_told os vs && z) ≡ is_given (where_fits (x && are_scalars ss p) (Some ss))
ends_same x z os vs ss None e h k =
    ap (λ b. x && same_told os vs && b) h ∙ and-false (x && same_told os vs)
    ∙ sym (ap (λ b. is_given (where_fits b (Some ss))) (and-false x))
ends_same x z os vs ss (Some ts) e h k =
    ap (λ b. x && same_told os vs && b) h ∙ and-true (x && same_told os vs)
    ∙ ap (λ b. x && b) (ap₂ same_told e (k ts refl) ∙ same_is ss ts)
    ∙ fits_alone (x && same_scalars ss ts) ss

with_is : (o : Option Sort) (p : Option (List Scalar)) (b : Bool) → b ≡ is_given p →
    (is_scalar o && b) ≡ is_given (with_scalar (scalar_in o) p)
with_is (Some (Of s)) None b h = h
with_is (Some (Of s)) (Some ss) b h = h
with_is _ _ _ _ = refl

exps_given : (g : Scope) (es : List Exp) → all_scalars g es ≡ is_given (scalars_of g es)
exps_given g [] = refl
exps_given g (e ∷ es) = with_is (program_sort g e) (scalars_of g es) (all_scalars g es) (exps_given g es)

starts_given : (g : Scope) (xs : List Start) → starts_scalars g xs ≡ is_given (start_scalars g xs)
starts_given g [] = refl
starts_given g (x ∷ xs) = with_is (program_sort g x.exp) (start_scalars g xs) (starts_scalars g xs) (starts_given g xs)

call_given : (t : Setting) (s : Option Signature) (es : List Exp) →
    can_call t s es ≡ is_given (call_scalars t.sort_for s (scalars_of t.scope es))
call_given t None es = refl
call_given t (Some s) es = by_scalars (scalars_of t.scope es)
  where
    by_test : (b : Bool) → b ≡ is_given (if b then Some (result_scalars t.sort_for s.result) else None)
    by_test true = refl
    by_test false = refl

    by_scalars : (o : Option (List Scalar)) →
        may_take t.sort_for (kinds_of s.params) o ≡ is_given (call_scalars t.sort_for (Some s) o)
    by_scalars None = refl
    by_scalars (Some ss) = by_test (same_scalars (map t.sort_for (kinds_of s.params)) ss)

-- as many names as values
counted : (t : Setting) (m : Mon) (xs : List Name) (ss : List Scalar) → scalars_given t m ≡ Some ss →
    (length xs == count_of t.functions m) ≡ one_for_each xs ss
counted t m xs ss h = ap (λ k. length xs == k) (sym (count_is m t) ∙ ap length (values_are m t ss h) ∙ somes_length ss)

bind_sorted : (t : Setting) (m n : Mon) (xs : List Name) (b : Bool) (o : Option (List Scalar)) → scalars_given t m ≡ o →
    b ≡ is_given o → ((r : Setting) → is_sorted r n ≡ is_given (scalars_given r n)) →
    (b && (length xs == count_of t.functions m) && are_distinct xs && is_sorted (setting_given xs (values_told t m) t) n)
    ≡ is_given (and_then_scalars o
    (λ ss. where_fits (one_for_each xs ss && are_distinct xs) (scalars_given (setting_with xs ss t) n)))
bind_sorted t m n xs b None e h k =
    ap (λ c. c && (length xs == count_of t.functions m) && are_distinct xs
    && is_sorted (setting_given xs (values_told t m) t) n) h
bind_sorted t m n xs b (Some ss) e h k =
    ap (λ c. c && (length xs == count_of t.functions m) && are_distinct xs
    && is_sorted (setting_given xs (values_told t m) t) n) h
    ∙ ap (λ c. c && are_distinct xs && is_sorted (setting_given xs (values_told t m) t) n) (counted t m xs ss e)
    ∙ and_fits (one_for_each xs ss && are_distinct xs) (is_sorted (setting_given xs (values_told t m) t) n)
    (scalars_given (setting_with xs ss t) n)
    (λ fits. let many = eqb-true (length xs) (length ss) (and_parts (one_for_each xs ss) (are_distinct xs) fits).0 in
    k (setting_given xs (values_told t m) t)
    ∙ ap (λ r. is_given (scalars_given r n)) (setting_is t xs (values_told t m) ss (values_are m t ss e) many))

if_sorted : (t : Setting) (e : Exp) (m n : Mon) (b : Bool) (o : Option (List Scalar)) → scalars_given t m ≡ o → b ≡ is_given o →
    is_sorted t n ≡ is_given (scalars_given t n) →
    (b && is_truth (program_sort t.scope e) && same_told (values_told t m) (values_told t n) && is_sorted t n)
    ≡ is_given (and_then_scalars o
    (λ ss. where_fits (is_truth (program_sort t.scope e) && are_scalars ss (scalars_given t n)) (Some ss)))
if_sorted t e m n b None i h k =
    ap (λ c. c && is_truth (program_sort t.scope e) && same_told (values_told t m) (values_told t n) && is_sorted t n) h
if_sorted t e m n b (Some ss) i h k =
    ap (λ c. c && is_truth (program_sort t.scope e) && same_told (values_told t m) (values_told t n) && is_sorted t n) h
    ∙ ends_same (is_truth (program_sort t.scope e)) (is_sorted t n) (values_told t m) (values_told t n) ss (scalars_given t n)
    (values_are m t ss i) k (λ ts j. values_are n t ts j)

-- what is asked of a loop, where its body runs in a setting
abbrev in_turn : Setting → List Start → Exp → Exp → Setting → Bool
in_turn t starts guard test r =
    are_distinct (start_names starts) && is_truth (program_sort r.scope guard) && is_truth (program_sort r.scope test)

loop_sorted : (t : Setting) (starts : List Start) (guard test : Exp) (m : Mon) (b : Bool) (o : Option (List Scalar)) →
    start_scalars t.scope starts ≡ o → b ≡ is_given o →
    ((r : Setting) → is_sorted r m ≡ is_given (scalars_given r m)) →
    (b && are_distinct (start_names starts)
    && is_truth (program_sort (setting_in_turn t starts).scope guard)
    && is_truth (program_sort (setting_in_turn t starts).scope test)
    && same_told (starts_told t.scope starts) (values_told (setting_in_turn t starts) m)
    && is_sorted (setting_in_turn t starts) m)
    ≡ is_given (and_then_scalars o (λ ss.
    let inner = setting_with (start_names starts) ss t in
    where_fits (are_distinct (start_names starts) && is_truth (program_sort inner.scope guard)
    && is_truth (program_sort inner.scope test) && are_scalars ss (scalars_given inner m)) (Some ss)))
loop_sorted t starts guard test m b None e h k =
    ap (λ c. c && are_distinct (start_names starts)
    && is_truth (program_sort (setting_in_turn t starts).scope guard)
    && is_truth (program_sort (setting_in_turn t starts).scope test)
    && same_told (starts_told t.scope starts) (values_told (setting_in_turn t starts) m)
    && is_sorted (setting_in_turn t starts) m) h
loop_sorted t starts guard test m b (Some ss) e h k =
    let are = starts_are t.scope starts ss e in
    let many = names_length t.scope starts ∙ ap length are ∙ somes_length ss in
    let inner = setting_with (start_names starts) ss t in
    ap (λ c. c && are_distinct (start_names starts)
    && is_truth (program_sort (setting_in_turn t starts).scope guard)
    && is_truth (program_sort (setting_in_turn t starts).scope test)
    && same_told (starts_told t.scope starts) (values_told (setting_in_turn t starts) m)
    && is_sorted (setting_in_turn t starts) m) h
    ∙ ap (λ r. in_turn t starts guard test r && same_told (starts_told t.scope starts) (values_told r m) && is_sorted r m)
    (setting_is t (start_names starts) (starts_told t.scope starts) ss are many)
    ∙ ends_same (in_turn t starts guard test inner) (is_sorted inner m) (starts_told t.scope starts) (values_told inner m) ss
    (scalars_given inner m) are (k inner) (λ ts j. values_are m inner ts j)

pub sorted_is : (m : Mon) (t : Setting) → is_sorted t m ≡ is_given (scalars_given t m)
sorted_is (M.Ret es) t = exps_given t.scope es
sorted_is (M.Bind m xs n) t = bind_sorted t m n xs (is_sorted t m) (scalars_given t m) refl (sorted_is m t) (λ r. sorted_is n r)
sorted_is (M.Guard e) t = fits_alone (is_truth (program_sort t.scope e)) []
sorted_is (M.If e m n) t = if_sorted t e m n (is_sorted t m) (scalars_given t m) refl (sorted_is m t) (sorted_is n t)
sorted_is (M.Write place e) t = fits_alone (fits_place (place_sort t.scope place) (program_sort t.scope e)) []
sorted_is (M.Loop starts guard test m) t =
    loop_sorted t starts guard test m (starts_scalars t.scope starts) (start_scalars t.scope starts) refl
    (starts_given t.scope starts) (λ r. sorted_is m r)
sorted_is (M.Call f es) t = call_given t (signature t.functions f) es
sorted_is (M.Pick k) t = fits_alone (is_kind k) (sort_of_kind k ∷ [])

-- and gives values of these scalars
pub gives_is : (t : Setting) (ss : List Scalar) (m : Mon) → gives t ss m ≡ are_scalars ss (scalars_given t m)
gives_is t ss m = ap (λ b. b && same_told (somes ss) (values_told t m)) (sorted_is m t) ∙ by_scalars (scalars_given t m) refl
  where
    by_scalars : (o : Option (List Scalar)) → scalars_given t m ≡ o →
        (is_given o && same_told (somes ss) (values_told t m)) ≡ are_scalars ss o
    by_scalars None e = refl
    by_scalars (Some ts) e = ap (λ vs. same_told (somes ss) vs) (values_are m t ts e) ∙ same_is ss ts
