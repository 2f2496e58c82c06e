-- The calls of a well-sorted command fit the signatures.
use Rattle.std.proofs.Common.{◌≡◌, Bool, true, false, cond, ◌&&◌, List, [], ◌∷◌, map, Option, Some, None, refl, sym, subst}
use Rattle.std.proofs.lemmas.Bool.{false≢true, and_parts}
use Rattle.c_values.specs.Name.{Name, are_distinct}
use Rattle.c_values.proofs.Options.{some_is, none_is}
use Rattle.expression_lang.specs.Expression.{Exp}
use Rattle.expression_lang.specs.Sort.{Scalar, Kind, Scope, is_truth, same_scalar, word_sort_of, are_kinds}
use Rattle.expression_lang.specs.Signature.{Binder, Signature, names_of, kinds_of, signature}
use Rattle.expression_lang.specs.Sorted.{program_sort, scalar_in, with_scalar, scalars_of, same_scalars, result_scalars, call_scalars}
use Rattle.simpl_lang.specs.Command.{Simpl, Seq, Cond, Guard, Catch, While, Call, SimplFn, SimplUnit}
use Rattle.simpl_lang.specs.Sorted.{is_sorted, are_conditions, fits_target, scope_of, are_fns_sorted}
use Rattle.rule_local.specs.Kept.{HasEach, FitsTarget, FitsCall, CallsFit}

each_scalar : (bs : List Binder) (ss : List Scalar) → same_scalars (map word_sort_of (kinds_of bs)) ss ≡ true → HasEach bs ss
each_scalar [] ss h = tt
each_scalar (b ∷ bs) [] h = absurd (false≢true h)
each_scalar (b ∷ bs) (s ∷ ss) h = each_scalar bs ss (and_parts (same_scalar (word_sort_of b.kind) s) (same_scalars (map word_sort_of (kinds_of bs)) ss) h).1

module _ (g : Scope) where
  one_more : (b : Binder) (bs : List Binder) (e : Exp) (es : List Exp) (o : Option Scalar) (r : Option (List Scalar)) (ss : List Scalar) → with_scalar o r ≡ Some ss → HasEach (b ∷ bs) ss →
      ((ss : List Scalar) → r ≡ Some ss → HasEach bs ss → HasEach bs es) → HasEach bs es
  one_more b bs e es (Some s) (Some ts) ss h k j = j ts refl (subst (λ us. HasEach (b ∷ bs) us) (sym (some_is h)) k)
  one_more b bs e es None r ss h k j = none_is h
  one_more b bs e es (Some s) None ss h k j = none_is h

  each_expression : (bs : List Binder) (es : List Exp) (ss : List Scalar) → scalars_of g es ≡ Some ss → HasEach bs ss → HasEach bs es
  each_expression [] es ss h k = tt
  each_expression (b ∷ bs) [] ss h k = absurd (subst (λ us. HasEach (b ∷ bs) us) (sym (some_is h)) k)
  each_expression (b ∷ bs) (e ∷ es) ss h k = one_more b bs e es (scalar_in (program_sort g e)) (scalars_of g es) ss h k (each_expression bs es)

  by_scalars : (s : Signature) (x : Option Name) (es : List Exp) (ss : List Scalar) → scalars_of g es ≡ Some ss → (b : Bool) → same_scalars (map word_sort_of (kinds_of s.params)) ss ≡ b →
      fits_target g x (cond b (Some (result_scalars word_sort_of s.result)) None) ≡ true → FitsCall (Some s) x es
  by_scalars s x es ss e true k h = (each_expression s.params es ss e (each_scalar s.params ss k), for_target x s.result h)
    where
      for_target : (x : Option Name) (r : Option Kind) → fits_target g x (Some (result_scalars word_sort_of r)) ≡ true → FitsTarget x r
      for_target (Some y) None h = absurd (false≢true h)
      for_target _ _ _ = tt
  by_scalars s None es ss e false k h = absurd (false≢true h)
  by_scalars s (Some y) es ss e false k h = absurd (false≢true h)

  call_fits : (s : Option Signature) (x : Option Name) (es : List Exp) (o : Option (List Scalar)) → scalars_of g es ≡ o → fits_target g x (call_scalars word_sort_of s o) ≡ true → FitsCall s x es
  call_fits (Some s) x es (Some ss) e h = by_scalars s x es ss e (same_scalars (map word_sort_of (kinds_of s.params)) ss) refl h
  call_fits None None es o e h = absurd (false≢true h)
  call_fits (Some s) None es None e h = absurd (false≢true h)
  call_fits _ _ _ _ _ h = absurd (false≢true h)

  pub calls_fit : (signatures : List Signature) (a : Simpl) → is_sorted g signatures a ≡ true → CallsFit signatures a
  calls_fit ss (Seq a b) h = let d = and_parts (is_sorted g ss a) (is_sorted g ss b) h in (calls_fit ss a d.0, calls_fit ss b d.1)
  calls_fit ss (Cond e a b) h =
      let d = and_parts (is_truth (program_sort g e) && is_sorted g ss a) (is_sorted g ss b) h in
      (calls_fit ss a (and_parts (is_truth (program_sort g e)) (is_sorted g ss a) d.0).1, calls_fit ss b d.1)
  calls_fit ss (Guard c a) h = calls_fit ss a (and_parts (is_truth (program_sort g c.exp)) (is_sorted g ss a) h).1
  calls_fit ss (Catch a b) h = let d = and_parts (is_sorted g ss a) (is_sorted g ss b) h in (calls_fit ss a d.0, calls_fit ss b d.1)
  calls_fit ss (While cs e a) h = calls_fit ss a (and_parts (are_conditions g cs && is_truth (program_sort g e)) (is_sorted g ss a) h).1
  calls_fit ss (Call x f es) h = call_fits (signature ss f) x es (scalars_of g es) refl h
  calls_fit _ _ _ = tt

abbrev pub AllFit : List Signature → List SimplFn → Type 0
AllFit ss [] = Unit {0}
AllFit ss (f ∷ fs) = CallsFit ss f.body × AllFit ss fs

pub all_fit : (u : SimplUnit) (fs : List SimplFn) → are_fns_sorted u fs ≡ true → AllFit u.signatures fs
all_fit u [] h = tt
all_fit u (f ∷ fs) h =
    let d = and_parts (are_kinds (kinds_of f.locals) && are_distinct (names_of f.locals) && is_sorted (scope_of u f) u.signatures f.body) (are_fns_sorted u fs) h in
    (calls_fit (scope_of u f) u.signatures f.body (and_parts (are_kinds (kinds_of f.locals) && are_distinct (names_of f.locals)) (is_sorted (scope_of u f) u.signatures f.body) d.0).1, all_fit u fs d.1)
