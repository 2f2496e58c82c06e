-- A program with an expression in place of a name gives the scalars that it gives where the name has the expression's sort.
use Rattle.std.proofs.Common.{◌≡◌, Bool, true, false, not, cond, ◌&&◌, ◌||◌, List, [], ◌∷◌, Option, Some, refl, sym, ap, ap₂, ◌∙◌}
use Rattle.std.proofs.lemmas.Bool.{and_parts, or_parts, or_left, or_right, cond-false}
use Rattle.c_values.specs.Name.{Name, same_name, with_name, is_among, are_distinct}
use Rattle.c_values.specs.Types.{CType}
use Rattle.c_values.specs.Layout.{Layout}
use Rattle.c_values.proofs.Laid.{other_name}
use Rattle.expression_lang.specs.Expression.{Exp}
use Rattle.expression_lang.specs.Mentions as X
use Rattle.ac_expr.specs.Substituted.{substituted}
use Rattle.expression_lang.specs.Sort.{Scalar, Kind, is_truth, scalar_sort}
use Rattle.expression_lang.specs.Sorted.{names_with, program_sort, fits_place, call_scalars}
use Rattle.expression_lang.specs.Signature.{Signature, signature}
use Rattle.monad_lang.specs.Program as M
use Rattle.monad_lang.specs.Program.{Mon, Start}
use Rattle.monad_lang.specs.Names.{is_free, is_captured, is_in_start, is_in_place}
use Rattle.monad_lang.specs.Run.{start_names}
use Rattle.program_facts.specs.Substituted.{starts_substituted, program_substituted}
use Rattle.monad_lang.specs.Sorted.{scalars_given, start_scalars, one_for_each, are_scalars, and_then_scalars, where_fits}
use Rattle.monad_lang.specs.Agree.{AgreeOn}
use Rattle.monad_lang.proofs.AgreeingSorts.{in_scope, sort_agrees, program_agrees}
use Rattle.rule_eq.proofs.SubstitutedSorts.{Fits, program_put, each_put, starts_put, place_put}
use Rattle.rule_eq.proofs.SubstitutedRuns.{right_false, left_false, other_one, start_names_put}
use Rattle.rule_eq.proofs.GivenAgrees.{then_same, fits_same, names_alike, one_for_start, setting_at, given_agrees}

abbrev Names : Type 0
Names = Name → Option Scalar

pub names_stay : (y : Name) (xs : List Name) (ss : List Scalar) (f : Names) → is_among y xs ≡ false → names_with xs ss f y ≡ f y
names_stay y [] ss f h = refl
names_stay y (x ∷ xs) [] f h = refl
names_stay y (x ∷ xs) (s ∷ ss) f h =
    let d = or_parts (same_name y x) (is_among y xs) h in
    names_stay y xs ss (with_name x (Some s) f) d.1 ∙ cond-false (same_name x y) (Some s) (f y) (other_name y x d.0)

pub names_still : (y : Name) (xs : List Name) (ss : List Scalar) (f h : Names) → f y ≡ h y → names_with xs ss f y ≡ names_with xs ss h y
names_still y [] ss f h e = e
names_still y (x ∷ xs) [] f h e = e
names_still y (x ∷ xs) (s ∷ ss) f h e = names_still y xs ss (with_name x (Some s) f) (with_name x (Some s) h) (ap (λ w. cond (same_name x y) (Some s) w) e)

module _ (l : Layout) (gs : Name → Option CType) (sigs : List Signature) (sort_for : Kind → Scalar) (x : Name) (e : Exp) where
  abbrev Others : Names → Names → Type 0
  Others ns ns' = (y : Name) → same_name x y ≡ false → ns y ≡ ns' y

  abbrev NotCaptured : Mon → Type 0
  NotCaptured m = (y : Name) → X.names y e ≡ true → is_captured y x m ≡ false

  abbrev FitsAt : (ns ns' : Names) → Others ns ns' → Type 0
  FitsAt ns ns' o = Fits l gs ns ns' x e o

  abbrev Where : Bool → (ns ns' : Names) → Others ns ns' → Type 0
  Where b ns ns' o = b ≡ true → FitsAt ns ns' o

  first : (a b : Bool) (ns ns' : Names) (o : Others ns ns') → Where (a || b) ns ns' o → Where a ns ns' o
  first a b ns ns' o h k = h (or_left a b k)

  second : (a b : Bool) (ns ns' : Names) (o : Others ns ns') → Where (a || b) ns ns' o → Where b ns ns' o
  second a b ns ns' o h k = h (or_right a b k)

  still : (xs : List Name) (ss : List Scalar) (ns ns' : Names) → Others ns ns' → Others (names_with xs ss ns) (names_with xs ss ns')
  still xs ss ns ns' o y n = names_still y xs ss ns ns' (o y n)

  under : (xs : List Name) (ss : List Scalar) (b : Bool) (ns ns' : Names) (o : Others ns ns') → is_among x xs ≡ false → (b ≡ true → (y : Name) → X.names y e ≡ true → is_among y xs ≡ false) → Where b ns ns' o →
      Where b (names_with xs ss ns) (names_with xs ss ns') (still xs ss ns ns' o)
  under xs ss b ns ns' o away apart h k =
      let w = h k in
      record {
        sort = sort_agrees l gs (names_with xs ss ns) ns e (λ y i. names_stay y xs ss ns (apart k y i)) ∙ w.sort ∙ ap scalar_sort (sym (names_stay x xs ss ns' away));
        whole = w.whole;
      }

  abbrev Binds : List Name → Bool → (Name → Bool) → Type 0
  Binds xs free captured = (y : Name) → X.names y e ≡ true → (not (is_among x xs) && ((is_among y xs && free) || captured y)) ≡ false

  away_from : (xs : List Name) (free : Bool) (captured : Name → Bool) → Binds xs free captured → is_among x xs ≡ false → free ≡ true → (y : Name) → X.names y e ≡ true → is_among y xs ≡ false
  away_from xs free captured h away f y i =
      left_false (is_among y xs) free f (or_parts (is_among y xs && free) (captured y) (right_false (not (is_among x xs)) ((is_among y xs && free) || captured y) (ap not away) (h y i))).0

  inside_of : (xs : List Name) (free : Bool) (captured : Name → Bool) → Binds xs free captured → is_among x xs ≡ false → (y : Name) → X.names y e ≡ true → captured y ≡ false
  inside_of xs free captured h away y i =
      (or_parts (is_among y xs && free) (captured y) (right_false (not (is_among x xs)) ((is_among y xs && free) || captured y) (ap not away) (h y i))).1

  within : (xs : List Name) (b : Bool) (ns ns' : Names) (o : Others ns ns') → is_among x xs ≡ false → Where (not (is_among x xs) && b) ns ns' o → Where b ns ns' o
  within xs b ns ns' o away h k = h (ap (λ a. not a && b) away ∙ k)

  same_inside : (test : Name → Bool) (xs : List Name) (ss : List Scalar) (ns ns' : Names) → one_for_each xs ss ≡ true → is_among x xs ≡ true → Others ns ns' → AgreeOn test (names_with xs ss ns) (names_with xs ss ns')
  same_inside test xs ss ns ns' one here o y i = names_alike y xs ss ns ns' one (λ n. o y (other_one x y xs here n))

  abbrev pub Law : Mon → Type 0
  Law m = (ns ns' : Names) (o : Others ns ns') → Where (is_free x m) ns ns' o → NotCaptured m → scalars_given (setting_at l gs sigs sort_for ns) (program_substituted x e m) ≡ scalars_given (setting_at l gs sigs sort_for ns') m

  second_given : (xs : List Name) (n : Mon) → Law n → Binds xs (is_free x n) (λ y. is_captured y x n) → (d : Bool) → is_among x xs ≡ d → (ns ns' : Names) (o : Others ns ns') (ss : List Scalar) → one_for_each xs ss ≡ true →
      Where (not (is_among x xs) && is_free x n) ns ns' o → scalars_given (setting_at l gs sigs sort_for (names_with xs ss ns)) (cond d n (program_substituted x e n)) ≡ scalars_given (setting_at l gs sigs sort_for (names_with xs ss ns')) n
  second_given xs n law binds true i ns ns' o ss one h = given_agrees l gs sigs sort_for n (names_with xs ss ns) (names_with xs ss ns') (same_inside (λ y. is_free y n) xs ss ns ns' one i o)
  second_given xs n law binds false i ns ns' o ss one h =
      law (names_with xs ss ns) (names_with xs ss ns') (still xs ss ns ns' o)
      (under xs ss (is_free x n) ns ns' o i (away_from xs (is_free x n) (λ y. is_captured y x n) binds i) (within xs (is_free x n) ns ns' o i h)) (inside_of xs (is_free x n) (λ y. is_captured y x n) binds i)

  abbrev body_fits : List Name → List Scalar → Names → Exp → Exp → Mon → Option (List Scalar)
  body_fits xs ss ns guard test m =
      where_fits (are_distinct xs && is_truth (program_sort (in_scope l gs (names_with xs ss ns)) guard) && is_truth (program_sort (in_scope l gs (names_with xs ss ns)) test) && are_scalars ss (scalars_given (setting_at l gs sigs sort_for (names_with xs ss ns)) m)) (Some ss)

  parts_same : (xs : List Name) (ss : List Scalar) (ns ns' : Names) (guard guard' test test' : Exp) (m m' : Mon) → program_sort (in_scope l gs (names_with xs ss ns)) guard' ≡ program_sort (in_scope l gs (names_with xs ss ns')) guard →
      program_sort (in_scope l gs (names_with xs ss ns)) test' ≡ program_sort (in_scope l gs (names_with xs ss ns')) test →
      scalars_given (setting_at l gs sigs sort_for (names_with xs ss ns)) m' ≡ scalars_given (setting_at l gs sigs sort_for (names_with xs ss ns')) m → body_fits xs ss ns guard' test' m' ≡ body_fits xs ss ns' guard test m
  parts_same xs ss ns ns' guard guard' test test' m m' g t b =
      ap₂ (λ o q. where_fits (are_distinct xs && is_truth o && is_truth q && are_scalars ss (scalars_given (setting_at l gs sigs sort_for (names_with xs ss ns)) m')) (Some ss)) g t
      ∙ ap (λ r. where_fits (are_distinct xs && is_truth (program_sort (in_scope l gs (names_with xs ss ns')) guard) && is_truth (program_sort (in_scope l gs (names_with xs ss ns')) test) && are_scalars ss r) (Some ss)) b

  -- inside of a loop, whether or not it binds the name
  inside_given : (xs : List Name) (guard test : Exp) (m : Mon) → Law m → Binds xs (X.names x guard || X.names x test || is_free x m) (λ y. is_captured y x m) → (ns ns' : Names) (o : Others ns ns') (ss : List Scalar) → one_for_each xs ss ≡ true →
      Where (not (is_among x xs) && (X.names x guard || X.names x test || is_free x m)) ns ns' o → ((is_among x xs ≡ true) → body_fits xs ss ns guard test m ≡ body_fits xs ss ns' guard test m)
      × ((is_among x xs ≡ false) → body_fits xs ss ns (substituted x e guard) (substituted x e test) (program_substituted x e m) ≡ body_fits xs ss ns' guard test m)
  inside_given xs guard test m law binds ns ns' o ss one h = (
    λ i. parts_same xs ss ns ns' guard guard test test m m (program_agrees l gs (names_with xs ss ns) (names_with xs ss ns') guard (same_inside (λ y. X.names y guard) xs ss ns ns' one i o))
        (program_agrees l gs (names_with xs ss ns) (names_with xs ss ns') test (same_inside (λ y. X.names y test) xs ss ns ns' one i o))
        (given_agrees l gs sigs sort_for m (names_with xs ss ns) (names_with xs ss ns') (same_inside (λ y. is_free y m) xs ss ns ns' one i o)),
    λ i.
        let free = X.names x guard || X.names x test || is_free x m in
        let inner : Where free (names_with xs ss ns) (names_with xs ss ns') (still xs ss ns ns' o) = under xs ss free ns ns' o i (away_from xs free (λ y. is_captured y x m) binds i) (within xs free ns ns' o i h) in
        let tests = first (X.names x guard || X.names x test) (is_free x m) (names_with xs ss ns) (names_with xs ss ns') (still xs ss ns ns' o) inner in
        parts_same xs ss ns ns' guard (substituted x e guard) test (substituted x e test) m (program_substituted x e m)
        (program_put l gs (names_with xs ss ns) (names_with xs ss ns') x e (still xs ss ns ns' o) guard (first (X.names x guard) (X.names x test) (names_with xs ss ns) (names_with xs ss ns') (still xs ss ns ns' o) tests))
        (program_put l gs (names_with xs ss ns) (names_with xs ss ns') x e (still xs ss ns ns' o) test (second (X.names x guard) (X.names x test) (names_with xs ss ns) (names_with xs ss ns') (still xs ss ns ns' o) tests))
        (law (names_with xs ss ns) (names_with xs ss ns') (still xs ss ns ns' o) (second (X.names x guard || X.names x test) (is_free x m) (names_with xs ss ns) (names_with xs ss ns') (still xs ss ns ns' o) inner) (inside_of xs free (λ y. is_captured y x m) binds i)),
  )

  -- a loop over the same names
  renamed : (starts starts' : List Start) (guard test : Exp) (m : Mon) (ns : Names) (k : List Scalar → Option (List Scalar)) → start_names starts' ≡ start_names starts →
      ((ss : List Scalar) → start_scalars (in_scope l gs ns) starts' ≡ Some ss → body_fits (start_names starts) ss ns guard test m ≡ k ss) → (o : Option (List Scalar)) → start_scalars (in_scope l gs ns) starts' ≡ o →
      scalars_given (setting_at l gs sigs sort_for ns) (M.Loop starts' guard test m) ≡ and_then_scalars o k
  renamed starts starts' guard test m ns k named h o e =
      then_same (start_scalars (in_scope l gs ns) starts') o (λ ss. body_fits (start_names starts') ss ns guard test m) k e (λ ss i. ap (λ ys. body_fits ys ss ns guard test m) named ∙ h ss (e ∙ i))

  loop_given : (starts : List Start) (guard test : Exp) (m : Mon) → Law m → Binds (start_names starts) (X.names x guard || X.names x test || is_free x m) (λ y. is_captured y x m) → (ns ns' : Names) (o : Others ns ns') →
      Where (is_in_start x starts || (not (is_among x (start_names starts)) && (X.names x guard || X.names x test || is_free x m))) ns ns' o → (d : Bool) → is_among x (start_names starts) ≡ d →
      scalars_given (setting_at l gs sigs sort_for ns) (cond d (M.Loop (starts_substituted x e starts) guard test m) (M.Loop (starts_substituted x e starts) (substituted x e guard) (substituted x e test) (program_substituted x e m)))
      ≡ scalars_given (setting_at l gs sigs sort_for ns') (M.Loop starts guard test m)
  loop_given starts guard test m law binds ns ns' o h d i = by_binder d i
    where
      xs : List Name
      xs = start_names starts

      begun : start_scalars (in_scope l gs ns) (starts_substituted x e starts) ≡ start_scalars (in_scope l gs ns') starts
      begun = starts_put l gs ns ns' x e o starts (first (is_in_start x starts) (not (is_among x (start_names starts)) && (X.names x guard || X.names x test || is_free x m)) ns ns' o h)

      inner : Where (not (is_among x (start_names starts)) && (X.names x guard || X.names x test || is_free x m)) ns ns' o
      inner = second (is_in_start x starts) (not (is_among x (start_names starts)) && (X.names x guard || X.names x test || is_free x m)) ns ns' o h

      one : (ss : List Scalar) → start_scalars (in_scope l gs ns) (starts_substituted x e starts) ≡ Some ss → one_for_each (start_names starts) ss ≡ true
      one ss j = one_for_start (in_scope l gs ns') starts ss (sym begun ∙ j)

      by_binder : (d : Bool) → is_among x (start_names starts) ≡ d →
          scalars_given (setting_at l gs sigs sort_for ns) (cond d (M.Loop (starts_substituted x e starts) guard test m) (M.Loop (starts_substituted x e starts) (substituted x e guard) (substituted x e test) (program_substituted x e m)))
          ≡ scalars_given (setting_at l gs sigs sort_for ns') (M.Loop starts guard test m)
      by_binder true i =
          renamed starts (starts_substituted x e starts) guard test m ns (λ ss. body_fits (start_names starts) ss ns' guard test m) (start_names_put x e starts)
          (λ ss j. (inside_given (start_names starts) guard test m law binds ns ns' o ss (one ss j) inner).0 i) (start_scalars (in_scope l gs ns') starts) begun
      by_binder false i =
          renamed starts (starts_substituted x e starts) (substituted x e guard) (substituted x e test) (program_substituted x e m) ns (λ ss. body_fits (start_names starts) ss ns' guard test m) (start_names_put x e starts)
          (λ ss j. (inside_given (start_names starts) guard test m law binds ns ns' o ss (one ss j) inner).1 i) (start_scalars (in_scope l gs ns') starts) begun

  pub given_substituted : (m : Mon) → Law m
  given_substituted (M.Ret es) ns ns' o h c = each_put l gs ns ns' x e o es h
  given_substituted (M.Bind m xs n) ns ns' o h c =
      then_same _ _ _ _ (given_substituted m ns ns' o (first (is_free x m) (not (is_among x xs) && is_free x n) ns ns' o h) (λ y i. (or_parts (is_captured y x m) _ (c y i)).0))
      (λ ss j. fits_same (one_for_each xs ss && are_distinct xs) _ _ (λ b. second_given xs n (given_substituted n) (λ y i. (or_parts (is_captured y x m) _ (c y i)).1) (is_among x xs) refl ns ns' o ss (and_parts (one_for_each xs ss) (are_distinct xs) b).0
      (second (is_free x m) (not (is_among x xs) && is_free x n) ns ns' o h)))
  given_substituted (M.Guard a) ns ns' o h c = ap (λ q. where_fits (is_truth q) (Some [])) (program_put l gs ns ns' x e o a h)
  given_substituted (M.If a m n) ns ns' o h c =
      let f = first (X.names x a || is_free x m) (is_free x n) ns ns' o h in
      then_same _ _ _ _ (given_substituted m ns ns' o (second (X.names x a) (is_free x m) ns ns' o f) (λ y i. (or_parts (is_captured y x m) (is_captured y x n) (c y i)).0))
      (λ ss j. ap₂ (λ q r. where_fits (is_truth q && are_scalars ss r) (Some ss)) (program_put l gs ns ns' x e o a (first (X.names x a) (is_free x m) ns ns' o f))
      (given_substituted n ns ns' o (second (X.names x a || is_free x m) (is_free x n) ns ns' o h) (λ y i. (or_parts (is_captured y x m) (is_captured y x n) (c y i)).1)))
  given_substituted (M.Write q a) ns ns' o h c =
      ap₂ (λ r s. where_fits (fits_place r s) (Some [])) (place_put l gs ns ns' x e o q (first (is_in_place x q) (X.names x a) ns ns' o h)) (program_put l gs ns ns' x e o a (second (is_in_place x q) (X.names x a) ns ns' o h))
  given_substituted (M.Loop starts guard test m) ns ns' o h c = loop_given starts guard test m (given_substituted m) c ns ns' o h (is_among x (start_names starts)) refl
  given_substituted (M.Call f es) ns ns' o h c = ap (λ r. call_scalars sort_for (signature sigs f) r) (each_put l gs ns ns' x e o es h)
  given_substituted (M.Pick k) ns ns' o h c = refl
