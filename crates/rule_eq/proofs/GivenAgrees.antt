-- Programs give the same scalars in scopes that agree on their free names.
use Rattle.std.proofs.Common.{◌≡◌, suc, length, Bool, true, false, not, cond, ◌&&◌, ◌||◌, List, [], ◌∷◌, Option, Some, None, refl, sym, ap, ap₂, ◌∙◌, subst}
use Rattle.std.proofs.lemmas.Bool.{and_parts, and_from, or_from, eqb-true}
use Rattle.std.proofs.lemmas.Bool.Decides.{Decides-eqb}
use Rattle.c_values.specs.Name.{Name, same_name, with_name, is_among, are_distinct}
use Rattle.c_values.specs.Types.{CType}
use Rattle.c_values.specs.Layout.{Layout}
use Rattle.c_values.proofs.Laid.{other_name}
use Rattle.c_values.proofs.Options.{none_is}
use Rattle.expression_lang.specs.Mentions as X
use Rattle.expression_lang.specs.Sort.{Scalar, Scope, Kind, is_truth}
use Rattle.expression_lang.specs.Sorted.{names_with, program_sort, scalar_in, with_scalar, fits_place, call_scalars}
use Rattle.expression_lang.specs.Signature.{Signature, signature}
use Rattle.monad_lang.specs.Program as M
use Rattle.monad_lang.specs.Program.{Mon, Start}
use Rattle.monad_lang.specs.Names.{is_free, is_in_start, is_in_place}
use Rattle.monad_lang.specs.Run.{start_names}
use Rattle.monad_lang.specs.Sorted.{Setting, scalars_given, start_scalars, one_for_each, are_scalars, and_then_scalars, where_fits}
use Rattle.rule_eq.proofs.Bound.{no_zero, one_less}
use Rattle.monad_lang.specs.Agree.{AgreeOn}
use Rattle.monad_lang.proofs.Agreeing.{agree_left, agree_right}
use Rattle.monad_lang.proofs.AgreeingSorts.{in_scope, program_agrees, scalars_agree, place_agrees}

pub then_same : (o o' : Option (List Scalar)) (f f' : List Scalar → Option (List Scalar)) → o ≡ o' → ((ss : List Scalar) → o' ≡ Some ss → f ss ≡ f' ss) → and_then_scalars o f ≡ and_then_scalars o' f'
then_same o o' f f' e h = ap (λ q. and_then_scalars q f) e ∙ at o' h
  where
    at : (q : Option (List Scalar)) → ((ss : List Scalar) → q ≡ Some ss → f ss ≡ f' ss) → and_then_scalars q f ≡ and_then_scalars q f'
    at None k = refl
    at (Some ss) k = k ss refl

pub fits_same : (b : Bool) (q q' : Option (List Scalar)) → (b ≡ true → q ≡ q') → where_fits b q ≡ where_fits b q'
fits_same true q q' h = h refl
fits_same false q q' h = refl

either_way : {A : Type 0} (x y : Name) (v : A) (f g : Name → A) → (same_name y x ≡ false → f y ≡ g y) → (b : Bool) → same_name x y ≡ b → cond b v (f y) ≡ cond b v (g y)
either_way x y v f g h true e = refl
either_way x y v f g h false e = h (other_name x y e)

-- one of the names, or a name that is the same before
pub names_alike : (y : Name) (xs : List Name) (ss : List Scalar) (f g : Name → Option Scalar) → one_for_each xs ss ≡ true → (is_among y xs ≡ false → f y ≡ g y) → names_with xs ss f y ≡ names_with xs ss g y
names_alike y [] ss f g k h = h refl
names_alike y (x ∷ xs) [] f g k h = absurd (no_zero (length xs) (sym (eqb-true (suc (length xs)) 0 k)))
names_alike y (x ∷ xs) (s ∷ ss) f g k h =
    names_alike y xs ss (with_name x (Some s) f) (with_name x (Some s) g) ((Decides-eqb (length xs) (length ss)).1 (one_less (length xs) (length ss) (eqb-true (suc (length xs)) (suc (length ss)) k)))
    (λ n. either_way x y (Some s) f g (λ e. h (or_from (same_name y x) (is_among y xs) e n)) (same_name x y) refl)

pub behind_names : (test : Name → Bool) (xs : List Name) (ss : List Scalar) (f g : Name → Option Scalar) → one_for_each xs ss ≡ true → AgreeOn (λ y. not (is_among y xs) && test y) f g → AgreeOn test (names_with xs ss f) (names_with xs ss g)
behind_names test xs ss f g k h y i = names_alike y xs ss f g k (λ n. h y (and_from (not (is_among y xs)) (test y) (ap not n) i))

-- one scalar for each name of a loop
with_one : (c : Option Scalar) (o : Option (List Scalar)) (ss : List Scalar) (xs : List Name) (x : Name) → with_scalar c o ≡ Some ss → ((ds : List Scalar) → o ≡ Some ds → one_for_each xs ds ≡ true) → one_for_each (x ∷ xs) ss ≡ true
with_one (Some d) (Some ds) ss xs x h k =
    let same : d ∷ ds ≡ ss = some_is' h in
    subst (λ es. one_for_each (x ∷ xs) es ≡ true) same ((Decides-eqb (suc (length xs)) (suc (length ds))).1 (ap (λ n. suc n) (eqb-true (length xs) (length ds) (k ds refl))))
  where
    some_is' : ◌≡◌ {A = Option (List Scalar)} (Some (d ∷ ds)) (Some ss) → d ∷ ds ≡ ss
    some_is' e = cc
with_one (Some d) None ss xs x h k = none_is h
with_one None (Some ds) ss xs x h k = none_is h
with_one None None ss xs x h k = none_is h

pub one_for_start : (g : Scope) (starts : List Start) (ss : List Scalar) → start_scalars g starts ≡ Some ss → one_for_each (start_names starts) ss ≡ true
one_for_start g [] ss h = none_left ss (some_is' h)
  where
    some_is' : ◌≡◌ {A = Option (List Scalar)} (Some []) (Some ss) → [] ≡ ss
    some_is' e = cc

    none_left : (ss : List Scalar) → [] ≡ ss → one_for_each [] ss ≡ true
    none_left ss e = subst (λ es. one_for_each [] es ≡ true) e refl
one_for_start g (x ∷ xs) ss h = with_one (scalar_in (program_sort g x.exp)) (start_scalars g xs) ss (start_names xs) x.name h (λ ds e. one_for_start g xs ds e)

module _ (l : Layout) (gs : Name → Option CType) (sigs : List Signature) (sort_for : Kind → Scalar) where
  abbrev pub setting_at : (Name → Option Scalar) → Setting
  setting_at ns = record { scope = in_scope l gs ns; functions = sigs; sort_for = sort_for }

  starts_agree : (ns ns' : Name → Option Scalar) (xs : List Start) → AgreeOn (λ y. is_in_start y xs) ns ns' → start_scalars (in_scope l gs ns) xs ≡ start_scalars (in_scope l gs ns') xs
  starts_agree ns ns' [] h = refl
  starts_agree ns ns' (x ∷ xs) h =
      ap₂ (λ o r. with_scalar (scalar_in o) r) (program_agrees l gs ns ns' x.exp (agree_left (λ y. X.names y x.exp) (λ y. is_in_start y xs) ns ns' h)) (starts_agree ns ns' xs (agree_right (λ y. X.names y x.exp) (λ y. is_in_start y xs) ns ns' h))

  pub given_agrees : (m : Mon) (ns ns' : Name → Option Scalar) → AgreeOn (λ y. is_free y m) ns ns' → scalars_given (setting_at ns) m ≡ scalars_given (setting_at ns') m
  given_agrees (M.Ret es) ns ns' h = scalars_agree l gs ns ns' es h
  given_agrees (M.Bind m xs n) ns ns' h =
      then_same _ _ _ _ (given_agrees m ns ns' (agree_left (λ y. is_free y m) (λ y. not (is_among y xs) && is_free y n) ns ns' h))
      (λ ss e. fits_same (one_for_each xs ss && are_distinct xs) _ _ (λ b. given_agrees n (names_with xs ss ns) (names_with xs ss ns')
      (behind_names (λ y. is_free y n) xs ss ns ns' (and_parts (one_for_each xs ss) (are_distinct xs) b).0 (agree_right (λ y. is_free y m) (λ y. not (is_among y xs) && is_free y n) ns ns' h))))
  given_agrees (M.Guard e) ns ns' h = ap (λ o. where_fits (is_truth o) (Some [])) (program_agrees l gs ns ns' e h)
  given_agrees (M.If e m n) ns ns' h =
      let f = agree_left (λ y. X.names y e || is_free y m) (λ y. is_free y n) ns ns' h in
      then_same _ _ _ _ (given_agrees m ns ns' (agree_right (λ y. X.names y e) (λ y. is_free y m) ns ns' f))
      (λ ss i. ap₂ (λ o q. where_fits (is_truth o && are_scalars ss q) (Some ss)) (program_agrees l gs ns ns' e (agree_left (λ y. X.names y e) (λ y. is_free y m) ns ns' f))
      (given_agrees n ns ns' (agree_right (λ y. X.names y e || is_free y m) (λ y. is_free y n) ns ns' h)))
  given_agrees (M.Write q e) ns ns' h =
      ap₂ (λ o r. where_fits (fits_place o r) (Some [])) (place_agrees l gs ns ns' q (agree_left (λ y. is_in_place y q) (λ y. X.names y e) ns ns' h)) (program_agrees l gs ns ns' e (agree_right (λ y. is_in_place y q) (λ y. X.names y e) ns ns' h))
  given_agrees (M.Loop starts guard test m) ns ns' h =
      let xs = start_names starts in
      let inner : Name → Bool = λ y. X.names y guard || X.names y test || is_free y m in
      then_same _ _ _ _ (starts_agree ns ns' starts (agree_left (λ y. is_in_start y starts) (λ y. not (is_among y xs) && inner y) ns ns' h))
      (λ ss e.
      let i = behind_names inner xs ss ns ns' (one_for_start (in_scope l gs ns') starts ss e) (agree_right (λ y. is_in_start y starts) (λ y. not (is_among y xs) && inner y) ns ns' h) in
      let j = agree_left (λ y. X.names y guard || X.names y test) (λ y. is_free y m) (names_with xs ss ns) (names_with xs ss ns') i in
      let g = program_agrees l gs (names_with xs ss ns) (names_with xs ss ns') guard (agree_left (λ y. X.names y guard) (λ y. X.names y test) (names_with xs ss ns) (names_with xs ss ns') j) in
      let t = program_agrees l gs (names_with xs ss ns) (names_with xs ss ns') test (agree_right (λ y. X.names y guard) (λ y. X.names y test) (names_with xs ss ns) (names_with xs ss ns') j) in
      let b = given_agrees m (names_with xs ss ns) (names_with xs ss ns') (agree_right (λ y. X.names y guard || X.names y test) (λ y. is_free y m) (names_with xs ss ns) (names_with xs ss ns') i) in
      ap₂ (λ o q. where_fits (are_distinct xs && is_truth o && is_truth q && are_scalars ss (scalars_given (setting_at (names_with xs ss ns)) m)) (Some ss)) g t
      ∙ ap (λ r. where_fits (are_distinct xs && is_truth (program_sort (in_scope l gs (names_with xs ss ns')) guard) && is_truth (program_sort (in_scope l gs (names_with xs ss ns')) test) && are_scalars ss r) (Some ss)) b)
  given_agrees (M.Call f es) ns ns' h = ap (λ o. call_scalars sort_for (signature sigs f) o) (scalars_agree l gs ns ns' es h)
  given_agrees (M.Pick k) ns ns' h = refl
