-- The test of captures tells exactly whether some name of the expression is captured.
use Rattle.std.proofs.Common.{◌≡◌, Bool, true, false, not, ◌&&◌, ◌||◌, List, [], ◌∷◌, ◌⊎◌, inl, inr, refl, sym, ap, ◌∙◌}
use Rattle.std.proofs.lemmas.Bool.{or_parts, or_from, true≢false, cases_Bool, not_from_true}
use Rattle.c_values.specs.Name.{Name, same_name, is_among}
use Rattle.c_values.proofs.Laid.{same_name-refl}
use Rattle.expression_lang.specs.Expression.{Exp}
use Rattle.expression_lang.specs.Mentions as X
use Rattle.ac_expr.specs.Lasting.{is_unnamed}
use Rattle.monad_lang.specs.Program as M
use Rattle.monad_lang.specs.Program.{Mon}
use Rattle.monad_lang.specs.Names.{is_free, is_captured}
use Rattle.monad_lang.specs.Run.{start_names}
use Rattle.rule_parts.specs.Captures.{captures}
use Rattle.rule_eq.proofs.PutIn.{unnamed_apart}

-- names of the expression
abbrev EachName : Exp → (Name → Bool) → Type 0
EachName e test = (y : Name) → X.names y e ≡ true → test y ≡ false

-- if none of the names is in it, it names none
apart_unnamed : (xs : List Name) (e : Exp) → EachName e (λ y. is_among y xs) → is_unnamed xs e ≡ true
apart_unnamed [] e h = refl
apart_unnamed (x ∷ xs) e h = by_name (X.names x e) refl (apart_unnamed xs e (λ y i. (or_parts (same_name y x) (is_among y xs) (h y i)).1))
  where
    by_name : (b : Bool) → X.names x e ≡ b → is_unnamed xs e ≡ true → (not b && is_unnamed xs e) ≡ true
    by_name true i k = absurd (true≢false (sym (ap (λ b. b || is_among x xs) (same_name-refl x)) ∙ h x i))
    by_name false i k = k

and_none : (a b : Bool) → (a ≡ true → b ≡ false) → (a && b) ≡ false
and_none true b h = h refl
and_none false b h = refl

right_none : (a b : Bool) → (a && b) ≡ false → a ≡ true → b ≡ false
right_none true b h i = h
right_none false b h i = absurd (true≢false (sym i))

not_both : (a b : Bool) → (not a && b) ≡ false → b ≡ true → a ≡ true
not_both true b h i = refl
not_both false b h i = absurd (true≢false (sym i ∙ h))

-- a binder, whose inside has the name free or not
module _ (e : Exp) (x : Name) (xs : List Name) (free inner : Bool) (captured : Name → Bool) where
  binder_told : EachName e (λ y. not (is_among x xs) && ((is_among y xs && free) || captured y)) → (EachName e captured → inner ≡ false) → (not (is_among x xs) && ((not (is_unnamed xs e) && free) || inner)) ≡ false
  binder_told h k = and_none (not (is_among x xs)) ((not (is_unnamed xs e) && free) || inner) (λ i.
      let inside : EachName e (λ y. (is_among y xs && free) || captured y) = λ y j. right_none (not (is_among x xs)) ((is_among y xs && free) || captured y) (h y j) i in
      or_from (not (is_unnamed xs e) && free) inner (by_free (cases_Bool free) inside) (k (λ y j. (or_parts (is_among y xs && free) (captured y) (inside y j)).1)))
    where
      and_false : (b : Bool) → (b && false) ≡ false
      and_false true = refl
      and_false false = refl

      left_none : (a b : Bool) → (a && b) ≡ false → b ≡ true → a ≡ false
      left_none true b m n = absurd (true≢false (sym n ∙ m))
      left_none false b m n = refl

      by_free : (free ≡ true) ⊎ (free ≡ false) → EachName e (λ y. (is_among y xs && free) || captured y) → (not (is_unnamed xs e) && free) ≡ false
      by_free (inl f) m = ap (λ b. b && free) (not_from_true (is_unnamed xs e) (apart_unnamed xs e (λ y j. left_none (is_among y xs) free (or_parts (is_among y xs && free) (captured y) (m y j)).0 f)))
      by_free (inr f) m = ap (λ b. not (is_unnamed xs e) && b) f ∙ and_false (not (is_unnamed xs e))

  binder_tells : (not (is_among x xs) && ((not (is_unnamed xs e) && free) || inner)) ≡ false → (inner ≡ false → EachName e captured) → EachName e (λ y. not (is_among x xs) && ((is_among y xs && free) || captured y))
  binder_tells h k y j = and_none (not (is_among x xs)) ((is_among y xs && free) || captured y) (λ i.
      let o = or_parts (not (is_unnamed xs e) && free) inner (right_none (not (is_among x xs)) ((not (is_unnamed xs e) && free) || inner) h i) in
      or_from (is_among y xs && free) (captured y) (by_free (cases_Bool free) o.0) (k o.1 y j))
    where
      and_false : (b : Bool) → (b && false) ≡ false
      and_false true = refl
      and_false false = refl

      by_free : (free ≡ true) ⊎ (free ≡ false) → (not (is_unnamed xs e) && free) ≡ false → (is_among y xs && free) ≡ false
      by_free (inl f) m = ap (λ b. b && free) (unnamed_apart xs e (not_both (is_unnamed xs e) free m f) y j)
      by_free (inr f) m = ap (λ b. is_among y xs && b) f ∙ and_false (is_among y xs)

-- where no name is captured, the test says so
pub captured_told : (e : Exp) (x : Name) (m : Mon) → EachName e (λ y. is_captured y x m) → captures e x m ≡ false
captured_told e x (M.If a m n) h =
    or_from (captures e x m) (captures e x n) (captured_told e x m (λ y i. (or_parts (is_captured y x m) (is_captured y x n) (h y i)).0)) (captured_told e x n (λ y i. (or_parts (is_captured y x m) (is_captured y x n) (h y i)).1))
captured_told e x (M.Bind m xs n) h =
    or_from (captures e x m) _ (captured_told e x m (λ y i. (or_parts (is_captured y x m) _ (h y i)).0))
    (binder_told e x xs (is_free x n) (captures e x n) (λ y. is_captured y x n) (λ y i. (or_parts (is_captured y x m) _ (h y i)).1) (captured_told e x n))
captured_told e x (M.Loop starts guard test m) h =
    binder_told e x (start_names starts) (X.names x guard || X.names x test || is_free x m) (captures e x m) (λ y. is_captured y x m) h (captured_told e x m)
captured_told _ _ _ _ = refl

-- where the test says so, no name is captured
pub told_captured : (e : Exp) (x : Name) (m : Mon) → captures e x m ≡ false → EachName e (λ y. is_captured y x m)
told_captured e x (M.If a m n) h y i =
    let o = or_parts (captures e x m) (captures e x n) h in or_from (is_captured y x m) (is_captured y x n) (told_captured e x m o.0 y i) (told_captured e x n o.1 y i)
told_captured e x (M.Bind m xs n) h y i =
    let o = or_parts (captures e x m) _ h in
    or_from (is_captured y x m) _ (told_captured e x m o.0 y i) (binder_tells e x xs (is_free x n) (captures e x n) (λ z. is_captured z x n) o.1 (told_captured e x n) y i)
told_captured e x (M.Loop starts guard test m) h y i =
    binder_tells e x (start_names starts) (X.names x guard || X.names x test || is_free x m) (captures e x m) (λ z. is_captured z x m) h (told_captured e x m) y i
told_captured _ _ _ _ _ _ = refl
