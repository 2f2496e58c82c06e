-- An expression without a load is its own lifted one.
use Rattle.std.proofs.Common.{◌≡◌, Bool, true, false, ◌||◌, refl, ap, ap₂, ◌∙◌}
use Rattle.std.proofs.lemmas.Bool.{or_parts, true≢false, or_from}
use Rattle.expression_lang.specs.Expression.{Exp, WordBinary, WordShift, WordUnary, WordCompare, Cast, ToNat, ToInt, ToWord, Arith, Negate, Lt, Le, Between, Eq, And, Or, Imp, Not, If, Padd, At, Load, Read, Tagged, PtrOk, Global, Sel, Upd, Path, Here, IntoField, IntoElement}
use Rattle.expression_lang.specs.Form.{has, path_has, is_load, is_part_of_value}
use Rattle.rule_heap.specs.ExpLifted.{exp_lifted, path_lifted}

pub has_some : (x y : Bool) → ((true || x) || y) ≡ false → ⊥
has_some x y h = absurd (true≢false h)

mutual
  pub exp_stays : (e : Exp) → has is_load e ≡ false → exp_lifted e ≡ e
  exp_stays (WordBinary op a b) h = let k = or_parts (has is_load a) (has is_load b) h in ap₂ (λ y z. WordBinary op y z) (exp_stays a k.0) (exp_stays b k.1)
  exp_stays (WordShift op a b) h = let k = or_parts (has is_load a) (has is_load b) h in ap₂ (λ y z. WordShift op y z) (exp_stays a k.0) (exp_stays b k.1)
  exp_stays (WordUnary op a) h = ap (λ x. WordUnary op x) (exp_stays a h)
  exp_stays (WordCompare op a b) h = let k = or_parts (has is_load a) (has is_load b) h in ap₂ (λ y z. WordCompare op y z) (exp_stays a k.0) (exp_stays b k.1)
  exp_stays (Cast op n a) h = ap (λ x. Cast op n x) (exp_stays a h)
  exp_stays (ToNat a) h = ap (λ x. ToNat x) (exp_stays a h)
  exp_stays (ToInt a) h = ap (λ x. ToInt x) (exp_stays a h)
  exp_stays (ToWord n a) h = ap (λ x. ToWord n x) (exp_stays a h)
  exp_stays (Arith op a b) h = let k = or_parts (has is_load a) (has is_load b) h in ap₂ (λ y z. Arith op y z) (exp_stays a k.0) (exp_stays b k.1)
  exp_stays (Negate a) h = ap (λ x. Negate x) (exp_stays a h)
  exp_stays (Lt a b) h = let k = or_parts (has is_load a) (has is_load b) h in ap₂ (λ y z. Lt y z) (exp_stays a k.0) (exp_stays b k.1)
  exp_stays (Le a b) h = let k = or_parts (has is_load a) (has is_load b) h in ap₂ (λ y z. Le y z) (exp_stays a k.0) (exp_stays b k.1)
  exp_stays (Between low a high) h = ap (λ x. Between low x high) (exp_stays a h)
  exp_stays (Eq a b) h = let k = or_parts (has is_load a) (has is_load b) h in ap₂ (λ y z. Eq y z) (exp_stays a k.0) (exp_stays b k.1)
  exp_stays (And a b) h = let k = or_parts (has is_load a) (has is_load b) h in ap₂ (λ y z. And y z) (exp_stays a k.0) (exp_stays b k.1)
  exp_stays (Or a b) h = let k = or_parts (has is_load a) (has is_load b) h in ap₂ (λ y z. Or y z) (exp_stays a k.0) (exp_stays b k.1)
  exp_stays (Imp a b) h = let k = or_parts (has is_load a) (has is_load b) h in ap₂ (λ y z. Imp y z) (exp_stays a k.0) (exp_stays b k.1)
  exp_stays (Not a) h = ap (λ x. Not x) (exp_stays a h)
  exp_stays (If a b c) h =
      let k = or_parts (has is_load a || has is_load b) (has is_load c) h in
      let j = or_parts (has is_load a) (has is_load b) k.0 in
      ap₂ (λ y z. If y z (exp_lifted c)) (exp_stays a j.0) (exp_stays b j.1) ∙ ap (λ z. If a b z) (exp_stays c k.1)
  exp_stays (Padd t a b) h = let k = or_parts (has is_load a) (has is_load b) h in ap₂ (λ y z. Padd t y z) (exp_stays a k.0) (exp_stays b k.1)
  exp_stays (At t a path) h = let k = or_parts (has is_load a) (path_has is_load path) h in ap₂ (λ y z. At t y z) (exp_stays a k.0) (path_stays path k.1)
  exp_stays (Load t a path) h = absurd (has_some (has is_load a) (path_has is_load path) h)
  exp_stays (Read t a path) h = let k = or_parts (has is_load a) (path_has is_load path) h in ap₂ (λ y z. Read t y z) (exp_stays a k.0) (path_stays path k.1)
  exp_stays (Tagged t a) h = ap (λ x. Tagged t x) (exp_stays a h)
  exp_stays (PtrOk t a) h = ap (λ x. PtrOk t x) (exp_stays a h)
  exp_stays (Global x path) h = ap (λ z. Global x z) (path_stays path h)
  exp_stays (Sel a path) h = let k = or_parts (has is_load a) (path_has is_load path) h in ap₂ (λ y z. Sel y z) (exp_stays a k.0) (path_stays path k.1)
  exp_stays (Upd a path b) h =
      let k = or_parts (has is_load a || path_has is_load path) (has is_load b) h in
      let j = or_parts (has is_load a) (path_has is_load path) k.0 in
      ap₂ (λ y z. Upd y z (exp_lifted b)) (exp_stays a j.0) (path_stays path j.1) ∙ ap (λ z. Upd a path z) (exp_stays b k.1)
  exp_stays _ _ = refl

  pub path_stays : (path : Path) → path_has is_load path ≡ false → path_lifted path ≡ path
  path_stays Here h = refl
  path_stays (IntoField k path) h = ap (λ z. IntoField k z) (path_stays path h)
  path_stays (IntoElement e path) h = let k = or_parts (has is_load e) (path_has is_load path) h in ap₂ (λ y z. IntoElement y z) (exp_stays e k.0) (path_stays path k.1)

-- no load is left
mutual
  pub exp_free : (e : Exp) → has is_load (exp_lifted e) ≡ false
  exp_free (WordBinary op a b) = or_from (has is_load (exp_lifted a)) (has is_load (exp_lifted b)) (exp_free a) (exp_free b)
  exp_free (WordShift op a b) = or_from (has is_load (exp_lifted a)) (has is_load (exp_lifted b)) (exp_free a) (exp_free b)
  exp_free (WordUnary op a) = exp_free a
  exp_free (WordCompare op a b) = or_from (has is_load (exp_lifted a)) (has is_load (exp_lifted b)) (exp_free a) (exp_free b)
  exp_free (Cast op n a) = exp_free a
  exp_free (ToNat a) = exp_free a
  exp_free (ToInt a) = exp_free a
  exp_free (ToWord n a) = exp_free a
  exp_free (Arith op a b) = or_from (has is_load (exp_lifted a)) (has is_load (exp_lifted b)) (exp_free a) (exp_free b)
  exp_free (Negate a) = exp_free a
  exp_free (Lt a b) = or_from (has is_load (exp_lifted a)) (has is_load (exp_lifted b)) (exp_free a) (exp_free b)
  exp_free (Le a b) = or_from (has is_load (exp_lifted a)) (has is_load (exp_lifted b)) (exp_free a) (exp_free b)
  exp_free (Between low a high) = exp_free a
  exp_free (Eq a b) = or_from (has is_load (exp_lifted a)) (has is_load (exp_lifted b)) (exp_free a) (exp_free b)
  exp_free (And a b) = or_from (has is_load (exp_lifted a)) (has is_load (exp_lifted b)) (exp_free a) (exp_free b)
  exp_free (Or a b) = or_from (has is_load (exp_lifted a)) (has is_load (exp_lifted b)) (exp_free a) (exp_free b)
  exp_free (Imp a b) = or_from (has is_load (exp_lifted a)) (has is_load (exp_lifted b)) (exp_free a) (exp_free b)
  exp_free (Not a) = exp_free a
  exp_free (If a b c) = or_from ((has is_load (exp_lifted a)) || (has is_load (exp_lifted b))) (has is_load (exp_lifted c)) (or_from (has is_load (exp_lifted a)) (has is_load (exp_lifted b)) (exp_free a) (exp_free b)) (exp_free c)
  exp_free (Padd t a b) = or_from (has is_load (exp_lifted a)) (has is_load (exp_lifted b)) (exp_free a) (exp_free b)
  exp_free (At t a path) = or_from (has is_load (exp_lifted a)) (path_has is_load (path_lifted path)) (exp_free a) (path_free path)
  exp_free (Load t a path) = or_from (has is_load (exp_lifted a)) (path_has is_load (path_lifted path)) (exp_free a) (path_free path)
  exp_free (Read t a path) = or_from (has is_load (exp_lifted a)) (path_has is_load (path_lifted path)) (exp_free a) (path_free path)
  exp_free (Tagged t a) = exp_free a
  exp_free (PtrOk t a) = exp_free a
  exp_free (Global x path) = path_free path
  exp_free (Sel a path) = or_from (has is_load (exp_lifted a)) (path_has is_load (path_lifted path)) (exp_free a) (path_free path)
  exp_free (Upd a path b) = or_from ((has is_load (exp_lifted a)) || (path_has is_load (path_lifted path))) (has is_load (exp_lifted b)) (or_from (has is_load (exp_lifted a)) (path_has is_load (path_lifted path)) (exp_free a) (path_free path)) (exp_free b)
  exp_free _ = refl

  pub path_free : (path : Path) → path_has is_load (path_lifted path) ≡ false
  path_free Here = refl
  path_free (IntoField k path) = path_free path
  path_free (IntoElement e path) = or_from (has is_load (exp_lifted e)) (path_has is_load (path_lifted path)) (exp_free e) (path_free path)

-- a part of a value is in it where it was
mutual
  pub parts_stay : (e : Exp) → has is_part_of_value (exp_lifted e) ≡ has is_part_of_value e
  parts_stay (WordBinary op a b) = ap₂ (λ y z. y || z) (parts_stay a) (parts_stay b)
  parts_stay (WordShift op a b) = ap₂ (λ y z. y || z) (parts_stay a) (parts_stay b)
  parts_stay (WordUnary op a) = parts_stay a
  parts_stay (WordCompare op a b) = ap₂ (λ y z. y || z) (parts_stay a) (parts_stay b)
  parts_stay (Cast op n a) = parts_stay a
  parts_stay (ToNat a) = parts_stay a
  parts_stay (ToInt a) = parts_stay a
  parts_stay (ToWord n a) = parts_stay a
  parts_stay (Arith op a b) = ap₂ (λ y z. y || z) (parts_stay a) (parts_stay b)
  parts_stay (Negate a) = parts_stay a
  parts_stay (Lt a b) = ap₂ (λ y z. y || z) (parts_stay a) (parts_stay b)
  parts_stay (Le a b) = ap₂ (λ y z. y || z) (parts_stay a) (parts_stay b)
  parts_stay (Between low a high) = parts_stay a
  parts_stay (Eq a b) = ap₂ (λ y z. y || z) (parts_stay a) (parts_stay b)
  parts_stay (And a b) = ap₂ (λ y z. y || z) (parts_stay a) (parts_stay b)
  parts_stay (Or a b) = ap₂ (λ y z. y || z) (parts_stay a) (parts_stay b)
  parts_stay (Imp a b) = ap₂ (λ y z. y || z) (parts_stay a) (parts_stay b)
  parts_stay (Not a) = parts_stay a
  parts_stay (If a b c) = ap₂ (λ y z. y || z) (ap₂ (λ y z. y || z) (parts_stay a) (parts_stay b)) (parts_stay c)
  parts_stay (Padd t a b) = ap₂ (λ y z. y || z) (parts_stay a) (parts_stay b)
  parts_stay (At t a path) = ap₂ (λ y z. y || z) (parts_stay a) (path_parts_stay path)
  parts_stay (Load t a path) = ap₂ (λ y z. y || z) (parts_stay a) (path_parts_stay path)
  parts_stay (Read t a path) = ap₂ (λ y z. y || z) (parts_stay a) (path_parts_stay path)
  parts_stay (Tagged t a) = parts_stay a
  parts_stay (PtrOk t a) = parts_stay a
  parts_stay (Global x path) = path_parts_stay path
  parts_stay (Sel a path) = ap₂ (λ y z. (true || y) || z) (parts_stay a) (path_parts_stay path)
  parts_stay (Upd a path b) = ap₂ (λ y z. ((true || y) || z) || has is_part_of_value (exp_lifted b)) (parts_stay a) (path_parts_stay path) ∙ ap (λ z. ((true || has is_part_of_value a) || path_has is_part_of_value path) || z) (parts_stay b)
  parts_stay _ = refl

  pub path_parts_stay : (path : Path) → path_has is_part_of_value (path_lifted path) ≡ path_has is_part_of_value path
  path_parts_stay Here = refl
  path_parts_stay (IntoField k path) = path_parts_stay path
  path_parts_stay (IntoElement e path) = ap₂ (λ y z. y || z) (parts_stay e) (path_parts_stay path)
