-- A lifted expression names what it named.
use Rattle.std.proofs.Common.{◌≡◌, ◌||◌, refl, ap, ap₂, ◌∙◌}
use Rattle.c_values.specs.Name.{Name}
use Rattle.expression_lang.specs.Expression.{Exp, WordBinary, WordShift, WordUnary, WordCompare, Cast, ToNat, ToInt, ToWord, Arith, Negate, Lt, Le, Between, Eq, And, Or, Imp, Not, If, Padd, At, Load, Read, Tagged, PtrOk, Global, Sel, Upd, Path, Here, IntoField, IntoElement}
use Rattle.expression_lang.specs.Form.{has, path_has}
use Rattle.expression_lang.specs.Mentions.{is_name}
use Rattle.rule_heap.specs.ExpLifted.{exp_lifted, path_lifted}

module _ (v : Name) where
  mutual
    pub name_stays : (e : Exp) → has (is_name v) (exp_lifted e) ≡ has (is_name v) e
    name_stays (WordBinary op a b) = ap₂ (λ y z. y || z) (name_stays a) (name_stays b)
    name_stays (WordShift op a b) = ap₂ (λ y z. y || z) (name_stays a) (name_stays b)
    name_stays (WordUnary op a) = name_stays a
    name_stays (WordCompare op a b) = ap₂ (λ y z. y || z) (name_stays a) (name_stays b)
    name_stays (Cast op n a) = name_stays a
    name_stays (ToNat a) = name_stays a
    name_stays (ToInt a) = name_stays a
    name_stays (ToWord n a) = name_stays a
    name_stays (Arith op a b) = ap₂ (λ y z. y || z) (name_stays a) (name_stays b)
    name_stays (Negate a) = name_stays a
    name_stays (Lt a b) = ap₂ (λ y z. y || z) (name_stays a) (name_stays b)
    name_stays (Le a b) = ap₂ (λ y z. y || z) (name_stays a) (name_stays b)
    name_stays (Between low a high) = name_stays a
    name_stays (Eq a b) = ap₂ (λ y z. y || z) (name_stays a) (name_stays b)
    name_stays (And a b) = ap₂ (λ y z. y || z) (name_stays a) (name_stays b)
    name_stays (Or a b) = ap₂ (λ y z. y || z) (name_stays a) (name_stays b)
    name_stays (Imp a b) = ap₂ (λ y z. y || z) (name_stays a) (name_stays b)
    name_stays (Not a) = name_stays a
    name_stays (If a b c) = ap₂ (λ y z. y || z) (ap₂ (λ y z. y || z) (name_stays a) (name_stays b)) (name_stays c)
    name_stays (Padd t a b) = ap₂ (λ y z. y || z) (name_stays a) (name_stays b)
    name_stays (At t a path) = ap₂ (λ y z. y || z) (name_stays a) (path_name_stays path)
    name_stays (Load t a path) = ap₂ (λ y z. y || z) (name_stays a) (path_name_stays path)
    name_stays (Read t a path) = ap₂ (λ y z. y || z) (name_stays a) (path_name_stays path)
    name_stays (Tagged t a) = name_stays a
    name_stays (PtrOk t a) = name_stays a
    name_stays (Global x path) = path_name_stays path
    name_stays (Sel a path) = ap₂ (λ y z. y || z) (name_stays a) (path_name_stays path)
    name_stays (Upd a path b) =
        ap₂ (λ y z. (y || z) || has (is_name v) (exp_lifted b)) (name_stays a) (path_name_stays path) ∙
        ap (λ z. (has (is_name v) a || path_has (is_name v) path) || z) (name_stays b)
    name_stays _ = refl

    pub path_name_stays : (path : Path) → path_has (is_name v) (path_lifted path) ≡ path_has (is_name v) path
    path_name_stays Here = refl
    path_name_stays (IntoField k path) = path_name_stays path
    path_name_stays (IntoElement e path) = ap₂ (λ y z. y || z) (name_stays e) (path_name_stays path)
