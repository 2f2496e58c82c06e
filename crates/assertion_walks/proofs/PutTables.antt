-- Tables of values by the lists that they are made of.
use Rattle.std.proofs.Common.{◌≡◌, Bool, true, false, List, [], ◌∷◌, ◌++◌, length, Option, Some, if◌then◌else◌, refl, sym, ap, ap₂, ◌∙◌, arith}
use Rattle.std.proofs.Math.Path.{fun_ext}
use Rattle.c_values.specs.Name.{Name, same_name}
use Rattle.expression_lang.specs.Expression.{Exp, Var}
use Rattle.expression_lang.specs.Changed.{changed}
use Rattle.assertion_walks.specs.Put.{exp_for, in_places_of, put}
use Rattle.assertion_walks.specs.CodePut.{in_places_by, or_else}

by_first : (b : Bool) (e : Exp) (o p q : Option Exp) → o ≡ or_else p q →
    (if b then Some e else o) ≡ or_else (if b then Some e else p) q
by_first true e o p q h = refl
by_first false e o p q h = h

-- two lists one after the other, the first of which has a value for each name
exp_for_both : (xs ys : List Name) (es ls : List Exp) (y : Name) → length es ≡ length xs →
    exp_for (xs ++ ys) (es ++ ls) y ≡ or_else (exp_for xs es y) (exp_for ys ls y)
exp_for_both [] ys [] ls y h = refl
exp_for_both (x ∷ xs) ys (e ∷ es) ls y h = by_first (same_name x y) e _ _ _ (exp_for_both xs ys es ls y (omega arith))
exp_for_both [] ys (e ∷ es) ls y h = absurd (omega arith)
exp_for_both (x ∷ xs) ys [] ls y h = absurd (omega arith)

in_places_alike : (values : Name → Option Exp) (xs : List Name) (es : List Exp) → ((y : Name) → values y ≡ exp_for xs es y) →
    (e : Exp) → in_places_by values e ≡ in_places_of xs es e
in_places_alike values xs es h (Var y) = h y
in_places_alike values xs es h e = refl

-- what a table puts that has the values of two lists
pub put_by : (values : Name → Option Exp) (xs : List Name) (es : List Exp) → ((y : Name) → values y ≡ exp_for xs es y) →
    (e : Exp) → changed (in_places_by values) e ≡ put xs es e
put_by values xs es h e = ap (λ f. changed f e) (fun_ext (λ a. in_places_alike values xs es h a))

-- what two tables put that have the values of two lists each
pub put_by_both : (values others : Name → Option Exp) (xs ys : List Name) (es ls : List Exp) → length es ≡ length xs →
    ((y : Name) → values y ≡ exp_for xs es y) → ((y : Name) → others y ≡ exp_for ys ls y) →
    (e : Exp) → changed (in_places_by (λ y. or_else (values y) (others y))) e ≡ put (xs ++ ys) (es ++ ls) e
put_by_both values others xs ys es ls many h k e = put_by (λ y. or_else (values y) (others y)) (xs ++ ys) (es ++ ls) by e
  where
    by : (y : Name) → or_else (values y) (others y) ≡ exp_for (xs ++ ys) (es ++ ls) y
    by y = ap₂ or_else (h y) (k y) ∙ sym (exp_for_both xs ys es ls y many)
