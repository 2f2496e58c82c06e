-- The sort of an operation is the rule's, of the sorts of its operands.
use Rattle.std.proofs.Common.{◌≡◌, Bool, true, false, ◌&&◌, Option, refl, sym, ap, ◌∙◌}
use Rattle.expression_lang.specs.declared.arity.Arity.TheVariants.{Leaf, Unary, Binary, Connective}
use Rattle.expression_lang.specs.Expression.{Exp, Var, WordLit, NumberLit, TruthLit, WordBinary, WordShift, WordUnary, WordCompare, Cast, ToNat, ToInt, ToWord, Arith, Negate, Lt, Le, Between, Eq, And, Or, Imp, Not, Padd, Tagged, PtrOk}
use Rattle.expression_lang.specs.Sort.{Scope, Sort, sort_of, is_truth, where_holds, truth_sort}
use Rattle.expression_lang.specs.CodeArity.{arity_of, first_part, second_part}
use Rattle.expression_lang.specs.CodeSortRules.{leaf_sort, unary_sort, binary_sort}

pub leaf_sorted : (g : Scope) (e : Exp) (r : Option Sort) → arity_of e ≡ Leaf → r ≡ leaf_sort g.names e → r ≡ sort_of g e
leaf_sorted g (Var x) r is rule = rule
leaf_sorted g (WordLit w) r is rule = rule
leaf_sorted g (NumberLit n) r is rule = rule
leaf_sorted g (TruthLit b) r is rule = rule
leaf_sorted g _ r is rule = absurd cc

unary_is : (g : Scope) (e : Exp) → arity_of e ≡ Unary → unary_sort g.layout e (sort_of g (first_part e)) ≡ sort_of g e
unary_is g (WordUnary op a) is = refl
unary_is g (Cast op width a) is = refl
unary_is g (ToNat a) is = refl
unary_is g (ToInt a) is = refl
unary_is g (ToWord width a) is = refl
unary_is g (Negate a) is = refl
unary_is g (Between low a high) is = refl
unary_is g (Not a) is = refl
unary_is g (Tagged t p) is = refl
unary_is g (PtrOk t p) is = refl
unary_is g _ is = absurd cc

pub unary_sorted : (g : Scope) (e a : Exp) (s r : Option Sort) → arity_of e ≡ Unary → a ≡ first_part e → s ≡ sort_of g a → r ≡ unary_sort g.layout e s → r ≡ sort_of g e
unary_sorted g e a s r is first sorted rule = rule ∙ ap (λ x. unary_sort g.layout e x) (sorted ∙ ap (λ x. sort_of g x) first) ∙ unary_is g e is

binary_is : (g : Scope) (e : Exp) → arity_of e ≡ Binary → binary_sort g.layout e (sort_of g (first_part e)) (sort_of g (second_part e)) ≡ sort_of g e
binary_is g (WordBinary op a b) is = refl
binary_is g (WordShift op a n) is = refl
binary_is g (WordCompare op a b) is = refl
binary_is g (Arith op a b) is = refl
binary_is g (Lt a b) is = refl
binary_is g (Le a b) is = refl
binary_is g (Eq a b) is = refl
binary_is g (Padd t p n) is = refl
binary_is g _ is = absurd cc

pub binary_sorted : (g : Scope) (e a b : Exp) (s t r : Option Sort) →
    arity_of e ≡ Binary → a ≡ first_part e → b ≡ second_part e → s ≡ sort_of g a → t ≡ sort_of g b → r ≡ binary_sort g.layout e s t → r ≡ sort_of g e
binary_sorted g e a b s t r is first second left right rule =
    rule
    ∙ ap (λ x. binary_sort g.layout e x t) (left ∙ ap (λ x. sort_of g x) first)
    ∙ ap (λ x. binary_sort g.layout e (sort_of g (first_part e)) x) (right ∙ ap (λ x. sort_of g x) second)
    ∙ binary_is g e is

-- a connective is of two truth values
connective_is : (g : Scope) (e : Exp) → arity_of e ≡ Connective → sort_of g e ≡ where_holds (is_truth (sort_of g (first_part e)) && is_truth (sort_of g (second_part e))) truth_sort
connective_is g (And a b) is = refl
connective_is g (Or a b) is = refl
connective_is g (Imp a b) is = refl
connective_is g _ is = absurd cc

pub connective_sorted : (g : Scope) (e a b : Exp) (x y : Bool) (r : Option Sort) →
    arity_of e ≡ Connective → a ≡ first_part e → b ≡ second_part e → x ≡ is_truth (sort_of g a) → y ≡ is_truth (sort_of g b) → r ≡ where_holds (x && y) truth_sort → r ≡ sort_of g e
connective_sorted g e a b x y r is first second left right rule =
    rule
    ∙ ap (λ z. where_holds (z && y) truth_sort) (left ∙ ap (λ d. is_truth (sort_of g d)) first)
    ∙ ap (λ z. where_holds (is_truth (sort_of g (first_part e)) && z) truth_sort) (right ∙ ap (λ d. is_truth (sort_of g d)) second)
    ∙ sym (connective_is g e is)

is_truth_where : (b : Bool) → is_truth (where_holds b truth_sort) ≡ b
is_truth_where true = refl
is_truth_where false = refl

-- where its first operand is a truth value, the rest decides whether a connective is
pub rest_decides : (g : Scope) (e : Exp) → arity_of e ≡ Connective → is_truth (sort_of g (first_part e)) ≡ true → is_truth (sort_of g e) ≡ is_truth (sort_of g (second_part e))
rest_decides g e is h =
    ap is_truth (connective_is g e is)
    ∙ is_truth_where (is_truth (sort_of g (first_part e)) && is_truth (sort_of g (second_part e)))
    ∙ ap (λ x. x && is_truth (sort_of g (second_part e))) h

-- and where it isn't, no connective is
pub first_decides : (g : Scope) (e : Exp) → arity_of e ≡ Connective → is_truth (sort_of g (first_part e)) ≡ false → is_truth (sort_of g e) ≡ false
first_decides g e is h =
    ap is_truth (connective_is g e is)
    ∙ is_truth_where (is_truth (sort_of g (first_part e)) && is_truth (sort_of g (second_part e)))
    ∙ ap (λ x. x && is_truth (sort_of g (second_part e))) h
