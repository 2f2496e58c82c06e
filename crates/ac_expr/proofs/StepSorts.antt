-- The width of a word whose number is taken, in a well-sorted expression; and children that are well-sorted in some scope.
use Rattle.std.proofs.Common.{◌≡◌, ℕ, true, Some, List, [], ◌∷◌, inl, inr, ◌∙◌, ap, ◌&&◌}
use Rattle.std.proofs.lemmas.Bool.{and_parts}
use Rattle.expression_lang.specs.Expression.{Exp, ToNat, ToInt, ToWord}
use Rattle.expression_lang.specs.Sort.{Of, WordSort, Scope, sort_of, is_width, is_number, word_width, word_sort, number_sort}
use Rattle.expression_lang.proofs.Inversion.{where_inv, word_inv, width_inv}
use Rattle.ac_expr.specs.Heads.{children}
use Rattle.ac_expr.specs.CodeApart.{IsSomeSorted, IsAmong, with_names}
use Rattle.ac_expr.proofs.PartsSorted.{AreSorted, children_sorted}

word_wide : (g : Scope) (n m : ℕ) (a : Exp) → word_width (sort_of g (ToWord n a)) ≡ Some m → is_width n ≡ true
word_wide g n m a h =
    (and_parts (is_width n) (is_number (sort_of g a))
    (where_inv (is_width n && is_number (sort_of g a)) (word_sort n) (Of (WordSort m)) (width_inv (sort_of g (ToWord n a)) m h)).0).0

pub nat_width : (g : Scope) (n : ℕ) (a : Exp) → IsSomeSorted g (ToNat (ToWord n a)) → is_width n ≡ true
nat_width g n a h =
    let i = word_inv (word_width (sort_of (with_names h.0 g) (ToWord n a))) (λ m. number_sort) h.1 h.2 in
    word_wide (with_names h.0 g) n i.0 a i.1

pub int_width : (g : Scope) (n : ℕ) (a : Exp) → IsSomeSorted g (ToInt (ToWord n a)) → is_width n ≡ true
int_width g n a h =
    let i = word_inv (word_width (sort_of (with_names h.0 g) (ToWord n a))) (λ m. number_sort) h.1 h.2 in
    word_wide (with_names h.0 g) n i.0 a i.1

pub child_sorted : (g : Scope) (e x : Exp) → IsSomeSorted g e → IsAmong x (children e) → IsSomeSorted g x
child_sorted g e x h i = by (children e) (children_sorted (with_names h.0 g) e (h.1, h.2)) i
  where
    by : (es : List Exp) → AreSorted (with_names h.0 g) es → IsAmong x es → IsSomeSorted g x
    by [] s k = absurd k
    by (c ∷ es) s (inl k) = (h.0, s.0.0, ap (λ y. sort_of (with_names h.0 g) y) k ∙ s.0.1)
    by (c ∷ es) s (inr k) = by es s.1 k
