-- The sort of a name or a constant, and that of an operation from the sorts of its operands.
use Rattle.std.specs.Prelude.{◌^◌, nat_lt, not, ◌&&◌, Option, None}
use Rattle.c_values.specs.Name.{Name}
use Rattle.c_values.specs.Types.{address_width}
use Rattle.c_values.specs.Layout.{Layout, is_object}
use Rattle.expression_lang.specs.Expression.{Exp, Var, WordLit, NumberLit, TruthLit, WordBinary, WordShift, WordUnary, WordCompare, Cast, ToNat, ToInt, ToWord, Arith, Negate, Lt, Le, Between, Eq, Not, Padd, Tagged, PtrOk}
use Rattle.expression_lang.specs.Sort.{Scalar, Sort, scalar_sort, is_width, word_width, is_number, is_truth, is_word_of, is_unary, word_sort, number_sort, truth_sort, where_holds, of_words, of_word, are_same, cast_fits}

abbrev pub leaf_sort : (Name → Option Scalar) → Exp → Option Sort
leaf_sort names (Var x) = scalar_sort (names x)
leaf_sort names (WordLit w) = where_holds (is_width w.width && nat_lt w.bits (2 ^ w.width)) (word_sort w.width)
leaf_sort names (NumberLit n) = number_sort
leaf_sort names (TruthLit b) = truth_sort
leaf_sort names _ = None

abbrev pub unary_sort : Layout → Exp → Option Sort → Option Sort
unary_sort l (WordUnary op a) s = of_word (word_width s) word_sort
unary_sort l (Cast op width a) s = of_word (word_width s) (λ from. where_holds (is_width width && cast_fits op from width) (word_sort width))
unary_sort l (ToNat a) s = of_word (word_width s) (λ n. number_sort)
unary_sort l (ToInt a) s = of_word (word_width s) (λ n. number_sort)
unary_sort l (ToWord width a) s = where_holds (is_width width && is_number s) (word_sort width)
unary_sort l (Negate a) s = where_holds (is_number s) number_sort
unary_sort l (Between low a high) s = where_holds (is_number s) truth_sort
unary_sort l (Not a) s = where_holds (is_truth s) truth_sort
unary_sort l (Tagged t p) s = where_holds (is_object l t && is_word_of (address_width l.target) s) truth_sort
unary_sort l (PtrOk t p) s = where_holds (is_object l t && is_word_of (address_width l.target) s) truth_sort
unary_sort l _ s = None

abbrev pub binary_sort : Layout → Exp → Option Sort → Option Sort → Option Sort
binary_sort l (WordBinary op a b) s r = of_words (word_width s) (word_width r) word_sort
binary_sort l (WordShift op a n) s r = where_holds (is_number r) (of_word (word_width s) word_sort)
binary_sort l (WordCompare op a b) s r = of_words (word_width s) (word_width r) (λ n. truth_sort)
binary_sort l (Arith op a b) s r = where_holds (not (is_unary op) && is_number s && is_number r) number_sort
binary_sort l (Lt a b) s r = where_holds (is_number s && is_number r) truth_sort
binary_sort l (Le a b) s r = where_holds (is_number s && is_number r) truth_sort
binary_sort l (Eq a b) s r = where_holds (are_same s r) truth_sort
binary_sort l (Padd t p n) s r = where_holds (is_object l t && is_word_of (address_width l.target) s && is_number r) (word_sort (address_width l.target))
binary_sort l _ s r = None
