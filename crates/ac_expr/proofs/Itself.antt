-- An expression is the same as itself.
use Rattle.std.proofs.Common.{◌≡◌, ℕ, ◌==◌, Bool, true, false, ◌&&◌, ℤ, refl, eq-eqb}
use Rattle.std.specs.Ordering.{int_eq}
use Rattle.std.proofs.lemmas.Bool.{and_from}
use Rattle.std.proofs.lemmas.Bool.Decides.{Decides-int_eq}
use Rattle.c_values.specs.Name.{same_name}
use Rattle.c_values.specs.Types.{same_type}
use Rattle.c_values.specs.CodeSameType.{same_type-refl}
use Rattle.c_values.specs.Word.{Word}
use Rattle.c_values.specs.Value.{same_truth}
use Rattle.c_values.proofs.Laid.{same_name-refl}
use Rattle.expression_lang.specs.Expression.{Exp, Var, WordLit, NumberLit, TruthLit, WordBinary, WordShift, WordUnary, WordCompare, Cast, ToNat, ToInt, ToWord, Arith, Negate, Lt, Le, Between, Eq, And, Or, Imp, Not, If, Padd, At, Load, Read, Tagged, PtrOk, Global, Sel, Upd, Path, Here, IntoField, IntoElement}
use Rattle.ac_expr.specs.SameExp.{number_of_word_op, number_of_shift_op, number_of_unary_op, number_of_word_test, number_of_cast_op, number_of_number_op, same_word_op, same_shift_op, same_unary_op, same_word_test, same_cast_op, same_number_op, same_word, same_exp, same_path}

nat_itself : (n : ℕ) → (n == n) ≡ true
nat_itself n = eq-eqb n n refl

int_itself : (n : ℤ) → int_eq n n ≡ true
int_itself n = (Decides-int_eq n n).1 refl

truth_itself : (b : Bool) → same_truth b b ≡ true
truth_itself true = refl
truth_itself false = refl

word_itself : (w : Word) → same_word w w ≡ true
word_itself w = and_from (w.width == w.width) (w.bits == w.bits) (nat_itself w.width) (nat_itself w.bits)

mutual
  pub exp_itself : (e : Exp) → same_exp e e ≡ true
  exp_itself (Var a) = same_name-refl a
  exp_itself (WordLit a) = word_itself a
  exp_itself (NumberLit a) = int_itself a
  exp_itself (TruthLit a) = truth_itself a
  exp_itself (WordBinary a b c) =
      and_from ((same_word_op a a) && (same_exp b b)) (same_exp c c)
      (and_from (same_word_op a a) (same_exp b b) (nat_itself (number_of_word_op a)) (exp_itself b)) (exp_itself c)
  exp_itself (WordShift a b c) =
      and_from ((same_shift_op a a) && (same_exp b b)) (same_exp c c)
      (and_from (same_shift_op a a) (same_exp b b) (nat_itself (number_of_shift_op a)) (exp_itself b)) (exp_itself c)
  exp_itself (WordUnary a b) = and_from (same_unary_op a a) (same_exp b b) (nat_itself (number_of_unary_op a)) (exp_itself b)
  exp_itself (WordCompare a b c) =
      and_from ((same_word_test a a) && (same_exp b b)) (same_exp c c)
      (and_from (same_word_test a a) (same_exp b b) (nat_itself (number_of_word_test a)) (exp_itself b)) (exp_itself c)
  exp_itself (Cast a b c) =
      and_from ((same_cast_op a a) && (b == b)) (same_exp c c)
      (and_from (same_cast_op a a) (b == b) (nat_itself (number_of_cast_op a)) (nat_itself b)) (exp_itself c)
  exp_itself (ToNat a) = exp_itself a
  exp_itself (ToInt a) = exp_itself a
  exp_itself (ToWord a b) = and_from (a == a) (same_exp b b) (nat_itself a) (exp_itself b)
  exp_itself (Arith a b c) =
      and_from ((same_number_op a a) && (same_exp b b)) (same_exp c c)
      (and_from (same_number_op a a) (same_exp b b) (nat_itself (number_of_number_op a)) (exp_itself b)) (exp_itself c)
  exp_itself (Negate a) = exp_itself a
  exp_itself (Lt a b) = and_from (same_exp a a) (same_exp b b) (exp_itself a) (exp_itself b)
  exp_itself (Le a b) = and_from (same_exp a a) (same_exp b b) (exp_itself a) (exp_itself b)
  exp_itself (Between a b c) =
      and_from ((int_eq a a) && (same_exp b b)) (int_eq c c) (and_from (int_eq a a) (same_exp b b) (int_itself a) (exp_itself b))
      (int_itself c)
  exp_itself (Eq a b) = and_from (same_exp a a) (same_exp b b) (exp_itself a) (exp_itself b)
  exp_itself (And a b) = and_from (same_exp a a) (same_exp b b) (exp_itself a) (exp_itself b)
  exp_itself (Or a b) = and_from (same_exp a a) (same_exp b b) (exp_itself a) (exp_itself b)
  exp_itself (Imp a b) = and_from (same_exp a a) (same_exp b b) (exp_itself a) (exp_itself b)
  exp_itself (Not a) = exp_itself a
  exp_itself (If a b c) =
      and_from ((same_exp a a) && (same_exp b b)) (same_exp c c)
      (and_from (same_exp a a) (same_exp b b) (exp_itself a) (exp_itself b)) (exp_itself c)
  exp_itself (Padd a b c) =
      and_from ((same_type a a) && (same_exp b b)) (same_exp c c)
      (and_from (same_type a a) (same_exp b b) (same_type-refl a) (exp_itself b)) (exp_itself c)
  exp_itself (At a b c) =
      and_from ((same_type a a) && (same_exp b b)) (same_path c c)
      (and_from (same_type a a) (same_exp b b) (same_type-refl a) (exp_itself b)) (path_itself c)
  exp_itself (Load a b c) =
      and_from ((same_type a a) && (same_exp b b)) (same_path c c)
      (and_from (same_type a a) (same_exp b b) (same_type-refl a) (exp_itself b)) (path_itself c)
  exp_itself (Read a b c) =
      and_from ((same_type a a) && (same_exp b b)) (same_path c c)
      (and_from (same_type a a) (same_exp b b) (same_type-refl a) (exp_itself b)) (path_itself c)
  exp_itself (Tagged a b) = and_from (same_type a a) (same_exp b b) (same_type-refl a) (exp_itself b)
  exp_itself (PtrOk a b) = and_from (same_type a a) (same_exp b b) (same_type-refl a) (exp_itself b)
  exp_itself (Global a b) = and_from (same_name a a) (same_path b b) (same_name-refl a) (path_itself b)
  exp_itself (Sel a b) = and_from (same_exp a a) (same_path b b) (exp_itself a) (path_itself b)
  exp_itself (Upd a b c) =
      and_from ((same_exp a a) && (same_path b b)) (same_exp c c)
      (and_from (same_exp a a) (same_path b b) (exp_itself a) (path_itself b)) (exp_itself c)

  path_itself : (path : Path) → same_path path path ≡ true
  path_itself Here = refl
  path_itself (IntoField a b) = and_from (a == a) (same_path b b) (nat_itself a) (path_itself b)
  path_itself (IntoElement a b) = and_from (same_exp a a) (same_path b b) (exp_itself a) (path_itself b)
