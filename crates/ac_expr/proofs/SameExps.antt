-- Expressions that are found the same are.
use Rattle.std.proofs.Common.{◌≡◌, ℕ, ◌==◌, true, ◌&&◌, refl, ap, ap₂, ◌∙◌}
use Rattle.std.specs.Ordering.{int_eq}
use Rattle.std.proofs.lemmas.Bool.{and_parts, eqb-true, false≢true}
use Rattle.c_values.specs.Name.{same_name}
use Rattle.c_values.specs.Types.{same_type}
use Rattle.c_values.specs.Word.{Word, WordOp, Wadd, Wsub, Wmul, Wand, Wor, Wxor, Wudiv, Wumod, Wsdiv, Wsmod, ShiftOp, Wshl, Wushr, Wsshr, UnaryOp, Wneg, Wnot, WordTest, Wult, Wule, Wslt, Wsle}
use Rattle.c_values.specs.Number.{NumberOp, Add, Sub, Mul, Div, Mod, Neg}
use Rattle.c_values.proofs.Laid.{name_is}
use Rattle.expression_lang.proofs.Decided.{type_is, truth_is, number_is}
use Rattle.expression_lang.specs.Expression.{Exp, Var, WordLit, NumberLit, TruthLit, WordBinary, WordShift, WordUnary, WordCompare, Cast, ToNat, ToInt, ToWord, Arith, Negate, Lt, Le, Between, Eq, And, Or, Imp, Not, If, Padd, At, Load, Read, Tagged, PtrOk, Global, Sel, Upd, Path, Here, IntoField, IntoElement, CastOp, Zext, Sext, Trunc}
use Rattle.ac_expr.specs.SameExp.{number_of_word_op, number_of_shift_op, number_of_unary_op, number_of_word_test, number_of_cast_op, number_of_number_op, same_word_op, same_shift_op, same_unary_op, same_word_test, same_cast_op, same_number_op, same_word, same_exp, same_path}

word_op_numbered : (a b : WordOp) → number_of_word_op a ≡ number_of_word_op b → a ≡ b
word_op_numbered Wadd Wadd h = refl
word_op_numbered Wsub Wsub h = refl
word_op_numbered Wmul Wmul h = refl
word_op_numbered Wand Wand h = refl
word_op_numbered Wor Wor h = refl
word_op_numbered Wxor Wxor h = refl
word_op_numbered Wudiv Wudiv h = refl
word_op_numbered Wumod Wumod h = refl
word_op_numbered Wsdiv Wsdiv h = refl
word_op_numbered Wsmod Wsmod h = refl
word_op_numbered a b h = absurd cc

word_op_is : (a b : WordOp) → same_word_op a b ≡ true → a ≡ b
word_op_is a b h = word_op_numbered a b (eqb-true (number_of_word_op a) (number_of_word_op b) h)

shift_op_numbered : (a b : ShiftOp) → number_of_shift_op a ≡ number_of_shift_op b → a ≡ b
shift_op_numbered Wshl Wshl h = refl
shift_op_numbered Wushr Wushr h = refl
shift_op_numbered Wsshr Wsshr h = refl
shift_op_numbered a b h = absurd cc

shift_op_is : (a b : ShiftOp) → same_shift_op a b ≡ true → a ≡ b
shift_op_is a b h = shift_op_numbered a b (eqb-true (number_of_shift_op a) (number_of_shift_op b) h)

unary_op_numbered : (a b : UnaryOp) → number_of_unary_op a ≡ number_of_unary_op b → a ≡ b
unary_op_numbered Wneg Wneg h = refl
unary_op_numbered Wnot Wnot h = refl
unary_op_numbered a b h = absurd cc

unary_op_is : (a b : UnaryOp) → same_unary_op a b ≡ true → a ≡ b
unary_op_is a b h = unary_op_numbered a b (eqb-true (number_of_unary_op a) (number_of_unary_op b) h)

word_test_numbered : (a b : WordTest) → number_of_word_test a ≡ number_of_word_test b → a ≡ b
word_test_numbered Wult Wult h = refl
word_test_numbered Wule Wule h = refl
word_test_numbered Wslt Wslt h = refl
word_test_numbered Wsle Wsle h = refl
word_test_numbered a b h = absurd cc

word_test_is : (a b : WordTest) → same_word_test a b ≡ true → a ≡ b
word_test_is a b h = word_test_numbered a b (eqb-true (number_of_word_test a) (number_of_word_test b) h)

cast_op_numbered : (a b : CastOp) → number_of_cast_op a ≡ number_of_cast_op b → a ≡ b
cast_op_numbered Zext Zext h = refl
cast_op_numbered Sext Sext h = refl
cast_op_numbered Trunc Trunc h = refl
cast_op_numbered a b h = absurd cc

cast_op_is : (a b : CastOp) → same_cast_op a b ≡ true → a ≡ b
cast_op_is a b h = cast_op_numbered a b (eqb-true (number_of_cast_op a) (number_of_cast_op b) h)

number_op_numbered : (a b : NumberOp) → number_of_number_op a ≡ number_of_number_op b → a ≡ b
number_op_numbered Add Add h = refl
number_op_numbered Sub Sub h = refl
number_op_numbered Mul Mul h = refl
number_op_numbered Div Div h = refl
number_op_numbered Mod Mod h = refl
number_op_numbered Neg Neg h = refl
number_op_numbered a b h = absurd cc

number_op_is : (a b : NumberOp) → same_number_op a b ≡ true → a ≡ b
number_op_is a b h = number_op_numbered a b (eqb-true (number_of_number_op a) (number_of_number_op b) h)

word_is : (a b : Word) → same_word a b ≡ true → a ≡ b
word_is a b h =
    let k = and_parts (a.width == b.width) (a.bits == b.bits) h in
    ap₂ (λ w n. word_with w n) (eqb-true a.width b.width k.0) (eqb-true a.bits b.bits k.1)
  where
    word_with : ℕ → ℕ → Word
    word_with w n = record { width = w; bits = n }

nat_is : (a b : ℕ) → (a == b) ≡ true → a ≡ b
nat_is a b h = eqb-true a b h

mutual
  pub exp_is : (e f : Exp) → same_exp e f ≡ true → e ≡ f
  exp_is (Var a) (Var a') h = ap (λ x. Var x) (name_is a a' h)
  exp_is (WordLit a) (WordLit a') h = ap (λ x. WordLit x) (word_is a a' h)
  exp_is (NumberLit a) (NumberLit a') h = ap (λ x. NumberLit x) (number_is a a' h)
  exp_is (TruthLit a) (TruthLit a') h = ap (λ x. TruthLit x) (truth_is a a' h)
  exp_is (WordBinary a b c) (WordBinary a' b' c') h =
      let k = and_parts (same_word_op a a' && same_exp b b') (same_exp c c') h in
      let j = and_parts (same_word_op a a') (same_exp b b') k.0 in
      ap₂ (λ x y. WordBinary x y c) (word_op_is a a' j.0) (exp_is b b' j.1) ∙ ap (λ z. WordBinary a' b' z) (exp_is c c' k.1)
  exp_is (WordShift a b c) (WordShift a' b' c') h =
      let k = and_parts (same_shift_op a a' && same_exp b b') (same_exp c c') h in
      let j = and_parts (same_shift_op a a') (same_exp b b') k.0 in
      ap₂ (λ x y. WordShift x y c) (shift_op_is a a' j.0) (exp_is b b' j.1) ∙ ap (λ z. WordShift a' b' z) (exp_is c c' k.1)
  exp_is (WordUnary a b) (WordUnary a' b') h = let k = and_parts (same_unary_op a a') (same_exp b b') h in ap₂ (λ x y. WordUnary x y) (unary_op_is a a' k.0) (exp_is b b' k.1)
  exp_is (WordCompare a b c) (WordCompare a' b' c') h =
      let k = and_parts (same_word_test a a' && same_exp b b') (same_exp c c') h in
      let j = and_parts (same_word_test a a') (same_exp b b') k.0 in
      ap₂ (λ x y. WordCompare x y c) (word_test_is a a' j.0) (exp_is b b' j.1) ∙ ap (λ z. WordCompare a' b' z) (exp_is c c' k.1)
  exp_is (Cast a b c) (Cast a' b' c') h =
      let k = and_parts (same_cast_op a a' && (b == b')) (same_exp c c') h in
      let j = and_parts (same_cast_op a a') ((b == b')) k.0 in
      ap₂ (λ x y. Cast x y c) (cast_op_is a a' j.0) (nat_is b b' j.1) ∙ ap (λ z. Cast a' b' z) (exp_is c c' k.1)
  exp_is (ToNat a) (ToNat a') h = ap (λ x. ToNat x) (exp_is a a' h)
  exp_is (ToInt a) (ToInt a') h = ap (λ x. ToInt x) (exp_is a a' h)
  exp_is (ToWord a b) (ToWord a' b') h = let k = and_parts ((a == a')) (same_exp b b') h in ap₂ (λ x y. ToWord x y) (nat_is a a' k.0) (exp_is b b' k.1)
  exp_is (Arith a b c) (Arith a' b' c') h =
      let k = and_parts (same_number_op a a' && same_exp b b') (same_exp c c') h in
      let j = and_parts (same_number_op a a') (same_exp b b') k.0 in
      ap₂ (λ x y. Arith x y c) (number_op_is a a' j.0) (exp_is b b' j.1) ∙ ap (λ z. Arith a' b' z) (exp_is c c' k.1)
  exp_is (Negate a) (Negate a') h = ap (λ x. Negate x) (exp_is a a' h)
  exp_is (Lt a b) (Lt a' b') h = let k = and_parts (same_exp a a') (same_exp b b') h in ap₂ (λ x y. Lt x y) (exp_is a a' k.0) (exp_is b b' k.1)
  exp_is (Le a b) (Le a' b') h = let k = and_parts (same_exp a a') (same_exp b b') h in ap₂ (λ x y. Le x y) (exp_is a a' k.0) (exp_is b b' k.1)
  exp_is (Between a b c) (Between a' b' c') h =
      let k = and_parts (int_eq a a' && same_exp b b') (int_eq c c') h in
      let j = and_parts (int_eq a a') (same_exp b b') k.0 in
      ap₂ (λ x y. Between x y c) (number_is a a' j.0) (exp_is b b' j.1) ∙ ap (λ z. Between a' b' z) (number_is c c' k.1)
  exp_is (Eq a b) (Eq a' b') h = let k = and_parts (same_exp a a') (same_exp b b') h in ap₂ (λ x y. Eq x y) (exp_is a a' k.0) (exp_is b b' k.1)
  exp_is (And a b) (And a' b') h = let k = and_parts (same_exp a a') (same_exp b b') h in ap₂ (λ x y. And x y) (exp_is a a' k.0) (exp_is b b' k.1)
  exp_is (Or a b) (Or a' b') h = let k = and_parts (same_exp a a') (same_exp b b') h in ap₂ (λ x y. Or x y) (exp_is a a' k.0) (exp_is b b' k.1)
  exp_is (Imp a b) (Imp a' b') h = let k = and_parts (same_exp a a') (same_exp b b') h in ap₂ (λ x y. Imp x y) (exp_is a a' k.0) (exp_is b b' k.1)
  exp_is (Not a) (Not a') h = ap (λ x. Not x) (exp_is a a' h)
  exp_is (If a b c) (If a' b' c') h =
      let k = and_parts (same_exp a a' && same_exp b b') (same_exp c c') h in
      let j = and_parts (same_exp a a') (same_exp b b') k.0 in
      ap₂ (λ x y. If x y c) (exp_is a a' j.0) (exp_is b b' j.1) ∙ ap (λ z. If a' b' z) (exp_is c c' k.1)
  exp_is (Padd a b c) (Padd a' b' c') h =
      let k = and_parts (same_type a a' && same_exp b b') (same_exp c c') h in
      let j = and_parts (same_type a a') (same_exp b b') k.0 in
      ap₂ (λ x y. Padd x y c) (type_is a a' j.0) (exp_is b b' j.1) ∙ ap (λ z. Padd a' b' z) (exp_is c c' k.1)
  exp_is (At a b c) (At a' b' c') h =
      let k = and_parts (same_type a a' && same_exp b b') (same_path c c') h in
      let j = and_parts (same_type a a') (same_exp b b') k.0 in
      ap₂ (λ x y. At x y c) (type_is a a' j.0) (exp_is b b' j.1) ∙ ap (λ z. At a' b' z) (path_is c c' k.1)
  exp_is (Load a b c) (Load a' b' c') h =
      let k = and_parts (same_type a a' && same_exp b b') (same_path c c') h in
      let j = and_parts (same_type a a') (same_exp b b') k.0 in
      ap₂ (λ x y. Load x y c) (type_is a a' j.0) (exp_is b b' j.1) ∙ ap (λ z. Load a' b' z) (path_is c c' k.1)
  exp_is (Read a b c) (Read a' b' c') h =
      let k = and_parts (same_type a a' && same_exp b b') (same_path c c') h in
      let j = and_parts (same_type a a') (same_exp b b') k.0 in
      ap₂ (λ x y. Read x y c) (type_is a a' j.0) (exp_is b b' j.1) ∙ ap (λ z. Read a' b' z) (path_is c c' k.1)
  exp_is (Tagged a b) (Tagged a' b') h = let k = and_parts (same_type a a') (same_exp b b') h in ap₂ (λ x y. Tagged x y) (type_is a a' k.0) (exp_is b b' k.1)
  exp_is (PtrOk a b) (PtrOk a' b') h = let k = and_parts (same_type a a') (same_exp b b') h in ap₂ (λ x y. PtrOk x y) (type_is a a' k.0) (exp_is b b' k.1)
  exp_is (Global a b) (Global a' b') h = let k = and_parts (same_name a a') (same_path b b') h in ap₂ (λ x y. Global x y) (name_is a a' k.0) (path_is b b' k.1)
  exp_is (Sel a b) (Sel a' b') h = let k = and_parts (same_exp a a') (same_path b b') h in ap₂ (λ x y. Sel x y) (exp_is a a' k.0) (path_is b b' k.1)
  exp_is (Upd a b c) (Upd a' b' c') h =
      let k = and_parts (same_exp a a' && same_path b b') (same_exp c c') h in
      let j = and_parts (same_exp a a') (same_path b b') k.0 in
      ap₂ (λ x y. Upd x y c) (exp_is a a' j.0) (path_is b b' j.1) ∙ ap (λ z. Upd a' b' z) (exp_is c c' k.1)
  exp_is e f h = absurd (false≢true h)

  pub path_is : (e f : Path) → same_path e f ≡ true → e ≡ f
  path_is Here Here h = refl
  path_is (IntoField a b) (IntoField a' b') h = let k = and_parts ((a == a')) (same_path b b') h in ap₂ (λ x y. IntoField x y) (nat_is a a' k.0) (path_is b b' k.1)
  path_is (IntoElement a b) (IntoElement a' b') h = let k = and_parts (same_exp a a') (same_path b b') h in ap₂ (λ x y. IntoElement x y) (exp_is a a' k.0) (path_is b b' k.1)
  path_is e f h = absurd (false≢true h)
