-- The value of an expression of constants alone has a text where the expression has one: its words fit their widths, and its numbers have
-- a magnitude below 2^128.
use Rattle.std.proofs.Common.{◌≡◌, ℕ, ◌+◌, ◌-◌, ◌^◌, ◌<◌, ◌==◌, nat_lt, nat_le, Bool, true, false, cond, not, ◌&&◌, ◌||◌, Option, Some, None, ℤ, pos, negsuc, neg_ℤ, ◌+ℤ◌, ◌-ℤ◌, ◌*ℤ◌, refl, subst, arith}
use Rattle.std.specs.Prelude.{int_lt, unsigned_abs, bit_and, bit_or, bit_xor}
use Rattle.std.specs.Int.{int_div_euclid}
use Rattle.std.proofs.lemmas.Bool.{and_parts, and_from, lt-ltb, ltb-true}
use Rattle.std.proofs.lemmas.Nat.{pow_pos}
use Rattle.c_values.specs.Types.{Target, Ilp32, Lp64, address_width}
use Rattle.c_values.specs.Word.{Word, unsigned, signed, word, WordOp, Wadd, Wsub, Wmul, Wand, Wor, Wxor, Wudiv, Wumod, Wsdiv, Wsmod, ShiftOp, Wshl, Wushr, Wsshr, UnaryOp, Wneg, Wnot, word_op, word_shift, is_shift, power_of_two, word_unary}
use Rattle.c_values.specs.Number.{number_op, quotient, remainder}
use Rattle.c_values.specs.Value.{Value, Bits, Number, Truth, Parts}
use Rattle.c_values.specs.Layout.{Layout, Shape, space, size_of, shape_of, is_object}
use Rattle.c_values.specs.Path.{Spot, Field, Index, step_spot}
use Rattle.c_memory.specs.CodePlace.{place_from}
use Rattle.c_memory.specs.Memory.{address_at}
use Rattle.c_memory.specs.Tags.{is_pointer_ok}
use Rattle.expression_lang.specs.Expression.{Exp, WordLit, NumberLit, TruthLit, WordBinary, WordShift, WordUnary, WordCompare, Cast, CastOp, Zext, Sext, Trunc, ToNat, ToInt, ToWord, Arith, Negate, Lt, Le, Between, Eq, And, Or, Imp, Not, If, Padd, At, PtrOk, Path, Here, IntoField, IntoElement}
use Rattle.expression_lang.specs.Evaluation.{cast_op, if_truth}
use Rattle.expression_lang.proofs.Good.{rem_below, address_below}
use Rattle.expression_text.specs.Numbers.{is_number}
use Rattle.expression_text.specs.TypeText.{is_type}
use Rattle.expression_text.specs.ExpText.{is_width, is_of_two, is_exp, is_path}
use Rattle.ac_expr.specs.CodeConstants.{of_one, of_two, by_word, by_number, by_truth, by_words, by_numbers, by_truths, narrow, test_words, join_words, of_width, at_address, by_address, pointer, at_place, number_of, at_index, computed, computed_at, as_constant}
use Rattle.expression_steps.specs.Shortened.{folded}

abbrev FitsValue : Value → Type 0
FitsValue (Bits w) = is_width w.width && nat_lt w.bits (2 ^ w.width) ≡ true
FitsValue (Number n) = is_number n ≡ true
FitsValue (Truth b) = Unit {0}
FitsValue (Parts vs) = Unit {0}

abbrev Fits : Option Value → Type 0
Fits None = Unit {0}
Fits (Some v) = FitsValue v

-- Words and numbers

word_fits : (n : ℕ) (z : ℤ) → is_width n ≡ true → FitsValue (Bits (word n z))
word_fits n z h = and_from (is_width n) _ h (lt-ltb _ (2 ^ n) (rem_below z (2 ^ n) (pow_pos n)))

has_width : (w : Word) → FitsValue (Bits w) → is_width w.width ≡ true
has_width w h = (and_parts (is_width w.width) (nat_lt w.bits (2 ^ w.width)) h).0

op_fits : (op : WordOp) (a b : Word) → is_width a.width ≡ true → FitsValue (Bits (word_op op a b))
op_fits Wadd a b h = word_fits a.width (unsigned a +ℤ unsigned b) h
op_fits Wsub a b h = word_fits a.width (unsigned a -ℤ unsigned b) h
op_fits Wmul a b h = word_fits a.width (unsigned a *ℤ unsigned b) h
op_fits Wand a b h = word_fits a.width (pos (bit_and a.bits b.bits)) h
op_fits Wor a b h = word_fits a.width (pos (bit_or a.bits b.bits)) h
op_fits Wxor a b h = word_fits a.width (pos (bit_xor a.bits b.bits)) h
op_fits Wudiv a b h = word_fits a.width (quotient (unsigned a) (unsigned b)) h
op_fits Wumod a b h = word_fits a.width (remainder (unsigned a) (unsigned b)) h
op_fits Wsdiv a b h = word_fits a.width (quotient (signed a) (signed b)) h
op_fits Wsmod a b h = word_fits a.width (remainder (signed a) (signed b)) h

either_fits : (b : Bool) (v w : Word) → FitsValue (Bits v) → FitsValue (Bits w) → FitsValue (Bits (cond b v w))
either_fits true v w h k = h
either_fits false v w h k = k

shift_fits : (op : ShiftOp) (a : Word) (n : ℤ) → is_width a.width ≡ true → FitsValue (Bits (word_shift op a n))
shift_fits Wshl a n h =
    either_fits (is_shift a.width n) (word a.width (unsigned a *ℤ power_of_two n)) (word a.width (pos 0))
    (word_fits a.width (unsigned a *ℤ power_of_two n) h) (word_fits a.width (pos 0) h)
shift_fits Wushr a n h =
    either_fits (is_shift a.width n) (word a.width (int_div_euclid (unsigned a) (power_of_two n))) (word a.width (pos 0))
    (word_fits a.width (int_div_euclid (unsigned a) (power_of_two n)) h) (word_fits a.width (pos 0) h)
shift_fits Wsshr a n h =
    let rest = cond (int_lt (signed a) (pos 0)) (negsuc 0) (pos 0) in
    either_fits (is_shift a.width n) (word a.width (int_div_euclid (signed a) (power_of_two n))) (word a.width rest)
    (word_fits a.width (int_div_euclid (signed a) (power_of_two n)) h) (word_fits a.width rest h)

unary_fits : (op : UnaryOp) (a : Word) → is_width a.width ≡ true → FitsValue (Bits (word_unary op a))
unary_fits Wneg a h = word_fits a.width (neg_ℤ (unsigned a)) h
unary_fits Wnot a h = word_fits a.width (pos (2 ^ a.width - 1) -ℤ unsigned a) h

cast_fits : (op : CastOp) (n : ℕ) (a : Word) → is_width n ≡ true → FitsValue (Bits (cast_op op n a))
cast_fits Zext n a h = word_fits n (unsigned a) h
cast_fits Sext n a h = word_fits n (signed a) h
cast_fits Trunc n a h = word_fits n (unsigned a) h

magnitude : (n : ℤ) → nat_le (2 ^ 128) (unsigned_abs n) ≡ false → is_number n ≡ true
magnitude (pos n) h = lt-ltb n (2 ^ 128) (grind arith)
magnitude (negsuc n) h = lt-ltb (n + 1) (2 ^ 128) (grind arith)

narrow_fits : (n : ℤ) → Fits (narrow n)
narrow_fits n = by_test (nat_le (2 ^ 128) (unsigned_abs n)) refl
  where
    by_test : (b : Bool) → nat_le (2 ^ 128) (unsigned_abs n) ≡ b → Fits (cond b None (Some (Number n)))
    by_test true e = tt
    by_test false e = magnitude n e

-- Options

one_fits : (o : Option Value) (f : Value → Option Value) → Fits o → ((v : Value) → FitsValue v → Fits (f v)) → Fits (of_one o f)
one_fits None f h k = tt
one_fits (Some v) f h k = k v h

two_fit : (o p : Option Value) (f : Value → Value → Option Value) → Fits o → Fits p →
    ((v w : Value) → FitsValue v → FitsValue w → Fits (f v w)) → Fits (of_two o p f)
two_fit (Some v) (Some w) f h i k = k v w h i
two_fit _ _ _ _ _ _ = tt

word_there : (f : Word → Option Value) (v : Value) → FitsValue v → ((w : Word) → FitsValue (Bits w) → Fits (f w)) →
    Fits (by_word f v)
word_there f (Bits w) h k = k w h
word_there _ _ _ _ = tt

number_there : (f : ℤ → Option Value) (v : Value) → ((n : ℤ) → Fits (f n)) → Fits (by_number f v)
number_there f (Number n) k = k n
number_there _ _ _ = tt

truth_there : (f : Bool → Option Value) (v : Value) → ((b : Bool) → Fits (f b)) → Fits (by_truth f v)
truth_there f (Truth b) k = k b
truth_there _ _ _ = tt

where_fits : (b : Bool) (o : Option Value) → Fits o → Fits (cond b o None)
where_fits true o h = h
where_fits false o h = tt

words_there : (f : Word → Word → Option Value) (v w : Value) → FitsValue v →
    ((a b : Word) → FitsValue (Bits a) → Fits (f a b)) → Fits (by_words f v w)
words_there f (Bits a) (Bits b) h k = where_fits (a.width == b.width) (f a b) (k a b h)
words_there _ _ _ _ _ = tt

numbers_there : (f : ℤ → ℤ → Option Value) (v w : Value) → ((m n : ℤ) → Fits (f m n)) → Fits (by_numbers f v w)
numbers_there f (Number m) (Number n) k = k m n
numbers_there _ _ _ _ = tt

truths_there : (f : Bool → Bool → Bool) (v w : Value) → Fits (by_truths f v w)
truths_there f (Truth a) (Truth b) = tt
truths_there _ _ _ = tt

width_fits : (n : ℕ) (w : Word) → (is_width n ≡ true → FitsValue (Bits w)) → Fits (of_width n w)
width_fits n w h = by_test (is_width n) h
  where
    by_test : (b : Bool) → (b ≡ true → FitsValue (Bits w)) → Fits (cond b (Some (Bits w)) None)
    by_test true k = k refl
    by_test false k = tt

chosen_fits : (b : Bool) (v w : Value) → FitsValue v → FitsValue w → FitsValue (if_truth b v w)
chosen_fits true v w h k = h
chosen_fits false v w h k = k

-- Addresses

address_is_width : (t : Target) → is_width (address_width t) ≡ true
address_is_width Ilp32 = refl
address_is_width Lp64 = refl

pointer_fits : (l : Layout) (a : ℕ) → a < space l → Fits (pointer l a)
pointer_fits l a h = and_from _ _ (address_is_width l.target) (lt-ltb a (2 ^ address_width l.target) h)

address_there : (l : Layout) (f : ℕ → Option Value) (v : Value) → ((a : ℕ) → a < space l → Fits (f a)) → Fits (by_address l f v)
address_there l f (Bits w) k =
    by_test ((w.width == address_width l.target) && nat_lt w.bits (space l)) refl
  where
    by_test : (b : Bool) → (w.width == address_width l.target) && nat_lt w.bits (space l) ≡ b →
        Fits (at_address (cond b (Some w.bits) None) f)
    by_test true e =
        k w.bits (ltb-true w.bits (space l) (and_parts (w.width == address_width l.target) (nat_lt w.bits (space l)) e).1)
    by_test false e = tt
address_there _ _ _ _ = tt

place_there : (l : Layout) (a : ℕ) (o : Option Spot) (f : Shape → ℕ → Option Value) →
    ((s : Shape) (b : ℕ) → b < space l → Fits (f s b)) → Fits (at_place (place_from (space l) a o) f)
place_there l a None f k = tt
place_there l a (Some q) f k = k q.shape (address_at (space l) a q.offset) (address_below l a q.offset)

index_there : (o : Option ℤ) (f : ℤ → Option Value) → ((n : ℤ) → Fits (f n)) → Fits (at_index o f)
index_there None f k = tt
index_there (Some n) f k = k n

-- Expressions

at_fits : (l : Layout) (path : Path) (s : Shape) (a : ℕ) → a < space l → Fits (computed_at l path s a)
at_fits l Here s a h = pointer_fits l a h
at_fits l (IntoField k path) s a h =
    place_there l a (step_spot s (Field k)) (λ q b. computed_at l path q b) (λ q b i. at_fits l path q b i)
at_fits l (IntoElement e path) s a h =
    index_there (number_of (computed l e))
    (λ n. at_place (place_from (space l) a (step_spot s (Index n))) (λ q b. computed_at l path q b))
    (λ n. place_there l a (step_spot s (Index n)) (λ q b. computed_at l path q b) (λ q b i. at_fits l path q b i))

fits : (l : Layout) (e : Exp) → is_exp e ≡ true → Fits (computed l e)
fits l (WordLit w) h = h
fits l (NumberLit n) h = narrow_fits n
fits l (WordBinary op a b) h =
    let p = and_parts (is_exp a) (is_exp b) h in
    two_fit (computed l a) (computed l b) (by_words (join_words op)) (fits l a p.0) (fits l b p.1)
    (λ v w i j. words_there (join_words op) v w i (λ x y k. op_fits op x y (has_width x k)))
fits l (WordShift op a n) h =
    let p = and_parts (is_exp a) (is_exp n) h in
    two_fit (computed l a) (computed l n) _ (fits l a p.0) (fits l n p.1)
    (λ v k i j. word_there _ v i (λ w m. number_there _ k (λ z. shift_fits op w z (has_width w m))))
fits l (WordUnary op a) h =
    one_fits (computed l a) _ (fits l a h) (λ v i. word_there _ v i (λ w k. unary_fits op w (has_width w k)))
fits l (WordCompare op a b) h =
    let p = and_parts (is_exp a) (is_exp b) h in
    two_fit (computed l a) (computed l b) (by_words (test_words op)) (fits l a p.0) (fits l b p.1)
    (λ v w i j. words_there (test_words op) v w i (λ x y k. tt))
fits l (Cast op width a) h =
    let p = and_parts (is_width width) (is_exp a) h in
    one_fits (computed l a) _ (fits l a p.1)
    (λ v i. word_there _ v i (λ w k. width_fits width (cast_op op width w) (λ m. cast_fits op width w m)))
fits l (ToNat a) h = one_fits (computed l a) _ (fits l a h) (λ v i. word_there _ v i (λ w k. narrow_fits (unsigned w)))
fits l (ToInt a) h = one_fits (computed l a) _ (fits l a h) (λ v i. word_there _ v i (λ w k. narrow_fits (signed w)))
fits l (ToWord width a) h =
    let p = and_parts (is_width width) (is_exp a) h in
    one_fits (computed l a) _ (fits l a p.1)
    (λ v i. number_there _ v (λ n. width_fits width (word width n) (λ m. word_fits width n m)))
fits l (Arith op a b) h =
    let q = and_parts (is_of_two op) (is_exp a && is_exp b) h in
    let p = and_parts (is_exp a) (is_exp b) q.1 in
    two_fit (computed l a) (computed l b) _ (fits l a p.0) (fits l b p.1)
    (λ v w i j. numbers_there _ v w (λ m n. narrow_fits (number_op op m n)))
fits l (Negate a) h = one_fits (computed l a) _ (fits l a h) (λ v i. number_there _ v (λ n. narrow_fits (neg_ℤ n)))
fits l (Lt a b) h =
    let p = and_parts (is_exp a) (is_exp b) h in
    two_fit (computed l a) (computed l b) _ (fits l a p.0) (fits l b p.1) (λ v w i j. numbers_there _ v w (λ m n. tt))
fits l (Le a b) h =
    let p = and_parts (is_exp a) (is_exp b) h in
    two_fit (computed l a) (computed l b) _ (fits l a p.0) (fits l b p.1) (λ v w i j. numbers_there _ v w (λ m n. tt))
fits l (Between low a high) h =
    let q = and_parts (is_number low) (is_exp a && is_number high) h in
    let p = and_parts (is_exp a) (is_number high) q.1 in
    one_fits (computed l a) _ (fits l a p.0) (λ v i. number_there _ v (λ n. tt))
fits l (Eq a b) h =
    let p = and_parts (is_exp a) (is_exp b) h in
    two_fit (computed l a) (computed l b) _ (fits l a p.0) (fits l b p.1) (λ v w i j. tt)
fits l (And a b) h =
    let p = and_parts (is_exp a) (is_exp b) h in
    two_fit (computed l a) (computed l b) _ (fits l a p.0) (fits l b p.1) (λ v w i j. truths_there (λ x y. x && y) v w)
fits l (Or a b) h =
    let p = and_parts (is_exp a) (is_exp b) h in
    two_fit (computed l a) (computed l b) _ (fits l a p.0) (fits l b p.1) (λ v w i j. truths_there (λ x y. x || y) v w)
fits l (Imp a b) h =
    let p = and_parts (is_exp a) (is_exp b) h in
    two_fit (computed l a) (computed l b) _ (fits l a p.0) (fits l b p.1) (λ v w i j. truths_there (λ x y. not x || y) v w)
fits l (Not a) h = one_fits (computed l a) _ (fits l a h) (λ v i. truth_there _ v (λ b. tt))
fits l (If c a b) h =
    let q = and_parts (is_exp c) (is_exp a && is_exp b) h in
    let p = and_parts (is_exp a) (is_exp b) q.1 in
    one_fits (computed l c) _ (fits l c q.0)
    (λ v i.
    truth_there _ v
    (λ x. two_fit (computed l a) (computed l b) _ (fits l a p.0) (fits l b p.1) (λ u w j k. chosen_fits x u w j k)))
fits l (Padd t p n) h =
    let q = and_parts (is_type t) (is_exp p && is_exp n) h in
    let r = and_parts (is_exp p) (is_exp n) q.1 in
    two_fit (computed l p) (computed l n) _ (fits l p r.0) (fits l n r.1)
    (λ v k i j.
    address_there l _ v
    (λ a m. number_there _ k (λ z. where_fits (is_object l t) _ (pointer_fits l _ (address_below l a (z *ℤ pos (size_of l t)))))))
fits l (At t p path) h =
    let q = and_parts (is_type t) (is_exp p && is_path path) h in
    one_fits (computed l p) _ (fits l p (and_parts (is_exp p) (is_path path) q.1).0)
    (λ v i. address_there l _ v (λ a m. where_fits (is_object l t) _ (at_fits l path (shape_of l t) a m)))
fits l (PtrOk t p) h =
    let q = and_parts (is_type t) (is_exp p) h in
    one_fits (computed l p) _ (fits l p q.1)
    (λ v i. address_there l _ v (λ a m. where_fits (is_object l t) (Some (Truth (is_pointer_ok l t a))) tt))
fits _ _ _ = tt

some_same : (a b : Exp) → ◌≡◌ {A = Option Exp} (Some a) (Some b) → a ≡ b
some_same a b h = cc

constant_text : (o : Option Value) (r : Exp) → Fits o → as_constant o ≡ Some r → is_exp r ≡ true
constant_text (Some (Bits w)) r h e = subst (λ a. is_exp a ≡ true) (some_same (WordLit w) r e) h
constant_text (Some (Number n)) r h e = subst (λ a. is_exp a ≡ true) (some_same (NumberLit n) r e) h
constant_text (Some (Truth b)) r h e = subst (λ a. is_exp a ≡ true) (some_same (TruthLit b) r e) refl
constant_text _ r h e = absurd cc

pub folded_text : (l : Layout) (a r : Exp) → folded l a ≡ Some r → is_exp a ≡ true → is_exp r ≡ true
folded_text l (WordLit w) r e h = absurd cc
folded_text l (NumberLit n) r e h = absurd cc
folded_text l (TruthLit b) r e h = absurd cc
folded_text l a r e h = constant_text (computed l a) r (fits l a h) e
