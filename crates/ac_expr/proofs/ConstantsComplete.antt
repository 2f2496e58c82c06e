-- Of a well-sorted expression of constants alone a value is computed, of its sort.
use Rattle.std.proofs.Common.{◌≡◌, ◌<◌, ℕ, ◌^◌, ◌==◌, nat_lt, Bool, true, false, not, cond, ◌&&◌, ◌||◌, Option, Some, None, ℤ, pos, ◌-◌, refl, sym, ap, ap₂, ◌∙◌, subst}
use Rattle.std.specs.Prelude.{neg_ℤ, ◌*ℤ◌, int_lt, int_le}
use Rattle.std.proofs.lemmas.Bool.{and_parts, and_from, or_parts, ltb-true, true≢false}
use Rattle.std.proofs.lemmas.Bool.Decides.{Decides-eqb, Decides-ltb}
use Rattle.c_values.specs.Types.{address_width}
use Rattle.c_values.specs.Word.{Word, IsWord, unsigned, signed, word, word_op, word_shift, word_unary, word_test}
use Rattle.c_values.specs.Number.{number_op, is_between}
use Rattle.c_values.specs.Value.{Value, Bits, Number, Truth, word_in, number_in, same_value}
use Rattle.c_values.specs.Layout.{Layout, Shape, Record, Row, space, size, size_of, shape_of, is_object}
use Rattle.c_values.specs.Path.{Spot, Field, Index, member_spot, step_spot, IsBits}
use Rattle.c_values.proofs.Options.{some_is}
use Rattle.c_memory.specs.Memory.{address_at}
use Rattle.c_memory.specs.CodePlace.{place_from}
use Rattle.c_memory.specs.Tags.{is_pointer_ok}
use Rattle.expression_lang.specs.Expression.{Exp, WordLit, NumberLit, TruthLit, WordBinary, WordShift, WordUnary, WordCompare, Cast, ToNat, ToInt, ToWord, Arith, Negate, Lt, Le, Between, Eq, And, Or, Imp, Not, If, Padd, At, Load, Read, PtrOk, Sel, Path, Here, IntoField, IntoElement}
use Rattle.expression_lang.specs.Evaluation.{cast_op, if_truth}
use Rattle.expression_lang.specs.Form.{has, path_has}
use Rattle.expression_lang.specs.Sort.{Scope, Sort, Of, PartsSort, WordSort, NumberSort, TruthSort, sort_of, shape_along, shape_in, is_width, is_unary, word_width, word_sort, is_word_of, is_number, is_truth, are_same, number_sort, truth_sort, where_holds, of_word, of_shape, cast_fits}
use Rattle.expression_lang.specs.States.{IsOfSort}
use Rattle.expression_lang.proofs.Good.{address_below}
use Rattle.expression_lang.proofs.Inversion.{where_inv, words_inv, word_inv, width_inv, number_inv, truth_inv, word_of_inv, same_inv, shape_inv}
use Rattle.expression_lang.proofs.Fine.{op_word, shift_word, unary_word, cast_word}
use Rattle.expression_lang.proofs.Filled.{word_fits}
use Rattle.ac_expr.specs.CodeConstants.{of_one, of_two, by_word, by_number, by_truth, by_words, by_numbers, by_truths, narrow, test_words, join_words, of_width, by_address, pointer, moved_by, object_ok, at_address, at_place, number_of, at_index, computed, computed_at}
use Rattle.ac_expr.specs.Step.{is_wide}
use Rattle.ac_expr.proofs.ConstantsSound.{test, at, right, itself_not_wide}

-- words of a width

-- where something is computed

if_some : (b : Bool) (o : Option Value) → b ≡ true → cond b o None ≡ o
if_some true o h = refl
if_some false o h = absurd (true≢false (sym h))

narrow_some : (n : ℤ) → is_wide (Number n) ≡ false → narrow n ≡ Some (Number n)
narrow_some n h = ap (λ b. cond b None (Some (Number n))) h

address_some : (l : Layout) (f : ℕ → Option Value) (w : Word) → IsWord (address_width l.target) w → by_address l f (Bits w) ≡ f w.bits
address_some l f w h =
    ap (λ b. at_address (cond b (Some w.bits) None) f)
    (and_from (w.width == address_width l.target) (nat_lt w.bits (space l)) ((Decides-eqb w.width (address_width l.target)).1 h.has_width)
    ((Decides-ltb w.bits (space l)).1 h.fits))

words_some : (n : ℕ) (f : Word → Word → Option Value) (v w : Word) → IsWord n v → IsWord n w → by_words f (Bits v) (Bits w) ≡ f v w
words_some n f v w h k = if_some (v.width == w.width) (f v w) ((Decides-eqb v.width w.width).1 (h.has_width ∙ sym k.has_width))

abbrev pub OfSort : Sort → Value → Type 0
OfSort (Of c) v = IsOfSort c v
OfSort (PartsSort t) v = ⊥

module _ (g : Scope) where
  abbrev l : Layout
  l = g.layout

  abbrev Alone : Exp → Type 0
  Alone e = has (test g.layout) e ≡ false

  abbrev width : ℕ
  width = address_width g.layout.target

  pub record Computes (e : Exp) (o : Sort) : Type 0 where
    pub value : Value
    pub is : computed g.layout e ≡ Some value
    pub sort : OfSort o value

  -- by the sort
  as_word : (e : Exp) (n : ℕ) → Computes e (Of (WordSort n)) → (w : Word) × (computed l e ≡ Some (Bits w)) × IsWord n w
  as_word e n h = by h.value h.is h.sort
    where
      by : (v : Value) → computed l e ≡ Some v → IsBits n v → (w : Word) × (computed l e ≡ Some (Bits w)) × IsWord n w
      by (Bits w) k b = (w, k, b)
      by _ _ b = absurd b

  as_number : (e : Exp) → Computes e (Of NumberSort) → (n : ℤ) × (computed l e ≡ Some (Number n))
  as_number e h = by h.value h.is h.sort
    where
      by : (v : Value) → computed l e ≡ Some v → IsOfSort NumberSort v → (n : ℤ) × (computed l e ≡ Some (Number n))
      by (Number z) k b = (z, k)
      by _ _ b = absurd b

  as_truth : (e : Exp) → Computes e (Of TruthSort) → (b : Bool) × (computed l e ≡ Some (Truth b))
  as_truth e h = by h.value h.is h.sort
    where
      by : (v : Value) → computed l e ≡ Some v → IsOfSort TruthSort v → (t : Bool) × (computed l e ≡ Some (Truth t))
      by (Truth t) k b = (t, k)
      by _ _ b = absurd b

  word_is : (e : Exp) (n : ℕ) (o : Sort) (w : Word) → word_sort n ≡ Some o → computed l e ≡ Some (Bits w) → IsWord n w → Computes e o
  word_is e n o w q h k = subst (λ p. Computes e p) (some_is q) (record { value = Bits w; is = h; sort = k })

  number_is : (e : Exp) (o : Sort) (n : ℤ) → number_sort ≡ Some o → computed l e ≡ Some (Number n) → Computes e o
  number_is e o n q h = subst (λ p. Computes e p) (some_is q) (record { value = Number n; is = h; sort = tt })

  truth_is : (e : Exp) (o : Sort) (b : Bool) → truth_sort ≡ Some o → computed l e ≡ Some (Truth b) → Computes e o
  truth_is e o b q h = subst (λ p. Computes e p) (some_is q) (record { value = Truth b; is = h; sort = tt })

  -- a number's operation, where the whole isn't wide
  number_there : (e : Exp) (n : ℤ) → Alone e → at l e ≡ Number n → narrow n ≡ Some (Number n)
  number_there e n h k = narrow_some n (sym (ap is_wide k) ∙ itself_not_wide l e h)

  if_sort : (b : Bool) (o : Sort) (v w : Value) → OfSort o v → OfSort o w → OfSort o (if_truth b v w)
  if_sort true o v w h k = h
  if_sort false o v w h k = k

  -- what an address gives
  record Leads (path : Path) (s : Shape) (a : ℕ) : Type 0 where
    pub word : Word
    pub is : computed_at l path s a ≡ Some (Bits word)
    pub sort : IsWord (address_width g.layout.target) word

  one_alone : (e a : Exp) → has (test l) e ≡ (test l e || has (test l) a) → Alone e → Alone a
  one_alone e a s h = (or_parts (test l e) (has (test l) a) (sym s ∙ h)).1

  two_alone : (e a b : Exp) → has (test l) e ≡ (test l e || has (test l) a || has (test l) b) → Alone e → Alone a × Alone b
  two_alone e a b s h =
      let i = or_parts (test l e || has (test l) a) (has (test l) b) (sym s ∙ h) in
      ((or_parts (test l e) (has (test l) a) i.0).1, i.1)

  -- an open head
  opened : {A : Type 0} (x y : Bool) → ((true || x) || y) ≡ false → A
  opened x y h = absurd (true≢false h)

  by_index : (b : Bool) (o : Option Shape) (q : Shape) → cond b o None ≡ Some q → (b ≡ true) × (o ≡ Some q)
  by_index true o q h = (refl, h)
  by_index false o q h = absurd cc

  by_member : (i : ℕ) (path : Path) (s : Shape) (o : Option Spot) (q : Shape) → step_spot s (Field i) ≡ o →
      shape_in o (λ r. shape_along g path r) ≡ Some q →
      ((r : Shape) → shape_along g path r ≡ Some q → (b : ℕ) → b < space l → Leads path r b) → (a : ℕ) → Leads (IntoField i path) s a
  by_member i path s None q e h f a = absurd cc
  by_member i path s (Some r) q e h f a =
      let x = f r.shape h (address_at (space l) a r.offset) (address_below l a r.offset) in
      record { word = x.word; is = ap (λ o. at_place (place_from (space l) a o) (λ p b. computed_at l path p b)) e ∙ x.is; sort = x.sort }

  two_truths : (a b : Exp) (o : Sort) → where_holds (is_truth (sort_of g a) && is_truth (sort_of g b)) truth_sort ≡ Some o →
      (sort_of g a ≡ truth_sort → Computes a (Of TruthSort)) → (sort_of g b ≡ truth_sort → Computes b (Of TruthSort)) →
      ((x : Bool) × (computed l a ≡ Some (Truth x))) × ((y : Bool) × (computed l b ≡ Some (Truth y))) × (truth_sort ≡ Some o)
  two_truths a b o q h k =
      let i = where_inv (is_truth (sort_of g a) && is_truth (sort_of g b)) truth_sort o q in
      let j = and_parts (is_truth (sort_of g a)) (is_truth (sort_of g b)) i.0 in
      (as_truth a (h (truth_inv (sort_of g a) j.0)), as_truth b (k (truth_inv (sort_of g b) j.1)), i.1)

  mutual
    pub complete : (e : Exp) (o : Sort) → sort_of g e ≡ Some o → Alone e → Computes e o
    complete (WordLit w) o q h =
        let i = where_inv (is_width w.width && nat_lt w.bits (2 ^ w.width)) (word_sort w.width) o q in
        word_is (WordLit w) w.width o w i.1 refl
        (record { has_width = refl; fits = ltb-true w.bits (2 ^ w.width) (and_parts (is_width w.width) (nat_lt w.bits (2 ^ w.width)) i.0).1 })
    complete (NumberLit n) o q h = number_is (NumberLit n) o n q (number_there (NumberLit n) n h refl)
    complete (TruthLit b) o q h = truth_is (TruthLit b) o b q refl
    complete (WordBinary op a b) o q h =
        let k = two_alone (WordBinary op a b) a b refl h in
        let i = words_inv (word_width (sort_of g a)) (word_width (sort_of g b)) word_sort o q in
        let x = as_word a i.0 (complete a (Of (WordSort i.0)) (width_inv (sort_of g a) i.0 i.1) k.0) in
        let y = as_word b i.0 (complete b (Of (WordSort i.0)) (width_inv (sort_of g b) i.0 i.2) k.1) in
        word_is (WordBinary op a b) i.0 o (word_op op x.0 y.0) i.3
        (ap₂ (λ u v. of_two u v (by_words (join_words op))) x.1 y.1 ∙ words_some i.0 (join_words op) x.0 y.0 x.2 y.2) (op_word i.0 op x.0 y.0 x.2)
    complete (WordShift op a n) o q h =
        let k = two_alone (WordShift op a n) a n refl h in
        let j = where_inv (is_number (sort_of g n)) (of_word (word_width (sort_of g a)) word_sort) o q in
        let i = word_inv (word_width (sort_of g a)) word_sort o j.1 in
        let x = as_word a i.0 (complete a (Of (WordSort i.0)) (width_inv (sort_of g a) i.0 i.1) k.0) in
        let y = as_number n (complete n (Of NumberSort) (number_inv (sort_of g n) j.0) k.1) in
        word_is (WordShift op a n) i.0 o (word_shift op x.0 y.0) i.2
        (ap₂ (λ u v. of_two u v (λ p r. by_word (λ w. by_number (λ z. Some (Bits (word_shift op w z))) r) p)) x.1 y.1) (shift_word i.0 op x.0 y.0 x.2)
    complete (WordUnary op a) o q h =
        let k = one_alone (WordUnary op a) a refl h in
        let i = word_inv (word_width (sort_of g a)) word_sort o q in
        let x = as_word a i.0 (complete a (Of (WordSort i.0)) (width_inv (sort_of g a) i.0 i.1) k) in
        word_is (WordUnary op a) i.0 o (word_unary op x.0) i.2 (ap (λ u. of_one u (by_word (λ w. Some (Bits (word_unary op w))))) x.1) (unary_word i.0 op x.0 x.2)
    complete (WordCompare op a b) o q h =
        let k = two_alone (WordCompare op a b) a b refl h in
        let i = words_inv (word_width (sort_of g a)) (word_width (sort_of g b)) (λ n. truth_sort) o q in
        let x = as_word a i.0 (complete a (Of (WordSort i.0)) (width_inv (sort_of g a) i.0 i.1) k.0) in
        let y = as_word b i.0 (complete b (Of (WordSort i.0)) (width_inv (sort_of g b) i.0 i.2) k.1) in
        truth_is (WordCompare op a b) o (word_test op x.0 y.0) i.3
        (ap₂ (λ u v. of_two u v (by_words (test_words op))) x.1 y.1 ∙ words_some i.0 (test_words op) x.0 y.0 x.2 y.2)
    complete (Cast op n a) o q h =
        let k = one_alone (Cast op n a) a refl h in
        let i = word_inv (word_width (sort_of g a)) (λ from. where_holds (is_width n && cast_fits op from n) (word_sort n)) o q in
        let j = where_inv (is_width n && cast_fits op i.0 n) (word_sort n) o i.2 in
        let x = as_word a i.0 (complete a (Of (WordSort i.0)) (width_inv (sort_of g a) i.0 i.1) k) in
        word_is (Cast op n a) n o (cast_op op n x.0) j.1
        (ap (λ u. of_one u (by_word (λ w. of_width n (cast_op op n w)))) x.1
        ∙ if_some (is_width n) (Some (Bits (cast_op op n x.0))) (and_parts (is_width n) (cast_fits op i.0 n) j.0).0) (cast_word op n x.0)
    complete (ToNat a) o q h =
        let k = one_alone (ToNat a) a refl h in
        let i = word_inv (word_width (sort_of g a)) (λ n. number_sort) o q in
        let x = as_word a i.0 (complete a (Of (WordSort i.0)) (width_inv (sort_of g a) i.0 i.1) k) in
        let y = number_there (ToNat a) (unsigned x.0) h (ap (λ u. Number (unsigned (word_in u))) (right l a (Bits x.0) x.1).value) in
        number_is (ToNat a) o (unsigned x.0) i.2 (ap (λ u. of_one u (by_word (λ w. narrow (unsigned w)))) x.1 ∙ y)
    complete (ToInt a) o q h =
        let k = one_alone (ToInt a) a refl h in
        let i = word_inv (word_width (sort_of g a)) (λ n. number_sort) o q in
        let x = as_word a i.0 (complete a (Of (WordSort i.0)) (width_inv (sort_of g a) i.0 i.1) k) in
        let y = number_there (ToInt a) (signed x.0) h (ap (λ u. Number (signed (word_in u))) (right l a (Bits x.0) x.1).value) in
        number_is (ToInt a) o (signed x.0) i.2 (ap (λ u. of_one u (by_word (λ w. narrow (signed w)))) x.1 ∙ y)
    complete (ToWord n a) o q h =
        let k = one_alone (ToWord n a) a refl h in
        let j = where_inv (is_width n && is_number (sort_of g a)) (word_sort n) o q in
        let b = and_parts (is_width n) (is_number (sort_of g a)) j.0 in
        let x = as_number a (complete a (Of NumberSort) (number_inv (sort_of g a) b.1) k) in
        word_is (ToWord n a) n o (word n x.0) j.1
        (ap (λ u. of_one u (by_number (λ z. of_width n (word n z)))) x.1 ∙ if_some (is_width n) (Some (Bits (word n x.0))) b.0) (word_fits n x.0)
    complete (Arith op a b) o q h =
        let k = two_alone (Arith op a b) a b refl h in
        let i = where_inv (not (is_unary op) && is_number (sort_of g a) && is_number (sort_of g b)) number_sort o q in
        let j = and_parts (not (is_unary op) && is_number (sort_of g a)) (is_number (sort_of g b)) i.0 in
        let x = as_number a (complete a (Of NumberSort) (number_inv (sort_of g a) (and_parts (not (is_unary op)) (is_number (sort_of g a)) j.0).1) k.0) in
        let y = as_number b (complete b (Of NumberSort) (number_inv (sort_of g b) j.1) k.1) in
        let n = number_there (Arith op a b) (number_op op x.0 y.0) h
        (ap₂ (λ u v. Number (number_op op (number_in u) (number_in v))) (right l a (Number x.0) x.1).value (right l b (Number y.0) y.1).value) in
        number_is (Arith op a b) o (number_op op x.0 y.0) i.1 (ap₂ (λ u v. of_two u v (by_numbers (λ m z. narrow (number_op op m z)))) x.1 y.1 ∙ n)
    complete (Negate a) o q h =
        let k = one_alone (Negate a) a refl h in
        let i = where_inv (is_number (sort_of g a)) number_sort o q in
        let x = as_number a (complete a (Of NumberSort) (number_inv (sort_of g a) i.0) k) in
        let n = number_there (Negate a) (neg_ℤ x.0) h (ap (λ u. Number (neg_ℤ (number_in u))) (right l a (Number x.0) x.1).value) in
        number_is (Negate a) o (neg_ℤ x.0) i.1 (ap (λ u. of_one u (by_number (λ z. narrow (neg_ℤ z)))) x.1 ∙ n)
    complete (Lt a b) o q h =
        let k = two_alone (Lt a b) a b refl h in
        let i = where_inv (is_number (sort_of g a) && is_number (sort_of g b)) truth_sort o q in
        let j = and_parts (is_number (sort_of g a)) (is_number (sort_of g b)) i.0 in
        let x = as_number a (complete a (Of NumberSort) (number_inv (sort_of g a) j.0) k.0) in
        let y = as_number b (complete b (Of NumberSort) (number_inv (sort_of g b) j.1) k.1) in
        truth_is (Lt a b) o (int_lt x.0 y.0) i.1 (ap₂ (λ u v. of_two u v (by_numbers (λ m n. Some (Truth (int_lt m n))))) x.1 y.1)
    complete (Le a b) o q h =
        let k = two_alone (Le a b) a b refl h in
        let i = where_inv (is_number (sort_of g a) && is_number (sort_of g b)) truth_sort o q in
        let j = and_parts (is_number (sort_of g a)) (is_number (sort_of g b)) i.0 in
        let x = as_number a (complete a (Of NumberSort) (number_inv (sort_of g a) j.0) k.0) in
        let y = as_number b (complete b (Of NumberSort) (number_inv (sort_of g b) j.1) k.1) in
        truth_is (Le a b) o (int_le x.0 y.0) i.1 (ap₂ (λ u v. of_two u v (by_numbers (λ m n. Some (Truth (int_le m n))))) x.1 y.1)
    complete (Between low a high) o q h =
        let k = one_alone (Between low a high) a refl h in
        let i = where_inv (is_number (sort_of g a)) truth_sort o q in
        let x = as_number a (complete a (Of NumberSort) (number_inv (sort_of g a) i.0) k) in
        truth_is (Between low a high) o (is_between low x.0 high) i.1 (ap (λ u. of_one u (by_number (λ n. Some (Truth (is_between low n high))))) x.1)
    complete (Eq a b) o q h =
        let k = two_alone (Eq a b) a b refl h in
        let i = where_inv (are_same (sort_of g a) (sort_of g b)) truth_sort o q in
        let j = same_inv (sort_of g a) (sort_of g b) i.0 in
        let x = complete a j.0 j.1 k.0 in
        let y = complete b j.0 j.2 k.1 in
        truth_is (Eq a b) o (same_value x.value y.value) i.1 (ap₂ (λ u v. of_two u v (λ p r. Some (Truth (same_value p r)))) x.is y.is)
    complete (And a b) o q h =
        let k = two_alone (And a b) a b refl h in
        let x = two_truths a b o q (λ e. complete a (Of TruthSort) e k.0) (λ e. complete b (Of TruthSort) e k.1) in
        truth_is (And a b) o (x.0.0 && x.1.0) x.2 (ap₂ (λ u v. of_two u v (by_truths (λ p r. p && r))) x.0.1 x.1.1)
    complete (Or a b) o q h =
        let k = two_alone (Or a b) a b refl h in
        let x = two_truths a b o q (λ e. complete a (Of TruthSort) e k.0) (λ e. complete b (Of TruthSort) e k.1) in
        truth_is (Or a b) o (x.0.0 || x.1.0) x.2 (ap₂ (λ u v. of_two u v (by_truths (λ p r. p || r))) x.0.1 x.1.1)
    complete (Imp a b) o q h =
        let k = two_alone (Imp a b) a b refl h in
        let x = two_truths a b o q (λ e. complete a (Of TruthSort) e k.0) (λ e. complete b (Of TruthSort) e k.1) in
        truth_is (Imp a b) o (not x.0.0 || x.1.0) x.2 (ap₂ (λ u v. of_two u v (by_truths (λ p r. not p || r))) x.0.1 x.1.1)
    complete (Not a) o q h =
        let k = one_alone (Not a) a refl h in
        let i = where_inv (is_truth (sort_of g a)) truth_sort o q in
        let x = as_truth a (complete a (Of TruthSort) (truth_inv (sort_of g a) i.0) k) in
        truth_is (Not a) o (not x.0) i.1 (ap (λ u. of_one u (by_truth (λ p. Some (Truth (not p))))) x.1)
    complete (If c a b) o q h =
        let k = or_parts ((test l (If c a b) || has (test l) c) || has (test l) a) (has (test l) b) h in
        let m = or_parts (test l (If c a b) || has (test l) c) (has (test l) a) k.0 in
        let r = or_parts (test l (If c a b)) (has (test l) c) m.0 in
        let i = where_inv (is_truth (sort_of g c) && are_same (sort_of g a) (sort_of g b)) (sort_of g a) o q in
        let j = and_parts (is_truth (sort_of g c)) (are_same (sort_of g a) (sort_of g b)) i.0 in
        let s = same_inv (sort_of g a) (sort_of g b) j.1 in
        let e : s.0 ≡ o = some_is (sym s.1 ∙ i.1) in
        let x = as_truth c (complete c (Of TruthSort) (truth_inv (sort_of g c) j.0) r.1) in
        let y = complete a o i.1 m.1 in
        let z = complete b o (s.2 ∙ ap (λ p. Some p) e) k.1 in
        record {
          value = if_truth x.0 y.value z.value;
          is = ap (λ u. of_one u (by_truth (λ p. of_two (computed l a) (computed l b) (λ v w. Some (if_truth p v w))))) x.1
              ∙ ap₂ (λ u v. of_two u v (λ p r. Some (if_truth x.0 p r))) y.is z.is;
          sort = if_sort x.0 o y.value z.value y.sort z.sort;
        }
    complete (Padd t p n) o q h =
        let k = two_alone (Padd t p n) p n refl h in
        let i = where_inv (is_object l t && is_word_of width (sort_of g p) && is_number (sort_of g n)) (word_sort width) o q in
        let j = and_parts (is_object l t && is_word_of width (sort_of g p)) (is_number (sort_of g n)) i.0 in
        let m = and_parts (is_object l t) (is_word_of width (sort_of g p)) j.0 in
        let x = as_word p width (complete p (Of (WordSort width)) (word_of_inv width (sort_of g p) m.1) k.0) in
        let y = as_number n (complete n (Of NumberSort) (number_inv (sort_of g n) j.1) k.1) in
        let a = address_at (space l) x.0.bits (y.0 *ℤ pos (size_of l t)) in
        word_is (Padd t p n) width o (record { width = width; bits = a }) i.1
        (ap₂ (λ u v. of_two u v (λ r z. by_address l (λ b. by_number (moved_by l t b) z) r)) x.1 y.1
        ∙ address_some l (λ b. by_number (moved_by l t b) (Number y.0)) x.0 x.2
        ∙ if_some (is_object l t) (pointer l a) m.0)
        (record { has_width = refl; fits = address_below l x.0.bits (y.0 *ℤ pos (size_of l t)) })
    complete (At t p path) o q h =
        let k = or_parts (test l (At t p path) || has (test l) p) (path_has (test l) path) h in
        let i = where_inv (is_object l t && is_word_of width (sort_of g p)) (of_shape (shape_along g path (shape_of l t)) (λ s. word_sort width)) o q in
        let m = and_parts (is_object l t) (is_word_of width (sort_of g p)) i.0 in
        let s = shape_inv (shape_along g path (shape_of l t)) (λ s. word_sort width) o i.1 in
        let x = as_word p width (complete p (Of (WordSort width)) (word_of_inv width (sort_of g p) m.1) (or_parts (test l (At t p path)) (has (test l) p) k.0).1) in
        let y = along path (shape_of l t) s.0 s.1 k.1 x.0.bits x.2.fits in
        word_is (At t p path) width o y.word s.2
        (ap (λ u. of_one u (by_address l (λ a. cond (is_object l t) (computed_at l path (shape_of l t) a) None))) x.1
        ∙ address_some l (λ a. cond (is_object l t) (computed_at l path (shape_of l t) a) None) x.0 x.2
        ∙ if_some (is_object l t) (computed_at l path (shape_of l t) x.0.bits) m.0 ∙ y.is) y.sort
    complete (PtrOk t p) o q h =
        let k = one_alone (PtrOk t p) p refl h in
        let i = where_inv (is_object l t && is_word_of width (sort_of g p)) truth_sort o q in
        let m = and_parts (is_object l t) (is_word_of width (sort_of g p)) i.0 in
        let x = as_word p width (complete p (Of (WordSort width)) (word_of_inv width (sort_of g p) m.1) k) in
        truth_is (PtrOk t p) o (is_pointer_ok l t x.0.bits) i.1
        (ap (λ u. of_one u (by_address l (object_ok l t))) x.1 ∙ address_some l (object_ok l t) x.0 x.2
        ∙ if_some (is_object l t) (Some (Truth (is_pointer_ok l t x.0.bits))) m.0)
    complete (Load t p path) o q h = opened (has (test l) p) (path_has (test l) path) h
    complete (Read t p path) o q h = opened (has (test l) p) (path_has (test l) path) h
    complete (Sel e path) o q h = opened (has (test l) e) (path_has (test l) path) h
    complete _ _ _ h = absurd (true≢false h)

    along : (path : Path) (s q : Shape) → shape_along g path s ≡ Some q → path_has (test l) path ≡ false → (a : ℕ) → a < space l → Leads path s a
    along Here s q h k a lt = record { word = record { width = width; bits = a }; is = refl; sort = record { has_width = refl; fits = lt } }
    along (IntoField i path) (Record x n align fs) q h k a lt =
        by_member i path (Record x n align fs) (member_spot fs i) q refl h (λ r e b lt'. along path r q e k b lt') a
    along (IntoElement e path) (Row s n) q h k a lt =
        let c = or_parts (has (test l) e) (path_has (test l) path) k in
        let i = by_index (is_number (sort_of g e)) (shape_along g path s) q h in
        let x = as_number e (complete e (Of NumberSort) (number_inv (sort_of g e) i.0) c.0) in
        let y = along path s q i.1 c.1 (address_at (space l) a (x.0 *ℤ pos (size s))) (address_below l a (x.0 *ℤ pos (size s))) in
        record {
          word = y.word;
          is = ap (λ u. at_index (number_of u) (λ z. at_place (place_from (space l) a (step_spot (Row s n) (Index z))) (λ r b. computed_at l path r b))) x.1 ∙ y.is;
          sort = y.sort;
        }
    along _ _ q h k a lt = absurd cc
