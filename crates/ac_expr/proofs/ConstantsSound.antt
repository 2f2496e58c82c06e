-- What is computed of an expression is its value, and the expression is of constants alone.
use Rattle.std.proofs.Common.{◌≡◌, ◌<◌, ℕ, ◌^◌, ◌==◌, nat_le, nat_lt, Bool, true, false, not, cond, ◌&&◌, ◌||◌, Option, Some, None, ℤ, pos, ◌∷◌, refl, sym, ap, ap₂, ◌∙◌, subst, arith, mod-eq_of_lt}
use Rattle.std.specs.Prelude.{neg_ℤ, ◌+ℤ◌, ◌*ℤ◌, int_lt, int_le, unsigned_abs}
use Rattle.std.proofs.Math.IntN.{*ℤ_comm}
use Rattle.std.proofs.lemmas.Bool.{and_parts, or_from, ltb-true, true≢false}
use Rattle.std.proofs.lemmas.Nat.{pow_pos}
use Rattle.c_values.specs.Types.{address_width}
use Rattle.c_values.specs.Word.{Word, unsigned, signed, word, word_op, word_shift, word_unary, word_test}
use Rattle.c_values.specs.Number.{number_op, is_between}
use Rattle.c_values.specs.Value.{Value, Bits, Number, Truth, word_in, number_in, truth_in, same_value}
use Rattle.c_values.specs.Layout.{Layout, Shape, space, size_of, shape_of, is_object}
use Rattle.c_values.specs.Path.{Step, Field, Index, Spot, step_spot, spot, further, and_then_spot}
use Rattle.c_values.proofs.Options.{some_is}
use Rattle.c_memory.specs.Memory.{address_at}
use Rattle.c_memory.specs.CodePlace.{place_from}
use Rattle.c_memory.specs.Tags.{is_pointer_ok}
use Rattle.c_memory.proofs.Elements.{address_further}
use Rattle.expression_lang.specs.Expression.{Exp, WordLit, NumberLit, TruthLit, WordBinary, WordShift, WordUnary, WordCompare, Cast, ToNat, ToInt, ToWord, Arith, Negate, Lt, Le, Between, Eq, And, Or, Imp, Not, If, Padd, At, PtrOk, Path, Here, IntoField, IntoElement}
use Rattle.expression_lang.specs.Evaluation.{cast_op, if_truth, steps, moved, moved_to}
use Rattle.expression_lang.specs.Form.{has, path_has}
use Rattle.expression_lang.specs.Signature.{no_env}
use Rattle.expression_lang.specs.Sort.{is_width}
use Rattle.expression_lang.proofs.Good.{address_below}
use Rattle.expression_lang.proofs.HasShape.{has_itself}
use Rattle.ac_expr.specs.Step.{is_open, is_wide, no_state, constant_value}
use Rattle.ac_expr.specs.CodeConstants.{of_one, of_two, by_word, by_number, by_truth, by_words, by_numbers, by_truths, narrow, test_words, join_words, of_width, by_address, pointer, moved_by, object_ok, at_address, at_place, number_of, at_index, computed, computed_at}

-- from what is computed back to the parts

pub one_inv : (o : Option Value) (f : Value → Option Value) (v : Value) → of_one o f ≡ Some v → (a : Value) × (o ≡ Some a) × (f a ≡ Some v)
one_inv None f v h = absurd cc
one_inv (Some a) f v h = (a, refl, h)

pub two_inv : (o p : Option Value) (f : Value → Value → Option Value) (v : Value) → of_two o p f ≡ Some v →
    (a : Value) × (b : Value) × (o ≡ Some a) × (p ≡ Some b) × (f a b ≡ Some v)
two_inv (Some a) (Some b) f v h = (a, b, refl, refl, h)
two_inv None None f v h = absurd cc
two_inv _ _ f v h = absurd cc

pub if_inv : {A : Type 0} (b : Bool) (o : Option A) (v : A) → cond b o None ≡ Some v → (b ≡ true) × (o ≡ Some v)
if_inv true o v h = (refl, h)
if_inv false o v h = absurd cc

word_inv : (f : Word → Option Value) (a v : Value) → by_word f a ≡ Some v → (w : Word) × (a ≡ Bits w) × (f w ≡ Some v)
word_inv f (Bits w) v h = (w, refl, h)
word_inv f _ v h = absurd cc

number_inv : (f : ℤ → Option Value) (a v : Value) → by_number f a ≡ Some v → (n : ℤ) × (a ≡ Number n) × (f n ≡ Some v)
number_inv f (Number n) v h = (n, refl, h)
number_inv f _ v h = absurd cc

truth_inv : (f : Bool → Option Value) (a v : Value) → by_truth f a ≡ Some v → (b : Bool) × (a ≡ Truth b) × (f b ≡ Some v)
truth_inv f (Truth b) v h = (b, refl, h)
truth_inv f _ v h = absurd cc

address_inv : (l : Layout) (f : ℕ → Option Value) (a v : Value) → by_address l f a ≡ Some v →
    (w : Word) × (a ≡ Bits w) × (w.bits < space l) × (f w.bits ≡ Some v)
address_inv l f (Bits w) v h = by ((w.width == address_width l.target) && nat_lt w.bits (space l)) refl h
  where
    by : (b : Bool) → ((w.width == address_width l.target) && nat_lt w.bits (space l)) ≡ b → at_address (cond b (Some w.bits) None) f ≡ Some v →
        (u : Word) × (Bits w ≡ Bits u) × (u.bits < space l) × (f u.bits ≡ Some v)
    by true e k = (w, refl, ltb-true w.bits (space l) (and_parts (w.width == address_width l.target) (nat_lt w.bits (space l)) e).1, k)
    by false e k = absurd cc
address_inv l f _ v h = absurd cc

index_inv : (o : Option Value) (f : ℤ → Option Value) (v : Value) → at_index (number_of o) f ≡ Some v →
    (n : ℤ) × (o ≡ Some (Number n)) × (f n ≡ Some v)
index_inv (Some (Number n)) f v h = (n, refl, h)
index_inv _ f v h = absurd cc

words_inv : (f : Word → Word → Option Value) (a b v : Value) → by_words f a b ≡ Some v →
    (x : Word) × (y : Word) × (a ≡ Bits x) × (b ≡ Bits y) × (f x y ≡ Some v)
words_inv f (Bits x) (Bits y) v h = (x, y, refl, refl, (if_inv (x.width == y.width) (f x y) v h).1)
words_inv f _ _ v h = absurd cc

numbers_inv : (f : ℤ → ℤ → Option Value) (a b v : Value) → by_numbers f a b ≡ Some v →
    (m : ℤ) × (n : ℤ) × (a ≡ Number m) × (b ≡ Number n) × (f m n ≡ Some v)
numbers_inv f (Number m) (Number n) v h = (m, n, refl, refl, h)
numbers_inv f _ _ v h = absurd cc

truths_inv : (f : Bool → Bool → Bool) (a b v : Value) → by_truths f a b ≡ Some v →
    (x : Bool) × (y : Bool) × (a ≡ Truth x) × (b ≡ Truth y) × (Truth (f x y) ≡ v)
truths_inv f (Truth x) (Truth y) v h = (x, y, refl, refl, some_is h)
truths_inv f _ _ v h = absurd cc

pub narrow_inv : (n : ℤ) (v : Value) → narrow n ≡ Some v → (Number n ≡ v) × (is_wide v ≡ false)
narrow_inv n v h = at (nat_le (2 ^ 128) (unsigned_abs n)) refl h
  where
    at : (b : Bool) → nat_le (2 ^ 128) (unsigned_abs n) ≡ b → cond b None (Some (Number n)) ≡ Some v → (Number n ≡ v) × (is_wide v ≡ false)
    at true e k = absurd cc
    at false e k = let same : Number n ≡ v = some_is k in (same, subst (λ u. is_wide u ≡ false) same e)

width_inv : (n : ℕ) (w : Word) (v : Value) → of_width n w ≡ Some v → Bits w ≡ v
width_inv n w v h = some_is (if_inv (is_width n) (Some (Bits w)) v h).1

spot_inv : (l : Layout) (a : ℕ) (o : Option Spot) (f : Shape → ℕ → Option Value) (v : Value) →
    at_place (place_from (space l) a o) f ≡ Some v →
    (q : Spot) × (o ≡ Some q) × (f q.shape (address_at (space l) a q.offset) ≡ Some v)
spot_inv l a None f v h = absurd cc
spot_inv l a (Some q) f v h = (q, refl, h)

module _ (l : Layout) where
  abbrev pub test : Exp → Bool
  test e = is_open e || is_wide (constant_value l e)

  abbrev pub at : Exp → Value
  at e = constant_value l e

  -- the value is computed rightly
  pub record IsRight (e : Exp) (v : Value) : Type 0 where
    pub constants : has test e ≡ false
    pub value : at e ≡ v

  -- a value of an expression of constants isn't wide
  pub itself_not_wide : (e : Exp) → has test e ≡ false → is_wide (at e) ≡ false
  itself_not_wide e h = by (test e) refl
    where
      wide : (o w : Bool) → (o || w) ≡ false → w ≡ false
      wide true w k = absurd (true≢false k)
      wide false w k = k

      by : (b : Bool) → test e ≡ b → is_wide (at e) ≡ false
      by false k = wide (is_open e) (is_wide (at e)) k
      by true k = absurd (true≢false (sym (has_itself test e k) ∙ h))

  leaf_right : (e : Exp) (v : Value) → has test e ≡ is_wide (at e) → at e ≡ v → is_wide v ≡ false → IsRight e v
  leaf_right e v s h k = record { constants = s ∙ ap is_wide h ∙ k; value = h }

  one_right : (e a : Exp) (u v : Value) → has test e ≡ (is_wide (at e) || has test a) → IsRight a u → at e ≡ v → is_wide v ≡ false → IsRight e v
  one_right e a u v s i h k = record { constants = s ∙ or_from (is_wide (at e)) (has test a) (ap is_wide h ∙ k) i.constants; value = h }

  two_right : (e a b : Exp) (u u' v : Value) → has test e ≡ (is_wide (at e) || has test a || has test b) → IsRight a u → IsRight b u' → at e ≡ v → is_wide v ≡ false → IsRight e v
  two_right e a b u u' v s i j h k =
      record {
        constants = s ∙ or_from (is_wide (at e) || has test a) (has test b) (or_from (is_wide (at e)) (has test a) (ap is_wide h ∙ k) i.constants) j.constants;
        value = h;
      }

  if_not_wide : (b : Bool) (u w : Value) → is_wide u ≡ false → is_wide w ≡ false → is_wide (if_truth b u w) ≡ false
  if_not_wide true u w h k = h
  if_not_wide false u w h k = k

  if_right : (c a b : Exp) (t : Bool) (v : Value) → has test c ≡ false → has test a ≡ false → has test b ≡ false →
      truth_in (at c) ≡ t → if_truth t (at a) (at b) ≡ v → IsRight (If c a b) v
  if_right c a b t v h i j e k =
      record {
        constants =
            or_from ((is_wide (at (If c a b)) || has test c) || has test a) (has test b)
            (or_from (is_wide (at (If c a b)) || has test c) (has test a)
            (or_from (is_wide (at (If c a b))) (has test c)
            (if_not_wide (truth_in (at c)) (at a) (at b) (itself_not_wide a i) (itself_not_wide b j)) h) i) j;
        value = ap (λ x. if_truth x (at a) (at b)) e ∙ k;
      }

  some_space : 0 < space l
  some_space = pow_pos (address_width l.target)

  -- the end of a path
  record Ends (path : Path) (s : Shape) (a : ℕ) (v : Value) : Type 0 where
    pub constants : path_has test path ≡ false
    pub end : Spot
    pub leads : spot s (steps l no_env no_state path) ≡ Some end
    pub value : Bits (record { width = address_width l.target; bits = address_at (space l) a end.offset }) ≡ v

  address_itself : (m a : ℕ) → a < m → address_at m a (pos 0) ≡ a
  address_itself m a h = mod-eq_of_lt (omega arith) ∙ omega arith

  step_ends : (path : Path) (s : Shape) (step : Step) (a : ℕ) (v : Value) (q : Spot) → step_spot s step ≡ Some q →
      Ends path q.shape (address_at (space l) a q.offset) v →
      (end : Spot) × (spot s (step ∷ steps l no_env no_state path) ≡ Some end)
      × (Bits (record { width = address_width l.target; bits = address_at (space l) a end.offset }) ≡ v)
  step_ends path s step a v q e i =
      let end : Spot = record { offset = q.offset +ℤ i.end.offset; shape = i.end.shape } in (
        end,
        ap (λ o. and_then_spot o (λ r. further r.offset (spot r.shape (steps l no_env no_state path)))) e ∙ ap (λ o. further q.offset o) i.leads,
        ap (λ n. Bits (record { width = address_width l.target; bits = n })) (address_further (space l) a q.offset i.end.offset some_space) ∙ i.value,
      )

  mutual
    pub right : (e : Exp) (v : Value) → computed l e ≡ Some v → IsRight e v
    right (WordLit w) v h = let k : Bits w ≡ v = some_is h in leaf_right (WordLit w) v refl k (subst (λ u. is_wide u ≡ false) k refl)
    right (NumberLit n) v h = let k = narrow_inv n v h in leaf_right (NumberLit n) v refl k.0 k.1
    right (TruthLit b) v h = let k : Truth b ≡ v = some_is h in leaf_right (TruthLit b) v refl k (subst (λ u. is_wide u ≡ false) k refl)
    right (WordBinary op a b) v h =
        let i = two_inv (computed l a) (computed l b) (by_words (join_words op)) v h in
        let j = words_inv (join_words op) i.0 i.1 v i.4 in
        let x = right a i.0 i.2 in
        let y = right b i.1 i.3 in
        let k : Bits (word_op op j.0 j.1) ≡ v = some_is j.4 in
        two_right (WordBinary op a b) a b i.0 i.1 v refl x y
        (ap₂ (λ p q. Bits (word_op op (word_in p) (word_in q))) (x.value ∙ j.2) (y.value ∙ j.3) ∙ k) (subst (λ u. is_wide u ≡ false) k refl)
    right (WordShift op a n) v h =
        let i = two_inv (computed l a) (computed l n) (λ p q. by_word (λ w. by_number (λ z. Some (Bits (word_shift op w z))) q) p) v h in
        let j = word_inv (λ w. by_number (λ z. Some (Bits (word_shift op w z))) i.1) i.0 v i.4 in
        let m = number_inv (λ z. Some (Bits (word_shift op j.0 z))) i.1 v j.2 in
        let x = right a i.0 i.2 in
        let y = right n i.1 i.3 in
        let k : Bits (word_shift op j.0 m.0) ≡ v = some_is m.2 in
        two_right (WordShift op a n) a n i.0 i.1 v refl x y
        (ap₂ (λ p q. Bits (word_shift op (word_in p) (number_in q))) (x.value ∙ j.1) (y.value ∙ m.1) ∙ k) (subst (λ u. is_wide u ≡ false) k refl)
    right (WordUnary op a) v h =
        let i = one_inv (computed l a) (by_word (λ w. Some (Bits (word_unary op w)))) v h in
        let j = word_inv (λ w. Some (Bits (word_unary op w))) i.0 v i.2 in
        let x = right a i.0 i.1 in
        let k : Bits (word_unary op j.0) ≡ v = some_is j.2 in
        one_right (WordUnary op a) a i.0 v refl x (ap (λ p. Bits (word_unary op (word_in p))) (x.value ∙ j.1) ∙ k) (subst (λ u. is_wide u ≡ false) k refl)
    right (WordCompare op a b) v h =
        let i = two_inv (computed l a) (computed l b) (by_words (test_words op)) v h in
        let j = words_inv (test_words op) i.0 i.1 v i.4 in
        let x = right a i.0 i.2 in
        let y = right b i.1 i.3 in
        let k : Truth (word_test op j.0 j.1) ≡ v = some_is j.4 in
        two_right (WordCompare op a b) a b i.0 i.1 v refl x y
        (ap₂ (λ p q. Truth (word_test op (word_in p) (word_in q))) (x.value ∙ j.2) (y.value ∙ j.3) ∙ k) (subst (λ u. is_wide u ≡ false) k refl)
    right (Cast op width a) v h =
        let i = one_inv (computed l a) (by_word (λ w. of_width width (cast_op op width w))) v h in
        let j = word_inv (λ w. of_width width (cast_op op width w)) i.0 v i.2 in
        let x = right a i.0 i.1 in
        let k = width_inv width (cast_op op width j.0) v j.2 in
        one_right (Cast op width a) a i.0 v refl x (ap (λ p. Bits (cast_op op width (word_in p))) (x.value ∙ j.1) ∙ k) (subst (λ u. is_wide u ≡ false) k refl)
    right (ToNat a) v h =
        let i = one_inv (computed l a) (by_word (λ w. narrow (unsigned w))) v h in
        let j = word_inv (λ w. narrow (unsigned w)) i.0 v i.2 in
        let x = right a i.0 i.1 in
        let k = narrow_inv (unsigned j.0) v j.2 in
        one_right (ToNat a) a i.0 v refl x (ap (λ p. Number (unsigned (word_in p))) (x.value ∙ j.1) ∙ k.0) k.1
    right (ToInt a) v h =
        let i = one_inv (computed l a) (by_word (λ w. narrow (signed w))) v h in
        let j = word_inv (λ w. narrow (signed w)) i.0 v i.2 in
        let x = right a i.0 i.1 in
        let k = narrow_inv (signed j.0) v j.2 in
        one_right (ToInt a) a i.0 v refl x (ap (λ p. Number (signed (word_in p))) (x.value ∙ j.1) ∙ k.0) k.1
    right (ToWord width a) v h =
        let i = one_inv (computed l a) (by_number (λ n. of_width width (word width n))) v h in
        let j = number_inv (λ n. of_width width (word width n)) i.0 v i.2 in
        let x = right a i.0 i.1 in
        let k = width_inv width (word width j.0) v j.2 in
        one_right (ToWord width a) a i.0 v refl x (ap (λ p. Bits (word width (number_in p))) (x.value ∙ j.1) ∙ k) (subst (λ u. is_wide u ≡ false) k refl)
    right (Arith op a b) v h =
        let i = two_inv (computed l a) (computed l b) (by_numbers (λ m n. narrow (number_op op m n))) v h in
        let j = numbers_inv (λ m n. narrow (number_op op m n)) i.0 i.1 v i.4 in
        let x = right a i.0 i.2 in
        let y = right b i.1 i.3 in
        let k = narrow_inv (number_op op j.0 j.1) v j.4 in
        two_right (Arith op a b) a b i.0 i.1 v refl x y
        (ap₂ (λ p q. Number (number_op op (number_in p) (number_in q))) (x.value ∙ j.2) (y.value ∙ j.3) ∙ k.0) k.1
    right (Negate a) v h =
        let i = one_inv (computed l a) (by_number (λ n. narrow (neg_ℤ n))) v h in
        let j = number_inv (λ n. narrow (neg_ℤ n)) i.0 v i.2 in
        let x = right a i.0 i.1 in
        let k = narrow_inv (neg_ℤ j.0) v j.2 in
        one_right (Negate a) a i.0 v refl x (ap (λ p. Number (neg_ℤ (number_in p))) (x.value ∙ j.1) ∙ k.0) k.1
    right (Lt a b) v h =
        let i = two_inv (computed l a) (computed l b) (by_numbers (λ m n. Some (Truth (int_lt m n)))) v h in
        let j = numbers_inv (λ m n. Some (Truth (int_lt m n))) i.0 i.1 v i.4 in
        let x = right a i.0 i.2 in
        let y = right b i.1 i.3 in
        let k : Truth (int_lt j.0 j.1) ≡ v = some_is j.4 in
        two_right (Lt a b) a b i.0 i.1 v refl x y
        (ap₂ (λ p q. Truth (int_lt (number_in p) (number_in q))) (x.value ∙ j.2) (y.value ∙ j.3) ∙ k) (subst (λ u. is_wide u ≡ false) k refl)
    right (Le a b) v h =
        let i = two_inv (computed l a) (computed l b) (by_numbers (λ m n. Some (Truth (int_le m n)))) v h in
        let j = numbers_inv (λ m n. Some (Truth (int_le m n))) i.0 i.1 v i.4 in
        let x = right a i.0 i.2 in
        let y = right b i.1 i.3 in
        let k : Truth (int_le j.0 j.1) ≡ v = some_is j.4 in
        two_right (Le a b) a b i.0 i.1 v refl x y
        (ap₂ (λ p q. Truth (int_le (number_in p) (number_in q))) (x.value ∙ j.2) (y.value ∙ j.3) ∙ k) (subst (λ u. is_wide u ≡ false) k refl)
    right (Between low a high) v h =
        let i = one_inv (computed l a) (by_number (λ n. Some (Truth (is_between low n high)))) v h in
        let j = number_inv (λ n. Some (Truth (is_between low n high))) i.0 v i.2 in
        let x = right a i.0 i.1 in
        let k : Truth (is_between low j.0 high) ≡ v = some_is j.2 in
        one_right (Between low a high) a i.0 v refl x (ap (λ p. Truth (is_between low (number_in p) high)) (x.value ∙ j.1) ∙ k) (subst (λ u. is_wide u ≡ false) k refl)
    right (Eq a b) v h =
        let i = two_inv (computed l a) (computed l b) (λ p q. Some (Truth (same_value p q))) v h in
        let x = right a i.0 i.2 in
        let y = right b i.1 i.3 in
        let k : Truth (same_value i.0 i.1) ≡ v = some_is i.4 in
        two_right (Eq a b) a b i.0 i.1 v refl x y (ap₂ (λ p q. Truth (same_value p q)) x.value y.value ∙ k) (subst (λ u. is_wide u ≡ false) k refl)
    right (And a b) v h =
        let i = two_inv (computed l a) (computed l b) (by_truths (λ x y. x && y)) v h in
        let j = truths_inv (λ x y. x && y) i.0 i.1 v i.4 in
        let x = right a i.0 i.2 in
        let y = right b i.1 i.3 in
        two_right (And a b) a b i.0 i.1 v refl x y
        (ap₂ (λ p q. Truth (truth_in p && truth_in q)) (x.value ∙ j.2) (y.value ∙ j.3) ∙ j.4) (subst (λ u. is_wide u ≡ false) j.4 refl)
    right (Or a b) v h =
        let i = two_inv (computed l a) (computed l b) (by_truths (λ x y. x || y)) v h in
        let j = truths_inv (λ x y. x || y) i.0 i.1 v i.4 in
        let x = right a i.0 i.2 in
        let y = right b i.1 i.3 in
        two_right (Or a b) a b i.0 i.1 v refl x y
        (ap₂ (λ p q. Truth (truth_in p || truth_in q)) (x.value ∙ j.2) (y.value ∙ j.3) ∙ j.4) (subst (λ u. is_wide u ≡ false) j.4 refl)
    right (Imp a b) v h =
        let i = two_inv (computed l a) (computed l b) (by_truths (λ x y. not x || y)) v h in
        let j = truths_inv (λ x y. not x || y) i.0 i.1 v i.4 in
        let x = right a i.0 i.2 in
        let y = right b i.1 i.3 in
        two_right (Imp a b) a b i.0 i.1 v refl x y
        (ap₂ (λ p q. Truth (not (truth_in p) || truth_in q)) (x.value ∙ j.2) (y.value ∙ j.3) ∙ j.4) (subst (λ u. is_wide u ≡ false) j.4 refl)
    right (Not a) v h =
        let i = one_inv (computed l a) (by_truth (λ x. Some (Truth (not x)))) v h in
        let j = truth_inv (λ x. Some (Truth (not x))) i.0 v i.2 in
        let x = right a i.0 i.1 in
        let k : Truth (not j.0) ≡ v = some_is j.2 in
        one_right (Not a) a i.0 v refl x (ap (λ p. Truth (not (truth_in p))) (x.value ∙ j.1) ∙ k) (subst (λ u. is_wide u ≡ false) k refl)
    right (If c a b) v h =
        let i = one_inv (computed l c) (by_truth (λ x. of_two (computed l a) (computed l b) (λ p q. Some (if_truth x p q)))) v h in
        let j = truth_inv (λ x. of_two (computed l a) (computed l b) (λ p q. Some (if_truth x p q))) i.0 v i.2 in
        let m = two_inv (computed l a) (computed l b) (λ p q. Some (if_truth j.0 p q)) v j.2 in
        let x = right c i.0 i.1 in
        let y = right a m.0 m.2 in
        let z = right b m.1 m.3 in
        let k : if_truth j.0 m.0 m.1 ≡ v = some_is m.4 in
        if_right c a b j.0 v x.constants y.constants z.constants (ap truth_in (x.value ∙ j.1)) (ap₂ (λ p q. if_truth j.0 p q) y.value z.value ∙ k)
    right (Padd t p n) v h =
        let i = two_inv (computed l p) (computed l n) (λ u k. by_address l (λ a. by_number (moved_by l t a) k) u) v h in
        let j = address_inv l (λ a. by_number (moved_by l t a) i.1) i.0 v i.4 in
        let m = number_inv (moved_by l t j.0.bits) i.1 v j.3 in
        let k : Bits (record { width = address_width l.target; bits = address_at (space l) j.0.bits (m.0 *ℤ pos (size_of l t)) }) ≡ v =
        some_is (if_inv (is_object l t) (pointer l (address_at (space l) j.0.bits (m.0 *ℤ pos (size_of l t)))) v m.2).1 in
        let x = right p i.0 i.2 in
        let y = right n i.1 i.3 in
        two_right (Padd t p n) p n i.0 i.1 v refl x y
        (ap₂ (λ u z. moved l (word_in u) (pos (size_of l t) *ℤ number_in z)) (x.value ∙ j.1) (y.value ∙ m.1)
        ∙ ap (λ z. moved l j.0 z) (*ℤ_comm (pos (size_of l t)) m.0) ∙ k) (subst (λ u. is_wide u ≡ false) k refl)
    right (At t p path) v h =
        let i = one_inv (computed l p) (by_address l (λ a. cond (is_object l t) (computed_at l path (shape_of l t) a) None)) v h in
        let j = address_inv l (λ a. cond (is_object l t) (computed_at l path (shape_of l t) a) None) i.0 v i.2 in
        let k = if_inv (is_object l t) (computed_at l path (shape_of l t) j.0.bits) v j.3 in
        let x = right p i.0 i.1 in
        let y = ends path (shape_of l t) j.0.bits v j.2 k.1 in
        record {
          constants = or_from (is_wide (at (At t p path)) || has test p) (path_has test path)
              (or_from (is_wide (at (At t p path))) (has test p)
              (ap is_wide (ap₂ (λ u o. moved_to l (word_in u) o) (x.value ∙ j.1) y.leads)) x.constants) y.constants;
          value = ap₂ (λ u o. moved_to l (word_in u) o) (x.value ∙ j.1) y.leads ∙ y.value;
        }
    right (PtrOk t p) v h =
        let i = one_inv (computed l p) (by_address l (object_ok l t)) v h in
        let j = address_inv l (object_ok l t) i.0 v i.2 in
        let k : Truth (is_pointer_ok l t j.0.bits) ≡ v = some_is (if_inv (is_object l t) (Some (Truth (is_pointer_ok l t j.0.bits))) v j.3).1 in
        let x = right p i.0 i.1 in
        one_right (PtrOk t p) p i.0 v refl x (ap (λ u. Truth (is_pointer_ok l t (word_in u).bits)) (x.value ∙ j.1) ∙ k) (subst (λ u. is_wide u ≡ false) k refl)
    right e v h = absurd cc

    ends : (path : Path) (s : Shape) (a : ℕ) (v : Value) → a < space l → computed_at l path s a ≡ Some v → Ends path s a v
    ends Here s a v lt h =
        let k : Bits (record { width = address_width l.target; bits = a }) ≡ v = some_is h in
        record {
          constants = refl;
          end = record { offset = pos 0; shape = s };
          leads = refl;
          value = ap (λ n. Bits (record { width = address_width l.target; bits = n })) (address_itself (space l) a lt) ∙ k;
        }
    ends (IntoField k path) s a v lt h =
        let i = spot_inv l a (step_spot s (Field k)) (λ q b. computed_at l path q b) v h in
        let x = ends path i.0.shape (address_at (space l) a i.0.offset) v (address_below l a i.0.offset) i.2 in
        let y = step_ends path s (Field k) a v i.0 i.1 x in
        record { constants = x.constants; end = y.0; leads = y.1; value = y.2 }
    ends (IntoElement e path) s a v lt h =
        let i = index_inv (computed l e) (λ n. at_place (place_from (space l) a (step_spot s (Index n))) (λ q b. computed_at l path q b)) v h in
        let m = spot_inv l a (step_spot s (Index i.0)) (λ q b. computed_at l path q b) v i.2 in
        let w = right e (Number i.0) i.1 in
        let x = ends path m.0.shape (address_at (space l) a m.0.offset) v (address_below l a m.0.offset) m.2 in
        let y = step_ends path s (Index i.0) a v m.0 m.1 x in
        record {
          constants = or_from (has test e) (path_has test path) w.constants x.constants;
          end = y.0;
          leads = ap (λ u. spot s (Index (number_in u) ∷ steps l no_env no_state path)) w.value ∙ y.1;
          value = y.2;
        }
