-- A well-sorted expression can be evaluated, and its value is of its sort.
use Rattle.std.proofs.Common.{◌≡◌, ℕ, ◌^◌, ◌==◌, nat_lt, Bool, true, false, not, cond, ◌&&◌, ◌||◌, List, Option, Some, None, ℤ, pos, negsuc, ◌*ℤ◌, ◌-◌, inl, inr, refl, sym, ap, ◌∙◌, subst}
use Rattle.std.proofs.lemmas.Bool.{and_parts, ltb-true, eqb-true, or_cases}
use Rattle.std.specs.Prelude.{IsSome, bit_and, bit_or, bit_xor, int_lt, neg_ℤ, ◌-ℤ◌, ◌+ℤ◌}
use Rattle.std.specs.Int.{int_div_euclid}
use Rattle.c_values.specs.Name.{Name}
use Rattle.c_values.specs.Types.{CType, address_width}
use Rattle.c_values.specs.Width.{IsWidth}
use Rattle.c_values.specs.Word.{Word, IsWord, word, WordOp, Wadd, Wsub, Wmul, Wand, Wor, Wxor, Wudiv, Wumod, Wsdiv, Wsmod, ShiftOp, Wshl, Wushr, Wsshr, UnaryOp, Wneg, Wnot, word_op, word_shift, word_unary, is_shift, power_of_two, unsigned, signed}
use Rattle.c_values.specs.Number.{quotient, remainder}
use Rattle.c_values.specs.Value.{Value, Bits, Parts, word_in, number_in, truth_in}
use Rattle.c_values.specs.Layout.{Layout, IsLayout, Shape, Incomplete, Scalar, Record, Row, Fields, type_of, shape_of, size, is_object}
use Rattle.c_values.specs.Path.{Step, Spot, spot, member_spot, and_then_spot, further, HasShape, IsBits}
use Rattle.c_values.proofs.Parts.{laid_shape}
use Rattle.c_values.proofs.Laid.{structs_of}
use Rattle.c_values.specs.CodeParts.{has_parts}
use Rattle.c_memory.specs.Heap.{IsHeap}
use Rattle.expression_lang.specs.Expression as X
use Rattle.expression_lang.specs.Sort as S
use Rattle.expression_lang.specs.Sort.{Scope, Sort, Of, PartsSort, WordSort, NumberSort, TruthSort, is_width, sort_of, shape_along, shape_in, sort_at, word_width, word_sort, number_sort, truth_sort, is_number, is_truth, is_word_of, is_unary, is_one_step, where_holds, of_word, of_shape, parts_shape, are_same, cast_fits}
use Rattle.expression_lang.specs.Evaluation.{Env, State, value, steps, cast_op, if_truth, moved_to}
use Rattle.expression_lang.specs.States.{IsOfSort}
use Rattle.expression_lang.specs.CodeReady.{IsReady, AreReady, IsRoot}
use Rattle.c_values.proofs.Follow.{path_ends}
use Rattle.expression_lang.proofs.Good.{address_below, upd_put, heap_read, Good, good_whole, good_object, good_spot}
use Rattle.expression_lang.proofs.Inversion.{where_inv, words_inv, word_inv, width_inv, number_inv, truth_inv, word_of_inv, same_inv, shape_inv, type_inv, parts_inv, scalar_inv, some_is}
use Rattle.expression_lang.proofs.Filled.{word_fits}

abbrev pub HasSort : Layout → Sort → Value → Type 0
HasSort l (Of c) v = IsOfSort c v
HasSort l (PartsSort t) v = HasShape (shape_of l t) v

-- parts are of good shapes
abbrev pub IsGoodSort : Layout → Sort → Type 0
IsGoodSort l (Of c) = Unit {0}
IsGoodSort l (PartsSort t) = Good l (shape_of l t)

pub bits_word : (n : ℕ) (v : Value) → IsBits n v → IsWord n (word_in v)
bits_word n (Bits w) h = h
bits_word _ _ h = absurd h

no_parts : (c : S.Scalar) (v : Value) → IsOfSort c v → has_parts v ≡ false
no_parts c (Bits w) h = refl
no_parts (WordSort n) (Parts vs) h = absurd h
no_parts NumberSort (Parts vs) h = absurd h
no_parts TruthSort (Parts vs) h = absurd h
no_parts _ _ _ = refl

-- words
pub word_at : (m n : ℕ) (z : ℤ) → m ≡ n → IsWord n (word m z)
word_at m n z e = subst (λ k. IsWord k (word m z)) e (word_fits m z)

pub op_word : (n : ℕ) (op : WordOp) (a b : Word) → IsWord n a → IsWord n (word_op op a b)
op_word n Wadd a b h = word_at a.width n (unsigned a +ℤ unsigned b) h.has_width
op_word n Wsub a b h = word_at a.width n (unsigned a -ℤ unsigned b) h.has_width
op_word n Wmul a b h = word_at a.width n (unsigned a *ℤ unsigned b) h.has_width
op_word n Wand a b h = word_at a.width n (pos (bit_and a.bits b.bits)) h.has_width
op_word n Wor a b h = word_at a.width n (pos (bit_or a.bits b.bits)) h.has_width
op_word n Wxor a b h = word_at a.width n (pos (bit_xor a.bits b.bits)) h.has_width
op_word n Wudiv a b h = word_at a.width n (quotient (unsigned a) (unsigned b)) h.has_width
op_word n Wumod a b h = word_at a.width n (remainder (unsigned a) (unsigned b)) h.has_width
op_word n Wsdiv a b h = word_at a.width n (quotient (signed a) (signed b)) h.has_width
op_word n Wsmod a b h = word_at a.width n (remainder (signed a) (signed b)) h.has_width

pub either_word : (n : ℕ) (b : Bool) (v w : Word) → IsWord n v → IsWord n w → IsWord n (cond b v w)
either_word n true v w h k = h
either_word n false v w h k = k

pub shift_word : (n : ℕ) (op : ShiftOp) (a : Word) (z : ℤ) → IsWord n a → IsWord n (word_shift op a z)
shift_word n Wshl a z h = either_word n (is_shift a.width z) (word a.width (unsigned a *ℤ power_of_two z)) (word a.width (pos 0)) (word_at a.width n (unsigned a *ℤ power_of_two z) h.has_width) (word_at a.width n (pos 0) h.has_width)
shift_word n Wushr a z h = either_word n (is_shift a.width z) (word a.width (int_div_euclid (unsigned a) (power_of_two z))) (word a.width (pos 0)) (word_at a.width n (int_div_euclid (unsigned a) (power_of_two z)) h.has_width) (word_at a.width n (pos 0) h.has_width)
shift_word n Wsshr a z h = either_word n (is_shift a.width z) (word a.width (int_div_euclid (signed a) (power_of_two z))) (word a.width (cond (int_lt (signed a) (pos 0)) (negsuc 0) (pos 0))) (word_at a.width n (int_div_euclid (signed a) (power_of_two z)) h.has_width) (word_at a.width n (cond (int_lt (signed a) (pos 0)) (negsuc 0) (pos 0)) h.has_width)

pub unary_word : (n : ℕ) (op : UnaryOp) (a : Word) → IsWord n a → IsWord n (word_unary op a)
unary_word n Wneg a h = word_at a.width n (neg_ℤ (unsigned a)) h.has_width
unary_word n Wnot a h = word_at a.width n (pos (2 ^ a.width - 1) -ℤ unsigned a) h.has_width

pub cast_word : (op : X.CastOp) (n : ℕ) (a : Word) → IsWord n (cast_op op n a)
cast_word X.Zext n a = word_fits n (unsigned a)
cast_word X.Sext n a = word_fits n (signed a)
cast_word X.Trunc n a = word_fits n (unsigned a)

pub width_of_test : (n : ℕ) → is_width n ≡ true → IsWidth n
width_of_test n h =
    elim (or_cases (((n == 8) || (n == 16)) || (n == 32)) (n == 64) h) [
      | inl a ↦ elim (or_cases ((n == 8) || (n == 16)) (n == 32) a) [
        | inl b ↦ elim (or_cases (n == 8) (n == 16) b) [
          | inl c ↦ inl (eqb-true n 8 c)
          | inr c ↦ inr (inl (eqb-true n 16 c))
        ]
        | inr b ↦ inr (inr (inl (eqb-true n 32 b)))
      ]
      | inr a ↦ inr (inr (inr (eqb-true n 64 a)))
    ]

module _ (g : Scope) (h : IsLayout g.layout) (env : Env) (s : State)
    (names : (x : Name) (c : S.Scalar) → g.names x ≡ Some c → IsOfSort c (env x))
    (globals : (x : Name) (t : CType) → g.globals x ≡ Some t → HasShape (shape_of g.layout t) (s.globals x))
    (heap : IsHeap g.layout s.heap) where
  abbrev l : Layout
  l = g.layout

  abbrev width : ℕ
  width = address_width g.layout.target

  abbrev at : X.Exp → Value
  at e = value g.layout env s e

  abbrev ps_of : X.Path → List Step
  ps_of path = steps g.layout env s path

  pub record Fine (e : X.Exp) (o : Sort) : Type 0 where
    pub ready : IsReady g.layout env s e
    pub sort : HasSort g.layout o (value g.layout env s e)
    pub good : IsGoodSort g.layout o

  pub record AreFine (path : X.Path) (r q : Shape) : Type 0 where
    pub ready : AreReady g.layout env s path
    pub end : Spot
    pub leads : spot r (steps g.layout env s path) ≡ Some end
    pub shape : end.shape ≡ q

  word_fine : (e : X.Exp) (n : ℕ) (o : Sort) → word_sort n ≡ Some o → IsReady l env s e → IsBits n (at e) → Fine e o
  word_fine e n o q r b = subst (λ p. Fine e p) (some_is (Of (WordSort n)) o q) (record { ready = r; sort = b; good = tt })

  number_fine : (e : X.Exp) (o : Sort) → number_sort ≡ Some o → IsReady l env s e → IsOfSort NumberSort (at e) → Fine e o
  number_fine e o q r b = subst (λ p. Fine e p) (some_is (Of NumberSort) o q) (record { ready = r; sort = b; good = tt })

  truth_fine : (e : X.Exp) (o : Sort) → truth_sort ≡ Some o → IsReady l env s e → IsOfSort TruthSort (at e) → Fine e o
  truth_fine e o q r b = subst (λ p. Fine e p) (some_is (Of TruthSort) o q) (record { ready = r; sort = b; good = tt })

  if_fine : (b : Bool) (o : Sort) (v w : Value) → HasSort l o v → HasSort l o w → HasSort l o (if_truth b v w)
  if_fine true o v w p q = p
  if_fine false o v w p q = q

  moved_word : (w : Word) (o : Option Spot) → IsWord width w → IsBits width (moved_to l w o)
  moved_word w None k = k
  moved_word w (Some q) k = record { has_width = refl; fits = address_below l w.bits q.offset }

  -- a value of a good shape is of the shape's sort
  part_fine : (q : Shape) (o : Sort) (v : Value) → Good l q → sort_at q ≡ Some o → HasShape q v → HasSort l o v × IsGoodSort l o
  part_fine Incomplete o v k e x = absurd cc
  part_fine (Scalar t n) o v k e x = subst (λ p. HasSort l p v × IsGoodSort l p) (some_is (Of (WordSort n)) o e) (x, tt)
  part_fine (Record y n align fs) o v k e x =
      let own = laid_shape l.target (structs_of l) (Record y n align fs) k.laid in
      subst (λ p. HasSort l p v × IsGoodSort l p) (some_is (PartsSort (type_of (Record y n align fs))) o e)
      (subst (λ r. HasShape r v) (sym own) x, subst (λ r. Good l r) (sym own) k)
  part_fine (Row r n) o v k e x =
      let own = laid_shape l.target (structs_of l) (Row r n) k.laid in
      subst (λ p. HasSort l p v × IsGoodSort l p) (some_is (PartsSort (type_of (Row r n))) o e)
      (subst (λ r'. HasShape r' v) (sym own) x, subst (λ r'. Good l r') (sym own) k)

  -- the value at the end of a path
  end_fine : (r q : Shape) (path : X.Path) (f : AreFine path r q) (o : Sort) (v : Value) → Good l r → sort_at q ≡ Some o → HasShape f.end.shape v → HasSort l o v × IsGoodSort l o
  end_fine r q path f o v k e x =
      part_fine q o v (subst (λ p. Good l p) f.shape (good_spot l r (ps_of path) f.end k f.leads)) e (subst (λ p. HasShape p v) f.shape x)

  some_end : (o : Option Spot) (q : Spot) → o ≡ Some q → IsSome o
  some_end None q e = absurd cc
  some_end (Some p) q e = refl

  further_shape : (z : ℤ) (o : Option Spot) (q : Spot) → o ≡ Some q → (p : Spot) × (further z o ≡ Some p) × (p.shape ≡ q.shape)
  further_shape z None q e = absurd cc
  further_shape z (Some r) q e = (_, refl, ap (λ (v : Spot). v.shape) (let same : r ≡ q = cc in same))

  root_of : (t : CType) (p : X.Exp) → is_object l t ≡ true → Fine p (Of (WordSort width)) → IsRoot l t (at p)
  root_of t p object f =
      let w = bits_word width (at p) f.sort in
      record { object = object; address = w.fits }

  -- a value of the sort of a good shape is of the shape
  value_shaped : (q : Shape) (o : Sort) (v : Value) → Good l q → sort_at q ≡ Some o → HasSort l o v → HasShape q v
  value_shaped Incomplete o v k e x = absurd cc
  value_shaped (Scalar t n) o v k e x = subst (λ p. HasSort l p v) (sym (some_is (Of (WordSort n)) o e)) x
  value_shaped (Record y n align fs) o v k e x =
      subst (λ r. HasShape r v) (laid_shape l.target (structs_of l) (Record y n align fs) k.laid)
      (subst (λ p. HasSort l p v) (sym (some_is (PartsSort (type_of (Record y n align fs))) o e)) x)
  value_shaped (Row r n) o v k e x =
      subst (λ r'. HasShape r' v) (laid_shape l.target (structs_of l) (Row r n) k.laid)
      (subst (λ p. HasSort l p v) (sym (some_is (PartsSort (type_of (Row r n))) o e)) x)

  field_fine : (k : ℕ) (path : X.Path) (y : Name) (n align : ℕ) (fs : Fields) (q : Shape) (o : Option Spot) → member_spot fs k ≡ o → shape_in o (λ r. shape_along g path r) ≡ Some q →
      ((r : Shape) → shape_along g path r ≡ Some q → AreFine path r q) → AreFine (X.IntoField k path) (Record y n align fs) q
  field_fine k path y n align fs q None same e rest = absurd cc
  field_fine k path y n align fs q (Some p) same e rest =
      let f = rest p.shape e in
      let m = further_shape p.offset (spot p.shape (ps_of path)) f.end f.leads in
      record {
        ready = f.ready;
        end = m.0;
        leads = subst (λ o. and_then_spot o (λ r. further r.offset (spot r.shape (ps_of path))) ≡ Some m.0) (sym same) m.1;
        shape = m.2 ∙ f.shape;
      }

  element_fine : (i : X.Exp) (path : X.Path) (r : Shape) (n : ℕ) (q : Shape) (b : Bool) → is_number (sort_of g i) ≡ b → cond b (shape_along g path r) None ≡ Some q →
      (sort_of g i ≡ number_sort → Fine i (Of NumberSort)) → (shape_along g path r ≡ Some q → AreFine path r q) → AreFine (X.IntoElement i path) (Row r n) q
  element_fine i path r n q false same e index rest = absurd cc
  element_fine i path r n q true same e index rest =
      let f = rest e in
      let m = further_shape (number_in (at i) *ℤ pos (size r)) (spot r (ps_of path)) f.end f.leads in
      record { ready = ((index (number_inv (sort_of g i) same)).ready, f.ready); end = m.0; leads = m.1; shape = m.2 ∙ f.shape }

  mutual
    pub fine : (e : X.Exp) (o : Sort) → sort_of g e ≡ Some o → Fine e o
    fine (X.Var x) o q =
        let v = scalar_inv (g.names x) o q in
        subst (λ p. Fine (X.Var x) p) v.2 (record { ready = no_parts v.0 (env x) (names x v.0 v.1); sort = names x v.0 v.1; good = tt })
    fine (X.WordLit w) o q =
        let p = where_inv (is_width w.width && nat_lt w.bits (2 ^ w.width)) (word_sort w.width) o q in
        let b = and_parts (is_width w.width) (nat_lt w.bits (2 ^ w.width)) p.0 in
        word_fine (X.WordLit w) w.width o p.1 tt (record { has_width = refl; fits = ltb-true w.bits (2 ^ w.width) b.1 })
    fine (X.NumberLit n) o q = number_fine (X.NumberLit n) o q tt tt
    fine (X.TruthLit b) o q = truth_fine (X.TruthLit b) o q tt tt
    fine (X.WordBinary op a b) o q =
        let p = words_inv (word_width (sort_of g a)) (word_width (sort_of g b)) word_sort o q in
        let x = fine a (Of (WordSort p.0)) (width_inv (sort_of g a) p.0 p.1) in
        let y = fine b (Of (WordSort p.0)) (width_inv (sort_of g b) p.0 p.2) in
        let u = bits_word p.0 (at a) x.sort in
        let w = bits_word p.0 (at b) y.sort in
        word_fine (X.WordBinary op a b) p.0 o p.3 (x.ready, y.ready, u.has_width ∙ sym w.has_width) (op_word p.0 op (word_in (at a)) (word_in (at b)) u)
    fine (X.WordShift op a n) o q =
        let p = where_inv (is_number (sort_of g n)) (of_word (word_width (sort_of g a)) word_sort) o q in
        let w = word_inv (word_width (sort_of g a)) word_sort o p.1 in
        let x = fine a (Of (WordSort w.0)) (width_inv (sort_of g a) w.0 w.1) in
        let y = fine n (Of NumberSort) (number_inv (sort_of g n) p.0) in
        word_fine (X.WordShift op a n) w.0 o w.2 (x.ready, y.ready) (shift_word w.0 op (word_in (at a)) (number_in (at n)) (bits_word w.0 (at a) x.sort))
    fine (X.WordUnary op a) o q =
        let w = word_inv (word_width (sort_of g a)) word_sort o q in
        let x = fine a (Of (WordSort w.0)) (width_inv (sort_of g a) w.0 w.1) in
        word_fine (X.WordUnary op a) w.0 o w.2 x.ready (unary_word w.0 op (word_in (at a)) (bits_word w.0 (at a) x.sort))
    fine (X.WordCompare op a b) o q =
        let p = words_inv (word_width (sort_of g a)) (word_width (sort_of g b)) (λ n. truth_sort) o q in
        let x = fine a (Of (WordSort p.0)) (width_inv (sort_of g a) p.0 p.1) in
        let y = fine b (Of (WordSort p.0)) (width_inv (sort_of g b) p.0 p.2) in
        let u = bits_word p.0 (at a) x.sort in
        let w = bits_word p.0 (at b) y.sort in
        truth_fine (X.WordCompare op a b) o p.3 (x.ready, y.ready, u.has_width ∙ sym w.has_width) tt
    fine (X.Cast op n a) o q =
        let w = word_inv (word_width (sort_of g a)) (λ from. where_holds (is_width n && cast_fits op from n) (word_sort n)) o q in
        let p = where_inv (is_width n && cast_fits op w.0 n) (word_sort n) o w.2 in
        let b = and_parts (is_width n) (cast_fits op w.0 n) p.0 in
        let x = fine a (Of (WordSort w.0)) (width_inv (sort_of g a) w.0 w.1) in
        word_fine (X.Cast op n a) n o p.1 (x.ready, width_of_test n b.0) (cast_word op n (word_in (at a)))
    fine (X.ToNat a) o q =
        let w = word_inv (word_width (sort_of g a)) (λ n. number_sort) o q in
        let x = fine a (Of (WordSort w.0)) (width_inv (sort_of g a) w.0 w.1) in
        number_fine (X.ToNat a) o w.2 x.ready tt
    fine (X.ToInt a) o q =
        let w = word_inv (word_width (sort_of g a)) (λ n. number_sort) o q in
        let x = fine a (Of (WordSort w.0)) (width_inv (sort_of g a) w.0 w.1) in
        number_fine (X.ToInt a) o w.2 x.ready tt
    fine (X.ToWord n a) o q =
        let p = where_inv (is_width n && is_number (sort_of g a)) (word_sort n) o q in
        let b = and_parts (is_width n) (is_number (sort_of g a)) p.0 in
        let x = fine a (Of NumberSort) (number_inv (sort_of g a) b.1) in
        word_fine (X.ToWord n a) n o p.1 (x.ready, width_of_test n b.0) (word_fits n (number_in (at a)))
    fine (X.Arith op a b) o q =
        let p = where_inv ((not (is_unary op) && is_number (sort_of g a)) && is_number (sort_of g b)) number_sort o q in
        let c = and_parts (not (is_unary op) && is_number (sort_of g a)) (is_number (sort_of g b)) p.0 in
        let d = and_parts (not (is_unary op)) (is_number (sort_of g a)) c.0 in
        let x = fine a (Of NumberSort) (number_inv (sort_of g a) d.1) in
        let y = fine b (Of NumberSort) (number_inv (sort_of g b) c.1) in
        number_fine (X.Arith op a b) o p.1 (x.ready, y.ready) tt
    fine (X.Negate a) o q =
        let p = where_inv (is_number (sort_of g a)) number_sort o q in
        number_fine (X.Negate a) o p.1 (fine a (Of NumberSort) (number_inv (sort_of g a) p.0)).ready tt
    fine (X.Lt a b) o q =
        let p = where_inv (is_number (sort_of g a) && is_number (sort_of g b)) truth_sort o q in
        let c = and_parts (is_number (sort_of g a)) (is_number (sort_of g b)) p.0 in
        truth_fine (X.Lt a b) o p.1 ((fine a (Of NumberSort) (number_inv (sort_of g a) c.0)).ready, (fine b (Of NumberSort) (number_inv (sort_of g b) c.1)).ready) tt
    fine (X.Le a b) o q =
        let p = where_inv (is_number (sort_of g a) && is_number (sort_of g b)) truth_sort o q in
        let c = and_parts (is_number (sort_of g a)) (is_number (sort_of g b)) p.0 in
        truth_fine (X.Le a b) o p.1 ((fine a (Of NumberSort) (number_inv (sort_of g a) c.0)).ready, (fine b (Of NumberSort) (number_inv (sort_of g b) c.1)).ready) tt
    fine (X.Between low a high) o q =
        let p = where_inv (is_number (sort_of g a)) truth_sort o q in
        truth_fine (X.Between low a high) o p.1 (fine a (Of NumberSort) (number_inv (sort_of g a) p.0)).ready tt
    fine (X.Eq a b) o q =
        let p = where_inv (are_same (sort_of g a) (sort_of g b)) truth_sort o q in
        let c = same_inv (sort_of g a) (sort_of g b) p.0 in
        truth_fine (X.Eq a b) o p.1 ((fine a c.0 c.1).ready, (fine b c.0 c.2).ready) tt
    fine (X.And a b) o q =
        let p = where_inv (is_truth (sort_of g a) && is_truth (sort_of g b)) truth_sort o q in
        let c = and_parts (is_truth (sort_of g a)) (is_truth (sort_of g b)) p.0 in
        truth_fine (X.And a b) o p.1 ((fine a (Of TruthSort) (truth_inv (sort_of g a) c.0)).ready, (fine b (Of TruthSort) (truth_inv (sort_of g b) c.1)).ready) tt
    fine (X.Or a b) o q =
        let p = where_inv (is_truth (sort_of g a) && is_truth (sort_of g b)) truth_sort o q in
        let c = and_parts (is_truth (sort_of g a)) (is_truth (sort_of g b)) p.0 in
        truth_fine (X.Or a b) o p.1 ((fine a (Of TruthSort) (truth_inv (sort_of g a) c.0)).ready, (fine b (Of TruthSort) (truth_inv (sort_of g b) c.1)).ready) tt
    fine (X.Imp a b) o q =
        let p = where_inv (is_truth (sort_of g a) && is_truth (sort_of g b)) truth_sort o q in
        let c = and_parts (is_truth (sort_of g a)) (is_truth (sort_of g b)) p.0 in
        truth_fine (X.Imp a b) o p.1 ((fine a (Of TruthSort) (truth_inv (sort_of g a) c.0)).ready, (fine b (Of TruthSort) (truth_inv (sort_of g b) c.1)).ready) tt
    fine (X.Not a) o q =
        let p = where_inv (is_truth (sort_of g a)) truth_sort o q in
        truth_fine (X.Not a) o p.1 (fine a (Of TruthSort) (truth_inv (sort_of g a) p.0)).ready tt
    fine (X.If c a b) o q =
        let p = where_inv (is_truth (sort_of g c) && are_same (sort_of g a) (sort_of g b)) (sort_of g a) o q in
        let d = and_parts (is_truth (sort_of g c)) (are_same (sort_of g a) (sort_of g b)) p.0 in
        let r = same_inv (sort_of g a) (sort_of g b) d.1 in
        let same = some_is r.0 o (sym r.1 ∙ p.1) in
        let x = fine a o p.1 in
        let y = fine b o (r.2 ∙ ap (λ t. Some t) same) in
        record {
          ready = ((fine c (Of TruthSort) (truth_inv (sort_of g c) d.0)).ready, x.ready, y.ready);
          sort = if_fine (truth_in (at c)) o (at a) (at b) x.sort y.sort;
          good = x.good;
        }
    fine (X.Padd t p n) o q =
        let r = where_inv ((is_object l t && is_word_of width (sort_of g p)) && is_number (sort_of g n)) (word_sort width) o q in
        let c = and_parts (is_object l t && is_word_of width (sort_of g p)) (is_number (sort_of g n)) r.0 in
        let d = and_parts (is_object l t) (is_word_of width (sort_of g p)) c.0 in
        let x = fine p (Of (WordSort width)) (word_of_inv width (sort_of g p) d.1) in
        let y = fine n (Of NumberSort) (number_inv (sort_of g n) c.1) in
        word_fine (X.Padd t p n) width o r.1 (x.ready, y.ready, root_of t p d.0 x)
        (record { has_width = refl; fits = address_below l (word_in (at p)).bits (pos (size (shape_of l t)) *ℤ number_in (at n)) })
    fine (X.At t p path) o q =
        let r = where_inv (is_object l t && is_word_of width (sort_of g p)) (of_shape (shape_along g path (shape_of l t)) (λ s'. word_sort width)) o q in
        let d = and_parts (is_object l t) (is_word_of width (sort_of g p)) r.0 in
        let e = shape_inv (shape_along g path (shape_of l t)) (λ s'. word_sort width) o r.1 in
        let x = fine p (Of (WordSort width)) (word_of_inv width (sort_of g p) d.1) in
        let f = fine_path path (shape_of l t) e.0 e.1 in
        word_fine (X.At t p path) width o e.2 (x.ready, f.ready, root_of t p d.0 x)
        (moved_word (word_in (at p)) (spot (shape_of l t) (ps_of path)) (bits_word width (at p) x.sort))
    fine (X.Load t p path) o q =
        let r = where_inv (is_object l t && is_word_of width (sort_of g p)) (of_shape (shape_along g path (shape_of l t)) sort_at) o q in
        let d = and_parts (is_object l t) (is_word_of width (sort_of g p)) r.0 in
        let e = shape_inv (shape_along g path (shape_of l t)) sort_at o r.1 in
        let x = fine p (Of (WordSort width)) (word_of_inv width (sort_of g p) d.1) in
        let f = fine_path path (shape_of l t) e.0 e.1 in
        let k = end_fine (shape_of l t) e.0 path f o (at (X.Load t p path)) (good_object l t h d.0) e.2 (heap_read l h t d.0 (word_in (at p)).bits (ps_of path) f.end f.leads s.heap heap) in
        record { ready = (x.ready, f.ready, root_of t p d.0 x, some_end (spot (shape_of l t) (ps_of path)) f.end f.leads); sort = k.0; good = k.1 }
    fine (X.Read t p path) o q =
        let r = where_inv (is_object l t && is_word_of width (sort_of g p)) (of_shape (shape_along g path (shape_of l t)) sort_at) o q in
        let d = and_parts (is_object l t) (is_word_of width (sort_of g p)) r.0 in
        let e = shape_inv (shape_along g path (shape_of l t)) sort_at o r.1 in
        let x = fine p (Of (WordSort width)) (word_of_inv width (sort_of g p) d.1) in
        let f = fine_path path (shape_of l t) e.0 e.1 in
        let k = end_fine (shape_of l t) e.0 path f o (at (X.Read t p path)) (good_object l t h d.0) e.2 (heap_read l h t d.0 (word_in (at p)).bits (ps_of path) f.end f.leads s.heap heap) in
        record { ready = (x.ready, f.ready, root_of t p d.0 x, some_end (spot (shape_of l t) (ps_of path)) f.end f.leads); sort = k.0; good = k.1 }
    fine (X.Tagged t p) o q =
        let r = where_inv (is_object l t && is_word_of width (sort_of g p)) truth_sort o q in
        let d = and_parts (is_object l t) (is_word_of width (sort_of g p)) r.0 in
        let x = fine p (Of (WordSort width)) (word_of_inv width (sort_of g p) d.1) in
        truth_fine (X.Tagged t p) o r.1 (x.ready, root_of t p d.0 x) tt
    fine (X.PtrOk t p) o q =
        let r = where_inv (is_object l t && is_word_of width (sort_of g p)) truth_sort o q in
        let d = and_parts (is_object l t) (is_word_of width (sort_of g p)) r.0 in
        let x = fine p (Of (WordSort width)) (word_of_inv width (sort_of g p) d.1) in
        truth_fine (X.PtrOk t p) o r.1 (x.ready, root_of t p d.0 x) tt
    fine (X.Global x path) o q =
        let a = type_inv (g.globals x) (λ t. where_holds (is_object l t) (of_shape (shape_along g path (shape_of l t)) sort_at)) o q in
        let r = where_inv (is_object l a.0) (of_shape (shape_along g path (shape_of l a.0)) sort_at) o a.2 in
        let e = shape_inv (shape_along g path (shape_of l a.0)) sort_at o r.1 in
        let f = fine_path path (shape_of l a.0) e.0 e.1 in
        let good = good_object l a.0 h r.0 in
        let k = path_ends (shape_of l a.0) (ps_of path) f.end (s.globals x) (good_whole l (shape_of l a.0) good) (globals x a.0 a.1) f.leads in
        let m = end_fine (shape_of l a.0) e.0 path f o (at (X.Global x path)) good e.2 k.1 in
        record { ready = (f.ready, k.0); sort = m.0; good = m.1 }
    fine (X.Sel e path) o q =
        let r = where_inv (is_one_step path) (of_shape (parts_shape l (sort_of g e)) (λ s'. of_shape (shape_along g path s') sort_at)) o q in
        let a = shape_inv (parts_shape l (sort_of g e)) (λ s'. of_shape (shape_along g path s') sort_at) o r.1 in
        let b = parts_inv l (sort_of g e) a.0 a.1 in
        let x = fine e (PartsSort b.0) b.1 in
        let c = shape_inv (shape_along g path a.0) sort_at o a.2 in
        let f = fine_path path a.0 c.0 c.1 in
        let good = subst (λ p. Good l p) b.2 x.good in
        let k = path_ends a.0 (ps_of path) f.end (at e) (good_whole l a.0 good) (subst (λ p. HasShape p (at e)) b.2 x.sort) f.leads in
        let m = end_fine a.0 c.0 path f o (at (X.Sel e path)) good c.2 k.1 in
        record { ready = (x.ready, f.ready, k.0); sort = m.0; good = m.1 }
    fine (X.Upd e path v) o q =
        let a = shape_inv (parts_shape l (sort_of g e)) (λ s'. of_shape (shape_along g path s') (λ p. where_holds (are_same (sort_at p) (sort_of g v)) (sort_of g e))) o q in
        let b = parts_inv l (sort_of g e) a.0 a.1 in
        let x = fine e (PartsSort b.0) b.1 in
        let c = shape_inv (shape_along g path a.0) (λ p. where_holds (are_same (sort_at p) (sort_of g v)) (sort_of g e)) o a.2 in
        let f = fine_path path a.0 c.0 c.1 in
        let w = where_inv (are_same (sort_at c.0) (sort_of g v)) (sort_of g e) o c.2 in
        let r = same_inv (sort_at c.0) (sort_of g v) w.0 in
        let y = fine v r.0 r.2 in
        let good = subst (λ p. Good l p) b.2 x.good in
        let part = value_shaped c.0 r.0 (at v) (subst (λ p. Good l p) f.shape (good_spot l a.0 (ps_of path) f.end good f.leads)) r.1 y.sort in
        let new = upd_put (ps_of path) (at v) a.0 (at e) f.end (subst (λ p. HasShape p (at e)) b.2 x.sort) f.leads (subst (λ p. HasShape p (at v)) (sym f.shape) part) in
        subst (λ p. Fine (X.Upd e path v) p) (some_is (PartsSort b.0) o (sym b.1 ∙ w.1))
        (record { ready = (x.ready, f.ready, y.ready); sort = subst (λ p. HasShape p (at (X.Upd e path v))) (sym b.2) new; good = x.good })

    pub fine_path : (path : X.Path) (r q : Shape) → shape_along g path r ≡ Some q → AreFine path r q
    fine_path X.Here r q e =
        record { ready = tt; end = record { offset = pos 0; shape = r }; leads = refl; shape = (let same : r ≡ q = cc in same) }
    fine_path (X.IntoField k path) (Record y n align fs) q e =
        field_fine k path y n align fs q (member_spot fs k) refl e (λ r. fine_path path r q)
    fine_path (X.IntoElement i path) (Row r n) q e =
        element_fine i path r n q (is_number (sort_of g i)) refl e (λ c. fine i (Of NumberSort) c) (fine_path path r q)
    fine_path _ _ q e = absurd cc
