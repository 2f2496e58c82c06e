-- A typed constant expression is defined where it has a constant value, and gives that.
use Rattle.std.specs.Prelude.{option_and_then}
use Rattle.std.specs.Option.{option_map}
use Rattle.std.proofs.Common.{◌≡◌, ℕ, zero, suc, ◌+◌, ◌*◌, ◌^◌, ◌<◌, ◌≤◌, nat_le, Bool, true, false, not, ◌&&◌, cond, List, ◌∷◌, Option, Some, None, Ok, Err, ℤ, pos, negsuc, neg_ℤ, ◌+ℤ◌, ◌*ℤ◌, refl, sym, ap, ap₂, ◌∙◌, subst, arith, lit≤, lit<, le_trans, leb-true}
use Rattle.std.proofs.lemmas.Bool.{false≢true, and_from, cond-true, le-leb, ltb-true, lt-ltb}
use Rattle.std.proofs.lemmas.Int.{ints}
use Rattle.std.proofs.Math.IntN.{+ℤ_assoc}
use Rattle.std.specs.Cmp.{first_so, second_so}
use Rattle.c_values.specs.Types.{Target, Ilp32, Lp64, IntType, CType, Integer, Ptr, width_of, address_width, is_signed}
use Rattle.c_values.specs.Word.{Word, IsWord, unsigned, word, word_op, Wmul, Wand, Wor, Wxor}
use Rattle.c_values.specs.Value as V
use Rattle.c_values.specs.Layout.{Layout, IsLayout, Shape, Incomplete, Scalar, Record, Row, Fields, no_fields, field, size, size_of, shape_of, is_object, is_complete, is_scalar, scalar_width, largest_size}
use Rattle.c_values.specs.Path.{Step, Field, Index, Spot, IsBits, member_spot, is_index, spot, and_then_spot, further}
use Rattle.c_values.specs.StepInto.{step_into}
use Rattle.c_values.specs.CodeSameType.{type_is}
use Rattle.c_values.proofs.Formed.{IsFormed, AreFormed, members_end, size_some}
use Rattle.c_values.proofs.Laid.{shape_good}
use Rattle.c_values.proofs.Parts.{formed_complete}
use Rattle.c_values.proofs.WordValues.{word-unsigned}
use Rattle.c_values.proofs.Options.{none_some, some_is}
use Rattle.c_values.proofs.Widths.{some_width}
use Rattle.expression_lang.specs.Evaluation as E
use Rattle.expression_lang.specs.Evaluation.{Env, State, moved_to}
use Rattle.expression_lang.specs.GuardKind as K
use Rattle.expression_lang.proofs.Sorting.{object_whole}
use Rattle.expression_lang.proofs.Filled.{word_fits}
use Rattle.expression_lang.proofs.Fine.{bits_word}
use Rattle.c_lang.specs.Typed as C
use Rattle.c_lang.specs.WellTyped.{Scope, is_typed, is_typed_place, are_typed_indices, has_type, member_shape, shape_along}
use Rattle.c_lang.proofs.Paths.{none_along}
use Rattle.c_meaning.specs.CValue.{Context, Defined, ◌>>=◌, unless, number_of_type, int_of, is_true, value, located, indexed, are_in_bounds, InMemory, address_of}
use Rattle.c_meaning.specs.CValue as M
use Rattle.generation.specs.Guards.{is_signed_type}
use Rattle.generation.proofs.ExactNumbers.{number_by, number_of_type_is, some_scalar, bits_are, word-number}
use Rattle.generation.proofs.ExactPath.{end_of, into_row}
use Rattle.typing_rules.specs.Constant as F
use Rattle.typing_rules.specs.Constant.{is_constant, is_constant_place, is_constant_path, folded, address, reached, constant_value}
use Rattle.constant_laws.specs.SameValue.{IsSameValue, plain, HasItsValue}
use Rattle.constant_laws.proofs.Numbers.{HasNumber, Matches, and_then, mapped, chosen, of_number, of_same, negation_same, complement_same, sum_same, difference_same, product_same, quotient_same, remainder_same, combined_same, left_same, right_same, zero_same}
use Rattle.constant_laws.proofs.Addresses.{first_again, moved_bytes, moved_on, moved_back}

-- ---- parts of an object are objects

abbrev IsPart : Shape → Type 0
IsPart s = IsFormed s × (size s ≤ largest_size)

member_part : (fs : Fields) (align n at k : ℕ) (s : Shape) → AreFormed align n at fs → member_shape fs k ≡ Some s → IsFormed s × (size s ≤ n)
member_part no_fields align n at k s h e = absurd (none_some e)
member_part (field offset r fs) align n at zero s h e =
    let ends : offset + size r ≤ n = members_end align n (offset + size r) fs h.others in
    subst (λ q. IsFormed q × (size q ≤ n)) (some_is e) (h.first, omega arith)
member_part (field offset r fs) align n at (suc k) s h e = member_part fs align n (offset + size r) k s h.others e

element_size : (n e m : ℕ) → 0 < n → n * e ≤ m → e ≤ m
element_size n e m h k = let j : e ≤ n * e = grind arith in omega arith

elements_few : (n e m : ℕ) → 0 < e → n * e ≤ m → n ≤ m
elements_few n e m h k = let j : n ≤ n * e = grind arith in omega arith

member_spotted : (fs : Fields) (k : ℕ) (s : Shape) → member_shape fs k ≡ Some s → (at : ℕ) × (member_spot fs k ≡ Some (record { offset = pos at; shape = s }))
member_spotted no_fields k s e = absurd (none_some e)
member_spotted (field at r fs) zero s e = (at, ap (λ q. Some (record { offset = pos at; shape = q })) (some_is e))
member_spotted (field at r fs) (suc k) s e = member_spotted fs k s e

part_object : (s : Shape) → IsPart s → F.object_in s ≡ s
part_object s h = cond-true (is_complete s && nat_le (size s) largest_size) s Incomplete (and_from _ _ (formed_complete s h.0) (le-leb (size s) largest_size h.1))

index_small : (i : ℤ) (n : ℕ) → n ≤ 2 ^ 32 → is_index i n ≡ true → is_index i (2 ^ 32) ≡ true
index_small (pos i) n h e = let k = ltb-true i n e in lt-ltb i (2 ^ 32) (omega arith)
index_small (negsuc i) n h e = absurd (false≢true e)

small_space : (t : Target) (n : ℕ) → n ≤ largest_size → n < 2 ^ address_width t
small_space Ilp32 n h = omega (arith, lit< {m = 65536} {n = 2 ^ 32} tt)
small_space Lp64 n h = omega (arith, lit< {m = 65536} {n = 2 ^ 64} tt)

object_small : (l : Layout) (t : CType) → is_object l t ≡ true → size_of l t < 2 ^ address_width l.target
object_small l t h = small_space l.target (size_of l t) (leb-true (size_of l t) largest_size (second_so _ _ h))

-- an int of a truth value
truth_same : (l : Layout) (t u : Bool) → t ≡ u → HasNumber true 32 (F.truth t) (int_of l u)
truth_same l t u e = subst (λ b. HasNumber true 32 (F.truth t) (int_of l b)) e (by_value t)
  where
    by_value : (b : Bool) → HasNumber true 32 (F.truth b) (int_of l b)
    by_value true = record { bits = word_fits 32 (pos 1); number = refl }
    by_value false = record { bits = word_fits 32 (pos 0); number = refl }

compares_same : (r : C.Relation) (m n : ℤ) → F.compares r m n ≡ M.compares r m n
compares_same C.Less m n = refl
compares_same _ _ _ = refl

equates_same : (q : C.Equality) (m n : ℤ) → F.equates q m n ≡ M.equates q m n
equates_same C.Equal m n = refl
equates_same C.NotEqual m n = refl

module _ (g : Scope) (layout : IsLayout g.layout) (locals : Env) (st : State) where
  abbrev l : Layout
  l = g.layout

  abbrev c : Context
  c = plain g.layout locals st

  abbrev A : ℕ
  A = address_width g.layout.target

  abbrev At : CType → C.Expr → Type 0
  At t e = Matches (is_signed_type t) (scalar_width g.layout.target t) (folded g.layout e) (value c e)

  -- an operand of a type
  as_type : (t : CType) (e : C.Expr) → has_type t e ≡ true → At (C.type_of e) e → At t e
  as_type t e h k = subst (λ u. At u e) (type_is (C.type_of e) t h) k

  word_at : (t : CType) (v : V.Value) → IsBits (scalar_width g.layout.target t) v → IsWord (scalar_width g.layout.target t) (V.word_in v)
  word_at t v h = bits_word (scalar_width l.target t) v h

  converted_same : (t from : CType) (v : V.Value) → is_scalar t ≡ true → HasNumber (is_signed_type t) (scalar_width g.layout.target t) (F.number_at g.layout t (number_by (is_signed_type from) (V.word_in v))) (M.converted g.layout t from v)
  converted_same (Integer i) from v h =
      of_same (is_signed i) (width_of l.target i) (some_width l.target i) (word (width_of l.target i) (number_by (is_signed_type from) (V.word_in v))) (word (width_of l.target i) (number_of_type from v)) (word_fits _ _)
      (ap (word (width_of l.target i)) (sym (number_of_type_is from v)))
  converted_same (Ptr u) from v h =
      of_same false A (some_scalar l.target (Ptr u)) (word A (number_by (is_signed_type from) (V.word_in v))) (word A (number_of_type from v)) (word_fits _ _) (ap (word A) (sym (number_of_type_is from v)))
  converted_same _ _ _ h = absurd (false≢true h)

  module _ (i : IntType) where
    abbrev b : Bool
    b = is_signed i

    abbrev w : ℕ
    w = width_of g.layout.target i

    some : 1 ≤ width_of g.layout.target i
    some = some_width l.target i

    computed_same : (op : C.Arithmetic) (x y : Word) → IsWord w x → IsWord w y → Matches b w (F.computed g.layout op i (number_by b x) (number_by b y)) (M.computed g.layout c.level i op (number_by b x) (number_by b y))
    computed_same C.Add x y h k = sum_same b w some x h y k
    computed_same C.Subtract x y h k = difference_same b w some x h y k
    computed_same C.Multiply x y h k = product_same b w some x h y k
    computed_same C.Divide x y h k = quotient_same b w some x h y k
    computed_same C.Remainder x y h k = remainder_same b w some x h y k

    bitwise_same : (op : C.Bitwise) (x y : Word) → IsWord w x → IsWord w y → HasNumber b w (F.combined g.layout op i (number_by b x) (number_by b y)) (M.combined op x y)
    bitwise_same C.BitAnd x y h k = combined_same b w some x h y k Wand
    bitwise_same C.BitOr x y h k = combined_same b w some x h y k Wor
    bitwise_same C.BitXor x y h k = combined_same b w some x h y k Wxor

    shifted_same : (d : C.Direction) (x : Word) (n : ℤ) → IsWord w x → Matches b w (F.shifted g.layout d i (number_by b x) n) (M.shifted g.layout i d (number_by b x) n)
    shifted_same C.Left x n h = left_same b w some x h n
    shifted_same C.Right x n h = right_same b w some x h n

  -- an address that moves by objects
  moved_same : (s : C.Sign) (t : CType) (p : Word) (n : ℤ) → is_object g.layout t ≡ true → IsWord A p →
      HasNumber false A (F.moved g.layout s t (unsigned p) n) (E.moved g.layout p (pos (size_of g.layout t) *ℤ M.signed_offset s n))
  moved_same s t p n o h =
      subst (λ k. HasNumber false A (unsigned (word_op (F.sign_op s) (word A (unsigned p)) (word_op Wmul (word A (pos k)) (word A n)))) (E.moved l p (pos (size_of l t) *ℤ M.signed_offset s n)))
      (sym (cond-true (is_object l t) (size_of l t) 0 o)) (by_sign s)
    where
      by_sign : (d : C.Sign) →
          HasNumber false A (unsigned (word_op (F.sign_op d) (word A (unsigned p)) (word_op Wmul (word A (pos (size_of g.layout t))) (word A n)))) (E.moved g.layout p (pos (size_of g.layout t) *ℤ M.signed_offset d n))
      by_sign C.Plus = record { bits = word_fits A _; number = ap unsigned (sym (moved_on A p h (size_of l t) n (object_small l t o))) }
      by_sign C.Minus = record { bits = word_fits A _; number = ap unsigned (sym (moved_back A p h (size_of l t) n (object_small l t o))) }

  -- ---- paths

  -- a path leads from a root in bounds, or there is no address
  abbrev Reaches : ℤ → Shape → Bool → List Step → Option ℤ → Type 0
  Reaches x r false ps o = o ≡ None
  Reaches x r true ps o = (z : Spot) × (spot r ps ≡ Some z) × (o ≡ Some (unsigned (word A (x +ℤ z.offset))))

  abbrev PathSame : ℤ → Shape → C.Path → Defined (List Step) → Option ℤ → Type 0
  PathSame x r path (Err k) o = o ≡ None
  PathSame x r path (Ok ps) o = Reaches x r (are_in_bounds path ps) ps o

  further_reaches : (x off : ℤ) (r s : Shape) (p : Step) (ps : List Step) (t : Bool) (o : Option ℤ) → spot r (p ∷ ps) ≡ further off (spot s ps) → Reaches (x +ℤ off) s t ps o → Reaches x r t (p ∷ ps) o
  further_reaches x off r s p ps false o e h = h
  further_reaches x off r s p ps true o e h =
      let z = h.0 in (record { offset = off +ℤ z.offset; shape = z.shape }, e ∙ ap (further off) h.1, h.2 ∙ ap (λ k. Some (unsigned (word A k))) (+ℤ_assoc x off z.offset))

  -- the address by bytes on
  bytes_on : (x n : ℤ) → F.moved_by g.layout (unsigned (word A x)) n ≡ unsigned (word A (x +ℤ n))
  bytes_on x n = ap unsigned (moved_bytes A (word A x) (word_fits A x) n ∙ first_again A x n)

  member_step : (x : ℤ) (k : ℕ) (path : C.Path) (r s : Shape) (at : ℤ) (d : Defined (List Step)) → ((ps : List Step) → spot r (Field k ∷ ps) ≡ further at (spot s ps)) →
      F.member_into r k ≡ Some (record { offset = at; shape = s }) → PathSame (x +ℤ at) s path d (reached g.layout path s (unsigned (word A (x +ℤ at)))) →
      PathSame x r (C.Member k path) (d >>= λ ps. Ok (Field k ∷ ps)) (reached g.layout (C.Member k path) r (unsigned (word A x)))
  member_step x k path r s at d e i h =
      subst (λ o. PathSame x r (C.Member k path) (d >>= λ ps. Ok (Field k ∷ ps)) (option_and_then {T = Spot} (λ q. reached l path q.shape (F.moved_by l (unsigned (word A x)) q.offset)) o)) (sym i)
      (subst (λ m. PathSame x r (C.Member k path) (d >>= λ ps. Ok (Field k ∷ ps)) (reached l path s m)) (sym (bytes_on x at)) (by_steps d h))
    where
      by_steps : (d : Defined (List Step)) → PathSame (x +ℤ at) s path d (reached g.layout path s (unsigned (word A (x +ℤ at)))) →
          PathSame x r (C.Member k path) (d >>= λ ps. Ok (Field k ∷ ps)) (reached g.layout path s (unsigned (word A (x +ℤ at))))
      by_steps (Err k') h' = h'
      by_steps (Ok ps) h' = further_reaches x at r s (Field k) ps (are_in_bounds path ps) (reached l path s (unsigned (word A (x +ℤ at)))) (e ps) h'

  -- the element of an index that is in bounds
  abbrev element : Shape → ℤ → Bool → Option Spot
  element s i true = Some (record { offset = i *ℤ pos (size s); shape = s })
  element s i false = None

  element_in : (s : Shape) (n : ℕ) (i : ℤ) → IsPart (Row s n) → F.element_into (Row s n) i ≡ element s i (is_index i n)
  element_in s n i h = ap (λ z. cond (is_index i (2 ^ 32)) (step_into z (Index i)) None) (part_object (Row s n) h) ∙ by_test (is_index i n) refl (is_index i (2 ^ 32)) refl
    where
      by_test : (t : Bool) → is_index i n ≡ t → (u : Bool) → is_index i (2 ^ 32) ≡ u →
          cond {A = Option Spot} u (cond {A = Option Spot} t (element s i true) None) None ≡ element s i t
      by_test false e true f = refl
      by_test true e false f =
          absurd (false≢true (sym f ∙ index_small i n (le_trans (elements_few n (size s) largest_size (size_some s h.0.element) h.1) (lit≤ {m = 65536} {n = 2 ^ 32} tt)) e))
      by_test _ _ _ _ = refl

  -- an index that is in bounds, and then the rest of the path
  abbrev OnElement : ℤ → Shape → ℕ → C.Path → C.Expr → ℤ → Bool → Type 0
  OnElement x s n path e i t =
      PathSame x (Row s n) (C.Element n e path) (indexed c path >>= λ ps. Ok (Index i ∷ ps))
      (option_and_then {T = Spot} (λ q. reached g.layout path q.shape (F.moved_by g.layout (unsigned (word A x)) q.offset)) (element s i t))

  element_step : (x : ℤ) (s : Shape) (n : ℕ) (path : C.Path) (e : C.Expr) (i : ℤ) → ((y : ℤ) → PathSame y s path (indexed c path) (reached g.layout path s (unsigned (word A y)))) → (t : Bool) → is_index i n ≡ t → OnElement x s n path e i t
  element_step x s n path e i rest true h =
      let at = i *ℤ pos (size s) in
      subst (λ m. PathSame x (Row s n) (C.Element n e path) (indexed c path >>= λ ps. Ok (Index i ∷ ps)) (reached l path s m)) (sym (bytes_on x at)) (by_steps (indexed c path) (rest (x +ℤ at)))
    where
      by_steps : (d : Defined (List Step)) → PathSame (x +ℤ i *ℤ pos (size s)) s path d (reached g.layout path s (unsigned (word A (x +ℤ i *ℤ pos (size s))))) →
          PathSame x (Row s n) (C.Element n e path) (d >>= λ ps. Ok (Index i ∷ ps)) (reached g.layout path s (unsigned (word A (x +ℤ i *ℤ pos (size s)))))
      by_steps (Err k) h' = h'
      by_steps (Ok ps) h' =
          let o = reached l path s (unsigned (word A (x +ℤ i *ℤ pos (size s)))) in
          subst (λ t. Reaches x (Row s n) (t && are_in_bounds path ps) (Index i ∷ ps) o) (sym h)
          (further_reaches x (i *ℤ pos (size s)) (Row s n) s (Index i) ps (are_in_bounds path ps) o refl h')
  element_step x s n path e i rest false h = by_steps (indexed c path)
    where
      by_steps : (d : Defined (List Step)) → PathSame x (Row s n) (C.Element n e path) (d >>= λ ps. Ok (Index i ∷ ps)) None
      by_steps (Err k) = refl
      by_steps (Ok ps) = subst (λ t. Reaches x (Row s n) (t && are_in_bounds path ps) (Index i ∷ ps) None) (sym h) refl

  -- the same where the index is an expression's value
  index_step : (x : ℤ) (s : Shape) (n : ℕ) (path : C.Path) (e : C.Expr) → IsPart (Row s n) → ((y : ℤ) → PathSame y s path (indexed c path) (reached g.layout path s (unsigned (word A y)))) →
      (o : Option ℤ) (d : Defined V.Value) → Matches (is_signed_type (C.type_of e)) (scalar_width g.layout.target (C.type_of e)) o d →
      PathSame x (Row s n) (C.Element n e path) (d >>= λ v. indexed c path >>= λ ps. Ok (Index (number_of_type (C.type_of e) v) ∷ ps))
      (option_and_then (λ i. option_and_then {T = Spot} (λ q. reached g.layout path q.shape (F.moved_by g.layout (unsigned (word A x)) q.offset)) (F.element_into (Row s n) i)) o)
  index_step x s n path e part rest None (Err k) h = refl
  index_step x s n path e part rest (Some i) (Ok v) h =
      subst (λ j. PathSame x (Row s n) (C.Element n e path) (indexed c path >>= λ ps. Ok (Index j ∷ ps))
      (option_and_then {T = Spot} (λ q. reached l path q.shape (F.moved_by l (unsigned (word A x)) q.offset)) (F.element_into (Row s n) i))) (sym (number_of_type_is (C.type_of e) v ∙ h.number))
      (subst (λ o. PathSame x (Row s n) (C.Element n e path) (indexed c path >>= λ ps. Ok (Index i ∷ ps)) (option_and_then {T = Spot} (λ q. reached l path q.shape (F.moved_by l (unsigned (word A x)) q.offset)) o))
      (sym (element_in s n i part)) (element_step x s n path e i rest (is_index i n) refl))
  index_step _ _ _ _ _ _ _ _ _ h = absurd h

  -- a root and a path from there
  place_same : (t : CType) (path : C.Path) (o : Option ℤ) (d : Defined V.Value) → Matches false A o d → ((y : ℤ) → PathSame y (shape_of g.layout t) path (indexed c path) (reached g.layout path (shape_of g.layout t) (unsigned (word A y)))) →
      Matches false A (option_and_then (λ m. reached g.layout path (shape_of g.layout t) m) o)
      ((d >>= λ v. indexed c path >>= λ ps. unless (are_in_bounds path ps) K.Bounds (Ok (InMemory t (V.word_in v) ps))) >>= λ s. Ok (address_of c s))
  place_same t path None (Err k) h rest = tt
  place_same t path (Some m) (Ok v) h rest =
      let p = V.word_in v in
      let is = bits_word A v h.bits in
      subst (λ n. Matches false A (reached l path (shape_of l t) n) ((indexed c path >>= λ ps. unless (are_in_bounds path ps) K.Bounds (Ok (InMemory t p ps))) >>= λ s. Ok (address_of c s))) (ap unsigned (word-unsigned A p is) ∙ h.number)
      (by_steps p (reached l path (shape_of l t) (unsigned (word A (unsigned p)))) (indexed c path) (rest (unsigned p)))
    where
      in_bounds : (p : Word) (ps : List Step) (o : Option ℤ) (t' : Bool) → Reaches (unsigned p) (shape_of g.layout t) t' ps o → Matches false A o (unless t' K.Bounds (Ok (InMemory t p ps)) >>= λ s. Ok (address_of c s))
      in_bounds p ps o false h = subst (λ x. Matches false A x (Err K.Bounds)) (sym h) tt
      in_bounds p ps o true h =
          subst (λ x. Matches false A x (Ok (moved_to l p (spot (shape_of l t) ps)))) (sym h.2)
          (subst (λ x. HasNumber false A (unsigned (word A (unsigned p +ℤ h.0.offset))) (moved_to l p x)) (sym h.1) (record { bits = word_fits A (unsigned p +ℤ h.0.offset); number = refl }))

      by_steps : (p : Word) (o : Option ℤ) (d : Defined (List Step)) → PathSame (unsigned p) (shape_of g.layout t) path d o →
          Matches false A o ((d >>= λ ps. unless (are_in_bounds path ps) K.Bounds (Ok (InMemory t p ps))) >>= λ s. Ok (address_of c s))
      by_steps p o (Err k) h = subst (λ x. Matches false A x (Err k)) (sym h) tt
      by_steps p o (Ok ps) h = in_bounds p ps o (are_in_bounds path ps) h
  place_same _ _ _ _ h _ = absurd h

  object_part : (t : CType) → is_object g.layout t ≡ true → IsPart (shape_of g.layout t)
  object_part t h = ((shape_good l layout t (object_whole l t h)).formed, leb-true (size_of l t) largest_size (second_so _ _ h))

  row_part : (s : Shape) (n : ℕ) → IsPart (Row s n) → IsPart s
  row_part s n h = (h.0.element, element_size n (size s) largest_size h.0.some h.1)

  no_more : (x : ℤ) → x ≡ x +ℤ pos 0
  no_more x = omega (arith, ints)

  nonzero : (a : C.Expr) (v : V.Value) → IsBits (scalar_width g.layout.target (C.type_of a)) v → F.is_true (number_by (is_signed_type (C.type_of a)) (V.word_in v)) ≡ is_true v
  nonzero a v h = zero_same (is_signed_type (C.type_of a)) (scalar_width l.target (C.type_of a)) (some_scalar l.target (C.type_of a)) v h

  tested : (a : C.Expr) → At (C.type_of a) a → Matches true 32 (option_map (λ n. F.truth (F.is_true n)) (folded g.layout a)) (value c a >>= λ v. Ok (int_of g.layout (is_true v)))
  tested a h = mapped _ _ _ _ (folded l a) (value c a) (λ n. F.truth (F.is_true n)) (λ v. int_of l (is_true v)) h (λ v q. truth_same l _ _ (nonzero a v q))

  mutual
    same : (e : C.Expr) → is_typed g e ≡ true → is_constant e ≡ true → At (C.type_of e) e
    same (C.Constant i n) h k = of_number (is_signed i) (width_of l.target i) (some i) n h
    same (C.Convert t a) h k = mapped _ _ _ _ (folded l a) (value c a) (F.number_at l t) (M.converted l t (C.type_of a)) (same a (second_so _ _ (second_so _ _ h)) k) (λ v q. converted_same t (C.type_of a) v (first_so _ _ h))
    same (C.ConvertNull t a) h k = mapped _ _ _ _ (folded l a) (value c a) (F.number_at l t) (M.converted l t (C.type_of a)) (same a (second_so _ _ (second_so _ _ h)) k) (λ v q. converted_same t (C.type_of a) v (first_so _ _ h))
    same (C.Negate i a) h k =
        and_then _ _ _ _ (folded l a) (value c a) (λ n. F.negated l i n) (λ v. M.fitted l c.level i (neg_ℤ (M.number_at i v))) (as_type (Integer i) a (first_so _ _ h) (same a (second_so _ _ h) k))
        (λ v q. negation_same (is_signed i) (width_of l.target i) (some i) (V.word_in v) (word_at (Integer i) v q))
    same (C.Complement i a) h k =
        mapped _ _ _ _ (folded l a) (value c a) (F.complement l i) _ (as_type (Integer i) a (first_so _ _ h) (same a (second_so _ _ h) k))
        (λ v q. complement_same (is_signed i) (width_of l.target i) (some i) (V.word_in v) (word_at (Integer i) v q))
    same (C.Compute op i a b) h k =
        let left = as_type (Integer i) a (first_so _ _ (first_so _ _ h)) (same a (second_so _ _ (first_so _ _ h)) (first_so _ _ k)) in
        let right = as_type (Integer i) b (first_so _ _ (second_so _ _ h)) (same b (second_so _ _ (second_so _ _ h)) (second_so _ _ k)) in
        and_then _ _ _ _ (folded l a) (value c a) _ _ left (λ v q.
        and_then _ _ _ _ (folded l b) (value c b) (λ n. F.computed l op i (number_by (is_signed i) (V.word_in v)) n) (λ z. M.computed l c.level i op (M.number_at i v) (M.number_at i z)) right (λ z r.
        computed_same i op (V.word_in v) (V.word_in z) (word_at (Integer i) v q) (word_at (Integer i) z r)))
    same (C.Combine op i a b) h k =
        let left = as_type (Integer i) a (first_so _ _ (first_so _ _ h)) (same a (second_so _ _ (first_so _ _ h)) (first_so _ _ k)) in
        let right = as_type (Integer i) b (first_so _ _ (second_so _ _ h)) (same b (second_so _ _ (second_so _ _ h)) (second_so _ _ k)) in
        and_then _ _ _ _ (folded l a) (value c a) _ _ left (λ v q.
        mapped _ _ _ _ (folded l b) (value c b) (λ n. F.combined l op i (number_by (is_signed i) (V.word_in v)) n) (λ z. M.combined op (V.word_in v) (V.word_in z)) right (λ z r.
        bitwise_same i op (V.word_in v) (V.word_in z) (word_at (Integer i) v q) (word_at (Integer i) z r)))
    same (C.Shift d i a b) h k =
        let left = as_type (Integer i) a (first_so _ _ (first_so _ _ h)) (same a (second_so _ _ (first_so _ _ h)) (first_so _ _ k)) in
        and_then _ _ _ _ (folded l a) (value c a) _ _ left (λ v q.
        and_then _ _ _ _ (folded l b) (value c b) (λ n. F.shifted l d i (number_by (is_signed i) (V.word_in v)) n) (λ z. M.shifted l i d (M.number_at i v) (number_of_type (C.type_of b) z)) (same b (second_so _ _ (second_so _ _ h)) (second_so _ _ k)) (λ z r.
        subst (λ n. Matches (is_signed i) (width_of l.target i) (F.shifted l d i (number_by (is_signed i) (V.word_in v)) (number_by (is_signed_type (C.type_of b)) (V.word_in z))) (M.shifted l i d (M.number_at i v) n))
        (sym (number_of_type_is (C.type_of b) z)) (shifted_same i d (V.word_in v) (number_by (is_signed_type (C.type_of b)) (V.word_in z)) (word_at (Integer i) v q))))
    same (C.Compare r i a b) h k =
        let left = as_type (Integer i) a (first_so _ _ (first_so _ _ h)) (same a (second_so _ _ (first_so _ _ h)) (first_so _ _ k)) in
        let right = as_type (Integer i) b (first_so _ _ (second_so _ _ h)) (same b (second_so _ _ (second_so _ _ h)) (second_so _ _ k)) in
        and_then _ _ _ _ (folded l a) (value c a) _ _ left (λ v q.
        mapped _ _ _ _ (folded l b) (value c b) (λ n. F.truth (F.compares r (number_by (is_signed i) (V.word_in v)) n)) (λ z. int_of l (M.compares r (M.number_at i v) (M.number_at i z))) right (λ z p.
        truth_same l _ _ (compares_same r _ _)))
    same (C.Equate e t a b) h k =
        let left = as_type t a (first_so _ _ (second_so _ _ (first_so _ _ h))) (same a (second_so _ _ (second_so _ _ (first_so _ _ h))) (first_so _ _ k)) in
        let right = as_type t b (first_so _ _ (second_so _ _ h)) (same b (second_so _ _ (second_so _ _ h)) (second_so _ _ k)) in
        and_then _ _ _ _ (folded l a) (value c a) _ _ left (λ v q.
        mapped _ _ _ _ (folded l b) (value c b) (λ n. F.truth (F.equates e (number_by (is_signed_type t) (V.word_in v)) n)) (λ z. int_of l (M.equates e (number_of_type t v) (number_of_type t z))) right (λ z p.
        truth_same l _ _ (equates_same e _ _ ∙ ap₂ (M.equates e) (sym (number_of_type_is t v)) (sym (number_of_type_is t z)))))
    same (C.Not a) h k =
        mapped _ _ _ _ (folded l a) (value c a) (λ n. F.truth (not (F.is_true n))) (λ v. int_of l (not (is_true v))) (same a (second_so _ _ h) k) (λ v q. truth_same l _ _ (ap not (nonzero a v q)))
    same (C.And a b) h k =
        and_then _ _ _ _ (folded l a) (value c a) _ _ (same a (second_so _ _ (first_so _ _ h)) (first_so _ _ k)) (λ v q.
        chosen true 32 _ _ _ _ _ _ (nonzero a v q) (tested b (same b (second_so _ _ (second_so _ _ h)) (second_so _ _ k))) (truth_same l false false refl))
    same (C.Or a b) h k =
        and_then _ _ _ _ (folded l a) (value c a) _ _ (same a (second_so _ _ (first_so _ _ h)) (first_so _ _ k)) (λ v q.
        chosen true 32 _ _ _ _ _ _ (nonzero a v q) (truth_same l true true refl) (tested b (same b (second_so _ _ (second_so _ _ h)) (second_so _ _ k))))
    same (C.Choose t e a b) h k =
        let j = first_so _ _ h in
        and_then _ _ _ _ (folded l e) (value c e) _ _ (same e (second_so _ _ (second_so _ _ (first_so _ _ j))) (first_so _ _ (first_so _ _ k))) (λ v q.
        chosen _ _ _ _ _ _ _ _ (nonzero e v q) (as_type t a (first_so _ _ (second_so _ _ j)) (same a (second_so _ _ (second_so _ _ j)) (second_so _ _ (first_so _ _ k))))
        (as_type t b (first_so _ _ (second_so _ _ h)) (same b (second_so _ _ (second_so _ _ h)) (second_so _ _ k))))
    same (C.Move s t p a) h k =
        let j = first_so _ _ h in
        let root = as_type (Ptr t) p (first_so _ _ (second_so _ _ j)) (same p (second_so _ _ (second_so _ _ j)) (first_so _ _ k)) in
        and_then _ _ _ _ (folded l p) (value c p) _ _ root (λ v q.
        mapped _ _ _ _ (folded l a) (value c a) (λ n. F.moved l s t (unsigned (V.word_in v)) n) (λ z. E.moved l (V.word_in v) (pos (size_of l t) *ℤ M.signed_offset s (number_of_type (C.type_of a) z))) (same a (second_so _ _ (second_so _ _ h)) (second_so _ _ k)) (λ z r.
        subst (λ n. HasNumber false A (F.moved l s t (unsigned (V.word_in v)) (number_by (is_signed_type (C.type_of a)) (V.word_in z))) (E.moved l (V.word_in v) (pos (size_of l t) *ℤ M.signed_offset s n))) (sym (number_of_type_is (C.type_of a) z))
        (moved_same s t (V.word_in v) (number_by (is_signed_type (C.type_of a)) (V.word_in z)) (first_so _ _ j) (word_at (Ptr t) v q))))
    same (C.MoveBy t a p) h k =
        let j = first_so _ _ h in
        let root = as_type (Ptr t) p (first_so _ _ (second_so _ _ h)) (same p (second_so _ _ (second_so _ _ h)) (second_so _ _ k)) in
        and_then _ _ _ _ (folded l a) (value c a) _ _ (same a (second_so _ _ (second_so _ _ j)) (first_so _ _ k)) (λ z r.
        mapped _ _ _ _ (folded l p) (value c p) (λ m. F.moved l C.Plus t m (number_by (is_signed_type (C.type_of a)) (V.word_in z))) (λ v. E.moved l (V.word_in v) (pos (size_of l t) *ℤ number_of_type (C.type_of a) z)) root (λ v q.
        subst (λ n. HasNumber false A (F.moved l C.Plus t (unsigned (V.word_in v)) (number_by (is_signed_type (C.type_of a)) (V.word_in z))) (E.moved l (V.word_in v) (pos (size_of l t) *ℤ n))) (sym (number_of_type_is (C.type_of a) z))
        (moved_same C.Plus t (V.word_in v) (number_by (is_signed_type (C.type_of a)) (V.word_in z)) (first_so _ _ j) (word_at (Ptr t) v q))))
    same (C.Address p t) h k = address_same p (second_so _ _ (first_so _ _ h)) k
    same (C.Decay p t) h k = address_same p (second_so _ _ (first_so _ _ h)) k
    same _ _ k = absurd (false≢true k)

    address_same : (p : C.Place) → is_typed_place g p ≡ true → is_constant_place p ≡ true → Matches false A (address g.layout p) (located c p >>= λ s. Ok (address_of c s))
    address_same (C.Through t p path u) h k =
        let j = first_so _ _ h in
        let i = first_so _ _ j in
        let e = end_of (shape_along (Some (shape_of l t)) path) u (second_so _ _ h) in
        place_same t path (folded l p) (value c p) (as_type (Ptr t) p (first_so _ _ (second_so _ _ i)) (same p (second_so _ _ (second_so _ _ i)) (first_so _ _ k)))
        (λ y. path_same path (second_so _ _ j) (second_so _ _ k) (shape_of l t) e.0 (object_part t (first_so _ _ i)) e.1 y)
    address_same (C.InGlobal x path u) h k = absurd (false≢true k)

    path_same : (path : C.Path) → are_typed_indices g path ≡ true → is_constant_path path ≡ true → (r q : Shape) → IsPart r → shape_along (Some r) path ≡ Some q → (x : ℤ) →
        PathSame x r path (indexed c path) (reached g.layout path r (unsigned (word A x)))
    path_same C.Here h k r q part e x = (record { offset = pos 0; shape = r }, refl, ap (λ n. Some (unsigned (word A n))) (no_more x))
    path_same (C.Member m path) h k (Record y n align fs) q part e x = by_member (member_shape fs m) refl e (path_same path h k)
      where
        by_member : (o : Option Shape) → member_shape fs m ≡ o → shape_along o path ≡ Some q →
            ((r q : Shape) → IsPart r → shape_along (Some r) path ≡ Some q → (x : ℤ) → PathSame x r path (indexed c path) (reached g.layout path r (unsigned (word A x)))) →
            PathSame x (Record y n align fs) (C.Member m path) (indexed c path >>= λ ps. Ok (Field m ∷ ps)) (reached g.layout (C.Member m path) (Record y n align fs) (unsigned (word A x)))
        by_member None d f rest = absurd (none_some (sym (none_along path) ∙ f))
        by_member (Some r) d f rest =
            let s = member_spotted fs m r d in
            let inner = member_part fs align n 0 m r part.0.members d in
            member_step x m path (Record y n align fs) r (pos s.0) (indexed c path) (λ ps. ap (λ o. and_then_spot o (λ z. further z.offset (spot z.shape ps))) s.1)
            (ap (λ z. step_into z (Field m)) (part_object (Record y n align fs) part) ∙ s.1) (rest r q (inner.0, le_trans inner.1 part.1) f (x +ℤ pos s.0))
    path_same (C.Element n i path) h k (Row r m) q part e x =
        let d = into_row n m r path q e in
        subst (λ z. PathSame x (Row r m) (C.Element z i path) (indexed c (C.Element z i path)) (reached l (C.Element z i path) (Row r m) (unsigned (word A x)))) (sym d.0)
        (index_step x r m path i part (λ y. path_same path (second_so _ _ h) (second_so _ _ k) r q (row_part r m part) d.1 y) (folded l i) (value c i) (same i (second_so _ _ (first_so _ _ h)) (first_so _ _ k)))
    path_same (C.Member m path) h k Incomplete q part e x = absurd (none_some e)
    path_same (C.Member m path) h k (Scalar u w) q part e x = absurd (none_some e)
    path_same (C.Member m path) h k (Row r n) q part e x = absurd (none_some e)
    path_same (C.Element n i path) h k Incomplete q part e x = absurd (none_some e)
    path_same (C.Element n i path) h k (Scalar u w) q part e x = absurd (none_some e)
    path_same (C.Element n i path) h k (Record y m align fs) q part e x = absurd (none_some e)

  -- in the words of the law
  as_word : (t : CType) (o : Option ℤ) (d : Defined V.Value) → Matches (is_signed_type t) (scalar_width g.layout.target t) o d → IsSameValue g.layout t o d
  as_word t None (Err k) h = tt
  as_word t (Some n) (Ok v) h =
      let w = scalar_width l.target t in
      (bits_are w v h.bits ∙ ap V.Bits (sym (word-number (is_signed_type t) w (V.word_in v) (bits_word w v h.bits)) ∙ ap (word w) h.number), number_of_type_is t v ∙ h.number)
  as_word _ _ _ h = absurd h

  constant_same : (e : C.Expr) → is_typed g e ≡ true → is_constant e ≡ true → IsSameValue g.layout (C.type_of e) (constant_value g.layout e) (value c e)
  constant_same e h k = subst (λ o. IsSameValue g.layout (C.type_of e) o (value c e)) (sym (cond-true (is_constant e) (folded l e) None k)) (as_word (C.type_of e) (folded l e) (value c e) (same e h k))

pub has_its_value : (g : Scope) (e : C.Expr) → HasItsValue g e
has_its_value g e layout h k locals st = constant_same g layout locals st e h k
