-- What stands for the value of a well-typed expression has the sort of its type, what stands for its truth is a truth value, and
-- so are its conditions.
use Rattle.std.specs.Prelude.{nat_lt}
use Rattle.std.proofs.Common.{◌≡◌, ℕ, zero, suc, ◌==◌, Bool, true, false, ◌&&◌, Option, Some, None, pos, refl, sym, ap, ◌∙◌, subst, arith, inl, inr, eqb-true}
use Rattle.std.proofs.lemmas.Bool.{false≢true}
use Rattle.std.proofs.lemmas.Bool.Decides.{nat_tests}
use Rattle.std.specs.Cmp.{first_so, second_so}
use Rattle.c_values.specs.Name.{Name}
use Rattle.c_values.specs.Types.{Target, Ilp32, Lp64, IntType, Short, UShort, Int, UInt, Long, ULong, LLong, ULLong, CType, Integer, Void, Ptr, Struct, Array, width_of, address_width, is_signed}
use Rattle.c_values.specs.Width.{IsWidth}
use Rattle.c_values.specs.Number.{NumberOp, Add, Sub, Mul, Div, greatest_of}
use Rattle.c_values.specs.Word.{Wushr, Wsshr, Wshl, Wneg, Wnot}
use Rattle.c_values.specs.Layout.{Layout, IsLayout, Shape, Scalar, Record, Row, Fields, no_fields, field, shape_of, is_object, is_scalar, scalar_width, global_type}
use Rattle.c_values.specs.Path.{Spot, member_spot}
use Rattle.c_values.specs.CodeSameType.{type_is}
use Rattle.c_values.proofs.Laid.{IsLaid, AreLaid, structs_of, shape_good}
use Rattle.c_values.proofs.Parts.{laid_shape}
use Rattle.c_values.proofs.Options.{none_some, some_is}
use Rattle.expression_lang.specs.Expression as E
use Rattle.expression_lang.specs.Sort as S
use Rattle.expression_lang.specs.Sort.{Level, Bytes, Words, Numbers, is_lifted, WordSort, is_unary, sort_at, word_sort, scalar_sort}
use Rattle.expression_lang.proofs.Sorting.{object_whole}
use Rattle.c_lang.specs.Typed as C
use Rattle.c_lang.specs.WellTyped.{Scope, variable_type, are_variables, are_globals, is_integer, has_type, has_scalar_type, has_integer_type, is_in_memory, member_shape, shape_along, shape_in, leads_to, is_typed, is_typed_place, are_typed_indices}
use Rattle.c_lang.proofs.Paths.{none_along}
use Rattle.generation.specs.Guards.{is_signed_type, number, cast_to, conversion, word_op_of, combine_op, fits, divides, computes, shifts, shift, comparison, equation, is_not_zero, of_truth, moved_by, exp, truth, content, address, path_of, bounds, accesses, guards, place_guards, index_guards}
use Rattle.generation.proofs.ExactTests.{by_test}
use Rattle.generation.proofs.ExactMachines.{is_declared, declared_scalar}
use Rattle.generation.proofs.ExactPath.{end_of, into_row}
use Rattle.generation.proofs.ExactPlaces.{global_object}
use Rattle.generation.proofs.SortedRows as R
use Rattle.generation.proofs.SortedRows.{Has, HasWord, HasNumber, HasTruth, HasPath, Truths, none, more, truths_append, resorted}

-- widths

address_wide : (t : Target) → IsWidth (address_width t)
address_wide Ilp32 = inr (inr (inl refl))
address_wide Lp64 = inr (inr (inr refl))

integer_wide : (t : Target) (i : IntType) → IsWidth (width_of t i)
integer_wide t Short = inr (inl refl)
integer_wide t UShort = inr (inl refl)
integer_wide t Int = inr (inr (inl refl))
integer_wide t UInt = inr (inr (inl refl))
integer_wide t Long = address_wide t
integer_wide t ULong = address_wide t
integer_wide t LLong = inr (inr (inr refl))
integer_wide t ULLong = inr (inr (inr refl))
integer_wide _ _ = inl refl

pub scalar_wide : (t : Target) (u : CType) → IsWidth (scalar_width t u)
scalar_wide t (Integer i) = integer_wide t i
scalar_wide t Void = address_wide t
scalar_wide t (Ptr u) = address_wide t
scalar_wide t (Struct x) = address_wide t
scalar_wide t (Array u n) = address_wide t

-- types

pub type_word : (l : Layout) (t : CType) → is_scalar t ≡ true → sort_at (shape_of l t) ≡ word_sort (scalar_width l.target t)
type_word l (Integer i) h = refl
type_word l (Ptr t) h = refl
type_word _ _ h = absurd (false≢true h)

integer_scalar : (t : CType) → is_integer t ≡ true → is_scalar t ≡ true
integer_scalar (Integer i) h = refl
integer_scalar _ h = absurd (false≢true h)

-- shapes along paths

member_found : (fs : Fields) (k : ℕ) (s : Shape) → member_shape fs k ≡ Some s → (r : Spot) × (member_spot fs k ≡ Some r) × (r.shape ≡ s)
member_found no_fields k s e = absurd (none_some e)
member_found (field at r fs) zero s e = (record { offset = pos at; shape = r }, refl, some_is e)
member_found (field at r fs) (suc k) s e = member_found fs k s e

module _ (t : Target) (structs : Name → Shape) where
  member_laid : (fs : Fields) (k : ℕ) (s : Shape) → AreLaid t structs fs → member_shape fs k ≡ Some s → IsLaid t structs s
  member_laid no_fields k s h e = absurd (none_some e)
  member_laid (field at r fs) zero s h e = subst (IsLaid t structs) (some_is e) h.first
  member_laid (field at r fs) (suc k) s h e = member_laid fs k s h.others e

  along_laid : (s : Shape) (path : C.Path) (q : Shape) → shape_along (Some s) path ≡ Some q → IsLaid t structs s → IsLaid t structs q
  along_laid s C.Here q e h = subst (IsLaid t structs) (some_is e) h
  along_laid (Record x n align fs) (C.Member k path) q e h = by_member (member_shape fs k) refl e (λ r. along_laid r path q)
    where
      by_member : (o : Option Shape) → member_shape fs k ≡ o → shape_along o path ≡ Some q → ((r : Shape) → shape_along (Some r) path ≡ Some q → IsLaid t structs r → IsLaid t structs q) → IsLaid t structs q
      by_member None c d rest = absurd (none_some (sym (none_along path) ∙ d))
      by_member (Some r) c d rest = rest r d (member_laid fs k r h.members c)
  along_laid (Row s m) (C.Element n i path) q e h = along_laid s path q (into_row n m s path q e).1 h
  along_laid _ _ _ e _ = absurd (none_some e)

larger : (to from : ℕ) → (to == from) ≡ false → nat_lt to from ≡ false → nat_lt from to ≡ true
larger to from h k = grind (arith, nat_tests)

-- words of expressions, in any scope

module _ (s : S.Scope) where
  number_sorted : (n : ℕ) (t : CType) (e : E.Exp) → HasWord s n e → HasNumber s (number t e)
  number_sorted n t e h = by_test (HasNumber s) (is_signed_type t) (E.ToInt e) (E.ToNat e) (λ b. R.to_int s n e h) (λ b. R.to_nat s n e h)

  cast_sorted : (to from : ℕ) (signed : Bool) (e : E.Exp) → IsWidth to → HasWord s from e → HasWord s to (cast_to to from signed e)
  cast_sorted to from signed e w h =
      by_test (HasWord s to) (to == from) e _ (λ b. resorted (ap word_sort (sym (eqb-true to from b))) h)
      (λ b. by_test (HasWord s to) (nat_lt to from) (E.Cast E.Trunc to e) _ (λ c. R.cast s from e h E.Trunc to w c)
      (λ c. by_test (HasWord s to) signed (E.Cast E.Sext to e) (E.Cast E.Zext to e) (λ d. R.cast s from e h E.Sext to w (larger to from b c)) (λ d. R.cast s from e h E.Zext to w (larger to from b c))))

  pub conversion_sorted : (t : Target) (to from : CType) (e : E.Exp) → HasWord s (scalar_width t from) e → HasWord s (scalar_width t to) (conversion t to from e)
  conversion_sorted t to from e h = cast_sorted (scalar_width t to) (scalar_width t from) (is_signed_type from) e (scalar_wide t to) h

  module _ (n : ℕ) (a b : E.Exp) (h : HasWord s n a) (k : HasWord s n b) where
    comparison_sorted : (r : C.Relation) (signed : Bool) → HasTruth s (comparison r signed a b)
    comparison_sorted C.Less signed = R.compared s n a h _ b k
    comparison_sorted C.LessEqual signed = R.compared s n a h _ b k
    comparison_sorted C.Greater signed = R.compared s n b k _ a h
    comparison_sorted C.GreaterEqual signed = R.compared s n b k _ a h

    equation_sorted : (q : C.Equality) → HasTruth s (equation q a b)
    equation_sorted C.Equal = R.equal s n a h b k
    equation_sorted C.NotEqual = R.negated s _ (R.equal s n a h b k)

  shift_sorted : (n : ℕ) (i : IntType) (d : C.Direction) (a b : E.Exp) → HasWord s n a → HasNumber s b → HasWord s n (shift i d a b)
  shift_sorted n i C.Left a b h k = R.shifted s n a h Wshl b k
  shift_sorted n i C.Right a b h k = by_test (HasWord s n) (is_signed i) (E.WordShift Wsshr a b) (E.WordShift Wushr a b) (λ c. R.shifted s n a h Wsshr b k) (λ c. R.shifted s n a h Wushr b k)

  moved_sorted : (d : C.Sign) (n : E.Exp) → HasNumber s n → HasNumber s (moved_by d n)
  moved_sorted C.Plus n h = h
  moved_sorted C.Minus n h = R.negate s n h

  of_truth_sorted : (b : E.Exp) → HasTruth s b → HasWord s 32 (of_truth b)
  of_truth_sorted b h = R.choice s 32 _ (R.literal s 32 (pos 1) (inr (inr (inl refl)))) b _ h (R.literal s 32 (pos 0) (inr (inr (inl refl))))

  not_zero_sorted : (t : Target) (u : CType) (e : E.Exp) → HasWord s (scalar_width t u) e → HasTruth s (is_not_zero t u e)
  not_zero_sorted t u e h = R.negated s _ (R.equal s (scalar_width t u) e h _ (R.literal s (scalar_width t u) (pos 0) (scalar_wide t u)))

  -- conditions

  fits_sorted : (t : Target) (level : Level) (i : IntType) (n : E.Exp) → HasNumber s n → Truths s (fits t level i n)
  fits_sorted t Bytes i n h = by_test (Truths s) (is_signed i) _ _ (λ b. more (R.between s n h _ _) none) (λ b. none)
  fits_sorted t Words i n h = by_test (Truths s) (is_signed i) _ _ (λ b. more (R.between s n h _ _) none) (λ b. none)
  fits_sorted t Numbers i n h = by_test (Truths s) (is_signed i) _ _ (λ b. more (R.between s n h _ _) none) (λ b. more (R.between s n h _ _) none)

  module _ (t : Target) (i : IntType) (a : E.Exp) (h : HasWord s (width_of t i) a) where
    shifts_sorted : (d : C.Direction) (n : E.Exp) → HasNumber s n → Truths s (shifts t i d a n)
    shifts_sorted C.Left n k =
        more (R.between s n k _ _)
        (by_test (Truths s) (is_signed i) _ _
        (λ b. more (R.between s _ (R.to_int s _ a h) _ _)
        (more (R.at_most s _ (R.to_int s _ a h) _ (R.to_int s (width_of t i) _ (R.shifted s (width_of t i) _ (R.literal s (width_of t i) (greatest_of t i) (integer_wide t i)) Wsshr n k))) none))
        (λ b. none))
    shifts_sorted C.Right n k = more (R.between s n k _ _) none

    module _ (b : E.Exp) (k : HasWord s (width_of t i) b) where
      divides_sorted : Truths s (divides t i a b)
      divides_sorted =
          more (R.negated s _ (R.equal s (width_of t i) b k _ (R.literal s (width_of t i) (pos 0) (integer_wide t i))))
          (by_test (Truths s) (is_signed i) _ _ (λ c. more (R.between s _ (R.arith s _ (R.to_int s _ a h) Div _ refl (R.to_int s _ b k)) _ _) none) (λ c. none))

      sum_sorted : (level : Level) (op : NumberOp) → is_unary op ≡ false → Truths s (fits t level i (E.Arith op (number (Integer i) a) (number (Integer i) b)))
      sum_sorted level op u = fits_sorted t level i _ (R.arith s _ (number_sorted _ (Integer i) a h) op _ u (number_sorted _ (Integer i) b k))

      computes_sorted : (level : Level) (op : C.Arithmetic) → Truths s (computes t level i op a b)
      computes_sorted level C.Add = sum_sorted level Add refl
      computes_sorted level C.Subtract = sum_sorted level Sub refl
      computes_sorted level C.Multiply = sum_sorted level Mul refl
      computes_sorted level C.Divide = divides_sorted
      computes_sorted level C.Remainder = divides_sorted

-- each name that is declared is in scope with the word of its type
abbrev AreKnown : Scope → (Name → Option S.Scalar) → Type 0
AreKnown g names = (x : Name) (t : CType) → variable_type g.variables x ≡ Some t → names x ≡ Some (WordSort (scalar_width g.layout.target t))

pub record IsScope (g : Scope) (names : Name → Option S.Scalar) : Type 0 where
  pub layout : IsLayout g.layout
  pub globals : are_globals g.layout g.globals ≡ true
  pub own : are_variables g.variables ≡ true
  pub known : AreKnown g names

abbrev pub simpl_scope : Scope → (Name → Option S.Scalar) → S.Scope
simpl_scope g names = record { layout = g.layout; names = names; globals = global_type g.globals }

module _ (g : Scope) (names : Name → Option S.Scalar) (is : IsScope g names) where
  abbrev s : S.Scope
  s = simpl_scope g names

  abbrev l : Layout
  l = g.layout

  -- a value of a type
  abbrev pub Of : CType → E.Exp → Type 0
  Of t e = Has s (sort_at (shape_of g.layout t)) e

  pub word_from : (t : CType) (e : E.Exp) → is_scalar t ≡ true → Of t e → HasWord s (scalar_width l.target t) e
  word_from t e h k = resorted (type_word l t h) k

  pub word_to : (t : CType) (e : E.Exp) → is_scalar t ≡ true → HasWord s (scalar_width l.target t) e → Of t e
  word_to t e h k = resorted (sym (type_word l t h)) k

  -- what is known of the type of an expression
  pub typed_as : (t : CType) (a : C.Expr) (e : E.Exp) → has_type t a ≡ true → Of (C.type_of a) e → Of t e
  typed_as t a e h k = subst (λ u. Of u e) (type_is (C.type_of a) t h) k

  -- the value, and, of a scalar type, the truth
  abbrev Reads : C.Expr → Type 0
  Reads a = Of (C.type_of a) (exp g.layout a) × (is_scalar (C.type_of a) ≡ true → HasTruth s (truth g.layout a))

  valued : (t : CType) (e : E.Exp) → Of t e → Of t e × (is_scalar t ≡ true → HasTruth s (is_not_zero l.target t e))
  valued t e h = (h, λ k. not_zero_sorted s l.target t e (word_from t e k h))

  truthful : (b : E.Exp) → HasTruth s b → Of (Integer Int) (of_truth b) × (is_scalar (Integer Int) ≡ true → HasTruth s b)
  truthful b h = (of_truth_sorted s b h, λ k. h)

  converted : (t : CType) (a : C.Expr) → is_scalar t ≡ true → has_scalar_type a ≡ true → Reads a →
      Of t (conversion g.layout.target t (C.type_of a) (exp g.layout a)) × (is_scalar t ≡ true → HasTruth s (is_not_zero g.layout.target t (conversion g.layout.target t (C.type_of a) (exp g.layout a))))
  converted t a h j k = valued t _ (word_to t _ h (conversion_sorted s l.target t (C.type_of a) _ (word_from (C.type_of a) _ j k.0)))

  -- an operand of an integer type, of a scalar type, of a pointer type, and one that is tested
  integer_read : (i : IntType) (a : C.Expr) → has_type (Integer i) a ≡ true → Reads a → HasWord s (width_of g.layout.target i) (exp g.layout a)
  integer_read i a h k = typed_as (Integer i) a _ h k.0

  scalar_read : (t : CType) (a : C.Expr) → is_scalar t ≡ true → has_type t a ≡ true → Reads a → HasWord s (scalar_width g.layout.target t) (exp g.layout a)
  scalar_read t a j h k = word_from t _ j (typed_as t a _ h k.0)

  pointer_read : (t : CType) (a : C.Expr) → has_type (Ptr t) a ≡ true → Reads a → HasWord s (address_width g.layout.target) (exp g.layout a)
  pointer_read t a h k = typed_as (Ptr t) a _ h k.0

  number_read : (a : C.Expr) → has_integer_type a ≡ true → Reads a → HasNumber s (number (C.type_of a) (exp g.layout a))
  number_read a h k = number_sorted s _ (C.type_of a) (exp l a) (word_from (C.type_of a) _ (integer_scalar (C.type_of a) h) k.0)

  test_read : (a : C.Expr) → has_scalar_type a ≡ true → Reads a → HasTruth s (truth g.layout a)
  test_read a h k = k.1 h

  -- where a typed path leads from an object
  abbrev pub Leads : CType → C.Path → CType → Type 0
  Leads t path u = HasPath s (path_of g.layout path) (shape_of g.layout t) (shape_of g.layout u) × IsLaid g.layout.target (structs_of g.layout) (shape_of g.layout u)

  abbrev AlongShapes : C.Path → Type 0
  AlongShapes path = (r q : Shape) → shape_along (Some r) path ≡ Some q → HasPath s (path_of g.layout path) r q

  ended : (t : CType) (path : C.Path) (u : CType) → is_object l t ≡ true → leads_to (shape_along (Some (shape_of l t)) path) u ≡ true → AlongShapes path → Leads t path u
  ended t path u o h along =
      let e = end_of (shape_along (Some (shape_of l t)) path) u h in
      let laid = along_laid l.target (structs_of l) (shape_of l t) path e.0 e.1 (shape_good l is.layout t (object_whole l t o)).laid in
      subst (λ q. HasPath s (path_of l path) (shape_of l t) q × IsLaid l.target (structs_of l) q) (sym (laid_shape l.target (structs_of l) e.0 laid) ∙ ap (shape_of l) e.2) (along (shape_of l t) e.0 e.1, laid)

  global_ended : (x : Name) (path : C.Path) (u : CType) (o : Option CType) → global_type g.globals x ≡ o → leads_to (shape_along (shape_in g.layout o) path) u ≡ true → AlongShapes path →
      (t : CType) × (global_type g.globals x ≡ Some t) × (is_object g.layout t ≡ true) × Leads t path u
  global_ended x path u None e h along = absurd (false≢true (sym (ap (λ o. leads_to o u) (none_along path)) ∙ h))
  global_ended x path u (Some t) e h along = let o = global_object l g.globals x t is.globals e in (t, e, o, ended t path u o h along)

  mutual
    pub expression_sorted : (e : C.Expr) → is_typed g e ≡ true → Reads e
    expression_sorted (C.Constant i n) h = valued (Integer i) _ (R.literal s (width_of l.target i) n (integer_wide l.target i))
    expression_sorted (C.Local y t) h =
        let d = is_declared (variable_type g.variables y) t h in
        valued t (E.Var y) (record { plain = refl; sort = ap scalar_sort (is.known y t d) ∙ sym (type_word l t (declared_scalar g.variables is.own y t d).1) })
    expression_sorted (C.Value p) h = valued (C.place_type p) _ (place_sorted p h).0
    expression_sorted (C.Convert t a) h = converted t a (first_so _ _ h) (first_so _ _ (second_so _ _ h)) (expression_sorted a (second_so _ _ (second_so _ _ h)))
    expression_sorted (C.ConvertNull t a) h = converted t a (first_so _ _ h) (first_so _ _ (second_so _ _ h)) (expression_sorted a (second_so _ _ (second_so _ _ h)))
    expression_sorted (C.Negate i a) h = valued (Integer i) _ (R.unary s _ _ (integer_read i a (first_so _ _ h) (expression_sorted a (second_so _ _ h))) Wneg)
    expression_sorted (C.Complement i a) h = valued (Integer i) _ (R.unary s _ _ (integer_read i a (first_so _ _ h) (expression_sorted a (second_so _ _ h))) Wnot)
    expression_sorted (C.Compute op i a b) h = valued (Integer i) _ (R.binary s _ _ (integer_read i a (first_so _ _ (first_so _ _ h)) (expression_sorted a (second_so _ _ (first_so _ _ h)))) (word_op_of op (is_signed i)) _ (integer_read i b (first_so _ _ (second_so _ _ h)) (expression_sorted b (second_so _ _ (second_so _ _ h)))))
    expression_sorted (C.Combine op i a b) h = valued (Integer i) _ (R.binary s _ _ (integer_read i a (first_so _ _ (first_so _ _ h)) (expression_sorted a (second_so _ _ (first_so _ _ h)))) (combine_op op) _ (integer_read i b (first_so _ _ (second_so _ _ h)) (expression_sorted b (second_so _ _ (second_so _ _ h)))))
    expression_sorted (C.Shift d i a b) h = valued (Integer i) _ (shift_sorted s _ i d _ _ (integer_read i a (first_so _ _ (first_so _ _ h)) (expression_sorted a (second_so _ _ (first_so _ _ h)))) (number_read b (first_so _ _ (second_so _ _ h)) (expression_sorted b (second_so _ _ (second_so _ _ h)))))
    expression_sorted (C.Compare r i a b) h = truthful _ (comparison_sorted s _ _ _ (integer_read i a (first_so _ _ (first_so _ _ h)) (expression_sorted a (second_so _ _ (first_so _ _ h)))) (integer_read i b (first_so _ _ (second_so _ _ h)) (expression_sorted b (second_so _ _ (second_so _ _ h)))) r (is_signed i))
    expression_sorted (C.Equate q t a b) h =
        let k = first_so _ _ h in truthful _ (equation_sorted s _ _ _ (scalar_read t a (first_so _ _ k) (first_so _ _ (second_so _ _ k)) (expression_sorted a (second_so _ _ (second_so _ _ k)))) (scalar_read t b (first_so _ _ k) (first_so _ _ (second_so _ _ h)) (expression_sorted b (second_so _ _ (second_so _ _ h)))) q)
    expression_sorted (C.Not a) h = truthful _ (R.negated s _ (test_read a (first_so _ _ h) (expression_sorted a (second_so _ _ h))))
    expression_sorted (C.And a b) h = truthful _ (R.both s _ (test_read a (first_so _ _ (first_so _ _ h)) (expression_sorted a (second_so _ _ (first_so _ _ h)))) _ (test_read b (first_so _ _ (second_so _ _ h)) (expression_sorted b (second_so _ _ (second_so _ _ h)))))
    expression_sorted (C.Or a b) h = truthful _ (R.either s _ (test_read a (first_so _ _ (first_so _ _ h)) (expression_sorted a (second_so _ _ (first_so _ _ h)))) _ (test_read b (first_so _ _ (second_so _ _ h)) (expression_sorted b (second_so _ _ (second_so _ _ h)))))
    expression_sorted (C.Choose t c a b) h =
        let k = first_so _ _ h in
        let j = first_so _ _ k in
        valued t _ (word_to t _ (first_so _ _ j) (R.choice s _ _ (scalar_read t a (first_so _ _ j) (first_so _ _ (second_so _ _ k)) (expression_sorted a (second_so _ _ (second_so _ _ k)))) _ _ (test_read c (first_so _ _ (second_so _ _ j)) (expression_sorted c (second_so _ _ (second_so _ _ j)))) (scalar_read t b (first_so _ _ j) (first_so _ _ (second_so _ _ h)) (expression_sorted b (second_so _ _ (second_so _ _ h))))))
    expression_sorted (C.Move d t p a) h =
        let k = first_so _ _ h in valued (Ptr t) _ (R.moved s t (first_so _ _ k) _ (pointer_read t p (first_so _ _ (second_so _ _ k)) (expression_sorted p (second_so _ _ (second_so _ _ k)))) _ (moved_sorted s d _ (number_read a (first_so _ _ (second_so _ _ h)) (expression_sorted a (second_so _ _ (second_so _ _ h))))))
    expression_sorted (C.MoveBy t a p) h =
        let k = first_so _ _ h in valued (Ptr t) _ (R.moved s t (first_so _ _ k) _ (pointer_read t p (first_so _ _ (second_so _ _ h)) (expression_sorted p (second_so _ _ (second_so _ _ h)))) _ (number_read a (first_so _ _ (second_so _ _ k)) (expression_sorted a (second_so _ _ (second_so _ _ k)))))
    expression_sorted (C.Address p t) h = let k = first_so _ _ h in valued (Ptr t) _ ((place_sorted p (second_so _ _ k)).1 (first_so _ _ k))
    expression_sorted (C.Decay p t) h = let k = first_so _ _ h in valued (Ptr t) _ ((place_sorted p (second_so _ _ k)).1 (first_so _ _ k))

    -- what lies at a place, and its address
    place_sorted : (p : C.Place) → is_typed_place g p ≡ true → Of (C.place_type p) (content g.layout p) × (is_in_memory p ≡ true → HasWord s (address_width g.layout.target) (address g.layout p))
    place_sorted (C.Through t p path u) h =
        let k = first_so _ _ h in
        let j = first_so _ _ k in
        let way = (ended t path u (first_so _ _ j) (second_so _ _ h) (path_sorted path (second_so _ _ k))).0 in
        let root = pointer_read t p (first_so _ _ (second_so _ _ j)) (expression_sorted p (second_so _ _ (second_so _ _ j))) in
        (R.loaded s t (first_so _ _ j) _ root _ (shape_of l u) way, λ m. R.at s t (first_so _ _ j) _ root _ (shape_of l u) way)
    place_sorted (C.InGlobal x path u) h =
        let w = global_ended x path u (global_type g.globals x) refl (second_so _ _ h) (path_sorted path (first_so _ _ h)) in (R.global s x w.0 w.1 w.2 _ (shape_of l u) w.3.0, λ m. absurd (false≢true m))

    path_sorted : (path : C.Path) → are_typed_indices g path ≡ true → (r q : Shape) → shape_along (Some r) path ≡ Some q → HasPath s (path_of g.layout path) r q
    path_sorted C.Here h r q e = subst (HasPath s E.Here r) (some_is e) (R.here s r)
    path_sorted (C.Member k path) h (Record x n align fs) q e = by_member (member_shape fs k) refl e (path_sorted path h)
      where
        by_member : (o : Option Shape) → member_shape fs k ≡ o → shape_along o path ≡ Some q → ((r q : Shape) → shape_along (Some r) path ≡ Some q → HasPath s (path_of g.layout path) r q) →
            HasPath s (E.IntoField k (path_of g.layout path)) (Record x n align fs) q
        by_member None c d rest = absurd (none_some (sym (none_along path) ∙ d))
        by_member (Some r) c d rest =
            let m = member_found fs k r c in R.into_field s x n align fs k m.0 _ q m.1 (subst (λ z. HasPath s (path_of l path) z q) (sym m.2) (rest r q d))
    path_sorted (C.Element n i path) h (Row r m) q e = R.into_element s r m _ _ q (number_read i (first_so _ _ (first_so _ _ h)) (expression_sorted i (second_so _ _ (first_so _ _ h)))) (path_sorted path (second_so _ _ h) r q (into_row n m r path q e).1)
    path_sorted _ _ _ _ e = absurd (none_some e)

  -- the path of a typed place, from a root that is an object
  pub path_in_memory : (t : CType) (p : C.Expr) (path : C.Path) (u : CType) → is_typed_place g (C.Through t p path u) ≡ true → Leads t path u
  path_in_memory t p path u h = let k = first_so _ _ h in ended t path u (first_so _ _ (first_so _ _ k)) (second_so _ _ h) (path_sorted path (second_so _ _ k))

  pub path_in_global : (x : Name) (path : C.Path) (u : CType) → is_typed_place g (C.InGlobal x path u) ≡ true → (t : CType) × (global_type g.globals x ≡ Some t) × (is_object g.layout t ≡ true) × Leads t path u
  path_in_global x path u h = global_ended x path u (global_type g.globals x) refl (second_so _ _ h) (path_sorted path (first_so _ _ h))

  -- the same operands, where the whole is typed
  pub operand : (i : IntType) (a : C.Expr) → (has_type (Integer i) a && is_typed g a) ≡ true → HasWord s (width_of g.layout.target i) (exp g.layout a)
  operand i a h = integer_read i a (first_so _ _ h) (expression_sorted a (second_so _ _ h))

  pub pointer : (t : CType) (a : C.Expr) → (has_type (Ptr t) a && is_typed g a) ≡ true → HasWord s (address_width g.layout.target) (exp g.layout a)
  pointer t a h = pointer_read t a (first_so _ _ h) (expression_sorted a (second_so _ _ h))

  pub index : (a : C.Expr) → (has_integer_type a && is_typed g a) ≡ true → HasNumber s (number (C.type_of a) (exp g.layout a))
  index a h = number_read a (first_so _ _ h) (expression_sorted a (second_so _ _ h))

  pub test : (a : C.Expr) → (has_scalar_type a && is_typed g a) ≡ true → HasTruth s (truth g.layout a)
  test a h = test_read a (first_so _ _ h) (expression_sorted a (second_so _ _ h))

  bounds_sorted : (path : C.Path) → are_typed_indices g path ≡ true → Truths s (bounds l path)
  bounds_sorted C.Here h = none
  bounds_sorted (C.Member k path) h = bounds_sorted path h
  bounds_sorted (C.Element n e path) h = more (R.between s _ (index e (first_so _ _ h)) _ _) (bounds_sorted path (second_so _ _ h))

  pub accesses_sorted : (level : Level) (p : C.Place) → is_typed_place g p ≡ true → Truths s (accesses l level p)
  accesses_sorted level (C.Through t p path u) h =
      let j = first_so _ _ (first_so _ _ h) in
      let root = pointer t p (second_so _ _ j) in
      more (R.pointer_ok s t (first_so _ _ j) _ root) (by_test (Truths s) (is_lifted level) _ _ (λ b. more (R.tagged s t (first_so _ _ j) _ root) none) (λ b. none))
  accesses_sorted level (C.InGlobal x path u) h = none

  module _ (level : Level) where
    mutual
      pub guards_sorted : (e : C.Expr) → is_typed g e ≡ true → Truths s (guards l level e)
      guards_sorted (C.Constant i n) h = none
      guards_sorted (C.Local y t) h = none
      guards_sorted (C.Value p) h = truths_append (place_guards_sorted p h) (accesses_sorted level p h)
      guards_sorted (C.Convert t a) h = guards_sorted a (second_so _ _ (second_so _ _ h))
      guards_sorted (C.ConvertNull t a) h = guards_sorted a (second_so _ _ (second_so _ _ h))
      guards_sorted (C.Negate i a) h = truths_append (guards_sorted a (second_so _ _ h)) (fits_sorted s l.target level i _ (R.negate s _ (number_sorted s _ (Integer i) _ (operand i a h))))
      guards_sorted (C.Complement i a) h = guards_sorted a (second_so _ _ h)
      guards_sorted (C.Compute op i a b) h =
          truths_append (truths_append (guards_sorted a (second_so _ _ (first_so _ _ h))) (guards_sorted b (second_so _ _ (second_so _ _ h))))
          (computes_sorted s l.target i _ (operand i a (first_so _ _ h)) _ (operand i b (second_so _ _ h)) level op)
      guards_sorted (C.Combine op i a b) h = truths_append (guards_sorted a (second_so _ _ (first_so _ _ h))) (guards_sorted b (second_so _ _ (second_so _ _ h)))
      guards_sorted (C.Shift d i a b) h =
          truths_append (truths_append (guards_sorted a (second_so _ _ (first_so _ _ h))) (guards_sorted b (second_so _ _ (second_so _ _ h))))
          (shifts_sorted s l.target i _ (operand i a (first_so _ _ h)) d _ (index b (second_so _ _ h)))
      guards_sorted (C.Compare r i a b) h = truths_append (guards_sorted a (second_so _ _ (first_so _ _ h))) (guards_sorted b (second_so _ _ (second_so _ _ h)))
      guards_sorted (C.Equate q t a b) h = truths_append (guards_sorted a (second_so _ _ (second_so _ _ (first_so _ _ h)))) (guards_sorted b (second_so _ _ (second_so _ _ h)))
      guards_sorted (C.Not a) h = guards_sorted a (second_so _ _ h)
      guards_sorted (C.And a b) h = truths_append (guards_sorted a (second_so _ _ (first_so _ _ h))) (R.all_under s _ (test a (first_so _ _ h)) (guards_sorted b (second_so _ _ (second_so _ _ h))))
      guards_sorted (C.Or a b) h =
          truths_append (guards_sorted a (second_so _ _ (first_so _ _ h))) (R.all_under s _ (R.negated s _ (test a (first_so _ _ h))) (guards_sorted b (second_so _ _ (second_so _ _ h))))
      guards_sorted (C.Choose t c a b) h =
          let k = first_so _ _ h in
          let j = second_so _ _ (first_so _ _ k) in
          truths_append (truths_append (guards_sorted c (second_so _ _ j)) (R.all_under s _ (test c j) (guards_sorted a (second_so _ _ (second_so _ _ k)))))
          (R.all_under s _ (R.negated s _ (test c j)) (guards_sorted b (second_so _ _ (second_so _ _ h))))
      guards_sorted (C.Move d t p a) h = truths_append (guards_sorted p (second_so _ _ (second_so _ _ (first_so _ _ h)))) (guards_sorted a (second_so _ _ (second_so _ _ h)))
      guards_sorted (C.MoveBy t a p) h = truths_append (guards_sorted a (second_so _ _ (second_so _ _ (first_so _ _ h)))) (guards_sorted p (second_so _ _ (second_so _ _ h)))
      guards_sorted (C.Address p t) h = place_guards_sorted p (second_so _ _ (first_so _ _ h))
      guards_sorted (C.Decay p t) h = place_guards_sorted p (second_so _ _ (first_so _ _ h))

      pub place_guards_sorted : (p : C.Place) → is_typed_place g p ≡ true → Truths s (place_guards l level p)
      place_guards_sorted (C.Through t p path u) h =
          let k = first_so _ _ h in
          truths_append (truths_append (guards_sorted p (second_so _ _ (second_so _ _ (first_so _ _ k)))) (index_guards_sorted path (second_so _ _ k))) (bounds_sorted path (second_so _ _ k))
      place_guards_sorted (C.InGlobal x path u) h = truths_append (index_guards_sorted path (first_so _ _ h)) (bounds_sorted path (first_so _ _ h))

      index_guards_sorted : (path : C.Path) → are_typed_indices g path ≡ true → Truths s (index_guards l level path)
      index_guards_sorted C.Here h = none
      index_guards_sorted (C.Member k path) h = index_guards_sorted path h
      index_guards_sorted (C.Element n e path) h = truths_append (guards_sorted e (second_so _ _ (first_so _ _ h))) (index_guards_sorted path (second_so _ _ h))
