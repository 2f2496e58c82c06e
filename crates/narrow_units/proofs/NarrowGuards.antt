-- The conditions of a typed C expression have no wide operation: in them stand sums, differences, products and quotients of
-- the values of words.
use Rattle.std.proofs.Common.{◌≡◌, ℕ, ◌^◌, Bool, true, false, cond, List, [], ◌∷◌, ◌++◌, Option, pos}
use Rattle.std.specs.Cmp.{first_so, second_so}
use Rattle.c_values.specs.Name.{Name}
use Rattle.c_values.specs.Types.{Target, IntType, CType, Integer, is_signed, width_of}
use Rattle.c_values.specs.Number.{NumberOp, Add, Sub, Mul, Div, greatest_of}
use Rattle.c_values.specs.Value.{word_in, number_in}
use Rattle.c_values.specs.Width.{IsWidth}
use Rattle.c_values.specs.Word.{IsWord, Wsshr}
use Rattle.c_values.specs.Layout.{Layout}
use Rattle.expression_lang.specs.Expression as E
use Rattle.expression_lang.specs.Evaluation.{Env, State, value}
use Rattle.expression_lang.specs.Sort as S
use Rattle.expression_lang.specs.Sort.{Level, Bytes, Words, Numbers, is_lifted, Of, WordSort}
use Rattle.expression_lang.specs.States.{IsEnvironment, IsState}
use Rattle.expression_lang.proofs.Fine.{fine, bits_word}
use Rattle.expression_lang.proofs.Meeting.{met_none}
use Rattle.simpl_lang.specs.Command.{Condition}
use Rattle.c_lang.specs.Typed as C
use Rattle.c_lang.specs.WellTyped.{Scope, is_typed, is_typed_place, are_typed_indices}
use Rattle.generation.specs.Guards.{is_signed_type, number, fits, divides, computes, shifts, exp, under, bounds, accesses, guards, place_guards, index_guards}
use Rattle.generation.proofs.SortedRows.{HasWord}
use Rattle.generation.proofs.SortedExpressions.{IsScope, simpl_scope, scalar_wide, operand}
use Rattle.narrow_units.proofs.Magnitudes.{IsBelow, unsigned_below, signed_below, narrow_operation}
use Rattle.narrow_units.proofs.NarrowValues.{IsQuiet, literal, shifted, to_int, negated, between, at_most, equal, not_so, implication, number_quiet, value_quiet, truth_quiet}

-- no operation of the conditions is wide here
pub data AreQuiet (l : Layout) (env : Env) (s : State) : List Condition → Type 0 where
  none : AreQuiet l env s []
  more : {c : Condition} {cs : List Condition} → IsQuiet l env s c.exp → AreQuiet l env s cs → AreQuiet l env s (c ∷ cs)

pub quiet_append : {l : Layout} {env : Env} {s : State} {cs ds : List Condition} → AreQuiet l env s cs → AreQuiet l env s ds →
    AreQuiet l env s (cs ++ ds)
quiet_append none k = k
quiet_append (more h r) k = more h (quiet_append r k)

-- rows of conditions

module _ (l : Layout) (env : Env) (s : State) where
  abbrev Quiet : E.Exp → Type 0
  Quiet e = IsQuiet l env s e

  abbrev AllQuiet : List Condition → Type 0
  AllQuiet cs = AreQuiet l env s cs

  all_under : {cs : List Condition} {c : E.Exp} → Quiet c → AllQuiet cs → AllQuiet (under c cs)
  all_under h none = none
  all_under h (more k r) = more (implication h k) (all_under h r)

  one_list : (b : Bool) (cs ds : List Condition) → AllQuiet cs → AllQuiet ds → AllQuiet (cond b cs ds)
  one_list true cs ds h k = h
  one_list false cs ds h k = k

  fits_quiet : (t : Target) (level : Level) (i : IntType) (n : E.Exp) → Quiet n → AllQuiet (fits t level i n)
  fits_quiet t Bytes i n h = one_list (is_signed i) _ _ (more (between _ _ h) none) none
  fits_quiet t Words i n h = one_list (is_signed i) _ _ (more (between _ _ h) none) none
  fits_quiet t Numbers i n h = one_list (is_signed i) _ _ (more (between _ _ h) none) (more (between _ _ h) none)

  shifts_quiet : (t : Target) (i : IntType) (d : C.Direction) (a n : E.Exp) → Quiet a → Quiet n → AllQuiet (shifts t i d a n)
  shifts_quiet t i C.Left a n h k =
      more (between _ _ k)
      (one_list (is_signed i) _ _
      (more (between _ _ (to_int h))
      (more (at_most (to_int h) (to_int (shifted Wsshr (literal (width_of t i) (greatest_of t i)) k))) none)) none)
  shifts_quiet t i C.Right a n h k = more (between _ _ k) none

  -- an operand: a word of one of the four widths
  record IsOperand (a : E.Exp) : Type 0 where
    pub width : ℕ
    pub is_width : IsWidth width
    pub word : IsWord width (word_in (value l env s a))
    pub quiet : IsQuiet l env s a

  signed_operand : (a : E.Exp) → IsOperand a → IsBelow (2 ^ 64) (number_in (value l env s (E.ToInt a)))
  signed_operand a h = signed_below h.width (word_in (value l env s a)) h.is_width h.word

  number_below : (t : CType) (a : E.Exp) → IsOperand a → IsBelow (2 ^ 64) (number_in (value l env s (number t a)))
  number_below t a h = by_sign (is_signed_type t)
    where
      by_sign : (b : Bool) → IsBelow (2 ^ 64) (number_in (value l env s (cond b (E.ToInt a) (E.ToNat a))))
      by_sign true = signed_operand a h
      by_sign false = unsigned_below h.width (word_in (value l env s a)) h.is_width h.word

  operation_quiet : (op : NumberOp) (x y : E.Exp) → Quiet x → Quiet y → IsBelow (2 ^ 64) (number_in (value l env s x)) →
      IsBelow (2 ^ 64) (number_in (value l env s y)) → Quiet (E.Arith op x y)
  operation_quiet op x y h k i j =
      record {
        none = met_none _ _ (met_none _ _ h.none k.none)
            (narrow_operation op (number_in (value l env s x)) (number_in (value l env s y)) i j);
      }

  module _ (t : Target) (i : IntType) (a b : E.Exp) (h : IsOperand a) (k : IsOperand b) where
    sum_quiet : (level : Level) (op : NumberOp) → AllQuiet (fits t level i (E.Arith op (number (Integer i) a) (number (Integer i) b)))
    sum_quiet level op =
        fits_quiet t level i _
        (operation_quiet op _ _ (number_quiet (Integer i) a h.quiet) (number_quiet (Integer i) b k.quiet)
        (number_below (Integer i) a h) (number_below (Integer i) b k))

    divides_quiet : AllQuiet (divides t i a b)
    divides_quiet =
        more (not_so (equal k.quiet (literal (width_of t i) (pos 0))))
        (one_list (is_signed i) _ _
        (more (between _ _
        (operation_quiet Div _ _ (to_int h.quiet) (to_int k.quiet) (signed_operand a h) (signed_operand b k))) none) none)

    computes_quiet : (level : Level) (op : C.Arithmetic) → AllQuiet (computes t level i op a b)
    computes_quiet level C.Add = sum_quiet level Add
    computes_quiet level C.Subtract = sum_quiet level Sub
    computes_quiet level C.Multiply = sum_quiet level Mul
    computes_quiet level C.Divide = divides_quiet
    computes_quiet level C.Remainder = divides_quiet

-- the conditions of C's expressions

module _ (g : Scope) (names : Name → Option S.Scalar) (is : IsScope g names) (env : Env) (s : State)
    (fits_names : IsEnvironment (simpl_scope g names) env) (fits_state : IsState g.layout g.globals s) where
  abbrev l : Layout
  l = g.layout

  abbrev All : List Condition → Type 0
  All cs = AreQuiet g.layout env s cs

  operand_is : (i : IntType) (a : C.Expr) → HasWord (simpl_scope g names) (width_of g.layout.target i) (exp g.layout a) →
      IsOperand g.layout env s (exp g.layout a)
  operand_is i a h = record {
    width = width_of l.target i;
    is_width = scalar_wide l.target (Integer i);
    word = bits_word (width_of l.target i) (value l env s (exp l a))
        (fine (simpl_scope g names) is.layout env s fits_names fits_state.globals fits_state.heap (exp l a)
        (Of (WordSort (width_of l.target i))) h.sort).sort;
    quiet = value_quiet l env s a;
  }

  index_quiet : (e : C.Expr) → IsQuiet g.layout env s (number (C.type_of e) (exp g.layout e))
  index_quiet e = number_quiet (C.type_of e) _ (value_quiet l env s e)

  bounds_quiet : (path : C.Path) → All (bounds l path)
  bounds_quiet C.Here = none
  bounds_quiet (C.Member k path) = bounds_quiet path
  bounds_quiet (C.Element n e path) = more (between _ _ (index_quiet e)) (bounds_quiet path)

  pub accesses_quiet : (level : Level) (p : C.Place) → AreQuiet g.layout env s (accesses g.layout level p)
  accesses_quiet level (C.Through t p path u) =
      let root = value_quiet l env s p in
      more (record { none = root.none })
      (one_list l env s (is_lifted level) _ _ (more (record { none = root.none }) none) none)
  accesses_quiet level (C.InGlobal x path u) = none

  module _ (level : Level) where
    mutual
      pub guards_quiet : (e : C.Expr) → is_typed g e ≡ true → AreQuiet g.layout env s (guards g.layout level e)
      guards_quiet (C.Constant i n) h = none
      guards_quiet (C.Local y t) h = none
      guards_quiet (C.Value p) h = quiet_append (place_guards_quiet p h) (accesses_quiet level p)
      guards_quiet (C.Convert t a) h = guards_quiet a (second_so _ _ (second_so _ _ h))
      guards_quiet (C.ConvertNull t a) h = guards_quiet a (second_so _ _ (second_so _ _ h))
      guards_quiet (C.Negate i a) h =
          quiet_append (guards_quiet a (second_so _ _ h))
          (fits_quiet l env s l.target level i _ (negated (number_quiet (Integer i) _ (value_quiet l env s a))))
      guards_quiet (C.Complement i a) h = guards_quiet a (second_so _ _ h)
      guards_quiet (C.Compute op i a b) h =
          quiet_append (quiet_append (guards_quiet a (second_so _ _ (first_so _ _ h))) (guards_quiet b (second_so _ _ (second_so _ _ h))))
          (computes_quiet l env s l.target i _ _ (operand_is i a (operand g names is i a (first_so _ _ h)))
          (operand_is i b (operand g names is i b (second_so _ _ h))) level op)
      guards_quiet (C.Combine op i a b) h =
          quiet_append (guards_quiet a (second_so _ _ (first_so _ _ h))) (guards_quiet b (second_so _ _ (second_so _ _ h)))
      guards_quiet (C.Shift d i a b) h =
          quiet_append (quiet_append (guards_quiet a (second_so _ _ (first_so _ _ h))) (guards_quiet b (second_so _ _ (second_so _ _ h))))
          (shifts_quiet l env s l.target i d _ _ (value_quiet l env s a) (index_quiet b))
      guards_quiet (C.Compare r i a b) h =
          quiet_append (guards_quiet a (second_so _ _ (first_so _ _ h))) (guards_quiet b (second_so _ _ (second_so _ _ h)))
      guards_quiet (C.Equate q t a b) h =
          quiet_append (guards_quiet a (second_so _ _ (second_so _ _ (first_so _ _ h)))) (guards_quiet b (second_so _ _ (second_so _ _ h)))
      guards_quiet (C.Not a) h = guards_quiet a (second_so _ _ h)
      guards_quiet (C.And a b) h =
          quiet_append (guards_quiet a (second_so _ _ (first_so _ _ h)))
          (all_under l env s (truth_quiet l env s a) (guards_quiet b (second_so _ _ (second_so _ _ h))))
      guards_quiet (C.Or a b) h =
          quiet_append (guards_quiet a (second_so _ _ (first_so _ _ h)))
          (all_under l env s (not_so (truth_quiet l env s a)) (guards_quiet b (second_so _ _ (second_so _ _ h))))
      guards_quiet (C.Choose t c a b) h =
          let k = first_so _ _ h in
          quiet_append
          (quiet_append (guards_quiet c (second_so _ _ (second_so _ _ (first_so _ _ k))))
          (all_under l env s (truth_quiet l env s c) (guards_quiet a (second_so _ _ (second_so _ _ k)))))
          (all_under l env s (not_so (truth_quiet l env s c)) (guards_quiet b (second_so _ _ (second_so _ _ h))))
      guards_quiet (C.Move d t p a) h =
          quiet_append (guards_quiet p (second_so _ _ (second_so _ _ (first_so _ _ h)))) (guards_quiet a (second_so _ _ (second_so _ _ h)))
      guards_quiet (C.MoveBy t a p) h =
          quiet_append (guards_quiet a (second_so _ _ (second_so _ _ (first_so _ _ h)))) (guards_quiet p (second_so _ _ (second_so _ _ h)))
      guards_quiet (C.Address p t) h = place_guards_quiet p (second_so _ _ (first_so _ _ h))
      guards_quiet (C.Decay p t) h = place_guards_quiet p (second_so _ _ (first_so _ _ h))

      pub place_guards_quiet : (p : C.Place) → is_typed_place g p ≡ true → AreQuiet g.layout env s (place_guards g.layout level p)
      place_guards_quiet (C.Through t p path u) h =
          let k = first_so _ _ h in
          quiet_append
          (quiet_append (guards_quiet p (second_so _ _ (second_so _ _ (first_so _ _ k)))) (index_guards_quiet path (second_so _ _ k)))
          (bounds_quiet path)
      place_guards_quiet (C.InGlobal x path u) h = quiet_append (index_guards_quiet path (first_so _ _ h)) (bounds_quiet path)

      index_guards_quiet : (path : C.Path) → are_typed_indices g path ≡ true → All (index_guards l level path)
      index_guards_quiet C.Here h = none
      index_guards_quiet (C.Member k path) h = index_guards_quiet path h
      index_guards_quiet (C.Element n e path) h =
          quiet_append (guards_quiet e (second_so _ _ (first_so _ _ h))) (index_guards_quiet path (second_so _ _ h))
