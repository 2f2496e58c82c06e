-- What stands for the value and the truth of a C expression has no operation on numbers in it, so none that is wide.
use Rattle.std.specs.Prelude.{nat_lt}
use Rattle.std.proofs.Common.{◌≡◌, ℕ, ◌==◌, Bool, true, false, cond, Option, None, ℤ, pos, refl}
use Rattle.c_values.specs.Types.{Target, IntType, CType, Integer, Ptr, width_of, is_signed}
use Rattle.c_values.specs.Word.{word, WordOp, ShiftOp, Wshl, Wsshr, Wushr, UnaryOp, Wneg, Wnot, WordTest}
use Rattle.c_values.specs.Layout.{Layout, scalar_width}
use Rattle.expression_lang.specs.Expression as E
use Rattle.expression_lang.specs.Evaluation.{Env, State}
use Rattle.expression_lang.specs.Wide.{Operation, wide, wide_in}
use Rattle.expression_lang.proofs.Meeting.{met_none}
use Rattle.c_lang.specs.Typed as C
use Rattle.generation.specs.Guards.{is_signed_type, number, cast_to, conversion, word_op_of, combine_op, shift, comparison, equation, is_not_zero, of_truth, moved_by, reading, content, address, path_of}

-- nor the one that is chosen
pub none_chosen : (b : Bool) (p q : Option Operation) → p ≡ None → q ≡ None → cond b p q ≡ None
none_chosen true p q h k = h
none_chosen false p q h k = k

-- no operation of the expression is wide here, and none of a path's indices
pub record IsQuiet (l : Layout) (env : Env) (s : State) (e : E.Exp) : Type 0 where
  pub none : wide l env s e ≡ None

pub record IsQuietAlong (l : Layout) (env : Env) (s : State) (path : E.Path) : Type 0 where
  pub none : wide_in l env s path ≡ None

-- rows of expressions

module _ {l : Layout} {env : Env} {s : State} where
  pub literal : (n : ℕ) (z : ℤ) → IsQuiet l env s (E.WordLit (word n z))
  literal n z = record { none = refl }

  binary : (op : WordOp) {a b : E.Exp} → IsQuiet l env s a → IsQuiet l env s b → IsQuiet l env s (E.WordBinary op a b)
  binary op h k = record { none = met_none _ _ h.none k.none }

  unary : (op : UnaryOp) {a : E.Exp} → IsQuiet l env s a → IsQuiet l env s (E.WordUnary op a)
  unary op h = record { none = h.none }

  pub shifted : (op : ShiftOp) {a n : E.Exp} → IsQuiet l env s a → IsQuiet l env s n → IsQuiet l env s (E.WordShift op a n)
  shifted op h k = record { none = met_none _ _ h.none k.none }

  compared : (op : WordTest) {a b : E.Exp} → IsQuiet l env s a → IsQuiet l env s b → IsQuiet l env s (E.WordCompare op a b)
  compared op h k = record { none = met_none _ _ h.none k.none }

  pub to_int : {a : E.Exp} → IsQuiet l env s a → IsQuiet l env s (E.ToInt a)
  to_int h = record { none = h.none }

  to_nat : {a : E.Exp} → IsQuiet l env s a → IsQuiet l env s (E.ToNat a)
  to_nat h = record { none = h.none }

  pub negated : {a : E.Exp} → IsQuiet l env s a → IsQuiet l env s (E.Negate a)
  negated h = record { none = h.none }

  pub between : (low high : ℤ) {a : E.Exp} → IsQuiet l env s a → IsQuiet l env s (E.Between low a high)
  between low high h = record { none = h.none }

  pub at_most : {a b : E.Exp} → IsQuiet l env s a → IsQuiet l env s b → IsQuiet l env s (E.Le a b)
  at_most h k = record { none = met_none _ _ h.none k.none }

  pub equal : {a b : E.Exp} → IsQuiet l env s a → IsQuiet l env s b → IsQuiet l env s (E.Eq a b)
  equal h k = record { none = met_none _ _ h.none k.none }

  pub not_so : {a : E.Exp} → IsQuiet l env s a → IsQuiet l env s (E.Not a)
  not_so h = record { none = h.none }

  conjunction : {a b : E.Exp} → IsQuiet l env s a → IsQuiet l env s b → IsQuiet l env s (E.And a b)
  conjunction h k = record { none = met_none _ _ h.none (none_chosen _ _ _ k.none refl) }

  pub disjunction : {a b : E.Exp} → IsQuiet l env s a → IsQuiet l env s b → IsQuiet l env s (E.Or a b)
  disjunction h k = record { none = met_none _ _ h.none (none_chosen _ _ _ refl k.none) }

  pub implication : {a b : E.Exp} → IsQuiet l env s a → IsQuiet l env s b → IsQuiet l env s (E.Imp a b)
  implication h k = record { none = met_none _ _ h.none (none_chosen _ _ _ k.none refl) }

  choice : {c a b : E.Exp} → IsQuiet l env s c → IsQuiet l env s a → IsQuiet l env s b → IsQuiet l env s (E.If c a b)
  choice h j k = record { none = met_none _ _ h.none (none_chosen _ _ _ j.none k.none) }

  moved : (t : CType) {p n : E.Exp} → IsQuiet l env s p → IsQuiet l env s n → IsQuiet l env s (E.Padd t p n)
  moved t h k = record { none = met_none _ _ h.none k.none }

  -- one of two
  one_quiet : (b : Bool) (x y : E.Exp) → IsQuiet l env s x → IsQuiet l env s y → IsQuiet l env s (cond b x y)
  one_quiet true x y h k = h
  one_quiet false x y h k = k

  pub number_quiet : (t : CType) (e : E.Exp) → IsQuiet l env s e → IsQuiet l env s (number t e)
  number_quiet t e h = one_quiet (is_signed_type t) (E.ToInt e) (E.ToNat e) (to_int h) (to_nat h)

  -- to another width or the same, by the sign or without
  cast_quiet : (to from : ℕ) (signs : Bool) (e : E.Exp) → IsQuiet l env s e → IsQuiet l env s (cast_to to from signs e)
  cast_quiet to from signs e h =
      one_quiet (to == from) e _ h
      (one_quiet (nat_lt to from) (E.Cast E.Trunc to e) _ (record { none = h.none })
      (one_quiet signs (E.Cast E.Sext to e) (E.Cast E.Zext to e) (record { none = h.none }) (record { none = h.none })))

  pub conversion_quiet : (t : Target) (to from : CType) (e : E.Exp) → IsQuiet l env s e → IsQuiet l env s (conversion t to from e)
  conversion_quiet t to from e h = cast_quiet (scalar_width t to) (scalar_width t from) (is_signed_type from) e h

  shift_quiet : (i : IntType) (d : C.Direction) (a n : E.Exp) → IsQuiet l env s a → IsQuiet l env s n →
      IsQuiet l env s (shift i d a n)
  shift_quiet i C.Left a n h k = shifted Wshl h k
  shift_quiet i C.Right a n h k =
      one_quiet (is_signed i) (E.WordShift Wsshr a n) (E.WordShift Wushr a n) (shifted Wsshr h k) (shifted Wushr h k)

  comparison_quiet : (r : C.Relation) (b : Bool) (x y : E.Exp) → IsQuiet l env s x → IsQuiet l env s y →
      IsQuiet l env s (comparison r b x y)
  comparison_quiet C.Less b x y h k = compared _ h k
  comparison_quiet C.LessEqual b x y h k = compared _ h k
  comparison_quiet C.Greater b x y h k = compared _ k h
  comparison_quiet C.GreaterEqual b x y h k = compared _ k h

  equation_quiet : (q : C.Equality) (x y : E.Exp) → IsQuiet l env s x → IsQuiet l env s y → IsQuiet l env s (equation q x y)
  equation_quiet C.Equal x y h k = equal h k
  equation_quiet C.NotEqual x y h k = not_so (equal h k)

  moved_quiet : (d : C.Sign) (n : E.Exp) → IsQuiet l env s n → IsQuiet l env s (moved_by d n)
  moved_quiet C.Plus n h = h
  moved_quiet C.Minus n h = negated h

-- C's expressions

module _ (l : Layout) (env : Env) (s : State) where
  abbrev Quiet : E.Exp → Type 0
  Quiet e = IsQuiet l env s e

  -- what stands for the value and for the truth
  abbrev Reads : C.Expr → Type 0
  Reads e = Quiet (reading l e).value × Quiet (reading l e).truth

  valued : (t : Target) (u : CType) (e : E.Exp) → Quiet e → Quiet e × Quiet (is_not_zero t u e)
  valued t u e h = (h, not_so (equal h (literal (scalar_width t u) (pos 0))))

  truthful : (b : E.Exp) → Quiet b → Quiet (of_truth b) × Quiet b
  truthful b h = (choice h (literal 32 (pos 1)) (literal 32 (pos 0)), h)

  mutual
    reading_quiet : (e : C.Expr) → Reads e
    reading_quiet (C.Constant i n) = valued l.target (Integer i) _ (literal (width_of l.target i) n)
    reading_quiet (C.Local x t) = valued l.target t (E.Var x) (record { none = refl })
    reading_quiet (C.Value p) = valued l.target (C.place_type p) _ (content_quiet p)
    reading_quiet (C.Convert t a) = valued l.target t _ (conversion_quiet l.target t (C.type_of a) _ (reading_quiet a).0)
    reading_quiet (C.ConvertNull t a) = valued l.target t _ (conversion_quiet l.target t (C.type_of a) _ (reading_quiet a).0)
    reading_quiet (C.Negate i a) = valued l.target (Integer i) _ (unary Wneg (reading_quiet a).0)
    reading_quiet (C.Complement i a) = valued l.target (Integer i) _ (unary Wnot (reading_quiet a).0)
    reading_quiet (C.Compute op i a b) =
        valued l.target (Integer i) _ (binary (word_op_of op (is_signed i)) (reading_quiet a).0 (reading_quiet b).0)
    reading_quiet (C.Combine op i a b) = valued l.target (Integer i) _ (binary (combine_op op) (reading_quiet a).0 (reading_quiet b).0)
    reading_quiet (C.Shift d i a b) =
        valued l.target (Integer i) _ (shift_quiet i d _ _ (reading_quiet a).0 (number_quiet (C.type_of b) _ (reading_quiet b).0))
    reading_quiet (C.Compare r i a b) = truthful _ (comparison_quiet r (is_signed i) _ _ (reading_quiet a).0 (reading_quiet b).0)
    reading_quiet (C.Equate q t a b) = truthful _ (equation_quiet q _ _ (reading_quiet a).0 (reading_quiet b).0)
    reading_quiet (C.Not a) = truthful _ (not_so (reading_quiet a).1)
    reading_quiet (C.And a b) = truthful _ (conjunction (reading_quiet a).1 (reading_quiet b).1)
    reading_quiet (C.Or a b) = truthful _ (disjunction (reading_quiet a).1 (reading_quiet b).1)
    reading_quiet (C.Choose t c a b) = valued l.target t _ (choice (reading_quiet c).1 (reading_quiet a).0 (reading_quiet b).0)
    reading_quiet (C.Move d t p a) =
        valued l.target (Ptr t) _ (moved t (reading_quiet p).0 (moved_quiet d _ (number_quiet (C.type_of a) _ (reading_quiet a).0)))
    reading_quiet (C.MoveBy t a p) =
        valued l.target (Ptr t) _ (moved t (reading_quiet p).0 (number_quiet (C.type_of a) _ (reading_quiet a).0))
    reading_quiet (C.Address p t) = valued l.target (Ptr t) _ (address_quiet p)
    reading_quiet (C.Decay p t) = valued l.target (Ptr t) _ (address_quiet p)

    content_quiet : (p : C.Place) → Quiet (content l p)
    content_quiet (C.Through t p path u) = record { none = met_none _ _ (reading_quiet p).0.none (path_quiet path).none }
    content_quiet (C.InGlobal x path u) = record { none = (path_quiet path).none }

    address_quiet : (p : C.Place) → Quiet (address l p)
    address_quiet (C.Through t p path u) = record { none = met_none _ _ (reading_quiet p).0.none (path_quiet path).none }
    address_quiet (C.InGlobal x path u) = record { none = (path_quiet path).none }

    path_quiet : (path : C.Path) → IsQuietAlong l env s (path_of l path)
    path_quiet C.Here = record { none = refl }
    path_quiet (C.Member k path) = record { none = (path_quiet path).none }
    path_quiet (C.Element n e path) =
        let i = number_quiet (C.type_of e) _ (reading_quiet e).0 in record { none = met_none _ _ i.none (path_quiet path).none }

  pub value_quiet : (e : C.Expr) → IsQuiet l env s (reading l e).value
  value_quiet e = (reading_quiet e).0

  pub truth_quiet : (e : C.Expr) → IsQuiet l env s (reading l e).truth
  truth_quiet e = (reading_quiet e).1
