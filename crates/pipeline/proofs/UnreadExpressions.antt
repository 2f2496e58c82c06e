-- No expression that is generated, and no condition of one, reads a typed heap.
use Rattle.std.specs.Prelude.{nat_lt}
use Rattle.std.proofs.Common.{◌≡◌, ◌==◌, ℕ, Bool, false, ◌||◌, List, [], ◌∷◌, ◌++◌, refl}
use Rattle.std.proofs.lemmas.Bool.{or_from, or_parts}
use Rattle.c_values.specs.Types.{Target, IntType, CType, Integer, Ptr, is_signed}
use Rattle.c_values.specs.Layout.{Layout, scalar_width}
use Rattle.c_values.specs.Word.{Wsshr, Wushr}
use Rattle.c_values.specs.Number.{NumberOp, Add, Sub, Mul}
use Rattle.expression_lang.specs.Expression as E
use Rattle.expression_lang.specs.Form.{has, path_has, is_read}
use Rattle.expression_lang.specs.Sort.{Level, Bytes, Words, Numbers, is_lifted}
use Rattle.simpl_lang.specs.Command.{Condition}
use Rattle.rule_local.specs.CommandForm.{conditions_have}
use Rattle.c_lang.specs.Typed as C
use Rattle.generation.specs.Guards.{is_signed_type, number, cast_to, conversion, fits, divides, computes, shifts, shift, comparison, equation, is_not_zero, of_truth, moved_by, under, exp, truth, content, address, path_of, bounds, accesses, guards, place_guards, index_guards}
use Rattle.generation.proofs.ExactTests.{by_test}

pub record Unread (e : E.Exp) : Type 0 where
  pub none : has is_read e ≡ false

pub record PathUnread (path : E.Path) : Type 0 where
  pub none : path_has is_read path ≡ false

pub record AllUnread (cs : List Condition) : Type 0 where
  pub none : conditions_have is_read cs ≡ false

pub no_conditions : AllUnread []
no_conditions = record { none = refl }

pub more : {c : Condition} {cs : List Condition} → Unread c.exp → AllUnread cs → AllUnread (c ∷ cs)
more h k = record { none = or_from _ _ h.none k.none }

pub parted : {c : Condition} {cs : List Condition} → AllUnread (c ∷ cs) → Unread c.exp × AllUnread cs
parted {c} {cs} h =
    let p = or_parts (has is_read c.exp) (conditions_have is_read cs) h.none in
    (record { none = p.0 }, record { none = p.1 })

pub both : (cs ds : List Condition) → AllUnread cs → AllUnread ds → AllUnread (cs ++ ds)
both [] ds h k = k
both (c ∷ cs) ds h k = let p = parted h in more p.0 (both cs ds p.1 k)

pub two : {a b : E.Exp} → Unread a → Unread b → (has is_read a || has is_read b) ≡ false
two h k = or_from _ _ h.none k.none

pub along : {a : E.Exp} {path : E.Path} → Unread a → PathUnread path → (has is_read a || path_has is_read path) ≡ false
along h k = or_from _ _ h.none k.none

-- words of expressions

number_unread : (t : CType) (e : E.Exp) → Unread e → Unread (number t e)
number_unread t e h =
    by_test Unread (is_signed_type t) (E.ToInt e) (E.ToNat e) (λ b. record { none = h.none }) (λ b. record { none = h.none })

cast_unread : (to from : ℕ) (s : Bool) (e : E.Exp) → Unread e → Unread (cast_to to from s e)
cast_unread to from s e h =
    by_test Unread (to == from) e _ (λ b. h)
    (λ b. by_test Unread (nat_lt to from) (E.Cast E.Trunc to e) _ (λ c. record { none = h.none })
    (λ c. by_test Unread s (E.Cast E.Sext to e) (E.Cast E.Zext to e) (λ d. record { none = h.none }) (λ d. record { none = h.none })))

pub conversion_unread : (t : Target) (to from : CType) (e : E.Exp) → Unread e → Unread (conversion t to from e)
conversion_unread t to from e h = cast_unread (scalar_width t to) (scalar_width t from) (is_signed_type from) e h

comparison_unread : (r : C.Relation) (s : Bool) (a b : E.Exp) → Unread a → Unread b → Unread (comparison r s a b)
comparison_unread C.Less s a b h k = record { none = two h k }
comparison_unread C.LessEqual s a b h k = record { none = two h k }
comparison_unread C.Greater s a b h k = record { none = two k h }
comparison_unread C.GreaterEqual s a b h k = record { none = two k h }

equation_unread : (q : C.Equality) (a b : E.Exp) → Unread a → Unread b → Unread (equation q a b)
equation_unread C.Equal a b h k = record { none = two h k }
equation_unread C.NotEqual a b h k = record { none = two h k }

shift_unread : (i : IntType) (d : C.Direction) (a n : E.Exp) → Unread a → Unread n → Unread (shift i d a n)
shift_unread i C.Left a n h k = record { none = two h k }
shift_unread i C.Right a n h k =
    by_test Unread (is_signed i) (E.WordShift Wsshr a n) (E.WordShift Wushr a n) (λ b. record { none = two h k })
    (λ b. record { none = two h k })

moved_unread : (s : C.Sign) (n : E.Exp) → Unread n → Unread (moved_by s n)
moved_unread C.Plus n h = h
moved_unread C.Minus n h = record { none = h.none }

-- conditions

under_unread : (c : E.Exp) (gs : List Condition) → Unread c → AllUnread gs → AllUnread (under c gs)
under_unread c [] h k = no_conditions
under_unread c (g ∷ gs) h k = let p = parted k in more (record { none = two h p.0 }) (under_unread c gs h p.1)

fits_unread : (t : Target) (level : Level) (i : IntType) (n : E.Exp) → Unread n → AllUnread (fits t level i n)
fits_unread t Bytes i n h =
    by_test AllUnread (is_signed i) _ _ (λ b. more (record { none = h.none }) no_conditions) (λ b. no_conditions)
fits_unread t Words i n h =
    by_test AllUnread (is_signed i) _ _ (λ b. more (record { none = h.none }) no_conditions) (λ b. no_conditions)
fits_unread t Numbers i n h =
    by_test AllUnread (is_signed i) _ _ (λ b. more (record { none = h.none }) no_conditions)
    (λ b. more (record { none = h.none }) no_conditions)

divides_unread : (t : Target) (i : IntType) (a b : E.Exp) → Unread a → Unread b → AllUnread (divides t i a b)
divides_unread t i a b h k =
    more (record { none = or_from _ false k.none refl })
    (by_test AllUnread (is_signed i) _ _ (λ c. more (record { none = two h k }) no_conditions) (λ c. no_conditions))

sum_unread : (t : Target) (level : Level) (i : IntType) (op : NumberOp) (a b : E.Exp) → Unread a → Unread b →
    AllUnread (fits t level i (E.Arith op (number (Integer i) a) (number (Integer i) b)))
sum_unread t level i op a b h k =
    fits_unread t level i (E.Arith op (number (Integer i) a) (number (Integer i) b))
    (record { none = two (number_unread (Integer i) a h) (number_unread (Integer i) b k) })

computes_unread : (t : Target) (level : Level) (i : IntType) (op : C.Arithmetic) (a b : E.Exp) → Unread a → Unread b →
    AllUnread (computes t level i op a b)
computes_unread t level i C.Add a b h k = sum_unread t level i Add a b h k
computes_unread t level i C.Subtract a b h k = sum_unread t level i Sub a b h k
computes_unread t level i C.Multiply a b h k = sum_unread t level i Mul a b h k
computes_unread t level i C.Divide a b h k = divides_unread t i a b h k
computes_unread t level i C.Remainder a b h k = divides_unread t i a b h k

shifts_unread : (t : Target) (i : IntType) (d : C.Direction) (a n : E.Exp) → Unread a → Unread n →
    AllUnread (shifts t i d a n)
shifts_unread t i C.Left a n h k =
    more (record { none = k.none })
    (by_test AllUnread (is_signed i) _ _
    (λ b. more (record { none = h.none }) (more (record { none = two h k }) no_conditions)) (λ b. no_conditions))
shifts_unread t i C.Right a n h k = more (record { none = k.none }) no_conditions

-- a value, and the truth of what isn't zero
valued : (l : Layout) (t : CType) (e : E.Exp) → Unread e → Unread e × Unread (is_not_zero l.target t e)
valued l t e h = (h, record { none = or_from _ false h.none refl })

-- a truth, and the int that stands for it
truthful : (b : E.Exp) → Unread b → Unread (of_truth b) × Unread b
truthful b h = (record { none = or_from _ false (or_from _ false h.none refl) refl }, h)

module _ (l : Layout) where
  mutual
    -- the value and the truth of an expression
    pub expression_unread : (e : C.Expr) → Unread (exp l e) × Unread (truth l e)
    expression_unread (C.Constant i n) = valued l (Integer i) _ (record { none = refl })
    expression_unread (C.Local y t) = valued l t (E.Var y) (record { none = refl })
    expression_unread (C.Value p) = valued l _ _ (place_unread p).0
    expression_unread (C.Convert t a) = valued l t _ (conversion_unread l.target t (C.type_of a) _ (expression_unread a).0)
    expression_unread (C.ConvertNull t a) =
        valued l t _ (conversion_unread l.target t (C.type_of a) _ (expression_unread a).0)
    expression_unread (C.Negate i a) = valued l (Integer i) _ (record { none = (expression_unread a).0.none })
    expression_unread (C.Complement i a) = valued l (Integer i) _ (record { none = (expression_unread a).0.none })
    expression_unread (C.Compute op i a b) =
        valued l (Integer i) _ (record { none = two (expression_unread a).0 (expression_unread b).0 })
    expression_unread (C.Combine op i a b) =
        valued l (Integer i) _ (record { none = two (expression_unread a).0 (expression_unread b).0 })
    expression_unread (C.Shift d i a b) =
        valued l (Integer i) _
        (shift_unread i d _ _ (expression_unread a).0 (number_unread (C.type_of b) _ (expression_unread b).0))
    expression_unread (C.Compare r i a b) =
        truthful _ (comparison_unread r (is_signed i) _ _ (expression_unread a).0 (expression_unread b).0)
    expression_unread (C.Equate q t a b) =
        truthful _ (equation_unread q _ _ (expression_unread a).0 (expression_unread b).0)
    expression_unread (C.Not a) = truthful _ (record { none = (expression_unread a).1.none })
    expression_unread (C.And a b) = truthful _ (record { none = two (expression_unread a).1 (expression_unread b).1 })
    expression_unread (C.Or a b) = truthful _ (record { none = two (expression_unread a).1 (expression_unread b).1 })
    expression_unread (C.Choose t c a b) =
        valued l t _ (record {
          none = or_from _ _ (two (expression_unread c).1 (expression_unread a).0) (expression_unread b).0.none;
        })
    expression_unread (C.Move s t p a) =
        valued l (Ptr t) _ (record {
          none = two (expression_unread p).0 (moved_unread s _ (number_unread (C.type_of a) _ (expression_unread a).0));
        })
    expression_unread (C.MoveBy t a p) =
        valued l (Ptr t) _
        (record { none = two (expression_unread p).0 (number_unread (C.type_of a) _ (expression_unread a).0) })
    expression_unread (C.Address p t) = valued l (Ptr t) _ (place_unread p).1
    expression_unread (C.Decay p t) = valued l (Ptr t) _ (place_unread p).1

    -- what lies at a place, and its address
    pub place_unread : (p : C.Place) → Unread (content l p) × Unread (address l p)
    place_unread (C.Through t p path u) =
        let root = (expression_unread p).0 in
        let steps = path_unread path in
        (record { none = along root steps }, record { none = along root steps })
    place_unread (C.InGlobal y path u) =
        let steps = path_unread path in (record { none = steps.none }, record { none = steps.none })

    pub path_unread : (path : C.Path) → PathUnread (path_of l path)
    path_unread C.Here = record { none = refl }
    path_unread (C.Member k path) = record { none = (path_unread path).none }
    path_unread (C.Element n e path) =
        record { none = along (number_unread (C.type_of e) _ (expression_unread e).0) (path_unread path) }

  bounds_unread : (path : C.Path) → AllUnread (bounds l path)
  bounds_unread C.Here = no_conditions
  bounds_unread (C.Member k path) = bounds_unread path
  bounds_unread (C.Element n e path) =
      more (record { none = (number_unread (C.type_of e) _ (expression_unread e).0).none }) (bounds_unread path)

  module _ (level : Level) where
    pub accesses_unread : (p : C.Place) → AllUnread (accesses l level p)
    accesses_unread (C.Through t p path u) =
        let root = (expression_unread p).0 in
        more (record { none = root.none })
        (by_test AllUnread (is_lifted level) _ _ (λ b. more (record { none = root.none }) no_conditions) (λ b. no_conditions))
    accesses_unread (C.InGlobal y path u) = no_conditions

    mutual
      pub guards_unread : (e : C.Expr) → AllUnread (guards l level e)
      guards_unread (C.Constant i n) = no_conditions
      guards_unread (C.Local y t) = no_conditions
      guards_unread (C.Value p) = both _ _ (place_guards_unread p) (accesses_unread p)
      guards_unread (C.Convert t a) = guards_unread a
      guards_unread (C.ConvertNull t a) = guards_unread a
      guards_unread (C.Negate i a) =
          both _ _ (guards_unread a)
          (fits_unread l.target level i (E.Negate _)
          (record { none = (number_unread (Integer i) _ (expression_unread a).0).none }))
      guards_unread (C.Complement i a) = guards_unread a
      guards_unread (C.Compute op i a b) =
          both _ _ (both _ _ (guards_unread a) (guards_unread b))
          (computes_unread l.target level i op _ _ (expression_unread a).0 (expression_unread b).0)
      guards_unread (C.Combine op i a b) = both _ _ (guards_unread a) (guards_unread b)
      guards_unread (C.Shift d i a b) =
          both _ _ (both _ _ (guards_unread a) (guards_unread b))
          (shifts_unread l.target i d _ _ (expression_unread a).0 (number_unread (C.type_of b) _ (expression_unread b).0))
      guards_unread (C.Compare r i a b) = both _ _ (guards_unread a) (guards_unread b)
      guards_unread (C.Equate q t a b) = both _ _ (guards_unread a) (guards_unread b)
      guards_unread (C.Not a) = guards_unread a
      guards_unread (C.And a b) = both _ _ (guards_unread a) (under_unread _ _ (expression_unread a).1 (guards_unread b))
      guards_unread (C.Or a b) =
          both _ _ (guards_unread a)
          (under_unread (E.Not (truth l a)) _ (record { none = (expression_unread a).1.none }) (guards_unread b))
      guards_unread (C.Choose t c a b) =
          both _ _ (both _ _ (guards_unread c) (under_unread _ _ (expression_unread c).1 (guards_unread a)))
          (under_unread (E.Not (truth l c)) _ (record { none = (expression_unread c).1.none }) (guards_unread b))
      guards_unread (C.Move s t p a) = both _ _ (guards_unread p) (guards_unread a)
      guards_unread (C.MoveBy t a p) = both _ _ (guards_unread a) (guards_unread p)
      guards_unread (C.Address p t) = place_guards_unread p
      guards_unread (C.Decay p t) = place_guards_unread p

      pub place_guards_unread : (p : C.Place) → AllUnread (place_guards l level p)
      place_guards_unread (C.Through t p path u) =
          both _ _ (both _ _ (guards_unread p) (index_guards_unread path)) (bounds_unread path)
      place_guards_unread (C.InGlobal y path u) = both _ _ (index_guards_unread path) (bounds_unread path)

      index_guards_unread : (path : C.Path) → AllUnread (index_guards l level path)
      index_guards_unread C.Here = no_conditions
      index_guards_unread (C.Member k path) = index_guards_unread path
      index_guards_unread (C.Element n e path) = both _ _ (guards_unread e) (index_guards_unread path)
