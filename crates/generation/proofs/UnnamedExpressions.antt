-- A name that isn't declared stands in no expression that is generated, and in no condition of one.
use Rattle.std.specs.Prelude.{nat_lt}
use Rattle.std.proofs.Common.{◌≡◌, ◌==◌, ℕ, Bool, true, false, ◌||◌, List, [], ◌∷◌, ◌++◌, Some, refl}
use Rattle.std.proofs.lemmas.Bool.{or_from, or_parts}
use Rattle.std.specs.Cmp.{first_so, second_so}
use Rattle.c_values.specs.Name.{Name, same_name}
use Rattle.c_values.specs.Types.{Target, IntType, CType, Integer, Ptr, is_signed}
use Rattle.c_values.specs.Layout.{Layout, scalar_width}
use Rattle.c_values.specs.Word.{Wsshr, Wushr}
use Rattle.c_values.specs.Number.{NumberOp, Add, Sub, Mul}
use Rattle.expression_lang.specs.Expression as E
use Rattle.expression_lang.specs.Mentions.{names}
use Rattle.expression_lang.specs.Sort.{Level, Bytes, Words, Numbers, is_lifted}
use Rattle.simpl_lang.specs.Command.{Condition}
use Rattle.simpl_lang.specs.Names.{path_names, conditions_name}
use Rattle.c_lang.specs.Typed as C
use Rattle.c_lang.specs.WellTyped.{Scope, variable_type, is_typed, is_typed_place, are_typed_indices}
use Rattle.generation.specs.Guards.{is_signed_type, number, cast_to, conversion, fits, divides, computes, shifts, shift, comparison, equation, is_not_zero, of_truth, moved_by, under, exp, truth, content, address, path_of, bounds, accesses, guards, place_guards, index_guards}
use Rattle.generation.proofs.ExactTests.{by_test}
use Rattle.generation.proofs.ExactMachines.{is_declared}

pub record Free (x : Name) (e : E.Exp) : Type 0 where
  pub unnamed : names x e ≡ false

pub record PathFree (x : Name) (path : E.Path) : Type 0 where
  pub unnamed : path_names x path ≡ false

pub record AllFree (x : Name) (cs : List Condition) : Type 0 where
  pub unnamed : conditions_name x cs ≡ false

module _ {x : Name} where
  pub none_free : AllFree x []
  none_free = record { unnamed = refl }

  pub more_free : {c : Condition} {cs : List Condition} → Free x c.exp → AllFree x cs → AllFree x (c ∷ cs)
  more_free h k = record { unnamed = or_from _ _ h.unnamed k.unnamed }

  pub parted : {c : Condition} {cs : List Condition} → AllFree x (c ∷ cs) → Free x c.exp × AllFree x cs
  parted {c} {cs} h = let p = or_parts (names x c.exp) (conditions_name x cs) h.unnamed in (record { unnamed = p.0 }, record { unnamed = p.1 })

  pub free_append : (cs ds : List Condition) → AllFree x cs → AllFree x ds → AllFree x (cs ++ ds)
  free_append [] ds h k = k
  free_append (c ∷ cs) ds h k = let p = parted h in more_free p.0 (free_append cs ds p.1 k)

  pub two : {a b : E.Exp} → Free x a → Free x b → (names x a || names x b) ≡ false
  two h k = or_from _ _ h.unnamed k.unnamed

  pub along : {a : E.Exp} {path : E.Path} → Free x a → PathFree x path → (names x a || path_names x path) ≡ false
  along h k = or_from _ _ h.unnamed k.unnamed

  -- words of expressions

  number_free : (t : CType) (e : E.Exp) → Free x e → Free x (number t e)
  number_free t e h = by_test (Free x) (is_signed_type t) (E.ToInt e) (E.ToNat e) (λ b. record { unnamed = h.unnamed }) (λ b. record { unnamed = h.unnamed })

  cast_free : (to from : ℕ) (s : Bool) (e : E.Exp) → Free x e → Free x (cast_to to from s e)
  cast_free to from s e h =
      by_test (Free x) (to == from) e _ (λ b. h) (λ b. by_test (Free x) (nat_lt to from) (E.Cast E.Trunc to e) _ (λ c. record { unnamed = h.unnamed })
      (λ c. by_test (Free x) s (E.Cast E.Sext to e) (E.Cast E.Zext to e) (λ d. record { unnamed = h.unnamed }) (λ d. record { unnamed = h.unnamed })))

  pub conversion_free : (t : Target) (to from : CType) (e : E.Exp) → Free x e → Free x (conversion t to from e)
  conversion_free t to from e h = cast_free (scalar_width t to) (scalar_width t from) (is_signed_type from) e h

  comparison_free : (r : C.Relation) (s : Bool) (a b : E.Exp) → Free x a → Free x b → Free x (comparison r s a b)
  comparison_free C.Less s a b h k = record { unnamed = two h k }
  comparison_free C.LessEqual s a b h k = record { unnamed = two h k }
  comparison_free C.Greater s a b h k = record { unnamed = two k h }
  comparison_free C.GreaterEqual s a b h k = record { unnamed = two k h }

  equation_free : (q : C.Equality) (a b : E.Exp) → Free x a → Free x b → Free x (equation q a b)
  equation_free C.Equal a b h k = record { unnamed = two h k }
  equation_free C.NotEqual a b h k = record { unnamed = two h k }

  shift_free : (i : IntType) (d : C.Direction) (a n : E.Exp) → Free x a → Free x n → Free x (shift i d a n)
  shift_free i C.Left a n h k = record { unnamed = two h k }
  shift_free i C.Right a n h k =
      by_test (Free x) (is_signed i) (E.WordShift Wsshr a n) (E.WordShift Wushr a n) (λ b. record { unnamed = two h k }) (λ b. record { unnamed = two h k })

  moved_free : (s : C.Sign) (n : E.Exp) → Free x n → Free x (moved_by s n)
  moved_free C.Plus n h = h
  moved_free C.Minus n h = record { unnamed = h.unnamed }

  -- conditions

  under_free : (c : E.Exp) (gs : List Condition) → Free x c → AllFree x gs → AllFree x (under c gs)
  under_free c [] h k = none_free
  under_free c (g ∷ gs) h k = let p = parted k in more_free (record { unnamed = two h p.0 }) (under_free c gs h p.1)

  fits_free : (t : Target) (level : Level) (i : IntType) (n : E.Exp) → Free x n → AllFree x (fits t level i n)
  fits_free t Bytes i n h = by_test (AllFree x) (is_signed i) _ _ (λ b. more_free (record { unnamed = h.unnamed }) none_free) (λ b. none_free)
  fits_free t Words i n h = by_test (AllFree x) (is_signed i) _ _ (λ b. more_free (record { unnamed = h.unnamed }) none_free) (λ b. none_free)
  fits_free t Numbers i n h =
      by_test (AllFree x) (is_signed i) _ _ (λ b. more_free (record { unnamed = h.unnamed }) none_free) (λ b. more_free (record { unnamed = h.unnamed }) none_free)

  divides_free : (t : Target) (i : IntType) (a b : E.Exp) → Free x a → Free x b → AllFree x (divides t i a b)
  divides_free t i a b h k =
      more_free (record { unnamed = or_from _ false k.unnamed refl }) (by_test (AllFree x) (is_signed i) _ _ (λ c. more_free (record { unnamed = two h k }) none_free) (λ c. none_free))

  sum_free : (t : Target) (level : Level) (i : IntType) (op : NumberOp) (a b : E.Exp) → Free x a → Free x b → AllFree x (fits t level i (E.Arith op (number (Integer i) a) (number (Integer i) b)))
  sum_free t level i op a b h k =
      fits_free t level i (E.Arith op (number (Integer i) a) (number (Integer i) b)) (record { unnamed = two (number_free (Integer i) a h) (number_free (Integer i) b k) })

  computes_free : (t : Target) (level : Level) (i : IntType) (op : C.Arithmetic) (a b : E.Exp) → Free x a → Free x b → AllFree x (computes t level i op a b)
  computes_free t level i C.Add a b h k = sum_free t level i Add a b h k
  computes_free t level i C.Subtract a b h k = sum_free t level i Sub a b h k
  computes_free t level i C.Multiply a b h k = sum_free t level i Mul a b h k
  computes_free t level i C.Divide a b h k = divides_free t i a b h k
  computes_free t level i C.Remainder a b h k = divides_free t i a b h k

  shifts_free : (t : Target) (i : IntType) (d : C.Direction) (a n : E.Exp) → Free x a → Free x n → AllFree x (shifts t i d a n)
  shifts_free t i C.Left a n h k =
      more_free (record { unnamed = k.unnamed })
      (by_test (AllFree x) (is_signed i) _ _ (λ b. more_free (record { unnamed = h.unnamed }) (more_free (record { unnamed = two h k }) none_free)) (λ b. none_free))
  shifts_free t i C.Right a n h k = more_free (record { unnamed = k.unnamed }) none_free

  -- a value, and the truth of what isn't zero
  valued : (l : Layout) (t : CType) (e : E.Exp) → Free x e → Free x e × Free x (is_not_zero l.target t e)
  valued l t e h = (h, record { unnamed = or_from _ false h.unnamed refl })

  -- a truth, and the int that stands for it
  truthful : (b : E.Exp) → Free x b → Free x (of_truth b) × Free x b
  truthful b h = (record { unnamed = or_from _ false (or_from _ false h.unnamed refl) refl }, h)

  module _ (g : Scope) (l : Layout) (undeclared : (y : Name) (t : CType) → variable_type g.variables y ≡ Some t → same_name x y ≡ false) where
    mutual
      -- the value and the truth of an expression
      pub expression_free : (e : C.Expr) → is_typed g e ≡ true → Free x (exp l e) × Free x (truth l e)
      expression_free (C.Constant i n) h = valued l (Integer i) _ (record { unnamed = refl })
      expression_free (C.Local y t) h = valued l t (E.Var y) (record { unnamed = undeclared y t (is_declared (variable_type g.variables y) t h) })
      expression_free (C.Value p) h = valued l _ _ (place_free p h).0
      expression_free (C.Convert t a) h = valued l t _ (conversion_free l.target t (C.type_of a) _ (expression_free a (second_so _ _ (second_so _ _ h))).0)
      expression_free (C.ConvertNull t a) h = valued l t _ (conversion_free l.target t (C.type_of a) _ (expression_free a (second_so _ _ (second_so _ _ h))).0)
      expression_free (C.Negate i a) h = valued l (Integer i) _ (record { unnamed = (expression_free a (second_so _ _ h)).0.unnamed })
      expression_free (C.Complement i a) h = valued l (Integer i) _ (record { unnamed = (expression_free a (second_so _ _ h)).0.unnamed })
      expression_free (C.Compute op i a b) h =
          valued l (Integer i) _ (record { unnamed = two (expression_free a (second_so _ _ (first_so _ _ h))).0 (expression_free b (second_so _ _ (second_so _ _ h))).0 })
      expression_free (C.Combine op i a b) h =
          valued l (Integer i) _ (record { unnamed = two (expression_free a (second_so _ _ (first_so _ _ h))).0 (expression_free b (second_so _ _ (second_so _ _ h))).0 })
      expression_free (C.Shift d i a b) h =
          valued l (Integer i) _ (shift_free i d _ _ (expression_free a (second_so _ _ (first_so _ _ h))).0 (number_free (C.type_of b) _ (expression_free b (second_so _ _ (second_so _ _ h))).0))
      expression_free (C.Compare r i a b) h =
          truthful _ (comparison_free r (is_signed i) _ _ (expression_free a (second_so _ _ (first_so _ _ h))).0 (expression_free b (second_so _ _ (second_so _ _ h))).0)
      expression_free (C.Equate q t a b) h =
          truthful _ (equation_free q _ _ (expression_free a (second_so _ _ (second_so _ _ (first_so _ _ h)))).0 (expression_free b (second_so _ _ (second_so _ _ h))).0)
      expression_free (C.Not a) h = truthful _ (record { unnamed = (expression_free a (second_so _ _ h)).1.unnamed })
      expression_free (C.And a b) h = truthful _ (record { unnamed = two (expression_free a (second_so _ _ (first_so _ _ h))).1 (expression_free b (second_so _ _ (second_so _ _ h))).1 })
      expression_free (C.Or a b) h = truthful _ (record { unnamed = two (expression_free a (second_so _ _ (first_so _ _ h))).1 (expression_free b (second_so _ _ (second_so _ _ h))).1 })
      expression_free (C.Choose t c a b) h =
          let k = first_so _ _ h in
          let test = (expression_free c (second_so _ _ (second_so _ _ (first_so _ _ k)))).1 in
          let left = (expression_free a (second_so _ _ (second_so _ _ k))).0 in
          let right = (expression_free b (second_so _ _ (second_so _ _ h))).0 in
          valued l t _ (record { unnamed = or_from _ _ (two test left) right.unnamed })
      expression_free (C.Move s t p a) h =
          let root = (expression_free p (second_so _ _ (second_so _ _ (first_so _ _ h)))).0 in
          let index = (expression_free a (second_so _ _ (second_so _ _ h))).0 in
          valued l (Ptr t) _ (record { unnamed = two root (moved_free s _ (number_free (C.type_of a) _ index)) })
      expression_free (C.MoveBy t a p) h =
          let root = (expression_free p (second_so _ _ (second_so _ _ h))).0 in
          let index = (expression_free a (second_so _ _ (second_so _ _ (first_so _ _ h)))).0 in
          valued l (Ptr t) _ (record { unnamed = two root (number_free (C.type_of a) _ index) })
      expression_free (C.Address p t) h = valued l (Ptr t) _ (place_free p (second_so _ _ (first_so _ _ h))).1
      expression_free (C.Decay p t) h = valued l (Ptr t) _ (place_free p (second_so _ _ (first_so _ _ h))).1

      -- what lies at a place, and its address
      pub place_free : (p : C.Place) → is_typed_place g p ≡ true → Free x (content l p) × Free x (address l p)
      place_free (C.Through t p path u) h =
          let k = first_so _ _ h in
          let root = (expression_free p (second_so _ _ (second_so _ _ (first_so _ _ k)))).0 in
          let steps = path_free path (second_so _ _ k) in
          (record { unnamed = along root steps }, record { unnamed = along root steps })
      place_free (C.InGlobal y path u) h = let steps = path_free path (first_so _ _ h) in (record { unnamed = steps.unnamed }, record { unnamed = steps.unnamed })

      pub path_free : (path : C.Path) → are_typed_indices g path ≡ true → PathFree x (path_of l path)
      path_free C.Here h = record { unnamed = refl }
      path_free (C.Member k path) h = record { unnamed = (path_free path h).unnamed }
      path_free (C.Element n e path) h =
          let index = number_free (C.type_of e) _ (expression_free e (second_so _ _ (first_so _ _ h))).0 in
          record { unnamed = along index (path_free path (second_so _ _ h)) }

    bounds_free : (path : C.Path) → are_typed_indices g path ≡ true → AllFree x (bounds l path)
    bounds_free C.Here h = none_free
    bounds_free (C.Member k path) h = bounds_free path h
    bounds_free (C.Element n e path) h =
        let index = number_free (C.type_of e) _ (expression_free e (second_so _ _ (first_so _ _ h))).0 in
        more_free (record { unnamed = index.unnamed }) (bounds_free path (second_so _ _ h))

    pub accesses_free : (level : Level) (p : C.Place) → is_typed_place g p ≡ true → AllFree x (accesses l level p)
    accesses_free level (C.Through t p path u) h =
        let root = (expression_free p (second_so _ _ (second_so _ _ (first_so _ _ (first_so _ _ h))))).0 in
        more_free (record { unnamed = root.unnamed }) (by_test (AllFree x) (is_lifted level) _ _ (λ b. more_free (record { unnamed = root.unnamed }) none_free) (λ b. none_free))
    accesses_free level (C.InGlobal y path u) h = none_free

    module _ (level : Level) where
      mutual
        pub guards_free : (e : C.Expr) → is_typed g e ≡ true → AllFree x (guards l level e)
        guards_free (C.Constant i n) h = none_free
        guards_free (C.Local y t) h = none_free
        guards_free (C.Value p) h = free_append _ _ (place_guards_free p h) (accesses_free level p h)
        guards_free (C.Convert t a) h = guards_free a (second_so _ _ (second_so _ _ h))
        guards_free (C.ConvertNull t a) h = guards_free a (second_so _ _ (second_so _ _ h))
        guards_free (C.Negate i a) h =
            let k = second_so _ _ h in free_append _ _ (guards_free a k) (fits_free l.target level i (E.Negate _) (record { unnamed = (number_free (Integer i) _ (expression_free a k).0).unnamed }))
        guards_free (C.Complement i a) h = guards_free a (second_so _ _ h)
        guards_free (C.Compute op i a b) h =
            let j = second_so _ _ (first_so _ _ h) in
            let k = second_so _ _ (second_so _ _ h) in
            free_append _ _ (free_append _ _ (guards_free a j) (guards_free b k)) (computes_free l.target level i op _ _ (expression_free a j).0 (expression_free b k).0)
        guards_free (C.Combine op i a b) h = free_append _ _ (guards_free a (second_so _ _ (first_so _ _ h))) (guards_free b (second_so _ _ (second_so _ _ h)))
        guards_free (C.Shift d i a b) h =
            let j = second_so _ _ (first_so _ _ h) in
            let k = second_so _ _ (second_so _ _ h) in
            free_append _ _ (free_append _ _ (guards_free a j) (guards_free b k)) (shifts_free l.target i d _ _ (expression_free a j).0 (number_free (C.type_of b) _ (expression_free b k).0))
        guards_free (C.Compare r i a b) h = free_append _ _ (guards_free a (second_so _ _ (first_so _ _ h))) (guards_free b (second_so _ _ (second_so _ _ h)))
        guards_free (C.Equate q t a b) h = free_append _ _ (guards_free a (second_so _ _ (second_so _ _ (first_so _ _ h)))) (guards_free b (second_so _ _ (second_so _ _ h)))
        guards_free (C.Not a) h = guards_free a (second_so _ _ h)
        guards_free (C.And a b) h =
            let j = second_so _ _ (first_so _ _ h) in free_append _ _ (guards_free a j) (under_free _ _ (expression_free a j).1 (guards_free b (second_so _ _ (second_so _ _ h))))
        guards_free (C.Or a b) h =
            let j = second_so _ _ (first_so _ _ h) in free_append _ _ (guards_free a j) (under_free (E.Not (truth l a)) _ (record { unnamed = (expression_free a j).1.unnamed }) (guards_free b (second_so _ _ (second_so _ _ h))))
        guards_free (C.Choose t c a b) h =
            let k = first_so _ _ h in
            let j = second_so _ _ (second_so _ _ (first_so _ _ k)) in
            free_append _ _ (free_append _ _ (guards_free c j) (under_free _ _ (expression_free c j).1 (guards_free a (second_so _ _ (second_so _ _ k)))))
            (under_free (E.Not (truth l c)) _ (record { unnamed = (expression_free c j).1.unnamed }) (guards_free b (second_so _ _ (second_so _ _ h))))
        guards_free (C.Move s t p a) h = free_append _ _ (guards_free p (second_so _ _ (second_so _ _ (first_so _ _ h)))) (guards_free a (second_so _ _ (second_so _ _ h)))
        guards_free (C.MoveBy t a p) h = free_append _ _ (guards_free a (second_so _ _ (second_so _ _ (first_so _ _ h)))) (guards_free p (second_so _ _ (second_so _ _ h)))
        guards_free (C.Address p t) h = place_guards_free p (second_so _ _ (first_so _ _ h))
        guards_free (C.Decay p t) h = place_guards_free p (second_so _ _ (first_so _ _ h))

        pub place_guards_free : (p : C.Place) → is_typed_place g p ≡ true → AllFree x (place_guards l level p)
        place_guards_free (C.Through t p path u) h =
            let k = first_so _ _ h in
            free_append _ _ (free_append _ _ (guards_free p (second_so _ _ (second_so _ _ (first_so _ _ k)))) (index_guards_free path (second_so _ _ k))) (bounds_free path (second_so _ _ k))
        place_guards_free (C.InGlobal y path u) h = free_append _ _ (index_guards_free path (first_so _ _ h)) (bounds_free path (first_so _ _ h))

        index_guards_free : (path : C.Path) → are_typed_indices g path ≡ true → AllFree x (index_guards l level path)
        index_guards_free C.Here h = none_free
        index_guards_free (C.Member k path) h = index_guards_free path h
        index_guards_free (C.Element n e path) h = free_append _ _ (guards_free e (second_so _ _ (first_so _ _ h))) (index_guards_free path (second_so _ _ h))
