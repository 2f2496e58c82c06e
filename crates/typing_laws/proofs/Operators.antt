-- Operators over typed operands give typed expressions.
use Rattle.std.proofs.Common.{◌≡◌, Bool, true, false, not, cond, ◌&&◌, ◌||◌, Option, Some, None, refl, sym, ap, ◌∙◌, subst}
use Rattle.std.proofs.lemmas.Bool.{false≢true}
use Rattle.c_values.specs.Types.{Target, IntType, CType, Integer, Void, Ptr, same_type}
use Rattle.c_values.specs.Layout.{Layout, is_scalar}
use Rattle.c_values.specs.CodeSameType.{type_is, same_type-refl}
use Rattle.typing_rules.specs.declared.operators.Meeting.TheVariants as M
use Rattle.c_integers.specs.Integers.{promoted, usual}
use Rattle.typing_rules.specs.Operators.{is_of, to_integer, is_void, is_void_pointer, to_void, integer_in, promotes, promotion, promoting, with_scalar, scalars, Balanced, balances, balance, balanced, shifts, is_null, pointers_meet, meets, Pair, met, paired}
use Rattle.typing_rules.specs.Operators as O
use Rattle.c_lang.specs.Typed as C
use Rattle.c_lang.specs.WellTyped.{Scope, is_integer, has_type, has_integer_type, is_typed, is_typed_at, is_typed_scalar}
use Rattle.typing_laws.proofs.Tests.{both, left, right, not_false}
use Rattle.typing_laws.proofs.Rulings.{Rules, ruled, refused, refused_or, rules_then}

-- an expression of a type, and one that is typed
abbrev pub Has : Scope → CType → C.Expr → Type 0
Has g t e = is_typed_at g t e ≡ true

abbrev pub IsTyped : Scope → C.Expr → Type 0
IsTyped g e = is_typed g e ≡ true

pub has : (g : Scope) (t : CType) (e : C.Expr) → C.type_of e ≡ t → IsTyped g e → Has g t e
has g t e h k = both (subst (λ u. same_type (C.type_of e) u ≡ true) h (same_type-refl (C.type_of e))) k

pub has_typed : (g : Scope) (t : CType) (e : C.Expr) → Has g t e → IsTyped g e
has_typed g t e h = right (has_type t e) (is_typed g e) h

pub scalar_of : (t u : CType) → t ≡ u → is_scalar u ≡ true → is_scalar t ≡ true
scalar_of t u e h = subst (λ v. is_scalar v ≡ true) (sym e) h

is_of_is : (i : IntType) (t : CType) → is_of i t ≡ true → t ≡ Integer i
is_of_is i (Integer j) h = sym (type_is (Integer i) (Integer j) h)
is_of_is _ _ h = absurd (false≢true h)

integer_in_is : (t : CType) (i : IntType) → integer_in t ≡ Some i → t ≡ Integer i
integer_in_is (Integer j) i h = ap Integer cc
integer_in_is _ i h = absurd cc

pub is_integer_is : (t : CType) → O.is_integer t ≡ true → (i : IntType) × (t ≡ Integer i)
is_integer_is (Integer i) h = (i, refl)
is_integer_is _ h = absurd (false≢true h)

is_void_pointer_is : (t : CType) → is_void_pointer t ≡ true → t ≡ Ptr Void
is_void_pointer_is (Ptr Void) h = refl
is_void_pointer_is _ h = absurd (false≢true h)

-- an integer, as the checker tests it and as typed trees do
pub integer_typed : (g : Scope) (e : C.Expr) → O.is_integer (C.type_of e) ≡ true → IsTyped g e → (has_integer_type e && is_typed g e) ≡ true
integer_typed g e h k = let p = is_integer_is (C.type_of e) h in both (subst (λ t. is_integer t ≡ true) (sym p.1) refl) k

module _ (g : Scope) where
  pub to_integer_typed : (i : IntType) (e : C.Expr) → is_scalar (C.type_of e) ≡ true → IsTyped g e → Has g (Integer i) (to_integer i e)
  to_integer_typed i e s h = by_cases (is_of i (C.type_of e)) refl
    where
      by_cases : (b : Bool) → is_of i (C.type_of e) ≡ b → Has g (Integer i) (cond b e (C.Convert (Integer i) e))
      by_cases true c = has g (Integer i) e (is_of_is i (C.type_of e) c) h
      by_cases false c = has g (Integer i) (C.Convert (Integer i) e) refl (both refl (both s h))

  to_void_typed : (e : C.Expr) → is_scalar (C.type_of e) ≡ true → IsTyped g e → Has g (Ptr Void) (to_void e)
  to_void_typed e s h = by_cases (is_void_pointer (C.type_of e)) refl
    where
      by_cases : (b : Bool) → is_void_pointer (C.type_of e) ≡ b → Has g (Ptr Void) (cond b e (C.Convert (Ptr Void) e))
      by_cases true c = has g (Ptr Void) e (is_void_pointer_is (C.type_of e) c) h
      by_cases false c = has g (Ptr Void) (C.Convert (Ptr Void) e) refl (both refl (both s h))

  -- two operands at a scalar type
  pub record IsPair (p : Pair) : Type 0 where
    pub scalar : is_scalar p.type ≡ true
    pub left : Has g p.type p.left
    pub right : Has g p.type p.right

  pub record IsBalanced (r : Balanced) : Type 0 where
    pub left : Has g (Integer r.type) r.left
    pub right : Has g (Integer r.type) r.right

  promotes_typed : (a : C.Expr) (o : Option IntType) → integer_in (C.type_of a) ≡ o → IsTyped g a → Rules (λ p. Has g (Integer p.0) p.1) (promotes a o)
  promotes_typed a None e h = refused
  promotes_typed a (Some i) e h = ruled (to_integer_typed (promoted i) a (scalar_of (C.type_of a) (Integer i) (integer_in_is (C.type_of a) i e) refl) h)

  pub promoting_typed : (node : IntType → C.Expr → C.Expr) (a : C.Expr) → ((i : IntType) (e : C.Expr) → Has g (Integer i) e → IsTyped g (node i e)) → IsTyped g a → Rules (IsTyped g) (promoting node a)
  promoting_typed node a k h = rules_then (promotion a) _ (promotes_typed a (integer_in (C.type_of a)) refl h) (λ p w. ruled (k p.0 p.1 w))

  pub with_scalar_typed : {A : Type 0} {P : A → Type 0} (a : C.Expr) (node : A) → (is_scalar (C.type_of a) ≡ true → P node) → Rules P (with_scalar a node)
  with_scalar_typed a node k = refused_or (not (is_scalar (C.type_of a))) _ _ (λ e. ruled (k (not_false (is_scalar (C.type_of a)) e)))

  pub scalars_typed : (a b : C.Expr) → IsTyped g a → IsTyped g b → Rules (λ p. (is_typed_scalar g p.0 ≡ true) × (is_typed_scalar g p.1 ≡ true)) (scalars a b)
  scalars_typed a b h k =
      rules_then (with_scalar a a) _ (with_scalar_typed {P = λ c. is_typed_scalar g c ≡ true} a a (λ s. both s h))
      (λ c w. with_scalar_typed b (c, b) (λ s. (w, both s k)))

  balances_typed : (t : Target) (a b : C.Expr) (o p : Option IntType) → integer_in (C.type_of a) ≡ o → integer_in (C.type_of b) ≡ p → IsTyped g a → IsTyped g b → Rules IsBalanced (balances t a b o p)
  balances_typed t a b (Some i) (Some j) e c h k = ruled (record {
    left = to_integer_typed (usual t i j) a (scalar_of (C.type_of a) (Integer i) (integer_in_is (C.type_of a) i e) refl) h;
    right = to_integer_typed (usual t i j) b (scalar_of (C.type_of b) (Integer j) (integer_in_is (C.type_of b) j c) refl) k;
  })
  balances_typed t a b None None e c h k = refused
  balances_typed t a b None (Some j) e c h k = refused
  balances_typed t a b (Some i) None e c h k = refused

  balance_typed : (t : Target) (a b : C.Expr) → IsTyped g a → IsTyped g b → Rules IsBalanced (balance t a b)
  balance_typed t a b h k = balances_typed t a b (integer_in (C.type_of a)) (integer_in (C.type_of b)) refl refl h k

  -- a node over two integers of a type
  pub balanced_typed : (t : Target) (node : IntType → C.Expr → C.Expr → C.Expr) (a b : C.Expr) →
      ((i : IntType) (x y : C.Expr) → Has g (Integer i) x → Has g (Integer i) y → IsTyped g (node i x y)) → IsTyped g a → IsTyped g b → Rules (IsTyped g) (balanced t node a b)
  balanced_typed t node a b n h k = rules_then (balance t a b) _ (balance_typed t a b h k) (λ r w. ruled (n r.type r.left r.right w.left w.right))

  pub shifts_typed : (d : C.Direction) (a b : C.Expr) (o p : Option IntType) → integer_in (C.type_of a) ≡ o → integer_in (C.type_of b) ≡ p → IsTyped g a → IsTyped g b → Rules (IsTyped g) (shifts d a b o p)
  shifts_typed d a b (Some i) (Some j) e c h k =
      let l = to_integer_typed (promoted i) a (scalar_of (C.type_of a) (Integer i) (integer_in_is (C.type_of a) i e) refl) h in
      let r = to_integer_typed (promoted j) b (scalar_of (C.type_of b) (Integer j) (integer_in_is (C.type_of b) j c) refl) k in
      ruled (both l (both (at_integer (promoted j) (to_integer (promoted j) b) r) (has_typed g (Integer (promoted j)) (to_integer (promoted j) b) r)))
    where
      at_integer : (i' : IntType) (e' : C.Expr) → Has g (Integer i') e' → has_integer_type e' ≡ true
      at_integer i' e' w = subst (λ t. is_integer t ≡ true) (sym (type_is (C.type_of e') (Integer i') (left (has_type (Integer i') e') (is_typed g e') w))) refl
  shifts_typed d a b None None e c h k = refused
  shifts_typed d a b None (Some j) e c h k = refused
  shifts_typed d a b (Some i) None e c h k = refused

  module _ (l : Layout) (a b : C.Expr) (h : IsTyped g a) (k : IsTyped g b) where
    at_same : (t u : CType) → is_scalar t ≡ true → C.type_of a ≡ t → C.type_of b ≡ u → same_type t u ≡ true → IsPair (record { type = C.type_of a; left = a; right = b })
    at_same t u s e c w = record {
      scalar = scalar_of (C.type_of a) t e s;
      left = has g (C.type_of a) a refl h;
      right = has g (C.type_of a) b (c ∙ sym (type_is t u w) ∙ sym e) k;
    }

    at_left : (u : CType) → is_scalar u ≡ true → C.type_of b ≡ u → is_scalar (C.type_of a) ≡ true → Rules IsPair (met l.target a b M.LeftNull)
    at_left u s c w = ruled (record {
      scalar = scalar_of (C.type_of b) u c s;
      left = has g (C.type_of b) (C.ConvertNull (C.type_of b) a) refl (both (scalar_of (C.type_of b) u c s) (both w h));
      right = has g (C.type_of b) b refl k;
    })

    at_right : (t : CType) → is_scalar t ≡ true → C.type_of a ≡ t → is_scalar (C.type_of b) ≡ true → Rules IsPair (met l.target a b M.RightNull)
    at_right t s c w = ruled (record {
      scalar = scalar_of (C.type_of a) t c s;
      left = has g (C.type_of a) a refl h;
      right = has g (C.type_of a) (C.ConvertNull (C.type_of a) b) refl (both (scalar_of (C.type_of a) t c s) (both w k));
    })

    pointers_typed : (t u : CType) → C.type_of a ≡ Ptr t → C.type_of b ≡ Ptr u → Rules IsPair (met l.target a b (pointers_meet l a b t u))
    pointers_typed t u e c = by_same (same_type t u) refl
      where
        a_scalar : is_scalar (C.type_of a) ≡ true
        a_scalar = scalar_of (C.type_of a) (Ptr t) e refl

        b_scalar : is_scalar (C.type_of b) ≡ true
        b_scalar = scalar_of (C.type_of b) (Ptr u) c refl

        by_void : (v : Bool) → Rules IsPair (met l.target a b (cond v M.AtVoid M.Nowhere))
        by_void true = ruled (record { scalar = refl; left = to_void_typed a a_scalar h; right = to_void_typed b b_scalar k })
        by_void false = refused

        by_right : (v w : Bool) → Rules IsPair (met l.target a b (cond v M.RightNull (cond w M.AtVoid M.Nowhere)))
        by_right true w = at_right (Ptr t) refl e b_scalar
        by_right false w = by_void w

        by_left : (u' v w : Bool) → Rules IsPair (met l.target a b (cond u' M.LeftNull (cond v M.RightNull (cond w M.AtVoid M.Nowhere))))
        by_left true v w = at_left (Ptr u) refl c a_scalar
        by_left false v w = by_right v w

        by_same : (s : Bool) → same_type t u ≡ s → Rules IsPair (met l.target a b (cond s M.Same (cond (is_null l a) M.LeftNull (cond (is_null l b) M.RightNull (cond (is_void t || is_void u) M.AtVoid M.Nowhere)))))
        by_same true s = ruled (at_same (Ptr t) (Ptr u) refl e c s)
        by_same false s = by_left (is_null l a) (is_null l b) (is_void t || is_void u)

    met_typed : (t u : CType) → C.type_of a ≡ t → C.type_of b ≡ u → Rules IsPair (met l.target a b (meets l a b t u))
    met_typed (Integer i) (Integer j) e c =
        rules_then (balance l.target a b) _ (balance_typed l.target a b h k) (λ r w. ruled (record { scalar = refl; left = w.left; right = w.right }))
    met_typed (Ptr t) (Ptr u) e c = pointers_typed t u e c
    met_typed (Ptr t) (Integer j) e c = by_null (is_null l b)
      where
        by_null : (v : Bool) → Rules IsPair (met l.target a b (cond v M.RightNull M.Nowhere))
        by_null true = at_right (Ptr t) refl e (scalar_of (C.type_of b) (Integer j) c refl)
        by_null false = refused
    met_typed (Integer i) (Ptr u) e c = by_null (is_null l a)
      where
        by_null : (v : Bool) → Rules IsPair (met l.target a b (cond v M.LeftNull M.Nowhere))
        by_null true = at_left (Ptr u) refl c (scalar_of (C.type_of a) (Integer i) e refl)
        by_null false = refused
    met_typed _ _ e c = refused

    pub paired_typed : Rules IsPair (paired l a b)
    paired_typed = met_typed (C.type_of a) (C.type_of b) refl refl
