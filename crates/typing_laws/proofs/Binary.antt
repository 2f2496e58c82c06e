-- Binary operators, conversions and casts over typed operands give typed expressions.
use Rattle.std.proofs.Common.{◌≡◌, Bool, true, false, not, cond, ◌||◌, Option, Some, None, refl, sym, ap, ◌∙◌, subst}
use Rattle.std.proofs.lemmas.Bool.{false≢true}
use Rattle.c_values.specs.Name.{Name}
use Rattle.c_values.specs.Types.{IntType, CType, Integer, Void, Ptr, Struct, Array, same_type}
use Rattle.c_values.specs.Layout.{Layout, is_object, is_scalar}
use Rattle.c_values.specs.CodeSameType.{type_is}
use Rattle.c_grammar.specs.declared.operator.BinaryOperator.{BinaryOperator}
use Rattle.c_grammar.specs.declared.operator.BinaryOperator.TheVariants as B
use Rattle.typing_rules.specs.declared.operators.Arrival.TheVariants as A
use Rattle.typing_rules.specs.Operators.{is_void, is_pointer_to_none, pointed_in, adds, added, subtracts, subtracted, is_null, scalars, paired, equated, shifted, binary, chosen, arrives_from, arrived, is_struct, converted, cast, integer_in}
use Rattle.typing_rules.specs.Operators as O
use Rattle.c_lang.specs.Typed as C
use Rattle.c_lang.specs.WellTyped.{Scope, is_integer}
use Rattle.typing_laws.proofs.Tests.{both, neither, not_false, name_is}
use Rattle.typing_laws.proofs.Rulings.{Rules, ruled, refused, refused_or, rules_then}
use Rattle.typing_laws.proofs.Growth.{IsGrown, object_kept}
use Rattle.typing_laws.proofs.Operators.{Has, IsTyped, has, is_integer_is, scalar_of, to_integer_typed, with_scalar_typed, scalars_typed, balanced_typed, shifts_typed, paired_typed}

record IsPointed (a b : C.Expr) (t : CType) : Type 0 where
  pointer : C.type_of a ≡ Ptr t
  integer : is_integer (C.type_of b) ≡ true

pointed_is : (a b : C.Expr) (t u v : CType) → C.type_of a ≡ t → C.type_of b ≡ u → pointed_in t u ≡ Some v → IsPointed a b v
pointed_is a b (Ptr t) (Integer j) v e c h = record { pointer = e ∙ ap Ptr cc; integer = subst (λ w. is_integer w ≡ true) (sym c) refl }
pointed_is a b _ _ v e c h = absurd cc

object_pointed : (l : Layout) (t u : CType) → t ≡ Ptr u → is_pointer_to_none l t ≡ false → is_object l u ≡ true
object_pointed l t u e h = not_false (is_object l u) (subst (λ v. is_pointer_to_none l v ≡ false) e h)

module _ (g : Scope) (l : Layout) (grown : IsGrown l g.layout) (a b : C.Expr) (h : IsTyped g a) (k : IsTyped g b) where
  computed : (node : IntType → C.Expr → C.Expr → C.Expr) → ((i : IntType) (x y : C.Expr) → Has g (Integer i) x → Has g (Integer i) y → IsTyped g (node i x y)) → Rules (IsTyped g) (O.balanced l.target node a b)
  computed node n = balanced_typed g l.target node a b n h k

  adds_typed : (o p : Option CType) → pointed_in (C.type_of a) (C.type_of b) ≡ o → pointed_in (C.type_of b) (C.type_of a) ≡ p →
      is_pointer_to_none l (C.type_of a) ≡ false → is_pointer_to_none l (C.type_of b) ≡ false → Rules (IsTyped g) (adds l a b o p)
  adds_typed (Some t) p e c w v =
      let q = pointed_is a b (C.type_of a) (C.type_of b) t refl refl e in
      ruled (both (both (object_kept l g.layout t grown (object_pointed l (C.type_of a) t q.pointer w)) (has g (Ptr t) a q.pointer h)) (both q.integer k))
  adds_typed None (Some u) e c w v =
      let q = pointed_is b a (C.type_of b) (C.type_of a) u refl refl c in
      ruled (both (both (object_kept l g.layout u grown (object_pointed l (C.type_of b) u q.pointer v)) (both q.integer h)) (has g (Ptr u) b q.pointer k))
  adds_typed None None e c w v = computed (C.Compute C.Add) (λ i x y m n. both m n)

  added_typed : Rules (IsTyped g) (added l a b)
  added_typed = refused_or (is_pointer_to_none l (C.type_of a) || is_pointer_to_none l (C.type_of b)) _ _ (λ e.
      let p = neither (is_pointer_to_none l (C.type_of a)) (is_pointer_to_none l (C.type_of b)) e in
      adds_typed (pointed_in (C.type_of a) (C.type_of b)) (pointed_in (C.type_of b) (C.type_of a)) refl refl p.0 p.1)

  subtracts_typed : (o : Option CType) → pointed_in (C.type_of a) (C.type_of b) ≡ o → is_pointer_to_none l (C.type_of a) ≡ false → Rules (IsTyped g) (subtracts l a b o)
  subtracts_typed (Some t) e w =
      let q = pointed_is a b (C.type_of a) (C.type_of b) t refl refl e in
      ruled (both (both (object_kept l g.layout t grown (object_pointed l (C.type_of a) t q.pointer w)) (has g (Ptr t) a q.pointer h)) (both q.integer k))
  subtracts_typed None e w = computed (C.Compute C.Subtract) (λ i x y m n. both m n)

  subtracted_typed : Rules (IsTyped g) (subtracted l a b)
  subtracted_typed = refused_or (is_pointer_to_none l (C.type_of a)) _ _ (λ e. subtracts_typed (pointed_in (C.type_of a) (C.type_of b)) refl e)

  equated_typed : (q : C.Equality) → Rules (IsTyped g) (equated l q a b)
  equated_typed q = rules_then (paired l a b) _ (paired_typed g l a b h k) (λ p w. ruled (both (both w.scalar w.left) w.right))

  shifted_typed : (d : C.Direction) → Rules (IsTyped g) (shifted d a b)
  shifted_typed d = shifts_typed g d a b (integer_in (C.type_of a)) (integer_in (C.type_of b)) refl refl h k

  pub binary_typed : (op : BinaryOperator) → Rules (IsTyped g) (binary l op a b)
  binary_typed B.Multiply = computed (C.Compute C.Multiply) (λ i x y m n. both m n)
  binary_typed B.Divide = computed (C.Compute C.Divide) (λ i x y m n. both m n)
  binary_typed B.Remainder = computed (C.Compute C.Remainder) (λ i x y m n. both m n)
  binary_typed B.Add = added_typed
  binary_typed B.Subtract = subtracted_typed
  binary_typed B.ShiftLeft = shifted_typed C.Left
  binary_typed B.ShiftRight = shifted_typed C.Right
  binary_typed B.And = computed (C.Combine C.BitAnd) (λ i x y m n. both m n)
  binary_typed B.ExclusiveOr = computed (C.Combine C.BitXor) (λ i x y m n. both m n)
  binary_typed B.Or = computed (C.Combine C.BitOr) (λ i x y m n. both m n)
  binary_typed B.Less = computed (C.Compare C.Less) (λ i x y m n. both m n)
  binary_typed B.Greater = computed (C.Compare C.Greater) (λ i x y m n. both m n)
  binary_typed B.LessEqual = computed (C.Compare C.LessEqual) (λ i x y m n. both m n)
  binary_typed B.GreaterEqual = computed (C.Compare C.GreaterEqual) (λ i x y m n. both m n)
  binary_typed B.Equal = equated_typed C.Equal
  binary_typed B.NotEqual = equated_typed C.NotEqual
  binary_typed B.LogicalAnd = rules_then (scalars a b) _ (scalars_typed g a b h k) (λ p w. ruled (both w.0 w.1))
  binary_typed B.LogicalOr = rules_then (scalars a b) _ (scalars_typed g a b h k) (λ p w. ruled (both w.0 w.1))

  pub chosen_typed : (c : C.Expr) → IsTyped g c → Rules (IsTyped g) (chosen l c a b)
  chosen_typed c i = refused_or (not (is_scalar (C.type_of c))) _ _ (λ e.
      rules_then (paired l a b) _ (paired_typed g l a b h k)
      (λ p w. ruled (both (both (both w.scalar (both (not_false (is_scalar (C.type_of c)) e) i)) w.left) w.right)))

module _ (g : Scope) (e : C.Expr) (h : IsTyped g e) where
  arrived_typed : (l : Layout) (t u : CType) → C.type_of e ≡ u → Rules (Has g (Ptr t)) (arrived t e (arrives_from l t e u))
  arrived_typed l t (Ptr u) c = by_same (same_type t u) refl
    where
      scalar : is_scalar (C.type_of e) ≡ true
      scalar = scalar_of (C.type_of e) (Ptr u) c refl

      by_void : (v : Bool) → Rules (Has g (Ptr t)) (arrived t e (cond v A.Void A.None))
      by_void true = ruled (has g (Ptr t) (C.Convert (Ptr t) e) refl (both refl (both scalar h)))
      by_void false = refused

      by_null : (n v : Bool) → Rules (Has g (Ptr t)) (arrived t e (cond n A.Null (cond v A.Void A.None)))
      by_null true v = ruled (has g (Ptr t) (C.ConvertNull (Ptr t) e) refl (both refl (both scalar h)))
      by_null false v = by_void v

      by_same : (s : Bool) → same_type t u ≡ s → Rules (Has g (Ptr t)) (arrived t e (cond s A.Same (cond (is_null l e) A.Null (cond (is_void t || is_void u) A.Void A.None))))
      by_same true s = ruled (has g (Ptr t) e (c ∙ ap Ptr (sym (type_is t u s))) h)
      by_same false s = by_null (is_null l e) (is_void t || is_void u)
  arrived_typed l t (Integer j) c = by_null (is_null l e)
    where
      by_null : (n : Bool) → Rules (Has g (Ptr t)) (arrived t e (cond n A.Null A.None))
      by_null true = ruled (has g (Ptr t) (C.ConvertNull (Ptr t) e) refl (both refl (both (scalar_of (C.type_of e) (Integer j) c refl) h)))
      by_null false = refused
  arrived_typed l t Void c = refused
  arrived_typed l t (Struct x) c = refused
  arrived_typed l t (Array u n) c = refused

  is_struct_is : (x : Name) (t : CType) → is_struct x t ≡ true → t ≡ Struct x
  is_struct_is x (Struct y) c = ap Struct (sym (name_is x y c))
  is_struct_is _ _ c = absurd (false≢true c)

  pub converted_typed : (l : Layout) (t : CType) → Rules (Has g t) (converted l t e)
  converted_typed l (Integer i) = refused_or (not (O.is_integer (C.type_of e))) _ _ (λ c.
      let p = is_integer_is (C.type_of e) (not_false (O.is_integer (C.type_of e)) c) in
      ruled (to_integer_typed g i e (scalar_of (C.type_of e) (Integer p.0) p.1 refl) h))
  converted_typed l (Ptr t) = arrived_typed l t (C.type_of e) refl
  converted_typed l (Struct x) = refused_or (not (is_struct x (C.type_of e))) _ _ (λ c. ruled (has g (Struct x) e (is_struct_is x (C.type_of e) (not_false (is_struct x (C.type_of e)) c)) h))
  converted_typed l Void = refused
  converted_typed l (Array t n) = refused

  pub cast_typed : (l : Layout) (t : CType) → Rules (IsTyped g) (cast l t e)
  cast_typed l (Integer i) = with_scalar_typed g e (C.Convert (Integer i) e) (λ s. both refl (both s h))
  cast_typed l (Ptr t) = by_null (is_null l e)
    where
      by_null : (n : Bool) → Rules (IsTyped g) (O.with_scalar e (cond n (C.ConvertNull (Ptr t) e) (C.Convert (Ptr t) e)))
      by_null true = with_scalar_typed g e (C.ConvertNull (Ptr t) e) (λ s. both refl (both s h))
      by_null false = with_scalar_typed g e (C.Convert (Ptr t) e) (λ s. both refl (both s h))
  cast_typed l Void = refused
  cast_typed l (Struct x) = refused
  cast_typed l (Array t n) = refused
