-- The rules of expressions over typed operands.
use Rattle.std.proofs.Common.{◌≡◌, ℕ, Bool, true, false, not, cond, ◌&&◌, leb, Option, Some, None, pos, refl, sym, ap, subst}
use Rattle.std.proofs.lemmas.Bool.{false≢true}
use Rattle.c_values.specs.Name.{Name}
use Rattle.c_values.specs.Types.{IntType, CType, Integer, Void, Ptr, Struct, Array, same_type, size_type}
use Rattle.c_values.specs.Number.{is_of_type}
use Rattle.c_values.specs.Growth.{struct_named}
use Rattle.c_values.specs.Layout.{Layout, StructDef, is_object, is_scalar, is_complete, shape_of, size_of, largest_size, type_of}
use Rattle.c_values.specs.CodeSameType.{type_is, same_type-refl}
use Rattle.c_grammar.specs.declared.operator.UnaryOperator.{UnaryOperator}
use Rattle.c_grammar.specs.declared.operator.UnaryOperator.TheVariants as U
use Rattle.typing_rules.specs.Checked.{Ruling, Ruled, ◌>=>◌}
use Rattle.typing_rules.specs.Operand.{Operand, Valued, Variable, At, Demand, ForValue, ForElement, ForPlace, value_in, is_array, first_element, is_in_global, decays, array_used, used_unindexed, used, place_then, destination}
use Rattle.typing_rules.specs.Operators as O
use Rattle.typing_rules.specs.Expressions.{target, followed, stepped, array_of, indexed_at, indexed, member_of, member_in, member_in_struct, member_among, pointer_member, member_of_operand, addressed, valued, unary, size_constant}
use Rattle.c_lang.specs.Typed as C
use Rattle.c_lang.specs.WellTyped.{Scope, has_type, is_in_memory, is_array_of, is_typed, is_typed_place, is_typed_target}
use Rattle.typing_laws.proofs.Tests.{both, left, right, not_false}
use Rattle.typing_laws.proofs.Rulings.{Rules, ruled, refused, refused_or, rules_then, rules_weaker}
use Rattle.typing_laws.proofs.Growth.{IsGrown, object_kept}
use Rattle.typing_laws.proofs.Parts.{object_type}
use Rattle.typing_laws.proofs.Places.{IsSound, place_element}
use Rattle.typing_laws.proofs.Addresses.{address_typed}
use Rattle.typing_laws.proofs.Members.{struct_defined, member_found, place_member}
use Rattle.typing_laws.proofs.Integers.{size_fits}
use Rattle.typing_laws.proofs.Operators.{Has, IsTyped, has, integer_typed, promoting_typed, with_scalar_typed}

abbrev pub IsOperand : Scope → Operand → Type 0
IsOperand g (Valued e) = is_typed g e ≡ true
IsOperand g (Variable x t) = is_typed g (C.Local x t) ≡ true
IsOperand g (At p) = is_typed_place g p ≡ true

abbrev pub IsPlace : Scope → C.Place → Type 0
IsPlace g p = is_typed_place g p ≡ true

pub value_typed : (g : Scope) (a : Operand) → IsOperand g a → IsTyped g (value_in a)
value_typed g (Valued e) h = h
value_typed _ _ h = h

pub destination_typed : (g : Scope) (a : Operand) → IsOperand g a → Rules (λ d. is_typed_target g d ≡ true) (destination a)
destination_typed g (Valued e) h = refused
destination_typed g (Variable x t) h = ruled h
destination_typed g (At p) h = ruled h

pub valued_typed : (g : Scope) (r : Ruling C.Expr) → Rules (IsTyped g) r → Rules (IsOperand g) (valued r)
valued_typed g r h = rules_then r _ h (λ e k. ruled k)

in_memory : (p : C.Place) → is_in_global p ≡ false → is_in_memory p ≡ true
in_memory (C.Through t p path u) h = refl
in_memory (C.InGlobal x path u) h = absurd (false≢true (sym h))

array_is : (t : CType) → is_array t ≡ true → is_array_of (first_element t) t ≡ true
array_is (Array t n) h = same_type-refl t
array_is _ h = absurd (false≢true h)

module _ (g : Scope) where
  decays_typed : (d : Demand) (p : C.Place) → is_array (C.place_type p) ≡ true → is_in_global p ≡ false → IsPlace g p → Rules (IsOperand g) (decays d p (first_element (C.place_type p)))
  decays_typed ForValue p a m h = refused_or (is_array (first_element (C.place_type p))) _ _ (λ e. ruled (both (both (in_memory p m) h) (array_is (C.place_type p) a)))
  decays_typed ForElement p a m h = ruled h
  decays_typed ForPlace p a m h = ruled h

  unindexed_typed : (d : Demand) (p : C.Place) → IsPlace g p → Rules (IsOperand g) (used_unindexed d p)
  unindexed_typed d p h = by_cases (is_array (C.place_type p)) refl
    where
      by_cases : (b : Bool) → is_array (C.place_type p) ≡ b → Rules (IsOperand g) (cond b (array_used d p) (Ruled (At p)))
      by_cases true a = refused_or (is_in_global p) _ _ (λ m. decays_typed d p a m h)
      by_cases false a = ruled h

  pub used_typed : (d : Demand) (p : C.Place) → IsPlace g p → Rules (IsOperand g) (used d p)
  used_typed ForElement p h = ruled h
  used_typed ForValue p h = unindexed_typed ForValue p h
  used_typed ForPlace p h = unindexed_typed ForPlace p h

  use_typed : (d : Demand) (r : Ruling C.Place) → Rules (IsPlace g) r → Rules (IsOperand g) (r >=> used d)
  use_typed d r h = rules_then r _ h (λ p k. used_typed d p k)

  module _ (s : IsSound g) (l : Layout) (grown : IsGrown l g.layout) where
    -- the object that a pointer points to
    target_typed : (p : CType) → Rules (λ t. (p ≡ Ptr t) × (is_object g.layout t ≡ true)) (target l p)
    target_typed (Ptr t) = refused_or (not (is_object l t)) _ _ (λ e. ruled (refl, object_kept l g.layout t grown (not_false (is_object l t) e)))
    target_typed (Integer i) = refused
    target_typed Void = refused
    target_typed (Struct x) = refused
    target_typed (Array t n) = refused

    through : (t : CType) (e : C.Expr) → is_object g.layout t ≡ true → Has g (Ptr t) e → IsPlace g (C.Through t e C.Here t)
    through t e o h = both (both (both o h) refl) (subst (λ u. same_type (type_of (shape_of g.layout t)) u ≡ true) (object_type g.layout t s.layout o) (same_type-refl (type_of (shape_of g.layout t))))

    pub followed_typed : (e : C.Expr) → IsTyped g e → Rules (IsPlace g) (followed l e (C.type_of e))
    followed_typed e h = rules_then (target l (C.type_of e)) _ (target_typed (C.type_of e)) (λ t w. ruled (through t e w.1 (has g (Ptr t) e w.0 h)))

    stepped_typed : (e i : C.Expr) → IsTyped g e → IsTyped g i → Rules (IsPlace g) (stepped l e i (C.type_of e))
    stepped_typed e i h k = rules_then (target l (C.type_of e)) _ (target_typed (C.type_of e)) (λ t w.
        refused_or (not (O.is_integer (C.type_of i))) _ _ (λ c.
        ruled (through t (C.Move C.Plus t e i) w.1 (both (same_type-refl t) (both (both w.1 (has g (Ptr t) e w.0 h)) (integer_typed g i (not_false (O.is_integer (C.type_of i)) c) k))))))

    array_of_is : (t : CType) (a : CType × ℕ) → array_of t ≡ Some a → t ≡ Array a.0 a.1
    array_of_is (Array t n) a h = let e : ◌≡◌ {A = CType × ℕ} (t, n) a = cc in ap (λ b. Array b.0 b.1) e
    array_of_is _ a h = absurd cc

    indexed_at_typed : (p : C.Place) (i : C.Expr) (o : Option (CType × ℕ)) → array_of (C.place_type p) ≡ o → IsPlace g p → IsTyped g i → Rules (IsPlace g) (indexed_at l p i o)
    indexed_at_typed p i (Some a) e h k = refused_or (not (O.is_integer (C.type_of i))) _ _ (λ c.
        ruled (place_element g p i a.0 a.1 s h (array_of_is (C.place_type p) a e) (integer_typed g i (not_false (O.is_integer (C.type_of i)) c) k)))
    indexed_at_typed p i None e h k = stepped_typed (C.Value p) i h k

    indexed_typed : (a : Operand) (i : C.Expr) → IsOperand g a → IsTyped g i → Rules (IsPlace g) (indexed l a i)
    indexed_typed (At p) i h k = indexed_at_typed p i (array_of (C.place_type p)) refl h k
    indexed_typed (Valued e) i h k = stepped_typed e i h k
    indexed_typed (Variable x t) i h k = stepped_typed (C.Local x t) i h k

    in_struct_typed : (p : C.Place) (x y : Name) (o : Option StructDef) → struct_named l.structs y ≡ o → C.place_type p ≡ Struct y → IsPlace g p →
        Rules (λ m. is_typed_place g (place_then p (C.Member m.0 C.Here) m.1) ≡ true) (member_in_struct o x)
    in_struct_typed p x y None e c h = refused
    in_struct_typed p x y (Some d) e c h =
        let found = grown.named y d e in
        rules_weaker (member_among d.members x) (member_found (shape_of g.layout) 0 d.members x (struct_defined g.layout y d s.layout found).1) (λ m w. place_member g p y d m s h c found w)

    of_type_typed : (p : C.Place) (x : Name) (t : CType) → C.place_type p ≡ t → IsPlace g p → Rules (λ m. is_typed_place g (place_then p (C.Member m.0 C.Here) m.1) ≡ true) (member_of l x t)
    of_type_typed p x (Struct y) c h = in_struct_typed p x y (struct_named l.structs y) refl c h
    of_type_typed p x (Integer i) c h = refused
    of_type_typed p x Void c h = refused
    of_type_typed p x (Ptr t) c h = refused
    of_type_typed p x (Array t n) c h = refused

    member_typed : (x : Name) (p : C.Place) → IsPlace g p → Rules (IsPlace g) (member_in l x p)
    member_typed x p h = rules_then (member_of l x (C.place_type p)) _ (of_type_typed p x (C.place_type p) refl h) (λ m k. ruled k)

    of_operand_typed : (x : Name) (a : Operand) → IsOperand g a → Rules (IsPlace g) (member_of_operand l x a)
    of_operand_typed x (At p) h = member_typed x p h
    of_operand_typed x (Valued e) h = refused
    of_operand_typed x (Variable y t) h = refused

    pointer_member_typed : (x : Name) (e : C.Expr) → IsTyped g e → Rules (IsPlace g) (pointer_member l x e)
    pointer_member_typed x e h = rules_then (followed l e (C.type_of e)) _ (followed_typed e h) (λ p k. member_typed x p k)

    addressed_typed : (a : Operand) → IsOperand g a → Rules (IsTyped g) (addressed a)
    addressed_typed (Valued e) h = refused
    addressed_typed (Variable x t) h = refused
    addressed_typed (At (C.InGlobal x path t)) h = refused
    addressed_typed (At (C.Through r p path t)) h = refused_or (is_array t) _ _ (λ e. ruled (address_typed g s r p path t h))

    pub unary_typed : (d : Demand) (op : UnaryOperator) (a : Operand) → IsOperand g a → Rules (IsOperand g) (unary d l op a)
    unary_typed d U.Negate a h = valued_typed g _ (promoting_typed g C.Negate (value_in a) (λ i e k. k) (value_typed g a h))
    unary_typed d U.Plus a h = valued_typed g _ (promoting_typed g (λ i e. C.Convert (Integer i) e) (value_in a) (λ i e k. both refl (plus i e k)) (value_typed g a h))
      where
        plus : (i : IntType) (e : C.Expr) → Has g (Integer i) e → (is_scalar (C.type_of e) && is_typed g e) ≡ true
        plus i e k = both (subst (λ t. is_scalar t ≡ true) (sym (type_is (C.type_of e) (Integer i) (left (has_type (Integer i) e) (is_typed g e) k))) refl) (right (has_type (Integer i) e) (is_typed g e) k)
    unary_typed d U.Complement a h = valued_typed g _ (promoting_typed g C.Complement (value_in a) (λ i e k. k) (value_typed g a h))
    unary_typed d U.Not a h = valued_typed g _ (with_scalar_typed g (value_in a) (C.Not (value_in a)) (λ c. both c (value_typed g a h)))
    unary_typed d U.Dereference a h = use_typed d _ (followed_typed (value_in a) (value_typed g a h))
    unary_typed d U.Address a h = valued_typed g _ (addressed_typed a h)

    pub index_typed : (d : Demand) (a : Operand) (i : C.Expr) → IsOperand g a → IsTyped g i → Rules (IsOperand g) (indexed l a i >=> used d)
    index_typed d a i h k = use_typed d _ (indexed_typed a i h k)

    pub member_used : (d : Demand) (x : Name) (a : Operand) → IsOperand g a → Rules (IsOperand g) (member_of_operand l x a >=> used d)
    member_used d x a h = use_typed d _ (of_operand_typed x a h)

    pub pointer_member_used : (d : Demand) (x : Name) (e : C.Expr) → IsTyped g e → Rules (IsOperand g) (pointer_member l x e >=> used d)
    pointer_member_used d x e h = use_typed d _ (pointer_member_typed x e h)

    pub size_typed : (t : CType) → Rules (IsOperand g) (size_constant l t)
    size_typed t = refused_or (not (is_object l t)) _ _ (λ e. ruled (subst (λ k. is_of_type k (size_type l.target) (pos (size_of l t)) ≡ true) (sym grown.target)
        (size_fits l.target (size_of l t) (right (is_complete (shape_of l t)) (leb (size_of l t) largest_size) (not_false (is_object l t) e)))))
