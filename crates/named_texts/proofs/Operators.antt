-- What the rules of operators make of expressions whose types have texts are such expressions.
use Rattle.std.proofs.Common.{Bool, true, false, not, cond, ◌||◌, Option, Some, None, refl}
use Rattle.std.proofs.lemmas.Bool.{and_from}
use Rattle.c_values.specs.Types.{Target, IntType, CType, Integer, Void, Ptr, Struct, Array}
use Rattle.c_values.specs.Layout.{Layout, is_scalar}
use Rattle.c_integers.specs.Integers.{promoted, usual}
use Rattle.c_grammar.specs.declared.operator.BinaryOperator.{BinaryOperator}
use Rattle.c_grammar.specs.declared.operator.BinaryOperator.TheVariants as B
use Rattle.typing_rules.specs.declared.operators.Meeting.{Meeting}
use Rattle.typing_rules.specs.declared.operators.Meeting.TheVariants as M
use Rattle.typing_rules.specs.declared.operators.Arrival.{Arrival}
use Rattle.typing_rules.specs.declared.operators.Arrival.TheVariants as A
use Rattle.typing_rules.specs.Operators.{is_of, to_integer, is_void_pointer, to_void, integer_in, promotes, promotion, promoting, with_scalar, Balanced, balances, balance, balanced, shifts, shifted, is_pointer_to_none, pointed_in, adds, added, subtracts, subtracted, meeting, Pair, met, paired, equated, is_null, binary, chosen, scalars, arrives_from, arrived, is_struct, converted, cast, is_integer}
use Rattle.c_lang.specs.Typed as C
use Rattle.typing_laws.proofs.Rulings.{Rules, ruled, refused, refused_or, rules_then}
use Rattle.named_texts.proofs.Types.{IsType, IsExp, WhereType, type_is}

pub at_integer : (i : IntType) (e : C.Expr) → IsExp e → IsExp (to_integer i e)
at_integer i e h = by_test (is_of i (C.type_of e))
  where
    by_test : (b : Bool) → IsExp (cond b e (C.Convert (Integer i) e))
    by_test true = h
    by_test false = h

at_void : (e : C.Expr) → IsExp e → IsExp (to_void e)
at_void e h = by_test (is_void_pointer (C.type_of e))
  where
    by_test : (b : Bool) → IsExp (cond b e (C.Convert (Ptr Void) e))
    by_test true = h
    by_test false = h

pub promoting_is : (node : IntType → C.Expr → C.Expr) → ((i : IntType) (e : C.Expr) → IsExp e → IsExp (node i e)) → (a : C.Expr) → IsExp a → Rules IsExp (promoting node a)
promoting_is node k a h = rules_then (promotion a) _ (promotes_is (integer_in (C.type_of a))) (λ p w. ruled (k p.0 p.1 w))
  where
    promotes_is : (o : Option IntType) → Rules (λ p. IsExp p.1) (promotes a o)
    promotes_is (Some i) = ruled (at_integer (promoted i) a h)
    promotes_is None = refused

pub with_scalar_is : {A : Type 0} (T : A → Type 0) (a : C.Expr) (node : A) → T node → Rules T (with_scalar a node)
with_scalar_is T a node h = refused_or (not (is_scalar (C.type_of a))) _ _ (λ e. ruled h)

pub record IsBalanced (r : Balanced) : Type 0 where
  pub left : IsExp r.left
  pub right : IsExp r.right

balance_is : (t : Target) (a b : C.Expr) → IsExp a → IsExp b → Rules IsBalanced (balance t a b)
balance_is t a b h k = balances_is (integer_in (C.type_of a)) (integer_in (C.type_of b))
  where
    balances_is : (o p : Option IntType) → Rules IsBalanced (balances t a b o p)
    balances_is (Some i) (Some j) = ruled (record { left = at_integer (usual t i j) a h; right = at_integer (usual t i j) b k })
    balances_is (Some i) None = refused
    balances_is None p = refused

balanced_is : (t : Target) (node : IntType → C.Expr → C.Expr → C.Expr) → ((i : IntType) (a b : C.Expr) → IsExp a → IsExp b → IsExp (node i a b)) → (a b : C.Expr) → IsExp a → IsExp b → Rules IsExp (balanced t node a b)
balanced_is t node f a b h k = rules_then (balance t a b) _ (balance_is t a b h k) (λ r w. ruled (f r.type r.left r.right w.left w.right))

shifted_is : (d : C.Direction) (a b : C.Expr) → IsExp a → IsExp b → Rules IsExp (shifted d a b)
shifted_is d a b h k = shifts_is (integer_in (C.type_of a)) (integer_in (C.type_of b))
  where
    shifts_is : (o p : Option IntType) → Rules IsExp (shifts d a b o p)
    shifts_is (Some i) (Some j) = ruled (and_from _ _ (at_integer (promoted i) a h) (at_integer (promoted j) b k))
    shifts_is (Some i) None = refused
    shifts_is None p = refused

pointed_is : (t u : CType) → IsType t → WhereType (pointed_in t u)
pointed_is (Ptr t) (Integer j) h = h
pointed_is _ _ h = tt

added_is : (l : Layout) (a b : C.Expr) → IsExp a → IsExp b → Rules IsExp (added l a b)
added_is l a b h k =
    refused_or (is_pointer_to_none l (C.type_of a) || is_pointer_to_none l (C.type_of b)) _ _ (λ e.
    adds_is (pointed_in (C.type_of a) (C.type_of b)) (pointed_in (C.type_of b) (C.type_of a)) (pointed_is (C.type_of a) (C.type_of b) (type_is a h)) (pointed_is (C.type_of b) (C.type_of a) (type_is b k)))
  where
    adds_is : (o p : Option CType) → WhereType o → WhereType p → Rules IsExp (adds l a b o p)
    adds_is (Some t) p w v = ruled (and_from _ _ (and_from _ _ w h) k)
    adds_is None (Some u) w v = ruled (and_from _ _ (and_from _ _ v h) k)
    adds_is None None w v = balanced_is l.target (C.Compute C.Add) (λ i x y p q. and_from _ _ p q) a b h k

subtracted_is : (l : Layout) (a b : C.Expr) → IsExp a → IsExp b → Rules IsExp (subtracted l a b)
subtracted_is l a b h k =
    refused_or (is_pointer_to_none l (C.type_of a)) _ _ (λ e. subtracts_is (pointed_in (C.type_of a) (C.type_of b)) (pointed_is (C.type_of a) (C.type_of b) (type_is a h)))
  where
    subtracts_is : (o : Option CType) → WhereType o → Rules IsExp (subtracts l a b o)
    subtracts_is (Some t) w = ruled (and_from _ _ (and_from _ _ w h) k)
    subtracts_is None w = balanced_is l.target (C.Compute C.Subtract) (λ i x y p q. and_from _ _ p q) a b h k

record IsPair (p : Pair) : Type 0 where
  pub type : IsType p.type
  pub left : IsExp p.left
  pub right : IsExp p.right

paired_is : (l : Layout) (a b : C.Expr) → IsExp a → IsExp b → Rules IsPair (paired l a b)
paired_is l a b h k = met_is (meeting l a b)
  where
    met_is : (m : Meeting) → Rules IsPair (met l.target a b m)
    met_is M.Integers = rules_then (balance l.target a b) _ (balance_is l.target a b h k) (λ r w. ruled (record { type = refl; left = w.left; right = w.right }))
    met_is M.Same = ruled (record { type = type_is a h; left = h; right = k })
    met_is M.LeftNull = ruled (record { type = type_is b k; left = and_from _ _ (type_is b k) h; right = k })
    met_is M.RightNull = ruled (record { type = type_is a h; left = h; right = and_from _ _ (type_is a h) k })
    met_is M.AtVoid = ruled (record { type = refl; left = at_void a h; right = at_void b k })
    met_is M.Nowhere = refused

equated_is : (l : Layout) (q : C.Equality) (a b : C.Expr) → IsExp a → IsExp b → Rules IsExp (equated l q a b)
equated_is l q a b h k = rules_then (paired l a b) _ (paired_is l a b h k) (λ p w. ruled (and_from _ _ w.left w.right))

scalars_are : (a b : C.Expr) → IsExp a → IsExp b → Rules (λ p. IsExp p.0 × IsExp p.1) (scalars a b)
scalars_are a b h k = rules_then (with_scalar a a) _ (with_scalar_is IsExp a a h) (λ c w. with_scalar_is (λ p. IsExp p.0 × IsExp p.1) b (c, b) (w, k))

pub binary_is : (l : Layout) (op : BinaryOperator) (a b : C.Expr) → IsExp a → IsExp b → Rules IsExp (binary l op a b)
binary_is l B.Multiply a b h k = balanced_is l.target (C.Compute C.Multiply) (λ i x y p q. and_from _ _ p q) a b h k
binary_is l B.Divide a b h k = balanced_is l.target (C.Compute C.Divide) (λ i x y p q. and_from _ _ p q) a b h k
binary_is l B.Remainder a b h k = balanced_is l.target (C.Compute C.Remainder) (λ i x y p q. and_from _ _ p q) a b h k
binary_is l B.Add a b h k = added_is l a b h k
binary_is l B.Subtract a b h k = subtracted_is l a b h k
binary_is l B.ShiftLeft a b h k = shifted_is C.Left a b h k
binary_is l B.ShiftRight a b h k = shifted_is C.Right a b h k
binary_is l B.And a b h k = balanced_is l.target (C.Combine C.BitAnd) (λ i x y p q. and_from _ _ p q) a b h k
binary_is l B.ExclusiveOr a b h k = balanced_is l.target (C.Combine C.BitXor) (λ i x y p q. and_from _ _ p q) a b h k
binary_is l B.Or a b h k = balanced_is l.target (C.Combine C.BitOr) (λ i x y p q. and_from _ _ p q) a b h k
binary_is l B.Less a b h k = balanced_is l.target (C.Compare C.Less) (λ i x y p q. and_from _ _ p q) a b h k
binary_is l B.Greater a b h k = balanced_is l.target (C.Compare C.Greater) (λ i x y p q. and_from _ _ p q) a b h k
binary_is l B.LessEqual a b h k = balanced_is l.target (C.Compare C.LessEqual) (λ i x y p q. and_from _ _ p q) a b h k
binary_is l B.GreaterEqual a b h k = balanced_is l.target (C.Compare C.GreaterEqual) (λ i x y p q. and_from _ _ p q) a b h k
binary_is l B.Equal a b h k = equated_is l C.Equal a b h k
binary_is l B.NotEqual a b h k = equated_is l C.NotEqual a b h k
binary_is l B.LogicalAnd a b h k = rules_then (scalars a b) _ (scalars_are a b h k) (λ p w. ruled (and_from _ _ w.0 w.1))
binary_is l B.LogicalOr a b h k = rules_then (scalars a b) _ (scalars_are a b h k) (λ p w. ruled (and_from _ _ w.0 w.1))

pub chosen_is : (l : Layout) (c a b : C.Expr) → IsExp c → IsExp a → IsExp b → Rules IsExp (chosen l c a b)
chosen_is l c a b h j k =
    refused_or (not (is_scalar (C.type_of c))) _ _ (λ e. rules_then (paired l a b) _ (paired_is l a b j k) (λ p w. ruled (and_from _ _ (and_from _ _ (and_from _ _ w.type h) w.left) w.right)))

pub converted_is : (l : Layout) (t : CType) (e : C.Expr) → IsType t → IsExp e → Rules IsExp (converted l t e)
converted_is l (Integer i) e h k = refused_or (not (is_integer (C.type_of e))) _ _ (λ c. ruled (at_integer i e k))
converted_is l (Ptr t) e h k = arrived_is (arrives_from l t e (C.type_of e))
  where
    arrived_is : (a : Arrival) → Rules IsExp (arrived t e a)
    arrived_is A.Same = ruled k
    arrived_is A.Null = ruled (and_from _ _ h k)
    arrived_is A.Void = ruled (and_from _ _ h k)
    arrived_is A.None = refused
converted_is l (Struct x) e h k = refused_or (not (is_struct x (C.type_of e))) _ _ (λ c. ruled k)
converted_is l Void e h k = refused
converted_is l (Array t n) e h k = refused

pub cast_is : (l : Layout) (t : CType) (e : C.Expr) → IsType t → IsExp e → Rules IsExp (cast l t e)
cast_is l (Integer i) e h k = with_scalar_is IsExp e (C.Convert (Integer i) e) k
cast_is l (Ptr t) e h k = with_scalar_is IsExp e _ (by_test (is_null l e))
  where
    by_test : (b : Bool) → IsExp (cond b (C.ConvertNull (Ptr t) e) (C.Convert (Ptr t) e))
    by_test true = and_from _ _ h k
    by_test false = and_from _ _ h k
cast_is l Void e h k = refused
cast_is l (Struct x) e h k = refused
cast_is l (Array t n) e h k = refused
