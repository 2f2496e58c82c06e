-- What the rules of operands and places make of those whose types have texts.
use Rattle.std.proofs.Common.{◌≡◌, ℕ, ◌+◌, ◌^◌, Bool, true, false, not, cond, ◌&&◌, List, [], ◌∷◌, Option, Some, None, refl}
use Rattle.std.specs.Prelude.{nat_lt}
use Rattle.std.proofs.lemmas.Bool.{and_from}
use Rattle.c_values.specs.Name.{Name, same_name}
use Rattle.c_values.specs.Types.{CType, Integer, Void, Ptr, Struct, Array, IntType}
use Rattle.c_values.specs.Growth.{struct_named}
use Rattle.c_values.specs.Layout.{Layout, Member, StructDef, is_object}
use Rattle.c_grammar.specs.declared.operator.UnaryOperator.{UnaryOperator}
use Rattle.c_grammar.specs.declared.operator.UnaryOperator.TheVariants as U
use Rattle.expression_text.specs.TypeText.{is_type}
use Rattle.typing_rules.specs.Scope.{Entity, Enumerator, Global, Function, Local, Hidden}
use Rattle.typing_rules.specs.Checked.{Ruling, Ruled, ◌>=>◌}
use Rattle.typing_rules.specs.Operand.{Operand, Valued, Variable, At, Demand, ForValue, ForElement, ForPlace, value_in, destination, is_array, first_element, is_in_global, decays, array_used, used_unindexed, used, path_then, place_then}
use Rattle.typing_rules.specs.Operators.{is_integer}
use Rattle.typing_rules.specs.Expressions.{variable, number_at, target, followed, stepped, array_of, indexed_at, indexed, member_from, member_in_struct, member_of, member_in, pointer_member, member_of_operand, Tail, Nothing, LastMember, LastElement, behind, tail, address, addressed, valued, unary, size_constant}
use Rattle.c_lang.specs.Typed as C
use Rattle.unit_names.specs.HasNames.{has_types, path_has_types, target_has_types}
use Rattle.typing_laws.proofs.Tests.{left, right}
use Rattle.typing_laws.proofs.Rulings.{Rules, ruled, refused, refused_or, rules_then}
use Rattle.named_texts.proofs.Types.{IsType, IsExp, IsPlace, IsPath, IsLength, type_is, place_type_is}
use Rattle.named_texts.proofs.Operators.{promoting_is, with_scalar_is}
use Rattle.named_texts.proofs.Scopes.{WhereEntity, AreStructs, AreMembers, WhereStruct, struct_is}

abbrev pub IsOperand : Operand → Type 0
IsOperand (Valued e) = IsExp e
IsOperand (Variable x t) = IsType t
IsOperand (At p) = IsPlace p

abbrev pub IsTarget : C.Destination → Type 0
IsTarget d = target_has_types d ≡ true

pub value_is : (o : Operand) → IsOperand o → IsExp (value_in o)
value_is (Valued e) h = h
value_is _ h = h

pub destination_is : (o : Operand) → IsOperand o → Rules IsTarget (destination o)
destination_is (Valued e) h = refused
destination_is (Variable x t) h = ruled h
destination_is (At p) h = ruled h

-- a place as an operand

first_is : (t : CType) → IsType t → IsType (first_element t)
first_is (Array t n) h = left (is_type t) (nat_lt n (2 ^ 32)) h
first_is _ h = h

decays_is : (d : Demand) (p : C.Place) (t : CType) → IsPlace p → IsType t → Rules IsOperand (decays d p t)
decays_is ForValue p t h k = refused_or (is_array t) _ _ (λ e. ruled (and_from _ _ k h))
decays_is ForElement p t h k = ruled h
decays_is ForPlace p t h k = ruled h

unindexed_is : (d : Demand) (p : C.Place) → IsPlace p → Rules IsOperand (used_unindexed d p)
unindexed_is d p h = by_test (is_array (C.place_type p))
  where
    by_test : (b : Bool) → Rules IsOperand (cond b (array_used d p) (Ruled (At p)))
    by_test true = refused_or (is_in_global p) _ _ (λ e. decays_is d p (first_element (C.place_type p)) h (first_is (C.place_type p) (place_type_is p h)))
    by_test false = ruled h

pub used_is : (d : Demand) (p : C.Place) → IsPlace p → Rules IsOperand (used d p)
used_is ForElement p h = ruled h
used_is ForValue p h = unindexed_is ForValue p h
used_is ForPlace p h = unindexed_is ForPlace p h

path_then_is : (path step : C.Path) → IsPath path → IsPath step → IsPath (path_then path step)
path_then_is C.Here step h k = k
path_then_is (C.Member n path) step h k = path_then_is path step h k
path_then_is (C.Element n e path) step h k =
    and_from _ _ (left (nat_lt n (2 ^ 32) && has_types e) (path_has_types path) h) (path_then_is path step (right (nat_lt n (2 ^ 32) && has_types e) (path_has_types path) h) k)

place_then_is : (p : C.Place) (step : C.Path) (t : CType) → IsPlace p → IsPath step → IsType t → IsPlace (place_then p step t)
place_then_is (C.Through r p path u) step t h k m =
    let front = left (is_type r && has_types p && path_has_types path) (is_type u) h in
    and_from _ _ (and_from _ _ (left (is_type r && has_types p) (path_has_types path) front) (path_then_is path step (right (is_type r && has_types p) (path_has_types path) front) k)) m
place_then_is (C.InGlobal x path u) step t h k m = and_from _ _ (path_then_is path step (left (path_has_types path) (is_type u) h) k) m

-- the rules

pub variable_is : (d : Demand) (x : Name) (o : Option Entity) → WhereEntity o → Rules IsOperand (variable d x o)
variable_is d x None h = refused
variable_is d x (Some (Enumerator n)) h = ruled refl
variable_is d x (Some (Global t)) h = used_is d (C.InGlobal x C.Here t) h
variable_is d x (Some (Local own t)) h = ruled h
variable_is d x (Some (Function r ps)) h = refused
variable_is d x (Some Hidden) h = refused

pub number_is : (n : ℕ) (o : Option IntType) → Rules IsOperand (number_at n o)
number_is n None = refused
number_is n (Some i) = ruled refl

target_is : (l : Layout) (t : CType) → IsType t → Rules IsType (target l t)
target_is l (Ptr t) h = refused_or (not (is_object l t)) _ _ (λ e. ruled h)
target_is l (Integer i) h = refused
target_is l Void h = refused
target_is l (Struct x) h = refused
target_is l (Array t n) h = refused

-- what a pointer points to, itself a place
through_is : (t : CType) (e : C.Expr) → IsType t → IsExp e → IsPlace (C.Through t e C.Here t)
through_is t e h k = and_from _ _ (and_from _ _ (and_from _ _ h k) refl) h

followed_is : (l : Layout) (e : C.Expr) → IsExp e → Rules IsPlace (followed l e (C.type_of e))
followed_is l e h = rules_then (target l (C.type_of e)) _ (target_is l (C.type_of e) (type_is e h)) (λ t k. ruled (through_is t e k h))

stepped_is : (l : Layout) (e i : C.Expr) → IsExp e → IsExp i → Rules IsPlace (stepped l e i (C.type_of e))
stepped_is l e i h k =
    rules_then (target l (C.type_of e)) _ (target_is l (C.type_of e) (type_is e h)) (λ t w.
    refused_or (not (is_integer (C.type_of i))) _ _ (λ c. ruled (through_is t (C.Move C.Plus t e i) w (and_from _ _ (and_from _ _ w h) k))))

abbrev WhereArray : Option (CType × ℕ) → Type 0
WhereArray None = Unit {0}
WhereArray (Some a) = IsType a.0 × IsLength a.1

array_is : (t : CType) → IsType t → WhereArray (array_of t)
array_is (Array t n) h = (left (is_type t) (nat_lt n (2 ^ 32)) h, right (is_type t) (nat_lt n (2 ^ 32)) h)
array_is _ _ = tt

indexed_at_is : (l : Layout) (p : C.Place) (i : C.Expr) (o : Option (CType × ℕ)) → IsPlace p → IsExp i → WhereArray o → Rules IsPlace (indexed_at l p i o)
indexed_at_is l p i (Some a) h k w =
    refused_or (not (is_integer (C.type_of i))) _ _ (λ c. ruled (place_then_is p (C.Element a.1 i C.Here) a.0 h (and_from _ _ (and_from _ _ w.1 k) refl) w.0))
indexed_at_is l p i None h k w = stepped_is l (C.Value p) i h k

indexed_is : (l : Layout) (o : Operand) (i : C.Expr) → IsOperand o → IsExp i → Rules IsPlace (indexed l o i)
indexed_is l (At p) i h k = indexed_at_is l p i (array_of (C.place_type p)) h k (array_is (C.place_type p) (place_type_is p h))
indexed_is l (Valued e) i h k = stepped_is l e i h k
indexed_is l (Variable x t) i h k = stepped_is l (C.Local x t) i h k

pub index_used : (l : Layout) (d : Demand) (o : Operand) (i : C.Expr) → IsOperand o → IsExp i → Rules IsOperand (indexed l o i >=> used d)
index_used l d o i h k = rules_then (indexed l o i) _ (indexed_is l o i h k) (used_is d)

abbrev IsMember : ℕ × CType → Type 0
IsMember m = IsType m.1

member_from_is : (k : ℕ) (ms : List Member) (x : Name) → AreMembers ms → Rules IsMember (member_from k ms x)
member_from_is k [] x h = refused
member_from_is k (m ∷ ms) x h = by_test (same_name m.name x) (member_from_is (k + 1) ms x h.1)
  where
    by_test : (b : Bool) → Rules IsMember (member_from (k + 1) ms x) → Rules IsMember (cond b (Ruled (k, m.type)) (member_from (k + 1) ms x))
    by_test true w = ruled h.0
    by_test false w = w

member_of_is : (l : Layout) (x : Name) (t : CType) → AreStructs l.structs → Rules IsMember (member_of l x t)
member_of_is l x (Struct s) h = in_struct (struct_named l.structs s) (struct_is l.structs s h)
  where
    in_struct : (o : Option StructDef) → WhereStruct o → Rules IsMember (member_in_struct o x)
    in_struct None w = refused
    in_struct (Some d) w = member_from_is 0 d.members x w
member_of_is l x (Integer i) h = refused
member_of_is l x Void h = refused
member_of_is l x (Ptr t) h = refused
member_of_is l x (Array t n) h = refused

member_in_is : (l : Layout) (x : Name) (p : C.Place) → AreStructs l.structs → IsPlace p → Rules IsPlace (member_in l x p)
member_in_is l x p h k = rules_then (member_of l x (C.place_type p)) _ (member_of_is l x (C.place_type p) h) (λ m w. ruled (place_then_is p (C.Member m.0 C.Here) m.1 k refl w))

pub member_used : (l : Layout) (d : Demand) (x : Name) (o : Operand) → AreStructs l.structs → IsOperand o → Rules IsOperand (member_of_operand l x o >=> used d)
member_used l d x (At p) h k = rules_then (member_in l x p) _ (member_in_is l x p h k) (used_is d)
member_used l d x (Valued e) h k = refused
member_used l d x (Variable y t) h k = refused

pub pointer_member_used : (l : Layout) (d : Demand) (x : Name) (e : C.Expr) → AreStructs l.structs → IsExp e → Rules IsOperand (pointer_member l x e >=> used d)
pointer_member_used l d x e h k =
    rules_then (pointer_member l x e) _ (rules_then (followed l e (C.type_of e)) _ (followed_is l e k) (λ p w. member_in_is l x p h w)) (used_is d)

-- the address of a place

abbrev TailIs : Tail → Type 0
TailIs Nothing = Unit {0}
TailIs (LastMember path) = IsPath path
TailIs (LastElement path n i) = IsPath path × IsLength n × IsExp i

behind_is : (step : C.Path → C.Path) → ((path : C.Path) → IsPath path → IsPath (step path)) → (own t : Tail) → TailIs own → TailIs t → TailIs (behind step own t)
behind_is step f own Nothing h k = h
behind_is step f own (LastMember path) h k = f path k
behind_is step f own (LastElement path n i) h k = (f path k.0, k.1, k.2)

tail_is : (path : C.Path) → IsPath path → TailIs (tail path)
tail_is C.Here h = tt
tail_is (C.Member k path) h = behind_is (C.Member k) (λ q w. w) (LastMember (C.Member k C.Here)) (tail path) refl (tail_is path h)
tail_is (C.Element n i path) h =
    let own = left (nat_lt n (2 ^ 32) && has_types i) (path_has_types path) h in
    behind_is (C.Element n i) (λ q w. and_from _ _ own w) (LastElement C.Here n i) (tail path)
    (refl, left (nat_lt n (2 ^ 32)) (has_types i) own, right (nat_lt n (2 ^ 32)) (has_types i) own) (tail_is path (right (nat_lt n (2 ^ 32) && has_types i) (path_has_types path) h))

address_is : (r : CType) (p : C.Expr) (t : CType) (q : Tail) → IsType r → IsExp p → IsType t → TailIs q → IsExp (address r p t q)
address_is r p t Nothing h k m w = k
address_is r p t (LastMember path) h k m w = and_from _ _ m (and_from _ _ (and_from _ _ (and_from _ _ h k) w) m)
address_is r p t (LastElement path n i) h k m w =
    let place : IsPlace (C.Through r p path (Array t n)) = and_from _ _ (and_from _ _ (and_from _ _ h k) w.0) (and_from _ _ m w.1) in
    and_from _ _ (and_from _ _ m (and_from _ _ m place)) w.2

addressed_is : (o : Operand) → IsOperand o → Rules IsExp (addressed o)
addressed_is (Valued e) h = refused
addressed_is (Variable x t) h = refused
addressed_is (At (C.InGlobal x path t)) h = refused
addressed_is (At (C.Through r p path t)) h =
    let front = left (is_type r && has_types p && path_has_types path) (is_type t) h in
    let root = left (is_type r && has_types p) (path_has_types path) front in
    refused_or (is_array t) _ _ (λ e.
    ruled (address_is r p t (tail path) (left (is_type r) (has_types p) root) (right (is_type r) (has_types p) root) (right (is_type r && has_types p && path_has_types path) (is_type t) h)
    (tail_is path (right (is_type r && has_types p) (path_has_types path) front))))

pub valued_is : (r : Ruling C.Expr) → Rules IsExp r → Rules IsOperand (valued r)
valued_is r h = rules_then r _ h (λ e k. ruled k)

pub unary_is : (d : Demand) (l : Layout) (op : UnaryOperator) (o : Operand) → IsOperand o → Rules IsOperand (unary d l op o)
unary_is d l U.Negate o h = valued_is _ (promoting_is C.Negate (λ i e k. k) (value_in o) (value_is o h))
unary_is d l U.Plus o h = valued_is _ (promoting_is (λ i e. C.Convert (Integer i) e) (λ i e k. k) (value_in o) (value_is o h))
unary_is d l U.Complement o h = valued_is _ (promoting_is C.Complement (λ i e k. k) (value_in o) (value_is o h))
unary_is d l U.Not o h = valued_is _ (with_scalar_is IsExp (value_in o) (C.Not (value_in o)) (value_is o h))
unary_is d l U.Dereference o h = rules_then (followed l (value_in o) (C.type_of (value_in o))) _ (followed_is l (value_in o) (value_is o h)) (used_is d)
unary_is d l U.Address o h = valued_is _ (addressed_is o h)

pub size_is : (l : Layout) (t : CType) → Rules IsOperand (size_constant l t)
size_is l t = refused_or (not (is_object l t)) _ _ (λ e. ruled refl)
