-- The trees of statements: what is typed for them has types with texts.
use Rattle.std.proofs.Common.{◌≡◌, ℕ, pos, ◌==◌, true, not, ◌||◌, List, [], ◌∷◌, ◌++◌, length, Option, Some, None, refl}
use Rattle.std.proofs.lemmas.Bool.{and_from}
use Rattle.c_values.specs.Name.{Name}
use Rattle.c_values.specs.Types.{IntType, Int, CType, Integer, Void, Ptr, Struct, Array}
use Rattle.c_values.specs.Layout.{Layout, is_scalar}
use Rattle.c_grammar.specs.Tree as tree
use Rattle.c_grammar.specs.declared.operator.BinaryOperator.{BinaryOperator}
use Rattle.c_grammar.specs.declared.operator.BinaryOperator.TheVariants.{Add, Subtract}
use Rattle.c_grammar.specs.declared.operator.StepOperator.{StepOperator}
use Rattle.c_grammar.specs.declared.operator.StepOperator.TheVariants.{Increment, Decrement}
use Rattle.expression_text.specs.Lists.{each}
use Rattle.c_integers.specs.Integers.{promoted}
use Rattle.typing_rules.specs.Scope.{Scope, Entity, Enumerator, Global, Function, Local, Hidden, entity, hide_locals}
use Rattle.typing_rules.specs.Progress.{with_local}
use Rattle.typing_rules.specs.Checked.{pure, ◌>>=◌, rule, changed, in_block}
use Rattle.typing_rules.specs.Constant.{number_at}
use Rattle.typing_rules.specs.Operand.{Operand, ForValue, destination}
use Rattle.typing_rules.specs.Operators.{binary, converted}
use Rattle.typing_rules.specs.Declarations.{Declared}
use Rattle.typing_rules.specs.Expressions.{first, value, place, operand, base, declarator, words_start, integer_constant}
use Rattle.typing_rules.specs.Calls.{Called, callee, passed, called, one_call_more, values, call, calls_for, ignored, result_for, Right, Computed, Resulting, right, assigned, returned}
use Rattle.typing_rules.specs.Simple.{assignment, value_at, update, step, simple}
use Rattle.typing_rules.specs.Locals.{local_name, add_local, name_local, initial, declared, init, inits, local}
use Rattle.typing_rules.specs.Statements.{Around, inside_loop, inside_switch, tested, loop_tested, returns, switch_type, switches, Labels, no_labels, both, case_label, default_label, label, labels, label_at, is_jump, ends_by_jump, is_last, separate, onto, listed, start, loop_test, loop_step, optional_right, switch_number, do_while_number, statement, items, groups}
use Rattle.c_lang.specs.Typed as C
use Rattle.unit_names.specs.HasNames.{has_types, test_has_types, statement_has_types, statements_have_types, groups_have_types}
use Rattle.typing_laws.specs.Written as W
use Rattle.typing_laws.proofs.Rulings.{Rules, ruled, refused, refused_or, rules_then}
use Rattle.typing_laws.proofs.Outcomes.{gives}
use Rattle.named_texts.proofs.Types.{IsType, IsExp, AreTypes, AreExps, WhereType, place_type_is}
use Rattle.named_texts.proofs.Operators.{at_integer, binary_is, converted_is}
use Rattle.named_texts.proofs.Scopes.{IsTextual, WhereEntity, entity_is, declare_is, hidden_is, Keeps, keeps_then, keeps_pure, keeps_rule, keeps_changed, keeps_block}
use Rattle.named_texts.proofs.Operands.{IsOperand, IsTarget, destination_is}
use Rattle.named_texts.proofs.Declarations.{DeclaredIs}
use Rattle.named_texts.proofs.Trees.{Anything, any_rule, keeps_integer, operand_kept, declarator_kept, base_kept, value_kept, place_kept}

abbrev pub IsStatement : C.Statement → Type 0
IsStatement s = statement_has_types s ≡ true

abbrev pub AreStatements : List C.Statement → Type 0
AreStatements [] = Unit {0}
AreStatements (s ∷ ss) = IsStatement s × AreStatements ss

-- calls

abbrev CallIs : Called → Type 0
CallIs c = AreExps c.arguments

each_is : (es : List C.Expr) → AreExps es → each has_types es ≡ true
each_is [] h = refl
each_is (e ∷ es) h = and_from _ _ h.0 (each_is es h.1)

callee_is : (o : Option Entity) → WhereEntity o → Rules (λ c. AreTypes c.params) (callee o)
callee_is None h = refused
callee_is (Some (Function r ps)) h = ruled h
callee_is (Some Hidden) h = refused
callee_is (Some (Enumerator n)) h = refused
callee_is (Some (Global t)) h = refused
callee_is (Some (Local x t)) h = refused

passed_are : (l : Layout) (ts : List CType) (es : List C.Expr) → AreTypes ts → AreExps es → Rules AreExps (passed l ts es)
passed_are l (t ∷ ts) (e ∷ es) h k =
    rules_then (converted l t e) _ (converted_is l t e h.0 k.0) (λ a w. rules_then (passed l ts es) _ (passed_are l ts es h.1 k.1) (λ as' v. ruled (w, v)))
passed_are l [] es h k = ruled tt
passed_are l (t ∷ ts) [] h k = ruled tt

called_is : (f : Name) (es : List C.Expr) (s : Scope) → AreExps es → IsTextual s → Rules CallIs (called f es s)
called_is f es s h k =
    rules_then (callee (entity s.blocks f)) _ (callee_is (entity s.blocks f) (entity_is s.blocks f k.blocks)) (λ c w.
    refused_or (not (s.file.with_body f)) _ _ (λ a. refused_or (not (length es == length c.params)) _ _ (λ b.
    rules_then (passed s.layout c.params es) _ (passed_are s.layout c.params es w h) (λ as' v. ruled v))))

values_kept : (es : List tree.Exp) → W.Each W.IsExp es → Keeps AreExps (values es)
values_kept [] i = keeps_pure [] tt
values_kept (e ∷ es) i = keeps_then (value e) _ (value_kept e i.0) (λ a k. keeps_then (values es) _ (values_kept es i.1) (λ as' m. keeps_pure (a ∷ as') (k, m)))

call_kept : (c : tree.Call) → W.IsCall c → Keeps CallIs (call c)
call_kept (tree.Calls at f es) i =
    keeps_then (values es) _ (values_kept es i) (λ as' k.
    keeps_then (rule at (called f as')) _ (keeps_rule {T = CallIs} at (called f as') (λ s w. called_is f as' s k w)) (λ c m. keeps_changed one_call_more c (λ s w. w) m))

-- right sides

abbrev RightIs : Right → Type 0
RightIs (Computed e) = IsExp e
RightIs (Resulting c) = CallIs c

right_kept : (r : tree.Rhs) → W.IsRhs r → Keeps RightIs (right r)
right_kept (tree.Value e) i = keeps_then (value e) _ (value_kept e i) (λ a k. keeps_pure (Computed a) k)
right_kept (tree.Result c) i = keeps_then (call c) _ (call_kept c i) (λ d k. keeps_pure (Resulting d) k)

target_type_is : (d : C.Destination) → IsTarget d → IsType (C.target_type d)
target_type_is (C.ToLocal x t) h = h
target_type_is (C.ToPlace p) h = place_type_is p h

assigned_is : (l : Layout) (d : C.Destination) (r : Right) → IsTarget d → RightIs r → Rules IsStatement (assigned l d r)
assigned_is l d (Computed e) h k = rules_then (converted l (C.target_type d) e) _ (converted_is l (C.target_type d) e (target_type_is d h) k) (λ a w. ruled (and_from _ _ h w))
assigned_is l d (Resulting c) h k =
    rules_then (result_for (C.target_type d) c.result) _ (any_rule (result_for (C.target_type d) c.result)) (λ u w. ruled (and_from _ _ (each_is c.arguments k) h))

returned_is : (l : Layout) (t : CType) (r : Right) → IsType t → RightIs r → Rules IsStatement (returned l t r)
returned_is l t (Computed e) h k = rules_then (converted l t e) _ (converted_is l t e h k) (λ a w. ruled w)
returned_is l t (Resulting c) h k = rules_then (result_for t c.result) _ (any_rule (result_for t c.result)) (λ u w. ruled (and_from _ _ (each_is c.arguments k) refl))

-- assignments

assignment_is : (o : Operand) (r : Right) (s : Scope) → IsOperand o → RightIs r → Rules IsStatement (assignment o r s)
assignment_is o r s h k = rules_then (destination o) _ (destination_is o h) (λ d w. assigned_is s.layout d r w k)

value_at_is : (d : C.Destination) → IsTarget d → IsExp (value_at d)
value_at_is (C.ToLocal x t) h = h
value_at_is (C.ToPlace p) h = h

update_is : (op : BinaryOperator) (o : Operand) (a : C.Expr) (s : Scope) → IsOperand o → IsExp a → Rules IsStatement (update op o a s)
update_is op o a s h k =
    rules_then (destination o) _ (destination_is o h) (λ d w.
    rules_then (binary s.layout op (value_at d) a) _ (binary_is s.layout op (value_at d) a (value_at_is d w) k) (λ e v.
    rules_then (converted s.layout (C.target_type d) e) _ (converted_is s.layout (C.target_type d) e (target_type_is d w) v) (λ b u. ruled (and_from _ _ w u))))

step_is : (op : StepOperator) (o : Operand) (s : Scope) → IsOperand o → Rules IsStatement (step op o s)
step_is Increment o s h = update_is Add o (C.Constant Int (pos 1)) s h refl
step_is Decrement o s h = update_is Subtract o (C.Constant Int (pos 1)) s h refl

ignored_is : (c : Called) (o : Option CType) → CallIs c → IsStatement (calls_for c (ignored o))
ignored_is c None h = and_from _ _ (each_is c.arguments h) refl
ignored_is c (Some t) h = and_from _ _ (each_is c.arguments h) refl

simple_kept : (s : tree.Simple) → W.IsSimple s → Keeps IsStatement (simple s)
simple_kept (tree.Assign e r) i =
    keeps_then (place e) _ (place_kept e i.0) (λ o k. keeps_then (right r) _ (right_kept r i.1) (λ a m. keeps_rule (first e) (assignment o a) (λ s w. assignment_is o a s k m)))
simple_kept (tree.Update op e x) i =
    keeps_then (place e) _ (place_kept e i.0) (λ o k. keeps_then (value x) _ (value_kept x i.1) (λ a m. keeps_rule (first e) (update op o a) (λ s w. update_is op o a s k m)))
simple_kept (tree.After op e) i = keeps_then (place e) _ (place_kept e i) (λ o k. keeps_rule (first e) (step op o) (λ s w. step_is op o s k))
simple_kept (tree.Before at op e) i = keeps_then (place e) _ (place_kept e i) (λ o k. keeps_rule at (step op o) (λ s w. step_is op o s k))
simple_kept (tree.Invoke c) i = keeps_then (call c) _ (call_kept c i) (λ d k. keeps_pure _ (ignored_is d d.result k))

-- locals

initial_kept : (own : Name) (d : Declared) (r : Option tree.Rhs) → W.Where W.IsRhs r → DeclaredIs d → Keeps IsStatement (initial own d r)
initial_kept own d None i h = keeps_pure (C.Declare own d.type) refl
initial_kept own d (Some r) i h = keeps_then (right r) _ (right_kept r i) (λ a k. keeps_rule d.at _ (λ s w. assigned_is s.layout (C.ToLocal own d.type) a h.1 k))

declared_kept : (d : Declared) (r : Option tree.Rhs) → W.Where W.IsRhs r → DeclaredIs d → Keeps IsStatement (declared d r)
declared_kept d r i h =
    keeps_then (rule d.at (local_name d)) _ (keeps_rule {T = Anything} d.at (local_name d) (λ s w. any_rule (local_name d s))) (λ own k.
    keeps_then (changed (add_local own d) own) _ (keeps_changed {T = Anything} (add_local own d) own (λ s w. declare_is d.name Hidden (record s { progress = with_local own d.name d.type s.progress }) tt w) tt) (λ x m.
    keeps_then (initial x d r) _ (initial_kept x d r i h) (λ a n. keeps_changed (name_local x d) a (λ s w. declare_is d.name (Local x d.type) s h.1 w) n)))

init_kept : (t : CType) (i : tree.Init) → W.IsInit i → IsType t → Keeps IsStatement (init t i)
init_kept t (tree.Initialized d r) i h = keeps_then (declarator t d) _ (declarator_kept t d i.0 h) (λ head k. declared_kept head r i.1 k)

inits_kept : (t : CType) (is : List tree.Init) → W.Each W.IsInit is → IsType t → Keeps AreStatements (inits t is)
inits_kept t [] i h = keeps_pure [] tt
inits_kept t (x ∷ is) i h = keeps_then (init t x) _ (init_kept t x i.0 h) (λ a k. keeps_then (inits t is) _ (inits_kept t is i.1 h) (λ ss m. keeps_pure (a ∷ ss) (k, m)))

local_kept : (l : tree.Local) → W.IsLocal l → Keeps AreStatements (local l)
local_kept (tree.Locals ws is) i =
    keeps_then (base ws) _ (base_kept ws i.0) (λ b k.
    keeps_then (inits b.type is) _ (inits_kept b.type is i.1 k) (λ ss m. keeps_rule (words_start ws) _ (λ s w. refused_or (b.is_static || b.is_extern) _ _ (λ e. ruled m))))

-- statements

onto_are : (ss : List C.Statement) (ts : C.Statements) → AreStatements ss → statements_have_types ts ≡ true → statements_have_types (onto ss ts) ≡ true
onto_are [] ts h k = k
onto_are (s ∷ ss) ts h k = and_from _ _ h.0 (onto_are ss ts h.1 k)

pub listed_are : (ss : List C.Statement) → AreStatements ss → statements_have_types (listed ss) ≡ true
listed_are ss h = onto_are ss C.no_statements h refl

both_are : (ss ts : List C.Statement) → AreStatements ss → AreStatements ts → AreStatements (ss ++ ts)
both_are [] ts h k = k
both_are (s ∷ ss) ts h k = (h.0, both_are ss ts h.1 k)

tested_is : (a : C.Expr) (s : C.Statement) → IsStatement s → Rules IsStatement (tested a s)
tested_is a s h = refused_or (not (is_scalar (C.type_of a))) _ _ (λ e. ruled h)

loop_tested_is : (a : C.Test) (s : C.Statement) → IsStatement s → Rules IsStatement (loop_tested a s)
loop_tested_is C.Always s h = ruled h
loop_tested_is (C.Tested a) s h = tested_is a s h

abbrev WhereRight : Option Right → Type 0
WhereRight None = Unit {0}
WhereRight (Some r) = RightIs r

returns_is : (l : Layout) (t : Option CType) (r : Option Right) → WhereType t → WhereRight r → Rules IsStatement (returns l t r)
returns_is l None None h k = ruled refl
returns_is l (Some t) (Some a) h k = returned_is l t a h k
returns_is l None (Some a) h k = refused
returns_is l (Some t) None h k = refused

switches_is : (n : ℕ) (a : C.Expr) (t : CType) (gs : C.Groups) → IsExp a → groups_have_types gs ≡ true → Rules IsStatement (switches n a t gs)
switches_is n a (Integer i) gs h k = ruled (and_from _ _ (at_integer (promoted i) a h) k)
switches_is n a Void gs h k = refused
switches_is n a (Ptr t) gs h k = refused
switches_is n a (Struct x) gs h k = refused
switches_is n a (Array t m) gs h k = refused

label_kept : (i : IntType) (seen : Labels) (l : tree.Label) → W.IsLabel l → Keeps Anything (label i seen l)
label_kept i seen (tree.Case at e) w =
    keeps_then (integer_constant e) _ (keeps_integer (first e) (operand ForValue e) (operand_kept ForValue e w)) (λ n k.
    keeps_rule at _ (λ s z. any_rule (case_label seen (number_at s.layout (Integer i) n))))
label_kept i seen (tree.Default at) w = keeps_rule at _ (λ s z. any_rule (default_label seen))

labels_kept : (i : IntType) (seen : Labels) (ls : List tree.Label) → W.Each W.IsLabel ls → Keeps Anything (labels i seen ls)
labels_kept i seen [] w = keeps_pure no_labels tt
labels_kept i seen (l ∷ ls) w = keeps_then (label i seen l) _ (label_kept i seen l w.0) (λ a k. keeps_then (labels i (both seen a) ls) _ (labels_kept i (both seen a) ls w.1) (λ b m. keeps_pure (both a b) tt))

start_kept : (s : tree.Start) → W.IsStart s → Keeps AreStatements (start s)
start_kept tree.NoStart i = keeps_pure [] tt
start_kept (tree.StartLocal l) i = local_kept l i
start_kept (tree.StartSimple s) i = keeps_then (simple s) _ (simple_kept s i) (λ a k. keeps_pure (a ∷ []) (k, tt))

abbrev IsTest : C.Test → Type 0
IsTest t = test_has_types t ≡ true

loop_test_kept : (e : Option tree.Exp) → W.Where W.IsExp e → Keeps IsTest (loop_test e)
loop_test_kept None i = keeps_pure C.Always refl
loop_test_kept (Some e) i = keeps_then (value e) _ (value_kept e i) (λ a k. keeps_pure (C.Tested a) k)

loop_step_kept : (s : Option tree.Simple) → W.Where W.IsSimple s → Keeps IsStatement (loop_step s)
loop_step_kept None i = keeps_pure C.Empty refl
loop_step_kept (Some s) i = simple_kept s i

optional_right_kept : (r : Option tree.Rhs) → W.Where W.IsRhs r → Keeps WhereRight (optional_right r)
optional_right_kept None i = keeps_pure None tt
optional_right_kept (Some r) i = keeps_then (right r) _ (right_kept r i) (λ a k. keeps_pure (Some a) k)

switch_number_kept : Keeps Anything switch_number
switch_number_kept s w = gives _ (w, tt)

do_while_number_kept : Keeps Anything do_while_number
do_while_number_kept s w = gives _ (w, tt)

abbrev GroupsAre : C.Groups → Type 0
GroupsAre gs = groups_have_types gs ≡ true

mutual
  statement_kept : (c : Around) (s : tree.Stmt) → WhereType c.result → W.IsStmt s → Keeps IsStatement (statement c s)
  statement_kept c (tree.Empty at) r i = keeps_pure C.Empty refl
  statement_kept c (tree.Block at is) r i = keeps_then (in_block (items c is)) _ (keeps_block (items c is) (items_kept c is r i)) (λ ss k. keeps_pure _ (listed_are ss k))
  statement_kept c (tree.Simply s) r i = simple_kept s i
  statement_kept c (tree.Break at) r i = keeps_rule at _ (λ s w. refused_or (not (c.in_loop || c.in_switch)) _ _ (λ e. ruled refl))
  statement_kept c (tree.Continue at) r i = keeps_rule at _ (λ s w. refused_or (not c.in_loop) _ _ (λ e. ruled refl))
  statement_kept c (tree.Return at o) r i = keeps_then (optional_right o) _ (optional_right_kept o i) (λ a k. keeps_rule at _ (λ s w. returns_is s.layout c.result a r k))
  statement_kept c (tree.If at e s) r i =
      keeps_then (value e) _ (value_kept e i.0) (λ a k. keeps_then (statement c s) _ (statement_kept c s r i.1) (λ x m. keeps_rule at _ (λ z w. tested_is a (C.If a x C.Empty) (and_from _ _ (and_from _ _ k m) refl))))
  statement_kept c (tree.IfElse at e s t) r i =
      keeps_then (value e) _ (value_kept e i.0) (λ a k. keeps_then (statement c s) _ (statement_kept c s r i.1) (λ x m.
      keeps_then (statement c t) _ (statement_kept c t r i.2) (λ y n. keeps_rule at _ (λ z w. tested_is a (C.If a x y) (and_from _ _ (and_from _ _ k m) n)))))
  statement_kept c (tree.While at e s) r i =
      keeps_then (value e) _ (value_kept e i.0) (λ a k. keeps_then (statement (inside_loop c) s) _ (statement_kept (inside_loop c) s r i.1) (λ x m. keeps_rule at _ (λ z w. tested_is a (C.While a x) (and_from _ _ k m))))
  statement_kept c (tree.Do at s e) r i =
      keeps_then do_while_number _ do_while_number_kept (λ n j. keeps_then (statement (inside_loop c) s) _ (statement_kept (inside_loop c) s r i.0) (λ x m.
      keeps_then (value e) _ (value_kept e i.1) (λ a k. keeps_rule at _ (λ z w. tested_is a (C.DoWhile n x a) (and_from _ _ m k)))))
  statement_kept c (tree.For at init test step s) r i =
      keeps_block _
      (keeps_then (start init) _ (start_kept init i.0) (λ ss j. keeps_then (loop_test test) _ (loop_test_kept test i.1) (λ a k.
      keeps_then (loop_step step) _ (loop_step_kept step i.2) (λ y m. keeps_then (statement (inside_loop c) s) _ (statement_kept (inside_loop c) s r i.3) (λ x n.
      keeps_rule at _ (λ z w. loop_tested_is a (C.For (listed ss) a y x) (and_from _ _ (and_from _ _ (and_from _ _ (listed_are ss j) k) m) n)))))))
  statement_kept c (tree.Switch at e gs) r i =
      keeps_then switch_number _ switch_number_kept (λ n j. keeps_then (value e) _ (value_kept e i.0) (λ a k.
      keeps_then (in_block (groups (inside_switch c) (switch_type (C.type_of a)) no_labels gs)) _
      (keeps_block (groups (inside_switch c) (switch_type (C.type_of a)) no_labels gs) (groups_kept (inside_switch c) (switch_type (C.type_of a)) no_labels gs r i.1)) (λ xs m.
      keeps_rule at _ (λ z w. switches_is n a (C.type_of a) xs k m))))

  pub items_kept : (c : Around) (is : tree.Items) → WhereType c.result → W.AreItems is → Keeps AreStatements (items c is)
  items_kept c tree.NoItems r i = keeps_pure [] tt
  items_kept c (tree.LocalItem l is) r i = keeps_then (local l) _ (local_kept l i.0) (λ ss k. keeps_then (items c is) _ (items_kept c is r i.1) (λ ts m. keeps_pure (ss ++ ts) (both_are ss ts k m)))
  items_kept c (tree.StatementItem s is) r i = keeps_then (statement c s) _ (statement_kept c s r i.0) (λ x k. keeps_then (items c is) _ (items_kept c is r i.1) (λ ts m. keeps_pure (x ∷ ts) (k, m)))

  groups_kept : (c : Around) (t : IntType) (seen : Labels) (gs : tree.Groups) → WhereType c.result → W.AreGroups gs → Keeps GroupsAre (groups c t seen gs)
  groups_kept c t seen tree.NoGroups r i = keeps_pure C.no_groups refl
  groups_kept c t seen (tree.MoreGroups l ls s is gs) r i =
      keeps_then (labels t seen (l ∷ ls)) _ (labels_kept t seen (l ∷ ls) (i.0, i.1)) (λ found j. keeps_then (statement c s) _ (statement_kept c s r i.2) (λ x k.
      keeps_then (items c is) _ (items_kept c is r i.3) (λ ts m.
      keeps_then (rule (label_at l) (λ z. separate (is_last gs) (ends_by_jump (is_jump s) is) (x ∷ ts))) _
      (keeps_rule {T = AreStatements} (label_at l) _ (λ z w. refused_or (not (is_last gs || ends_by_jump (is_jump s) is)) _ _ (λ e. ruled (k, m)))) (λ ss n.
      keeps_then (changed hide_locals ss) (λ ss'. groups c t (both seen found) gs >>= λ xs. pure (C.group found.values found.has_default (listed ss') xs))
      (keeps_changed {T = AreStatements} hide_locals ss hidden_is n) (λ ss' o.
      keeps_then (groups c t (both seen found) gs) (λ xs. pure (C.group found.values found.has_default (listed ss') xs)) (groups_kept c t (both seen found) gs r i.4) (λ xs q.
      keeps_pure (C.group found.values found.has_default (listed ss') xs) (and_from _ _ (listed_are ss' o) q)))))))
