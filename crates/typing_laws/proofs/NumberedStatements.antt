-- The calls, switches and do-whiles of statements have the numbers behind those so far, each in the order of the text.
use Rattle.std.proofs.Common.{◌≡◌, ℕ, suc, ◌+◌, ◌==◌, ◌≤◌, length, pos, not, ◌||◌, List, [], ◌∷◌, ◌++◌, Option, Some, None, refl, sym, ap, ◌∙◌, subst, arith, append_assoc}
use Rattle.c_values.specs.Name.{Name}
use Rattle.c_values.specs.Types.{IntType, Int, CType, Integer, Void, Ptr, Struct, Array}
use Rattle.c_values.specs.Layout.{Layout, is_scalar}
use Rattle.c_grammar.specs.Tree as tree
use Rattle.c_grammar.specs.declared.operator.BinaryOperator.{BinaryOperator}
use Rattle.c_grammar.specs.declared.operator.BinaryOperator.TheVariants.{Add, Subtract}
use Rattle.c_grammar.specs.declared.operator.StepOperator.{StepOperator}
use Rattle.c_grammar.specs.declared.operator.StepOperator.TheVariants.{Increment, Decrement}
use Rattle.typing_rules.specs.Scope.{Scope, entity, opened, closed, hide_locals}
use Rattle.typing_rules.specs.Checked.{Checked, Judgement, then, Ruling, Ruled, Refused, ruled, rule, in_block}
use Rattle.typing_rules.specs.Progress.{Progress, next_call, next_switch, next_do_while}
use Rattle.typing_rules.specs.Operand.{Operand, destination}
use Rattle.typing_rules.specs.Operators.{binary, converted}
use Rattle.typing_rules.specs.Expressions.{value, place, declarator, base, words_start, first}
use Rattle.typing_rules.specs.Calls.{Called, callee, passed, called, one_call_more, values, call, calls_for, ignored, result_for, Right, Computed, Resulting, right, assigned, returned}
use Rattle.typing_rules.specs.Simple.{assignment, value_at, update, step, simple}
use Rattle.typing_rules.specs.Declarations.{Declared}
use Rattle.typing_rules.specs.Locals.{local_name, add_local, name_local, initial, declared, init, inits, local}
use Rattle.typing_rules.specs.Statements.{Around, inside_loop, inside_switch, tested, loop_tested, returns, switch_type, switches, Labels, no_labels, both, labels, label_at, is_jump, ends_by_jump, is_last, separate, listed, start, loop_test, loop_step, optional_right, statement, items, groups}
use Rattle.c_lang.specs.Typed as C
use Rattle.c_lang.specs.Numbers.{Numbers, no_numbers, call_number, joined, numbers_of, numbers_in, numbers_among}
use Rattle.c_lang.specs.Numbers as N
use Rattle.typing_laws.specs.Count.{calls_on_right, calls_in_simple, where_some, numbered_in_init, numbered_in_inits, numbered_in_local, numbered_at_start, numbered_within, numbered_among, numbered_in_groups}
use Rattle.typing_laws.proofs.Rulings.{Rules, refused_or, rules_then}
use Rattle.typing_laws.proofs.Rulings as R
use Rattle.typing_laws.proofs.Outcomes.{Gives, gives, fails, gives_then, gives_weaker}
use Rattle.typing_laws.proofs.Numbering.{AreNumbered, numbered_itself, numbered_joined, numbered_behind, numbered_before, numbered_more}
use Rattle.typing_laws.proofs.Quiet.{IsQuiet, quiet_pure, quiet_rule, quiet_then, operand_quiet, declarator_quiet, base_quiet, value_quiet, values_quiet, labels_quiet}

-- what a judgement gives has the numbers behind those so far, so many at most
abbrev pub Counted : {A : Type 0} → (A → Numbers) → ℕ → Scope → Checked (A × Scope) → Type 0
Counted numbers most s c = Gives (λ a t. AreNumbered (numbers a) most s.progress t.progress) c

any_rule : {A : Type 0} (r : Ruling A) → Rules (λ a. Unit {0}) r
any_rule (Ruled a) = R.ruled tt
any_rule (Refused kind) = R.refused

-- a rule that gives these numbers, behind its parts
by_rule : {A : Type 0} (numbers : A → Numbers) (n : Numbers) (most : ℕ) (s t : Scope) (at : ℕ) (r : Ruling A) → Rules (λ a. numbers a ≡ n) r → AreNumbered n most s.progress t.progress → Counted numbers most s (ruled at t r)
by_rule numbers n most s t at _ (R.ruled {a} e) h = gives (a, t) (subst (λ m. AreNumbered m most s.progress t.progress) (sym e) h)
by_rule numbers n most s t at _ R.refused h = fails

-- behind what has no numbers
behind : {A B : Type 0} (numbers : B → Numbers) (most : ℕ) (j : Judgement A) (f : A → Judgement B) (s : Scope) → IsQuiet j → ((a : A) (t : Scope) → Counted numbers most t (f a t)) → Counted numbers most s (then (j s) f)
behind numbers most j f s h k =
    gives_then (j s) f (h s) (λ a t m. gives_weaker (f a t) (k a t) (λ b u n. numbered_behind (numbers b) most s.progress t.progress u.progress m n))

counted_more : {A : Type 0} (numbers : A → Numbers) (i j : ℕ) (s : Scope) (c : Checked (A × Scope)) → i ≤ j → Counted numbers i s c → Counted numbers j s c
counted_more numbers i j s c le h = gives_weaker c h (λ a t k. numbered_more (numbers a) i j s.progress t.progress le k)

counted_in_block : {A : Type 0} (numbers : A → Numbers) (most : ℕ) (j : Judgement A) (s : Scope) → ((t : Scope) → Counted numbers most t (j t)) → Counted numbers most s (in_block j s)
counted_in_block numbers most j s h = gives_then (j (opened s)) _ (h (opened s)) (λ a t k. gives (a, closed t) k)

-- calls and right sides
abbrev of_call : Called → Numbers
of_call c = call_number c.number

-- a call behind its rule, before it counts
abbrev IsNext : Scope → Called → Scope → Type 0
IsNext t c u = AreNumbered (of_call c) 1 t.progress (next_call u.progress)

next_call_number : (f : Name) (es : List C.Expr) (s : Scope) → Rules (λ c. c.number ≡ suc s.progress.calls) (called f es s)
next_call_number f es s =
    rules_then (callee (entity s.blocks f)) _ (any_rule (callee (entity s.blocks f))) (λ c e.
    refused_or (not (s.file.with_body f)) _ _ (λ b.
    refused_or (not (length es == length c.params)) _ _ (λ n.
    rules_then (passed s.layout c.params es) _ (any_rule (passed s.layout c.params es)) (λ as' m. R.ruled refl))))

next_counted : (at : ℕ) (s : Scope) (r : Ruling Called) → Rules (λ c. c.number ≡ suc s.progress.calls) r → Gives (IsNext s) (ruled at s r)
next_counted at s _ (R.ruled {a} e) = gives (a, s) (record { calls = (e, refl); switches = refl; do_whiles = refl; few = omega arith })
next_counted at s _ R.refused = fails

call_counted : (c : tree.Call) (s : Scope) → Counted of_call 1 s (call c s)
call_counted (tree.Calls at f es) s =
    behind of_call 1 (values es) _ s (values_quiet es) (λ as' t.
    gives_then (rule at (called f as') t) _ (next_counted at t (called f as' t) (next_call_number f as' t)) (λ c u k. gives (c, one_call_more u) k))

abbrev of_right : Right → Numbers
of_right (Computed e) = no_numbers
of_right (Resulting c) = of_call c

right_counted : (r : tree.Rhs) (s : Scope) → Counted of_right (calls_on_right r) s (right r s)
right_counted (tree.Value e) s = behind of_right 0 (value e) _ s (value_quiet e) (λ a t. gives (Computed a, t) (numbered_itself t.progress))
right_counted (tree.Result c) s = gives_then (call c s) _ (call_counted c s) (λ d t k. gives (Resulting d, t) k)

abbrev of_optional : Option Right → Numbers
of_optional None = no_numbers
of_optional (Some a) = of_right a

optional_counted : (r : Option tree.Rhs) (s : Scope) → Counted of_optional (where_some calls_on_right r) s (optional_right r s)
optional_counted None s = gives (None, s) (numbered_itself s.progress)
optional_counted (Some r) s = gives_then (right r s) _ (right_counted r s) (λ a t k. gives (Some a, t) k)

assigned_numbers : (l : Layout) (d : C.Destination) (r : Right) → Rules (λ a. numbers_of a ≡ of_right r) (assigned l d r)
assigned_numbers l d (Computed e) = rules_then (converted l (C.target_type d) e) _ (any_rule _) (λ a k. R.ruled refl)
assigned_numbers l d (Resulting c) = rules_then (result_for (C.target_type d) c.result) _ (any_rule _) (λ u k. R.ruled refl)

returned_numbers : (l : Layout) (t : CType) (r : Right) → Rules (λ a. numbers_of a ≡ of_right r) (returned l t r)
returned_numbers l t (Computed e) = rules_then (converted l t e) _ (any_rule _) (λ a k. R.ruled refl)
returned_numbers l t (Resulting c) = rules_then (result_for t c.result) _ (any_rule _) (λ u k. R.ruled refl)

returns_numbers : (l : Layout) (o : Option CType) (a : Option Right) → Rules (λ b. numbers_of b ≡ of_optional a) (returns l o a)
returns_numbers l None None = R.ruled refl
returns_numbers l None (Some a) = R.refused
returns_numbers l (Some t) None = R.refused
returns_numbers l (Some t) (Some a) = returned_numbers l t a

-- assignments and calls as statements
place_quiet : (e : tree.Exp) → IsQuiet (place e)
place_quiet e = operand_quiet _ e

assignment_numbers : (o : Operand) (r : Right) (s : Scope) → Rules (λ a. numbers_of a ≡ of_right r) (assignment o r s)
assignment_numbers o r s = rules_then (destination o) _ (any_rule _) (λ d k. assigned_numbers s.layout d r)

update_numbers : (op : BinaryOperator) (o : Operand) (e : C.Expr) (s : Scope) → Rules (λ a. numbers_of a ≡ no_numbers) (update op o e s)
update_numbers op o e s =
    rules_then (destination o) _ (any_rule _) (λ d k.
    rules_then (binary s.layout op (value_at d) e) _ (any_rule _) (λ a m.
    rules_then (converted s.layout (C.target_type d) a) _ (any_rule _) (λ b n. R.ruled refl)))

step_numbers : (op : StepOperator) (o : Operand) (s : Scope) → Rules (λ a. numbers_of a ≡ no_numbers) (step op o s)
step_numbers Increment o s = update_numbers Add o (C.Constant Int (pos 1)) s
step_numbers Decrement o s = update_numbers Subtract o (C.Constant Int (pos 1)) s

simple_counted : (a : tree.Simple) (s : Scope) → Counted numbers_of (calls_in_simple a) s (simple a s)
simple_counted (tree.Assign e r) s =
    behind numbers_of (calls_on_right r) (place e) _ s (place_quiet e) (λ o t.
    gives_then (right r t) _ (right_counted r t) (λ a u k. by_rule numbers_of (of_right a) (calls_on_right r) t u (first e) (assignment o a u) (assignment_numbers o a u) k))
simple_counted (tree.Update op e x) s =
    behind numbers_of 0 (place e) _ s (place_quiet e) (λ o t.
    behind numbers_of 0 (value x) _ t (value_quiet x) (λ a u. by_rule numbers_of no_numbers 0 u u (first e) (update op o a u) (update_numbers op o a u) (numbered_itself u.progress)))
simple_counted (tree.After op e) s =
    behind numbers_of 0 (place e) _ s (place_quiet e) (λ o t. by_rule numbers_of no_numbers 0 t t (first e) (step op o t) (step_numbers op o t) (numbered_itself t.progress))
simple_counted (tree.Before at op e) s =
    behind numbers_of 0 (place e) _ s (place_quiet e) (λ o t. by_rule numbers_of no_numbers 0 t t at (step op o t) (step_numbers op o t) (numbered_itself t.progress))
simple_counted (tree.Invoke c) s = gives_then (call c s) _ (call_counted c s) (λ d t k. gives (calls_for d (ignored d.result), t) k)

-- lists of statements
abbrev pub of_list : List C.Statement → Numbers
of_list ss = numbers_in (listed ss)

joined_twice : (a b c : Numbers) → joined (joined a b) c ≡ joined a (joined b c)
joined_twice a b c =
    let x = append_assoc a.calls b.calls c.calls in
    let y = append_assoc a.switches b.switches c.switches in
    let z = append_assoc a.do_whiles b.do_whiles c.do_whiles in
    λ i. record { calls = x i; switches = y i; do_whiles = z i }

list_append : (ss ts : List C.Statement) → of_list (ss ++ ts) ≡ joined (of_list ss) (of_list ts)
list_append [] ts = refl
list_append (s ∷ ss) ts = ap (λ n. joined (numbers_of s) n) (list_append ss ts) ∙ sym (joined_twice (numbers_of s) (of_list ss) (of_list ts))

one_more : (a : C.Statement) (ss : List C.Statement) (i j : ℕ) (p q r : Progress) → AreNumbered (numbers_of a) i p q → AreNumbered (of_list ss) j q r → AreNumbered (of_list (a ∷ ss)) (i + j) p r
one_more a ss i j p q r h k = numbered_joined (numbers_of a) (of_list ss) i j p q r h k

alone : (a : C.Statement) (i : ℕ) (p q : Progress) → AreNumbered (numbers_of a) i p q → AreNumbered (of_list (a ∷ [])) i p q
alone a i p q h = numbered_more (of_list (a ∷ [])) (i + 0) i p q (omega arith) (one_more a [] i 0 p q q h (numbered_itself q))

-- locals
initial_counted : (own : Name) (d : Declared) (r : Option tree.Rhs) (s : Scope) → Counted numbers_of (where_some calls_on_right r) s (initial own d r s)
initial_counted own d None s = gives (C.Declare own d.type, s) (numbered_itself s.progress)
initial_counted own d (Some r) s =
    gives_then (right r s) _ (right_counted r s) (λ a t k. by_rule numbers_of (of_right a) (calls_on_right r) s t d.at _ (assigned_numbers t.layout (C.ToLocal own d.type) a) k)

declared_counted : (d : Declared) (r : Option tree.Rhs) (s : Scope) → Counted numbers_of (where_some calls_on_right r) s (declared d r s)
declared_counted d r s =
    behind numbers_of (where_some calls_on_right r) (rule d.at (local_name d)) _ s (quiet_rule d.at (local_name d)) (λ own t.
    gives_then (initial own d r (add_local own d t)) _ (initial_counted own d r (add_local own d t)) (λ a u k.
    gives (a, name_local own d u) (record { calls = k.calls; switches = k.switches; do_whiles = k.do_whiles; few = k.few })))

init_counted : (t : CType) (i : tree.Init) (s : Scope) → Counted numbers_of (numbered_in_init i) s (init t i s)
init_counted t (tree.Initialized d r) s =
    counted_more numbers_of (where_some calls_on_right r) (1 + where_some calls_on_right r) s _ (omega arith)
    (behind numbers_of (where_some calls_on_right r) (declarator t d) _ s (declarator_quiet t d) (λ head u. declared_counted head r u))

inits_counted : (t : CType) (is : List tree.Init) (s : Scope) → Counted of_list (numbered_in_inits is) s (inits t is s)
inits_counted t [] s = gives ([], s) (numbered_itself s.progress)
inits_counted t (i ∷ is) s =
    gives_then (init t i s) _ (init_counted t i s) (λ a u k.
    gives_then (inits t is u) _ (inits_counted t is u) (λ ss v m.
    gives (a ∷ ss, v) (one_more a ss (numbered_in_init i) (numbered_in_inits is) s.progress u.progress v.progress k m)))

local_counted : (l : tree.Local) (s : Scope) → Counted of_list (numbered_in_local l) s (local l s)
local_counted (tree.Locals ws is) s =
    behind of_list (numbered_in_inits is) (base ws) _ s (base_quiet ws) (λ b t.
    gives_then (inits b.type is t) _ (inits_counted b.type is t) (λ ss u k.
    by_rule of_list (of_list ss) (numbered_in_inits is) t u (words_start ws) _ (refused_or (b.is_static || b.is_extern) _ _ (λ e. R.ruled refl)) k))

-- statements
tested_is : (e : C.Expr) (a : C.Statement) → Rules (λ b. numbers_of b ≡ numbers_of a) (tested e a)
tested_is e a = refused_or (not (is_scalar (C.type_of e))) _ _ (λ h. R.ruled refl)

loop_tested_is : (e : C.Test) (a : C.Statement) → Rules (λ b. numbers_of b ≡ numbers_of a) (loop_tested e a)
loop_tested_is C.Always a = R.ruled refl
loop_tested_is (C.Tested e) a = tested_is e a

switches_are : (n : ℕ) (e : C.Expr) (t : CType) (gs : C.Groups) → Rules (λ b. numbers_of b ≡ joined (N.switch_number n) (numbers_among gs)) (switches n e t gs)
switches_are n e (Integer i) gs = R.ruled refl
switches_are n e Void gs = R.refused
switches_are n e (Ptr t) gs = R.refused
switches_are n e (Struct x) gs = R.refused
switches_are n e (Array t m) gs = R.refused

test_quiet : (e : Option tree.Exp) → IsQuiet (loop_test e)
test_quiet None = quiet_pure C.Always
test_quiet (Some e) = quiet_then (value e) _ (value_quiet e) (λ a. quiet_pure (C.Tested a))

step_counted : (a : Option tree.Simple) (s : Scope) → Counted numbers_of (where_some calls_in_simple a) s (loop_step a s)
step_counted None s = gives (C.Empty, s) (numbered_itself s.progress)
step_counted (Some a) s = simple_counted a s

start_counted : (a : tree.Start) (s : Scope) → Counted of_list (numbered_at_start a) s (start a s)
start_counted tree.NoStart s = gives ([], s) (numbered_itself s.progress)
start_counted (tree.StartLocal l) s = local_counted l s
start_counted (tree.StartSimple a) s = gives_then (simple a s) _ (simple_counted a s) (λ b t k. gives (b ∷ [], t) (alone b (calls_in_simple a) s.progress t.progress k))

mutual
  statement_counted : (c : Around) (a : tree.Stmt) (s : Scope) → Counted numbers_of (numbered_within a) s (statement c a s)
  statement_counted c (tree.Empty at) s = gives (C.Empty, s) (numbered_itself s.progress)
  statement_counted c (tree.Block at is) s =
      gives_then (in_block (items c is) s) _ (counted_in_block of_list (numbered_among is) (items c is) s (λ t. items_counted c is t)) (λ ss t k. gives (C.Block (listed ss), t) k)
  statement_counted c (tree.Simply a) s = simple_counted a s
  statement_counted c (tree.Break at) s = by_rule numbers_of no_numbers 0 s s at _ (refused_or (not (c.in_loop || c.in_switch)) _ _ (λ e. R.ruled refl)) (numbered_itself s.progress)
  statement_counted c (tree.Continue at) s = by_rule numbers_of no_numbers 0 s s at _ (refused_or (not c.in_loop) _ _ (λ e. R.ruled refl)) (numbered_itself s.progress)
  statement_counted c (tree.Return at r) s =
      gives_then (optional_right r s) _ (optional_counted r s) (λ a t k. by_rule numbers_of (of_optional a) (where_some calls_on_right r) s t at _ (returns_numbers t.layout c.result a) k)
  statement_counted c (tree.If at e a) s =
      behind numbers_of (numbered_within a) (value e) _ s (value_quiet e) (λ x t.
      gives_then (statement c a t) _ (statement_counted c a t) (λ y u k.
      by_rule numbers_of (joined (numbers_of y) no_numbers) (numbered_within a) t u at _ (tested_is x (C.If x y C.Empty))
      (numbered_more (joined (numbers_of y) no_numbers) (numbered_within a + 0) (numbered_within a) t.progress u.progress (omega arith) (numbered_joined (numbers_of y) no_numbers (numbered_within a) 0 t.progress u.progress u.progress k (numbered_itself u.progress)))))
  statement_counted c (tree.IfElse at e a b) s =
      behind numbers_of (numbered_within a + numbered_within b) (value e) _ s (value_quiet e) (λ x t.
      gives_then (statement c a t) _ (statement_counted c a t) (λ y u k.
      gives_then (statement c b u) _ (statement_counted c b u) (λ z v m.
      by_rule numbers_of (joined (numbers_of y) (numbers_of z)) (numbered_within a + numbered_within b) t v at _ (tested_is x (C.If x y z))
      (numbered_joined (numbers_of y) (numbers_of z) (numbered_within a) (numbered_within b) t.progress u.progress v.progress k m))))
  statement_counted c (tree.While at e a) s =
      behind numbers_of (numbered_within a) (value e) _ s (value_quiet e) (λ x t.
      gives_then (statement (inside_loop c) a t) _ (statement_counted (inside_loop c) a t) (λ y u k.
      by_rule numbers_of (numbers_of y) (numbered_within a) t u at _ (tested_is x (C.While x y)) k))
  statement_counted c (tree.Do at a e) s =
      let p = record s { progress = next_do_while s.progress } in
      let n = suc s.progress.do_whiles in
      gives_then (statement (inside_loop c) a p) _ (statement_counted (inside_loop c) a p) (λ y t k.
      gives_then (value e t) _ (value_quiet e t) (λ x u m.
      by_rule numbers_of (joined (N.do_while_number n) (numbers_of y)) (1 + numbered_within a) s u at _ (tested_is x (C.DoWhile n y x))
      (numbered_joined (N.do_while_number n) (numbers_of y) 1 (numbered_within a) s.progress p.progress u.progress
      (record { calls = refl; switches = refl; do_whiles = (refl, refl); few = omega arith })
      (numbered_before (numbers_of y) (numbered_within a) p.progress t.progress u.progress k m))))
  statement_counted c (tree.For at init test step a) s =
      let i = numbered_at_start init in
      let j = where_some calls_in_simple step in
      let n = numbered_within a in
      counted_in_block numbers_of (i + (j + n)) _ s (λ o.
      gives_then (start init o) _ (start_counted init o) (λ ss t k.
      gives_then (loop_test test t) _ (test_quiet test t) (λ x u m.
      gives_then (loop_step step u) _ (step_counted step u) (λ y v q.
      gives_then (statement (inside_loop c) a v) _ (statement_counted (inside_loop c) a v) (λ z w r.
      by_rule numbers_of (joined (of_list ss) (joined (numbers_of y) (numbers_of z))) (i + (j + n)) o w at _ (loop_tested_is x (C.For (listed ss) x y z))
      (numbered_joined (of_list ss) (joined (numbers_of y) (numbers_of z)) i (j + n) o.progress t.progress w.progress k
      (numbered_behind (joined (numbers_of y) (numbers_of z)) (j + n) t.progress u.progress w.progress m
      (numbered_joined (numbers_of y) (numbers_of z) j n u.progress v.progress w.progress q r))))))))
  statement_counted c (tree.Switch at e gs) s =
      let p = record s { progress = next_switch s.progress } in
      let n = suc s.progress.switches in
      gives_then (value e p) _ (value_quiet e p) (λ x t m.
      gives_then (in_block (groups (inside_switch c) (switch_type (C.type_of x)) no_labels gs) t) _
      (counted_in_block numbers_among (numbered_in_groups gs) (groups (inside_switch c) (switch_type (C.type_of x)) no_labels gs) t (λ o. groups_counted (inside_switch c) (switch_type (C.type_of x)) no_labels gs o)) (λ xs u k.
      by_rule numbers_of (joined (N.switch_number n) (numbers_among xs)) (1 + numbered_in_groups gs) s u at _ (switches_are n x (C.type_of x) xs)
      (numbered_joined (N.switch_number n) (numbers_among xs) 1 (numbered_in_groups gs) s.progress p.progress u.progress
      (record { calls = refl; switches = (refl, refl); do_whiles = refl; few = omega arith })
      (numbered_behind (numbers_among xs) (numbered_in_groups gs) p.progress t.progress u.progress m k))))

  pub items_counted : (c : Around) (is : tree.Items) (s : Scope) → Counted of_list (numbered_among is) s (items c is s)
  items_counted c tree.NoItems s = gives ([], s) (numbered_itself s.progress)
  items_counted c (tree.LocalItem l is) s =
      gives_then (local l s) _ (local_counted l s) (λ ss t k.
      gives_then (items c is t) _ (items_counted c is t) (λ ts u m.
      gives (ss ++ ts, u) (subst (λ n. AreNumbered n (numbered_in_local l + numbered_among is) s.progress u.progress) (sym (list_append ss ts))
      (numbered_joined (of_list ss) (of_list ts) (numbered_in_local l) (numbered_among is) s.progress t.progress u.progress k m))))
  items_counted c (tree.StatementItem a is) s =
      gives_then (statement c a s) _ (statement_counted c a s) (λ x t k.
      gives_then (items c is t) _ (items_counted c is t) (λ ts u m.
      gives (x ∷ ts, u) (one_more x ts (numbered_within a) (numbered_among is) s.progress t.progress u.progress k m)))

  groups_counted : (c : Around) (i : IntType) (seen : Labels) (gs : tree.Groups) (s : Scope) → Counted numbers_among (numbered_in_groups gs) s (groups c i seen gs s)
  groups_counted c i seen tree.NoGroups s = gives (C.no_groups, s) (numbered_itself s.progress)
  groups_counted c i seen (tree.MoreGroups l ls a is gs) s =
      let n = numbered_within a in
      let m = numbered_among is in
      let k = numbered_in_groups gs in
      behind numbers_among (n + (m + k)) (labels i seen (l ∷ ls)) _ s (labels_quiet i seen (l ∷ ls)) (λ found t.
      gives_then (statement c a t) _ (statement_counted c a t) (λ x u p.
      gives_then (items c is u) _ (items_counted c is u) (λ ts v q.
      gives_then (rule (label_at l) (λ sc. separate (is_last gs) (ends_by_jump (is_jump a) is) (x ∷ ts)) v) _
      (by_rule of_list (of_list (x ∷ ts)) (n + m) t v (label_at l) _ (refused_or (not (is_last gs || ends_by_jump (is_jump a) is)) _ _ (λ e. R.ruled refl)) (one_more x ts n m t.progress u.progress v.progress p q)) (λ ss o r.
      gives_then (groups c i (both seen found) gs (hide_locals o)) _ (groups_counted c i (both seen found) gs (hide_locals o)) (λ xs z y.
      gives (C.group found.values found.has_default (listed ss) xs, z)
      (numbered_more (joined (of_list ss) (numbers_among xs)) ((n + m) + k) (n + (m + k)) t.progress z.progress (omega arith)
      (numbered_joined (of_list ss) (numbers_among xs) (n + m) k t.progress o.progress z.progress r y)))))))
