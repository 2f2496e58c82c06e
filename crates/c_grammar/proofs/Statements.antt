-- What a statement spells is read as that statement.
use Rattle.std.proofs.Common.{ℕ, ◌≡◌, Bool, true, false, List, [], ◌∷◌, ◌++◌, Option, Some, nat_le, not, refl, ap, ◌∙◌}
use Rattle.c_lex.specs.declared.token.Keyword.TheVariants as word
use Rattle.c_lex.specs.declared.token.Punct.{Punct}
use Rattle.c_lex.specs.declared.token.Punct.TheVariants as sign
use Rattle.c_lex.specs.Lexeme.{Lexeme, Kind, name, keyword, punct, character, number}
use Rattle.c_grammar.specs.declared.operator.UnaryOperator.{UnaryOperator}
use Rattle.c_grammar.specs.declared.operator.UnaryOperator.TheVariants as unary_op
use Rattle.c_grammar.specs.declared.operator.BinaryOperator.{BinaryOperator}
use Rattle.c_grammar.specs.declared.operator.BinaryOperator.TheVariants as binary_op
use Rattle.c_grammar.specs.declared.operator.StepOperator.{StepOperator}
use Rattle.c_grammar.specs.declared.operator.StepOperator.TheVariants as step_op
use Rattle.c_grammar.specs.declared.symbol.Seen.TheVariants as seen
use Rattle.c_grammar.specs.declared.symbol.Wanted.TheVariants as wanted
use Rattle.c_grammar.specs.declared.symbol.Production.TheVariants as ends
use Rattle.c_grammar.specs.declared.symbol.Symbol.{Symbol}
use Rattle.c_grammar.specs.declared.symbol.Symbol.TheVariants as symbol
use Rattle.c_grammar.specs.Tree as tree
use Rattle.c_grammar.specs.Tree.{Name, Exp, Call, Rhs, Simple, Init, Local, Label, Start, Stmt, Items, Groups}
use Rattle.c_grammar.specs.Operators.{unary_sign, update_of, step_sign}
use Rattle.c_grammar.specs.Spells as spells
use Rattle.c_grammar.specs.Spells.{mark, SpellsExp, SpellsExps, SpellsArguments, SpellsCall, SpellsRhs, SpellsSimple, SpellsInits, SpellsLocal, SpellsLabels, SpellsStart, SpellsTest, SpellsStep, SpellsStmt, SpellsItems, SpellsGroups}
use Rattle.c_grammar.specs.CodeChoice.{Choice, Refuse, Pass, Take, take, choice_of, starts_type, tail, tail_end, operand, expression, end, declarator, words, and_then, only_if, arguments, return_value, for_test, for_start, for_start_rest, for_step, simple, statement, items, items_end, else_part, groups, labels, local_rest}
use Rattle.c_grammar.specs.CodeBuild.{Value, Tok, OfExp, OfExps, OfRhs, OfSimple, OfInits, OfLocal, OfLabels, OfStart, OfTest, OfStep, OfStmt, OfItems, OfGroups, act}
use Rattle.c_grammar.specs.CodeStack.{go, is_type, noted}
use Rattle.c_grammar.proofs.Steps.{passes, takes, ended_by, expands, rank, rank_least, needs, needs_kind, starts, false≢true, le_trans, le_zero, closes_zero, tail_nothing, takes_variable, never_passes, operand_takes, first_words_take, value_starts, words_start, ends_words, declarator_ends}
use Rattle.c_grammar.proofs.Reading.{reads, reads_words, reads_declarator}

-- A token that begins an expression.
abbrev pub begins_value : Kind → Bool
begins_value (name n) = true
begins_value (number value decimal unsigned longs) = true
begins_value (character value) = true
begins_value (punct sign.LeftParenthesis) = true
begins_value (punct sign.Minus) = true
begins_value (punct sign.Plus) = true
begins_value (punct sign.Tilde) = true
begins_value (punct sign.Exclamation) = true
begins_value (punct sign.Star) = true
begins_value (punct sign.Ampersand) = true
begins_value (keyword word.Sizeof) = true
begins_value k = false

abbrev pub value_first : List Lexeme → Bool
value_first [] = false
value_first (x ∷ t) = begins_value x.kind

unary_begins : (op : UnaryOperator) → begins_value (punct (unary_sign op)) ≡ true
unary_begins unary_op.Negate = refl
unary_begins op = refl

pub value_begins : {ns : List Name} {b : Bool} {l : ℕ} {e : Exp} {s t : List Lexeme} → SpellsExp ns b l e s t → value_first s ≡ true
value_begins (spells.looser d) = value_begins d
value_begins (spells.variable h) = refl
value_begins spells.number_constant = refl
value_begins spells.character_constant = refl
value_begins (spells.parenthesis d) = refl
value_begins (spells.index d f) = value_begins d
value_begins (spells.member d h) = value_begins d
value_begins (spells.pointer_member d h) = value_begins d
value_begins (spells.unary {un = un} d) = unary_begins un
value_begins (spells.sizeof_value d) = refl
value_begins (spells.sizeof_type d) = refl
value_begins (spells.cast d f) = refl
value_begins (spells.binary d f) = value_begins d
value_begins (spells.conditional d f g) = value_begins d

exps_begin : {ns : List Name} {b : Bool} {es : List Exp} {s t : List Lexeme} → SpellsExps ns b es s t → value_first s ≡ true
exps_begin (spells.last_argument d) = value_begins d
exps_begin (spells.more_arguments d f) = value_begins d

call_begins : {ns : List Name} {b : Bool} {call : Call} {s t : List Lexeme} → SpellsCall ns b call s t → value_first s ≡ true
call_begins (spells.calls h d) = refl

rhs_begins : {ns : List Name} {b : Bool} {rhs : Rhs} {s t : List Lexeme} → SpellsRhs ns b rhs s t → value_first s ≡ true
rhs_begins (spells.value d) = value_begins d
rhs_begins (spells.result_of d) = call_begins d

-- Arguments and calls.

arguments_value : (b y : Bool) (k : Kind) → begins_value k ≡ true → arguments b y k ≡ and_then (operand b (wanted.Level 0) y k) (symbol.ArgumentsMore b ∷ [])
arguments_value b y (punct sign.RightParenthesis) h = false≢true h
arguments_value b y k h = refl

opens_arguments : (ns next : List Name) (b : Bool) (K : List Symbol) (vs : List Value) (s : List Lexeme) → value_first s ≡ true → go ns next (symbol.Arguments b ∷ K) vs s ≡ go ns next (expression b 0 ∷ symbol.ArgumentsMore b ∷ K) vs s
unfolding choice_of
opens_arguments ns next b K vs [] h = false≢true h
opens_arguments ns next b K vs (x ∷ t) h = expands ns next (symbol.Arguments b) (expression b 0) (symbol.ArgumentsMore b ∷ []) K vs x t (operand b (wanted.Level 0) (is_type ns x.kind) x.kind) (arguments_value b (is_type ns x.kind) x.kind h) refl (operand_takes b (wanted.Level 0) (is_type ns x.kind) x.kind) refl

reads_exps : {ns : List Name} {b : Bool} {es : List Exp} {s t : List Lexeme} → SpellsExps ns b es s t → (next : List Name) (K : List Symbol) (vs : List Value) → go ns next (expression b 0 ∷ symbol.ArgumentsMore b ∷ K) vs s ≡ go ns next K (OfExps es ∷ vs) t
unfolding choice_of act
reads_exps (spells.last_argument {e = e} d) next K vs = reads d _ (wanted.Level 0) _ _ refl (le_zero (rank e)) ∙ tail_nothing _ _ _ _ _ _ _ _ refl ∙ takes _ _ _ _ _ _ _ _ _ _ refl refl ∙ ended_by _ _ _ _ _ _ _ refl
reads_exps (spells.more_arguments {e = e} d f) next K vs = reads d _ (wanted.Level 0) _ _ refl (le_zero (rank e)) ∙ tail_nothing _ _ _ _ _ _ _ _ refl ∙ takes _ _ _ _ _ _ _ _ _ _ refl refl ∙ reads_exps f _ _ _ ∙ ended_by _ _ _ _ _ _ _ refl

reads_arguments : {ns : List Name} {b : Bool} {es : List Exp} {s t : List Lexeme} → SpellsArguments ns b es s t → (next : List Name) (K : List Symbol) (vs : List Value) → go ns next (symbol.Arguments b ∷ K) vs s ≡ go ns next K (OfExps es ∷ vs) t
unfolding choice_of act
reads_arguments spells.no_arguments next K vs = takes _ _ _ _ _ _ _ _ _ _ refl refl ∙ ended_by _ _ _ _ _ _ _ refl
reads_arguments (spells.some_arguments d) next K vs = opens_arguments _ _ _ _ _ _ (exps_begin d) ∙ reads_exps d _ _ _

reads_call : {ns : List Name} {b : Bool} {call : Call} {s t : List Lexeme} → SpellsCall ns b call s t → (next : List Name) (K : List Symbol) (vs : List Value) → go ns next (symbol.Expression b wanted.Right ∷ K) vs s ≡ go ns next K (OfRhs (tree.Result call) ∷ vs) t
unfolding choice_of act
reads_call (spells.calls h d) next K vs = takes_variable _ _ _ _ _ _ _ _ _ _ h ∙ takes _ _ _ _ _ _ _ _ _ _ refl refl ∙ reads_arguments d _ _ _ ∙ ended_by _ _ _ _ _ _ _ refl ∙ ended_by _ _ _ _ _ _ _ refl

reads_invoke : {ns : List Name} {b : Bool} {call : Call} {s t : List Lexeme} → SpellsCall ns b call s t → (next : List Name) (K : List Symbol) (vs : List Value) → go ns next (symbol.Expression b wanted.Place ∷ K) vs s ≡ go ns next K (OfSimple (tree.Invoke call) ∷ vs) t
unfolding choice_of act
reads_invoke (spells.calls h d) next K vs = takes_variable _ _ _ _ _ _ _ _ _ _ h ∙ takes _ _ _ _ _ _ _ _ _ _ refl refl ∙ reads_arguments d _ _ _ ∙ ended_by _ _ _ _ _ _ _ refl ∙ ended_by _ _ _ _ _ _ _ refl

-- The right side of an assignment.

right_end : (b : Bool) (r : ℕ) (k : Kind) → nat_le (needs_kind k) 0 ≡ true → tail_end b wanted.Right r k ≡ Pass (ends.Value ∷ [])
right_end b r (punct sign.LeftParenthesis) h = false≢true h
right_end b r k h = refl

tail_right : (ns next : List Name) (b : Bool) (r : ℕ) (e : Exp) (K : List Symbol) (vs : List Value) (t : List Lexeme) → nat_le (needs t) 0 ≡ true → go ns next (symbol.Tail b wanted.Right r ∷ K) (OfExp e ∷ vs) t ≡ go ns next K (OfRhs (tree.Value e) ∷ vs) t
unfolding choice_of act
tail_right ns next b r e K vs [] h = false≢true h
tail_right ns next b r e K vs (x ∷ t) h = passes ns next (symbol.Tail b wanted.Right r) K (OfExp e ∷ vs) (OfRhs (tree.Value e) ∷ vs) x t (ends.Value ∷ []) (closes_zero b wanted.Right r x.kind h ∙ right_end b r x.kind h) refl

reads_rhs : {ns : List Name} {b : Bool} {rhs : Rhs} {s t : List Lexeme} → SpellsRhs ns b rhs s t → (next : List Name) (K : List Symbol) (vs : List Value) → nat_le (needs t) 0 ≡ true → go ns next (symbol.Expression b wanted.Right ∷ K) vs s ≡ go ns next K (OfRhs rhs ∷ vs) t
unfolding choice_of act
reads_rhs (spells.value {e = e} {t = t} d) next K vs h = reads d _ wanted.Right _ _ refl (le_trans (needs t) 0 (rank e) h (le_zero (rank e))) ∙ tail_right _ _ _ _ _ _ _ _ h
reads_rhs (spells.result_of d) next K vs h = reads_call d _ _ _

-- Simple statements.

-- a token that begins a simple statement
abbrev pub begins_simple : Kind → Bool
begins_simple (punct sign.PlusPlus) = true
begins_simple (punct sign.MinusMinus) = true
begins_simple k = begins_value k

abbrev pub simple_first : List Lexeme → Bool
simple_first [] = false
simple_first (x ∷ t) = begins_simple x.kind

simple_value : (y : Bool) (k : Kind) → begins_value k ≡ true → simple y k ≡ operand false wanted.Place y k
simple_value y (punct sign.PlusPlus) h = false≢true h
simple_value y (punct sign.MinusMinus) h = false≢true h
simple_value y k h = refl

value_is_simple : (k : Kind) → begins_value k ≡ true → begins_simple k ≡ true
value_is_simple (punct sign.PlusPlus) h = refl
value_is_simple (punct sign.MinusMinus) h = refl
value_is_simple k h = h

step_first : (st : StepOperator) → begins_simple (punct (step_sign st)) ≡ true
step_first step_op.Increment = refl
step_first step_op.Decrement = refl

step_takes : (y : Bool) (st : StepOperator) → simple y (punct (step_sign st)) ≡ take (expression false 12 ∷ end (ends.Before st) ∷ [])
step_takes y step_op.Increment = refl
step_takes y step_op.Decrement = refl

step_needs : (st : StepOperator) → needs_kind (punct (step_sign st)) ≡ 0
step_needs step_op.Increment = refl
step_needs step_op.Decrement = refl

step_ends : (b : Bool) (r : ℕ) (st : StepOperator) → tail b wanted.Place r (punct (step_sign st)) ≡ only_if (nat_le 13 r) (take (end (ends.After st) ∷ []))
step_ends b r step_op.Increment = refl
step_ends b r step_op.Decrement = refl

update_needs : (p : Punct) (op : BinaryOperator) → update_of p ≡ Some op → needs_kind (punct p) ≡ 0
update_needs sign.StarEqual op h = refl
update_needs sign.SlashEqual op h = refl
update_needs sign.PercentEqual op h = refl
update_needs sign.PlusEqual op h = refl
update_needs sign.MinusEqual op h = refl
update_needs sign.LessLessEqual op h = refl
update_needs sign.GreaterGreaterEqual op h = refl
update_needs sign.AmpersandEqual op h = refl
update_needs sign.CaretEqual op h = refl
update_needs sign.BarEqual op h = refl
update_needs p op h = absurd cc

update_takes : (b : Bool) (r : ℕ) (p : Punct) (op : BinaryOperator) → update_of p ≡ Some op → tail b wanted.Place r (punct p) ≡ only_if (nat_le 12 r) (take (expression b 0 ∷ end (ends.Update op) ∷ []))
update_takes b r sign.StarEqual op h = ap (λ o. only_if (nat_le 12 r) (take (expression b 0 ∷ end (ends.Update o) ∷ []))) (let e : binary_op.Multiply ≡ op = cc in e)
update_takes b r sign.SlashEqual op h = ap (λ o. only_if (nat_le 12 r) (take (expression b 0 ∷ end (ends.Update o) ∷ []))) (let e : binary_op.Divide ≡ op = cc in e)
update_takes b r sign.PercentEqual op h = ap (λ o. only_if (nat_le 12 r) (take (expression b 0 ∷ end (ends.Update o) ∷ []))) (let e : binary_op.Remainder ≡ op = cc in e)
update_takes b r sign.PlusEqual op h = ap (λ o. only_if (nat_le 12 r) (take (expression b 0 ∷ end (ends.Update o) ∷ []))) (let e : binary_op.Add ≡ op = cc in e)
update_takes b r sign.MinusEqual op h = ap (λ o. only_if (nat_le 12 r) (take (expression b 0 ∷ end (ends.Update o) ∷ []))) (let e : binary_op.Subtract ≡ op = cc in e)
update_takes b r sign.LessLessEqual op h = ap (λ o. only_if (nat_le 12 r) (take (expression b 0 ∷ end (ends.Update o) ∷ []))) (let e : binary_op.ShiftLeft ≡ op = cc in e)
update_takes b r sign.GreaterGreaterEqual op h = ap (λ o. only_if (nat_le 12 r) (take (expression b 0 ∷ end (ends.Update o) ∷ []))) (let e : binary_op.ShiftRight ≡ op = cc in e)
update_takes b r sign.AmpersandEqual op h = ap (λ o. only_if (nat_le 12 r) (take (expression b 0 ∷ end (ends.Update o) ∷ []))) (let e : binary_op.And ≡ op = cc in e)
update_takes b r sign.CaretEqual op h = ap (λ o. only_if (nat_le 12 r) (take (expression b 0 ∷ end (ends.Update o) ∷ []))) (let e : binary_op.ExclusiveOr ≡ op = cc in e)
update_takes b r sign.BarEqual op h = ap (λ o. only_if (nat_le 12 r) (take (expression b 0 ∷ end (ends.Update o) ∷ []))) (let e : binary_op.Or ≡ op = cc in e)
update_takes b r p op h = absurd cc

first_is_simple : (s : List Lexeme) → value_first s ≡ true → simple_first s ≡ true
first_is_simple [] h = false≢true h
first_is_simple (x ∷ t) h = value_is_simple x.kind h

call_starts : {ns : List Name} {b : Bool} {call : Call} {s t : List Lexeme} → SpellsCall ns b call s t → starts ns s ≡ false
call_starts (spells.calls h d) = h

simple_begins : {ns : List Name} {sim : Simple} {s t : List Lexeme} → SpellsSimple ns false sim s t → simple_first s ≡ true
simple_begins {s = s} (spells.assign d f) = first_is_simple s (value_begins d)
simple_begins {s = s} (spells.update h d f) = first_is_simple s (value_begins d)
simple_begins {s = s} (spells.after d) = first_is_simple s (value_begins d)
simple_begins (spells.before {st = st} d) = step_first st
simple_begins {s = s} (spells.invoke d) = first_is_simple s (call_begins d)

pub simple_starts : {ns : List Name} {sim : Simple} {s t : List Lexeme} → SpellsSimple ns false sim s t → starts ns s ≡ false
simple_starts (spells.assign d f) = value_starts d
simple_starts (spells.update h d f) = value_starts d
simple_starts (spells.after d) = value_starts d
simple_starts (spells.before d) = refl
simple_starts (spells.invoke (spells.calls h d)) = h

-- a symbol that begins with a simple statement
record BeginsSimple (s0 : Symbol) (more : List Symbol) : Type 0 where
  pub choice : (y : Bool) (k : Kind) → begins_simple k ≡ true → starts_type y k ≡ false → choice_of s0 y k ≡ and_then (simple y k) more
  pub silent : (k : Kind) (next : List Name) → noted s0 k next ≡ next

opens_simple : (ns next : List Name) (s0 : Symbol) (more K : List Symbol) (vs : List Value) (s : List Lexeme) → BeginsSimple s0 more → value_first s ≡ true → starts ns s ≡ false → go ns next (s0 ∷ K) vs s ≡ go ns next (symbol.Expression false wanted.Place ∷ (more ++ K)) vs s
unfolding choice_of
opens_simple ns next s0 more K vs [] r h g = false≢true h
opens_simple ns next s0 more K vs (x ∷ t) r h g = expands ns next s0 (symbol.Expression false wanted.Place) more K vs x t (operand false wanted.Place (is_type ns x.kind) x.kind) (r.choice (is_type ns x.kind) x.kind (value_is_simple x.kind h) g ∙ ap (λ c. and_then c more) (simple_value (is_type ns x.kind) x.kind h)) refl (operand_takes false wanted.Place (is_type ns x.kind) x.kind) (r.silent x.kind next)

takes_before : (ns next : List Name) (s0 : Symbol) (more K : List Symbol) (vs : List Value) (st : StepOperator) (a z : ℕ) (s : List Lexeme) → BeginsSimple s0 more → go ns next (s0 ∷ K) vs (mark (step_sign st) a z ∷ s) ≡ go ns next (expression false 12 ∷ end (ends.Before st) ∷ (more ++ K)) (Tok (mark (step_sign st) a z) ∷ vs) s
unfolding choice_of
takes_before ns next s0 more K vs st a z s r = takes ns next s0 K vs vs (mark (step_sign st) a z) s [] (expression false 12 ∷ end (ends.Before st) ∷ more) (r.choice false (punct (step_sign st)) (step_first st) refl ∙ ap (λ c. and_then c more) (step_takes false st)) refl ∙ ap (λ n. go ns n (expression false 12 ∷ end (ends.Before st) ∷ (more ++ K)) (Tok (mark (step_sign st) a z) ∷ vs) s) (r.silent (punct (step_sign st)) next)

takes_assign : (ns next : List Name) (b : Bool) (r a z : ℕ) (K : List Symbol) (vs : List Value) (t : List Lexeme) → nat_le 12 r ≡ true → go ns next (symbol.Tail b wanted.Place r ∷ K) vs (mark sign.Equal a z ∷ t) ≡ go ns next (symbol.Expression b wanted.Right ∷ end ends.Assign ∷ K) (Tok (mark sign.Equal a z) ∷ vs) t
unfolding choice_of
takes_assign ns next b r a z K vs t h = takes ns next (symbol.Tail b wanted.Place r) K vs vs (mark sign.Equal a z) t [] (symbol.Expression b wanted.Right ∷ end ends.Assign ∷ []) (rw h refl) refl

takes_update : (ns next : List Name) (b : Bool) (r a z : ℕ) (p : Punct) (op : BinaryOperator) (K : List Symbol) (vs : List Value) (t : List Lexeme) → update_of p ≡ Some op → nat_le 12 r ≡ true → go ns next (symbol.Tail b wanted.Place r ∷ K) vs (mark p a z ∷ t) ≡ go ns next (expression b 0 ∷ end (ends.Update op) ∷ K) (Tok (mark p a z) ∷ vs) t
unfolding choice_of
takes_update ns next b r a z p op K vs t h j = takes ns next (symbol.Tail b wanted.Place r) K vs vs (mark p a z) t [] (expression b 0 ∷ end (ends.Update op) ∷ []) (update_takes b r p op h ∙ rw j refl) refl

takes_after : (ns next : List Name) (b : Bool) (r a z : ℕ) (st : StepOperator) (K : List Symbol) (vs : List Value) (t : List Lexeme) → nat_le 13 r ≡ true → go ns next (symbol.Tail b wanted.Place r ∷ K) vs (mark (step_sign st) a z ∷ t) ≡ go ns next (end (ends.After st) ∷ K) (Tok (mark (step_sign st) a z) ∷ vs) t
unfolding choice_of
takes_after ns next b r a z st K vs t j = takes ns next (symbol.Tail b wanted.Place r) K vs vs (mark (step_sign st) a z) t [] (end (ends.After st) ∷ []) (step_ends b r st ∙ rw j refl) refl

reads_simple : {ns : List Name} {sim : Simple} {s t : List Lexeme} → SpellsSimple ns false sim s t → (next : List Name) (s0 : Symbol) (more K : List Symbol) (vs : List Value) → BeginsSimple s0 more → nat_le (needs t) 0 ≡ true → go ns next (s0 ∷ K) vs s ≡ go ns next (more ++ K) (OfSimple sim ∷ vs) t
unfolding choice_of act
reads_simple {ns = ns} {s = s} {t = t} (spells.assign {e = e} d f) next s0 more K vs r h =
    opens_simple ns next s0 more K vs s r (value_begins d) (value_starts d) ∙ reads d _ wanted.Place _ _ refl (le_zero (rank e)) ∙ takes_assign _ _ _ _ _ _ _ _ _ (rank_least d) ∙ reads_rhs f _ _ _ h ∙ ended_by _ _ _ _ _ _ _ refl
reads_simple {ns = ns} {s = s} {t = t} (spells.update {p = p} {op = op} {e = e} {x = x} j d f) next s0 more K vs r h =
    opens_simple ns next s0 more K vs s r (value_begins d) (value_starts d) ∙ reads d _ wanted.Place _ _ refl (rw (update_needs p op j) (le_zero (rank e))) ∙ takes_update _ _ _ _ _ _ p op _ _ _ j (rank_least d) ∙ reads f _ (wanted.Level 0) _ _ refl (le_trans (needs t) 0 (rank x) h (le_zero (rank x))) ∙ tail_nothing _ _ _ _ _ _ _ _ h ∙ ended_by _ _ _ _ _ _ _ refl
reads_simple {ns = ns} {s = s} {t = t} (spells.after {e = e} {st = st} d) next s0 more K vs r h =
    opens_simple ns next s0 more K vs s r (value_begins d) (value_starts d) ∙ reads d _ wanted.Place _ _ refl (rw (step_needs st) (le_zero (rank e))) ∙ takes_after _ _ _ _ _ _ st _ _ _ (rank_least d) ∙ ended_by _ _ _ _ _ _ _ refl
reads_simple {ns = ns} {t = t} (spells.before {e = e} {st = st} d) next s0 more K vs r h =
    takes_before _ _ _ more _ _ st _ _ _ r ∙ reads d _ (wanted.Level 12) _ _ refl (le_trans (needs t) 0 (rank e) h (le_zero (rank e))) ∙ tail_nothing _ _ _ _ _ _ _ _ h ∙ ended_by _ _ _ _ _ _ _ refl
reads_simple {ns = ns} {s = s} (spells.invoke d) next s0 more K vs r h =
    opens_simple ns next s0 more K vs s r (call_begins d) (call_starts d) ∙ reads_invoke d _ _ _

-- Locals.

inits_end : {ns : List Name} {inis : List Init} {s t : List Lexeme} → SpellsInits ns inis s t → ends_words ns s ≡ true
inits_end (spells.last_init (spells.uninitialized d)) = declarator_ends d
inits_end (spells.last_init (spells.initialized d f)) = declarator_ends d
inits_end (spells.more_inits (spells.uninitialized d) g) = declarator_ends d
inits_end (spells.more_inits (spells.initialized d f) g) = declarator_ends d

reads_inits : {ns : List Name} {inis : List Init} {s t : List Lexeme} → SpellsInits ns inis s t → (next : List Name) (K : List Symbol) (vs : List Value) → go ns next (declarator false (symbol.InitValue ∷ symbol.InitMore ∷ K)) vs s ≡ go ns next K (OfInits inis ∷ vs) t
unfolding choice_of act
reads_inits (spells.last_init (spells.uninitialized d)) next K vs = reads_declarator d _ _ _ refl ∙ passes _ _ _ _ _ _ _ _ _ refl refl ∙ takes _ _ _ _ _ _ _ _ _ _ refl refl ∙ ended_by _ _ _ _ _ _ _ refl
reads_inits (spells.last_init (spells.initialized d f)) next K vs = reads_declarator d _ _ _ refl ∙ takes _ _ _ _ _ _ _ _ _ _ refl refl ∙ reads_rhs f _ _ _ refl ∙ ended_by _ _ _ _ _ _ _ refl ∙ takes _ _ _ _ _ _ _ _ _ _ refl refl ∙ ended_by _ _ _ _ _ _ _ refl
reads_inits (spells.more_inits (spells.uninitialized d) g) next K vs = reads_declarator d _ _ _ refl ∙ passes _ _ _ _ _ _ _ _ _ refl refl ∙ takes _ _ _ _ _ _ _ _ _ _ refl refl ∙ reads_inits g _ _ _ ∙ ended_by _ _ _ _ _ _ _ refl
reads_inits (spells.more_inits (spells.initialized d f) g) next K vs = reads_declarator d _ _ _ refl ∙ takes _ _ _ _ _ _ _ _ _ _ refl refl ∙ reads_rhs f _ _ _ refl ∙ ended_by _ _ _ _ _ _ _ refl ∙ takes _ _ _ _ _ _ _ _ _ _ refl refl ∙ reads_inits g _ _ _ ∙ ended_by _ _ _ _ _ _ _ refl

reads_local : {ns : List Name} {loc : Local} {s t : List Lexeme} → SpellsLocal ns loc s t → (next : List Name) (K : List Symbol) (vs : List Value) → go ns next (symbol.Words false seen.Nothing ∷ local_rest K) vs s ≡ go ns next K (OfLocal loc ∷ vs) t
unfolding choice_of act
reads_local (spells.locals d f) next K vs = reads_words d _ _ _ (inits_end f) ∙ reads_inits f _ _ _ ∙ ended_by _ _ _ _ _ _ _ refl

local_starts : {ns : List Name} {loc : Local} {s t : List Lexeme} → SpellsLocal ns loc s t → starts ns s ≡ true
local_starts (spells.locals d f) = words_start d refl

-- The head of a `for`.

start_rest : (y : Bool) (k : Kind) → begins_simple k ≡ true → for_start_rest y k ≡ and_then (simple y k) (symbol.Semicolon ∷ end ends.StartSimple ∷ [])
start_rest y (punct sign.Semicolon) h = false≢true h
start_rest y k h = refl

start_choice : (y : Bool) (k : Kind) → begins_simple k ≡ true → starts_type y k ≡ false → for_start y k ≡ and_then (simple y k) (symbol.Semicolon ∷ end ends.StartSimple ∷ [])
start_choice y k h g = rw g (start_rest y k h)

for_start_begins : BeginsSimple symbol.ForStart (symbol.Semicolon ∷ end ends.StartSimple ∷ [])
unfolding choice_of
for_start_begins = record { choice = start_choice; silent = λ k next. refl }

opens_local_start : (ns next : List Name) (K : List Symbol) (vs : List Value) (s : List Lexeme) → starts ns s ≡ true → go ns next (symbol.ForStart ∷ K) vs s ≡ go ns next (symbol.Words false seen.Nothing ∷ local_rest (end ends.StartLocal ∷ K)) vs s
unfolding choice_of
opens_local_start ns next K vs [] h = false≢true h
opens_local_start ns next K vs (x ∷ t) h = expands ns next symbol.ForStart (symbol.Words false seen.Nothing) (local_rest (end ends.StartLocal ∷ [])) K vs x t (words false seen.Nothing (is_type ns x.kind) x.kind) (rw h refl) refl (first_words_take false (is_type ns x.kind) x.kind) refl

reads_start : {ns : List Name} {start : Start} {s t : List Lexeme} → SpellsStart ns start s t → (next : List Name) (K : List Symbol) (vs : List Value) → go ns next (symbol.ForStart ∷ K) vs s ≡ go ns next K (OfStart start ∷ vs) t
unfolding choice_of act
reads_start spells.no_start next K vs = takes _ _ _ _ _ _ _ _ _ _ refl refl ∙ ended_by _ _ _ _ _ _ _ refl
reads_start (spells.start_local d) next K vs = opens_local_start _ _ _ _ _ (local_starts d) ∙ reads_local d _ _ _ ∙ ended_by _ _ _ _ _ _ _ refl
reads_start (spells.start_simple d) next K vs = reads_simple d _ _ _ _ _ for_start_begins refl ∙ takes _ _ _ _ _ _ _ _ _ _ refl refl ∙ ended_by _ _ _ _ _ _ _ refl

test_value : (y : Bool) (k : Kind) → begins_value k ≡ true → for_test y k ≡ and_then (operand false (wanted.Level 0) y k) (symbol.Semicolon ∷ end ends.Test ∷ [])
test_value y (punct sign.Semicolon) h = false≢true h
test_value y k h = refl

opens_test : (ns next : List Name) (K : List Symbol) (vs : List Value) (s : List Lexeme) → value_first s ≡ true → go ns next (symbol.ForTest ∷ K) vs s ≡ go ns next (expression false 0 ∷ symbol.Semicolon ∷ end ends.Test ∷ K) vs s
unfolding choice_of
opens_test ns next K vs [] h = false≢true h
opens_test ns next K vs (x ∷ t) h = expands ns next symbol.ForTest (expression false 0) (symbol.Semicolon ∷ end ends.Test ∷ []) K vs x t (operand false (wanted.Level 0) (is_type ns x.kind) x.kind) (test_value (is_type ns x.kind) x.kind h) refl (operand_takes false (wanted.Level 0) (is_type ns x.kind) x.kind) refl

reads_test : {ns : List Name} {te : Option Exp} {s t : List Lexeme} → SpellsTest ns te s t → (next : List Name) (K : List Symbol) (vs : List Value) → go ns next (symbol.ForTest ∷ K) vs s ≡ go ns next K (OfTest te ∷ vs) t
unfolding choice_of act
reads_test spells.no_test next K vs = takes _ _ _ _ _ _ _ _ _ _ refl refl ∙ ended_by _ _ _ _ _ _ _ refl
reads_test (spells.some_test {e = e} d) next K vs = opens_test _ _ _ _ _ (value_begins d) ∙ reads d _ (wanted.Level 0) _ _ refl (le_zero (rank e)) ∙ tail_nothing _ _ _ _ _ _ _ _ refl ∙ takes _ _ _ _ _ _ _ _ _ _ refl refl ∙ ended_by _ _ _ _ _ _ _ refl

step_choice : (y : Bool) (k : Kind) → begins_simple k ≡ true → starts_type y k ≡ false → for_step y k ≡ and_then (simple y k) (symbol.RightParenthesis ∷ end ends.Step ∷ [])
step_choice y (punct sign.RightParenthesis) h g = false≢true h
step_choice y k h g = refl

step_begins : BeginsSimple symbol.ForStep (symbol.RightParenthesis ∷ end ends.Step ∷ [])
unfolding choice_of
step_begins = record { choice = step_choice; silent = λ k next. refl }

reads_step : {ns : List Name} {sp : Option Simple} {s t : List Lexeme} → SpellsStep ns sp s t → (next : List Name) (K : List Symbol) (vs : List Value) → go ns next (symbol.ForStep ∷ K) vs s ≡ go ns next K (OfStep sp ∷ vs) t
unfolding choice_of act
reads_step spells.no_step next K vs = takes _ _ _ _ _ _ _ _ _ _ refl refl ∙ ended_by _ _ _ _ _ _ _ refl
reads_step (spells.some_step d) next K vs = reads_simple d _ _ _ _ _ step_begins refl ∙ takes _ _ _ _ _ _ _ _ _ _ refl refl ∙ ended_by _ _ _ _ _ _ _ refl

-- Where a statement begins.

abbrev pub begins_statement : Kind → Bool
begins_statement (punct sign.Semicolon) = true
begins_statement (punct sign.LeftBrace) = true
begins_statement (keyword word.Break) = true
begins_statement (keyword word.Continue) = true
begins_statement (keyword word.Return) = true
begins_statement (keyword word.If) = true
begins_statement (keyword word.While) = true
begins_statement (keyword word.For) = true
begins_statement (keyword word.Do) = true
begins_statement (keyword word.Switch) = true
begins_statement k = begins_simple k

abbrev statement_first : List Lexeme → Bool
statement_first [] = false
statement_first (x ∷ t) = begins_statement x.kind

simple_is_statement : (k : Kind) → begins_simple k ≡ true → begins_statement k ≡ true
simple_is_statement (punct sign.Semicolon) h = refl
simple_is_statement (punct sign.LeftBrace) h = refl
simple_is_statement (keyword word.Break) h = refl
simple_is_statement (keyword word.Continue) h = refl
simple_is_statement (keyword word.Return) h = refl
simple_is_statement (keyword word.If) h = refl
simple_is_statement (keyword word.While) h = refl
simple_is_statement (keyword word.For) h = refl
simple_is_statement (keyword word.Do) h = refl
simple_is_statement (keyword word.Switch) h = refl
simple_is_statement k h = h

simple_statement_first : (s : List Lexeme) → simple_first s ≡ true → statement_first s ≡ true
simple_statement_first [] h = false≢true h
simple_statement_first (x ∷ t) h = simple_is_statement x.kind h

statement_begins : {ns : List Name} {m : Bool} {g : Stmt} {s t : List Lexeme} → SpellsStmt ns m g s t → statement_first s ≡ true
statement_begins {s = s} (spells.simply d) = simple_statement_first s (simple_begins d)
statement_begins spells.empty = refl
statement_begins (spells.block f) = refl
statement_begins spells.break_out = refl
statement_begins spells.continue_on = refl
statement_begins spells.return_nothing = refl
statement_begins (spells.return_value d) = refl
statement_begins (spells.if_only d f) = refl
statement_begins (spells.if_else d f g) = refl
statement_begins (spells.while_do d f) = refl
statement_begins (spells.for_do d f g i) = refl
statement_begins (spells.do_while f d) = refl
statement_begins (spells.switch_on d f) = refl

statement_starts : {ns : List Name} {m : Bool} {g : Stmt} {s t : List Lexeme} → SpellsStmt ns m g s t → starts ns s ≡ false
statement_starts (spells.simply d) = simple_starts d
statement_starts spells.empty = refl
statement_starts (spells.block f) = refl
statement_starts spells.break_out = refl
statement_starts spells.continue_on = refl
statement_starts spells.return_nothing = refl
statement_starts (spells.return_value d) = refl
statement_starts (spells.if_only d f) = refl
statement_starts (spells.if_else d f g) = refl
statement_starts (spells.while_do d f) = refl
statement_starts (spells.for_do d f g i) = refl
statement_starts (spells.do_while f d) = refl
statement_starts (spells.switch_on d f) = refl

simple_choice : (y : Bool) (k : Kind) → begins_simple k ≡ true → starts_type y k ≡ false → statement y k ≡ and_then (simple y k) (symbol.Semicolon ∷ end ends.Simple ∷ [])
simple_choice y (punct sign.Semicolon) h g = false≢true h
simple_choice y (punct sign.LeftBrace) h g = false≢true h
simple_choice y (keyword word.Break) h g = false≢true h
simple_choice y (keyword word.Continue) h g = false≢true h
simple_choice y (keyword word.Return) h g = false≢true h
simple_choice y (keyword word.If) h g = false≢true h
simple_choice y (keyword word.While) h g = false≢true h
simple_choice y (keyword word.For) h g = false≢true h
simple_choice y (keyword word.Do) h g = false≢true h
simple_choice y (keyword word.Switch) h g = false≢true h
simple_choice y k h g = refl

statement_simple : BeginsSimple symbol.Statement (symbol.Semicolon ∷ end ends.Simple ∷ [])
unfolding choice_of
statement_simple = record { choice = simple_choice; silent = λ k next. refl }

return_choice : (y : Bool) (k : Kind) → begins_value k ≡ true → return_value y k ≡ and_then (operand false wanted.Right y k) (symbol.Semicolon ∷ end ends.ReturnValue ∷ [])
return_choice y (punct sign.Semicolon) h = false≢true h
return_choice y k h = refl

opens_return : (ns next : List Name) (K : List Symbol) (vs : List Value) (s : List Lexeme) → value_first s ≡ true → go ns next (symbol.ReturnValue ∷ K) vs s ≡ go ns next (symbol.Expression false wanted.Right ∷ symbol.Semicolon ∷ end ends.ReturnValue ∷ K) vs s
unfolding choice_of
opens_return ns next K vs [] h = false≢true h
opens_return ns next K vs (x ∷ t) h = expands ns next symbol.ReturnValue (symbol.Expression false wanted.Right) (symbol.Semicolon ∷ end ends.ReturnValue ∷ []) K vs x t (operand false wanted.Right (is_type ns x.kind) x.kind) (return_choice (is_type ns x.kind) x.kind h) refl (operand_takes false wanted.Right (is_type ns x.kind) x.kind) refl

-- an `else` behind is not its own
abbrev is_else : Kind → Bool
is_else (keyword word.Else) = true
is_else k = false

abbrev no_else : Bool → List Lexeme → Bool
no_else true t = true
no_else false [] = false
no_else false (x ∷ t) = not (is_else x.kind)

else_pass : (k : Kind) → not (is_else k) ≡ true → else_part k ≡ Pass (ends.If ∷ [])
else_pass (keyword word.Else) h = false≢true h
else_pass k h = refl

passes_else : (ns next : List Name) (g : Stmt) (e : Exp) (x2 x1 x0 : Lexeme) (K : List Symbol) (vs : List Value) (t : List Lexeme) → no_else false t ≡ true → go ns next (symbol.Else ∷ K) (OfStmt g ∷ Tok x2 ∷ OfExp e ∷ Tok x1 ∷ Tok x0 ∷ vs) t ≡ go ns next K (OfStmt (tree.If x0.from e g) ∷ vs) t
unfolding choice_of act
passes_else ns next g e x2 x1 x0 K vs [] h = false≢true h
passes_else ns next g e x2 x1 x0 K vs (x ∷ t) h = passes ns next symbol.Else K (OfStmt g ∷ Tok x2 ∷ OfExp e ∷ Tok x1 ∷ Tok x0 ∷ vs) (OfStmt (tree.If x0.from e g) ∷ vs) x t (ends.If ∷ []) (else_pass x.kind h) refl

-- the end of a list of items
abbrev is_items_end : Kind → Bool
is_items_end (punct sign.RightBrace) = true
is_items_end (keyword word.Case) = true
is_items_end (keyword word.Default) = true
is_items_end k = false

abbrev ends_items : List Lexeme → Bool
ends_items [] = false
ends_items (x ∷ t) = is_items_end x.kind

abbrev is_group_end : Kind → Bool
is_group_end (punct sign.RightBrace) = true
is_group_end k = false

abbrev ends_groups : List Lexeme → Bool
ends_groups [] = false
ends_groups (x ∷ t) = is_group_end x.kind

items_pass : (y : Bool) (k : Kind) → is_items_end k ≡ true → items y k ≡ Pass (ends.NoItems ∷ [])
items_pass y (punct sign.RightBrace) h = refl
items_pass y (keyword word.Case) h = refl
items_pass y (keyword word.Default) h = refl
items_pass y k h = false≢true h

passes_items : (ns next : List Name) (K : List Symbol) (vs : List Value) (t : List Lexeme) → ends_items t ≡ true → go ns next (symbol.Items ∷ K) vs t ≡ go ns next K (OfItems tree.NoItems ∷ vs) t
unfolding choice_of act
passes_items ns next K vs [] h = false≢true h
passes_items ns next K vs (x ∷ t) h = passes ns next symbol.Items K vs (OfItems tree.NoItems ∷ vs) x t (ends.NoItems ∷ []) (items_pass (is_type ns x.kind) x.kind h) refl

opens_local : (ns next : List Name) (K : List Symbol) (vs : List Value) (s : List Lexeme) → starts ns s ≡ true → go ns next (symbol.Items ∷ K) vs s ≡ go ns next (symbol.Words false seen.Nothing ∷ local_rest (symbol.Items ∷ end ends.LocalItem ∷ K)) vs s
unfolding choice_of
opens_local ns next K vs [] h = false≢true h
opens_local ns next K vs (x ∷ t) h = expands ns next symbol.Items (symbol.Words false seen.Nothing) (local_rest (symbol.Items ∷ end ends.LocalItem ∷ [])) K vs x t (words false seen.Nothing (is_type ns x.kind) x.kind) (rw h refl) refl (first_words_take false (is_type ns x.kind) x.kind) refl

items_statement : (y : Bool) (k : Kind) → begins_statement k ≡ true → items_end y k ≡ and_then (statement y k) (symbol.Items ∷ end ends.StatementItem ∷ [])
items_statement y (punct sign.RightBrace) h = false≢true h
items_statement y (keyword word.Case) h = false≢true h
items_statement y (keyword word.Default) h = false≢true h
items_statement y k h = refl

and_then_takes : (c : Choice) (more : List Symbol) → never_passes (and_then c more) ≡ true
and_then_takes Refuse more = refl
and_then_takes (Pass before) more = refl
and_then_takes (Take before next) more = refl

statement_takes : (y : Bool) (k : Kind) → never_passes (statement y k) ≡ true
statement_takes y (punct sign.Semicolon) = refl
statement_takes y (punct sign.LeftBrace) = refl
statement_takes y (keyword word.Break) = refl
statement_takes y (keyword word.Continue) = refl
statement_takes y (keyword word.Return) = refl
statement_takes y (keyword word.If) = refl
statement_takes y (keyword word.While) = refl
statement_takes y (keyword word.For) = refl
statement_takes y (keyword word.Do) = refl
statement_takes y (keyword word.Switch) = refl
statement_takes y k = and_then_takes (simple y k) (symbol.Semicolon ∷ end ends.Simple ∷ [])

opens_statement : (ns next : List Name) (K : List Symbol) (vs : List Value) (s : List Lexeme) → statement_first s ≡ true → starts ns s ≡ false → go ns next (symbol.Items ∷ K) vs s ≡ go ns next (symbol.Statement ∷ symbol.Items ∷ end ends.StatementItem ∷ K) vs s
unfolding choice_of
opens_statement ns next K vs [] h g = false≢true h
opens_statement ns next K vs (x ∷ t) h g = expands ns next symbol.Items symbol.Statement (symbol.Items ∷ end ends.StatementItem ∷ []) K vs x t (statement (is_type ns x.kind) x.kind) (rw g (items_statement (is_type ns x.kind) x.kind h)) refl (statement_takes (is_type ns x.kind) x.kind) refl

group_items : (k : Kind) → is_group_end k ≡ true → is_items_end k ≡ true
group_items (punct sign.RightBrace) h = refl
group_items k h = false≢true h

groups_head : {ns : List Name} {gs : Groups} {s t : List Lexeme} → SpellsGroups ns gs s t → ends_groups t ≡ true → ends_items s ≡ true
groups_head {t = t} spells.no_groups h = group_first t h
  where
    group_first : (t : List Lexeme) → ends_groups t ≡ true → ends_items t ≡ true
    group_first [] h = false≢true h
    group_first (x ∷ t) h = group_items x.kind h
groups_head (spells.more_groups (spells.case d) f g i j) h = refl
groups_head (spells.more_groups spells.default f g i j) h = refl

-- what begins an item, or ends the items, is no `else`
ends_no_else : (t : List Lexeme) → ends_items t ≡ true → no_else false t ≡ true
ends_no_else [] h = false≢true h
ends_no_else (x ∷ t) h = end_no_else x.kind h
  where
    end_no_else : (k : Kind) → is_items_end k ≡ true → not (is_else k) ≡ true
    end_no_else (keyword word.Else) h = false≢true h
    end_no_else k h = refl

starts_no_else : (ns : List Name) (t : List Lexeme) → starts ns t ≡ true → no_else false t ≡ true
starts_no_else ns [] h = false≢true h
starts_no_else ns (x ∷ t) h = type_no_else (is_type ns x.kind) x.kind h
  where
    type_no_else : (y : Bool) (k : Kind) → starts_type y k ≡ true → not (is_else k) ≡ true
    type_no_else y (keyword word.Else) h = false≢true h
    type_no_else y k h = refl

statement_no_else : (t : List Lexeme) → statement_first t ≡ true → no_else false t ≡ true
statement_no_else [] h = false≢true h
statement_no_else (x ∷ t) h = first_no_else x.kind h
  where
    first_no_else : (k : Kind) → begins_statement k ≡ true → not (is_else k) ≡ true
    first_no_else (keyword word.Else) h = false≢true h
    first_no_else k h = refl

items_no_else : {ns : List Name} {its : Items} {s t : List Lexeme} → SpellsItems ns its s t → ends_items t ≡ true → no_else false s ≡ true
items_no_else {s = s} spells.no_items h = ends_no_else s h
items_no_else {ns = ns} {s = s} (spells.local_item d f) h = starts_no_else ns s (local_starts d)
items_no_else {s = s} (spells.statement_item d f) h = statement_no_else s (statement_begins d)

-- labels
labels_pass : (k : Kind) → begins_statement k ≡ true → labels k ≡ Pass (ends.NoLabels ∷ [])
labels_pass (keyword word.Case) h = false≢true h
labels_pass (keyword word.Default) h = false≢true h
labels_pass k h = refl

passes_labels : (ns next : List Name) (K : List Symbol) (vs : List Value) (t : List Lexeme) → statement_first t ≡ true → go ns next (symbol.Labels ∷ K) vs t ≡ go ns next K (OfLabels [] ∷ vs) t
unfolding choice_of act
passes_labels ns next K vs [] h = false≢true h
passes_labels ns next K vs (x ∷ t) h = passes ns next symbol.Labels K vs (OfLabels [] ∷ vs) x t (ends.NoLabels ∷ []) (labels_pass x.kind h) refl

reads_labels : {ns : List Name} {las : List Label} {s t : List Lexeme} → SpellsLabels ns las s t → (next : List Name) (K : List Symbol) (vs : List Value) → statement_first t ≡ true → go ns next (symbol.Labels ∷ K) vs s ≡ go ns next K (OfLabels las ∷ vs) t
unfolding choice_of act
reads_labels spells.no_labels next K vs h = passes_labels _ _ _ _ _ h
reads_labels (spells.more_labels (spells.case {e = e} d) f) next K vs h = takes _ _ _ _ _ _ _ _ _ _ refl refl ∙ reads d _ (wanted.Level 0) _ _ refl (le_zero (rank e)) ∙ tail_nothing _ _ _ _ _ _ _ _ refl ∙ takes _ _ _ _ _ _ _ _ _ _ refl refl ∙ ended_by _ _ _ _ _ _ _ refl ∙ reads_labels f _ _ _ h ∙ ended_by _ _ _ _ _ _ _ refl
reads_labels (spells.more_labels spells.default f) next K vs h = takes _ _ _ _ _ _ _ _ _ _ refl refl ∙ takes _ _ _ _ _ _ _ _ _ _ refl refl ∙ ended_by _ _ _ _ _ _ _ refl ∙ reads_labels f _ _ _ h ∙ ended_by _ _ _ _ _ _ _ refl

groups_pass : (k : Kind) → is_group_end k ≡ true → groups k ≡ Pass (ends.NoGroups ∷ [])
groups_pass (punct sign.RightBrace) h = refl
groups_pass k h = false≢true h

passes_groups : (ns next : List Name) (K : List Symbol) (vs : List Value) (t : List Lexeme) → ends_groups t ≡ true → go ns next (symbol.Groups ∷ K) vs t ≡ go ns next K (OfGroups tree.NoGroups ∷ vs) t
unfolding choice_of act
passes_groups ns next K vs [] h = false≢true h
passes_groups ns next K vs (x ∷ t) h = passes ns next symbol.Groups K vs (OfGroups tree.NoGroups ∷ vs) x t (ends.NoGroups ∷ []) (groups_pass x.kind h) refl

mutual
  unfolding choice_of act

  pub reads_statement : {ns : List Name} {m : Bool} {g : Stmt} {s t : List Lexeme} → SpellsStmt ns m g s t → (next : List Name) (K : List Symbol) (vs : List Value) → no_else m t ≡ true → go ns next (symbol.Statement ∷ K) vs s ≡ go ns next K (OfStmt g ∷ vs) t
  reads_statement spells.empty next K vs h = takes _ _ _ _ _ _ _ _ _ _ refl refl ∙ ended_by _ _ _ _ _ _ _ refl
  reads_statement (spells.block f) next K vs h = takes _ _ _ _ _ _ _ _ _ _ refl refl ∙ reads_items f _ _ _ refl ∙ takes _ _ _ _ _ _ _ _ _ _ refl refl ∙ ended_by _ _ _ _ _ _ _ refl
  reads_statement (spells.simply d) next K vs h = reads_simple d _ _ _ _ _ statement_simple refl ∙ takes _ _ _ _ _ _ _ _ _ _ refl refl ∙ ended_by _ _ _ _ _ _ _ refl
  reads_statement spells.break_out next K vs h = takes _ _ _ _ _ _ _ _ _ _ refl refl ∙ takes _ _ _ _ _ _ _ _ _ _ refl refl ∙ ended_by _ _ _ _ _ _ _ refl
  reads_statement spells.continue_on next K vs h = takes _ _ _ _ _ _ _ _ _ _ refl refl ∙ takes _ _ _ _ _ _ _ _ _ _ refl refl ∙ ended_by _ _ _ _ _ _ _ refl
  reads_statement spells.return_nothing next K vs h = takes _ _ _ _ _ _ _ _ _ _ refl refl ∙ takes _ _ _ _ _ _ _ _ _ _ refl refl ∙ ended_by _ _ _ _ _ _ _ refl
  reads_statement (spells.return_value d) next K vs h = takes _ _ _ _ _ _ _ _ _ _ refl refl ∙ opens_return _ _ _ _ _ (rhs_begins d) ∙ reads_rhs d _ _ _ refl ∙ takes _ _ _ _ _ _ _ _ _ _ refl refl ∙ ended_by _ _ _ _ _ _ _ refl
  reads_statement (spells.if_only {e = e} d f) next K vs h = takes _ _ _ _ _ _ _ _ _ _ refl refl ∙ takes _ _ _ _ _ _ _ _ _ _ refl refl ∙ reads d _ (wanted.Level 0) _ _ refl (le_zero (rank e)) ∙ tail_nothing _ _ _ _ _ _ _ _ refl ∙ takes _ _ _ _ _ _ _ _ _ _ refl refl ∙ reads_statement f _ _ _ h ∙ passes_else _ _ _ _ _ _ _ _ _ _ h
  reads_statement (spells.if_else {e = e} d f g) next K vs h = takes _ _ _ _ _ _ _ _ _ _ refl refl ∙ takes _ _ _ _ _ _ _ _ _ _ refl refl ∙ reads d _ (wanted.Level 0) _ _ refl (le_zero (rank e)) ∙ tail_nothing _ _ _ _ _ _ _ _ refl ∙ takes _ _ _ _ _ _ _ _ _ _ refl refl ∙ reads_statement f _ _ _ refl ∙ takes _ _ _ _ _ _ _ _ _ _ refl refl ∙ reads_statement g _ _ _ h ∙ ended_by _ _ _ _ _ _ _ refl
  reads_statement (spells.while_do {e = e} d f) next K vs h = takes _ _ _ _ _ _ _ _ _ _ refl refl ∙ takes _ _ _ _ _ _ _ _ _ _ refl refl ∙ reads d _ (wanted.Level 0) _ _ refl (le_zero (rank e)) ∙ tail_nothing _ _ _ _ _ _ _ _ refl ∙ takes _ _ _ _ _ _ _ _ _ _ refl refl ∙ reads_statement f _ _ _ h ∙ ended_by _ _ _ _ _ _ _ refl
  reads_statement (spells.for_do d f g i) next K vs h = takes _ _ _ _ _ _ _ _ _ _ refl refl ∙ takes _ _ _ _ _ _ _ _ _ _ refl refl ∙ reads_start d _ _ _ ∙ reads_test f _ _ _ ∙ reads_step g _ _ _ ∙ reads_statement i _ _ _ h ∙ ended_by _ _ _ _ _ _ _ refl
  reads_statement (spells.do_while {e = e} f d) next K vs h = takes _ _ _ _ _ _ _ _ _ _ refl refl ∙ reads_statement f _ _ _ refl ∙ takes _ _ _ _ _ _ _ _ _ _ refl refl ∙ takes _ _ _ _ _ _ _ _ _ _ refl refl ∙ reads d _ (wanted.Level 0) _ _ refl (le_zero (rank e)) ∙ tail_nothing _ _ _ _ _ _ _ _ refl ∙ takes _ _ _ _ _ _ _ _ _ _ refl refl ∙ takes _ _ _ _ _ _ _ _ _ _ refl refl ∙ ended_by _ _ _ _ _ _ _ refl
  reads_statement (spells.switch_on {e = e} d f) next K vs h = takes _ _ _ _ _ _ _ _ _ _ refl refl ∙ takes _ _ _ _ _ _ _ _ _ _ refl refl ∙ reads d _ (wanted.Level 0) _ _ refl (le_zero (rank e)) ∙ tail_nothing _ _ _ _ _ _ _ _ refl ∙ takes _ _ _ _ _ _ _ _ _ _ refl refl ∙ takes _ _ _ _ _ _ _ _ _ _ refl refl ∙ reads_groups f _ _ _ refl ∙ takes _ _ _ _ _ _ _ _ _ _ refl refl ∙ ended_by _ _ _ _ _ _ _ refl

  pub reads_items : {ns : List Name} {its : Items} {s t : List Lexeme} → SpellsItems ns its s t → (next : List Name) (K : List Symbol) (vs : List Value) → ends_items t ≡ true → go ns next (symbol.Items ∷ K) vs s ≡ go ns next K (OfItems its ∷ vs) t
  reads_items spells.no_items next K vs h = passes_items _ _ _ _ _ h
  reads_items (spells.local_item d f) next K vs h = opens_local _ _ _ _ _ (local_starts d) ∙ reads_local d _ _ _ ∙ reads_items f _ _ _ h ∙ ended_by _ _ _ _ _ _ _ refl
  reads_items (spells.statement_item d f) next K vs h = opens_statement _ _ _ _ _ (statement_begins d) (statement_starts d) ∙ reads_statement d _ _ _ (items_no_else f h) ∙ reads_items f _ _ _ h ∙ ended_by _ _ _ _ _ _ _ refl

  pub reads_groups : {ns : List Name} {gs : Groups} {s t : List Lexeme} → SpellsGroups ns gs s t → (next : List Name) (K : List Symbol) (vs : List Value) → ends_groups t ≡ true → go ns next (symbol.Groups ∷ K) vs s ≡ go ns next K (OfGroups gs ∷ vs) t
  reads_groups spells.no_groups next K vs h = passes_groups _ _ _ _ _ h
  reads_groups (spells.more_groups (spells.case {e = e} d) f g i j) next K vs h = takes _ _ _ _ _ _ _ _ _ _ refl refl ∙ reads d _ (wanted.Level 0) _ _ refl (le_zero (rank e)) ∙ tail_nothing _ _ _ _ _ _ _ _ refl ∙ takes _ _ _ _ _ _ _ _ _ _ refl refl ∙ ended_by _ _ _ _ _ _ _ refl ∙ reads_labels f _ _ _ (statement_begins g) ∙ reads_statement g _ _ _ (items_no_else i (groups_head j h)) ∙ reads_items i _ _ _ (groups_head j h) ∙ reads_groups j _ _ _ h ∙ ended_by _ _ _ _ _ _ _ refl
  reads_groups (spells.more_groups spells.default f g i j) next K vs h = takes _ _ _ _ _ _ _ _ _ _ refl refl ∙ takes _ _ _ _ _ _ _ _ _ _ refl refl ∙ ended_by _ _ _ _ _ _ _ refl ∙ reads_labels f _ _ _ (statement_begins g) ∙ reads_statement g _ _ _ (items_no_else i (groups_head j h)) ∙ reads_items i _ _ _ (groups_head j h) ∙ reads_groups j _ _ _ h ∙ ended_by _ _ _ _ _ _ _ refl
