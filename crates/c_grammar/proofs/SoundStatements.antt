-- The choices of statements keep what the stack means.
use Rattle.std.proofs.Common.{ℕ, false, List, [], ◌∷◌, Some, None, refl}
use Rattle.c_lex.specs.declared.token.Keyword.TheVariants as word
use Rattle.c_lex.specs.declared.token.Punct.TheVariants as sign
use Rattle.c_lex.specs.Lexeme.{Lexeme, Kind, keyword, punct}
use Rattle.c_grammar.specs.declared.operator.StepOperator.TheVariants as step
use Rattle.c_grammar.specs.declared.symbol.Seen.TheVariants as seen
use Rattle.c_grammar.specs.declared.symbol.Wanted.TheVariants as wanted
use Rattle.c_grammar.specs.declared.symbol.Production.TheVariants as ends
use Rattle.c_grammar.specs.declared.symbol.Symbol.TheVariants as symbol
use Rattle.c_grammar.specs.Tree as tree
use Rattle.c_grammar.specs.Tree.{Name, Words}
use Rattle.c_grammar.specs.Spells as spells
use Rattle.c_grammar.specs.Spells.{token, mark, reserved}
use Rattle.c_grammar.specs.CodeChoice as choice
use Rattle.c_grammar.specs.CodeChoice.{expression, declarator, local_rest, condition}
use Rattle.c_grammar.specs.CodeStack.{is_type}
use Rattle.c_grammar.proofs.Means.{is_mark, is_word, is_name, same, Means, plain, All, nil, cons, Sound, then_sound, if_sound, any}
use Rattle.c_grammar.proofs.SoundExpressions.{words_sound, operand_sound}

-- Statements.

before_increment_row : {ns next ns2 next2 : List Name} {s u : List Lexeme} (a z : ℕ) → All ns next (expression false 12 ∷ symbol.End (ends.Before step.Increment) ∷ []) s u ns2 next2 → Means ns next (symbol.Expression false wanted.Place) (mark sign.PlusPlus a z ∷ s) u ns2 next2
before_increment_row a z (cons (plain f) (cons (plain same) nil)) = plain (λ l. let p = f refl in (tree.Before a step.Increment p.0, spells.before p.1))

before_decrement_row : {ns next ns2 next2 : List Name} {s u : List Lexeme} (a z : ℕ) → All ns next (expression false 12 ∷ symbol.End (ends.Before step.Decrement) ∷ []) s u ns2 next2 → Means ns next (symbol.Expression false wanted.Place) (mark sign.MinusMinus a z ∷ s) u ns2 next2
before_decrement_row a z (cons (plain f) (cons (plain same) nil)) = plain (λ l. let p = f refl in (tree.Before a step.Decrement p.0, spells.before p.1))

pub simple_sound : (ns next : List Name) (k : Kind) (a z : ℕ) → Sound ns next (symbol.Expression false wanted.Place) (token k a z) (choice.simple (is_type ns k) k)
simple_sound ns next (punct sign.PlusPlus) a z = λ s u ns2 next2 all. before_increment_row a z all
simple_sound ns next (punct sign.MinusMinus) a z = λ s u ns2 next2 all. before_decrement_row a z all
simple_sound ns next k a z = operand_sound ns next false wanted.Place k a z

empty_row : {ns next ns2 next2 : List Name} {s u : List Lexeme} (a z : ℕ) → All ns next (symbol.End ends.Empty ∷ []) s u ns2 next2 → Means ns next symbol.Statement (mark sign.Semicolon a z ∷ s) u ns2 next2
empty_row a z (cons (plain same) nil) = plain (tree.Empty a, spells.empty)

block_row : {ns next ns2 next2 : List Name} {s u : List Lexeme} (a z : ℕ) → All ns next (symbol.Items ∷ symbol.RightBrace ∷ symbol.End ends.Block ∷ []) s u ns2 next2 → Means ns next symbol.Statement (mark sign.LeftBrace a z ∷ s) u ns2 next2
block_row a z (cons (plain (its, d)) (cons (plain is_mark) (cons (plain same) nil))) = plain (tree.Block a its, spells.block d)

break_row : {ns next ns2 next2 : List Name} {s u : List Lexeme} (a z : ℕ) → All ns next (symbol.Semicolon ∷ symbol.End ends.Break ∷ []) s u ns2 next2 → Means ns next symbol.Statement (reserved word.Break a z ∷ s) u ns2 next2
break_row a z (cons (plain is_mark) (cons (plain same) nil)) = plain (tree.Break a, spells.break_out)

continue_row : {ns next ns2 next2 : List Name} {s u : List Lexeme} (a z : ℕ) → All ns next (symbol.Semicolon ∷ symbol.End ends.Continue ∷ []) s u ns2 next2 → Means ns next symbol.Statement (reserved word.Continue a z ∷ s) u ns2 next2
continue_row a z (cons (plain is_mark) (cons (plain same) nil)) = plain (tree.Continue a, spells.continue_on)

return_row : {ns next ns2 next2 : List Name} {s u : List Lexeme} (a z : ℕ) → All ns next (symbol.ReturnValue ∷ []) s u ns2 next2 → Means ns next symbol.Statement (reserved word.Return a z ∷ s) u ns2 next2
return_row a z (cons (plain m) nil) = plain (m _ a z)

if_row : {ns next ns2 next2 : List Name} {s u : List Lexeme} (a z : ℕ) → All ns next (condition (symbol.Statement ∷ symbol.Else ∷ [])) s u ns2 next2 → Means ns next symbol.Statement (reserved word.If a z ∷ s) u ns2 next2
if_row a z (cons (plain (is_mark {a = a1} {z = z1})) (cons (plain f) (cons (plain (is_mark {a = a2} {z = z2})) (cons (plain (g, d)) (cons (plain i) nil))))) = let p = f refl in plain (i p.0 g a z a1 z1 a2 z2 _ _ p.1 d)

while_row : {ns next ns2 next2 : List Name} {s u : List Lexeme} (a z : ℕ) → All ns next (condition (symbol.Statement ∷ symbol.End ends.While ∷ [])) s u ns2 next2 → Means ns next symbol.Statement (reserved word.While a z ∷ s) u ns2 next2
while_row a z (cons (plain is_mark) (cons (plain f) (cons (plain is_mark) (cons (plain (g, d)) (cons (plain same) nil))))) = let p = f refl in plain (tree.While a p.0 g, spells.while_do p.1 d)

for_row : {ns next ns2 next2 : List Name} {s u : List Lexeme} (a z : ℕ) → All ns next (symbol.LeftParenthesis ∷ symbol.ForStart ∷ symbol.ForTest ∷ symbol.ForStep ∷ symbol.Statement ∷ symbol.End ends.For ∷ []) s u ns2 next2 → Means ns next symbol.Statement (reserved word.For a z ∷ s) u ns2 next2
for_row a z (cons (plain is_mark) (cons (plain (start, d1)) (cons (plain (te, d2)) (cons (plain (sp, d3)) (cons (plain (g, d4)) (cons (plain same) nil)))))) = plain (tree.For a start te sp g, spells.for_do d1 d2 d3 d4)

do_row : {ns next ns2 next2 : List Name} {s u : List Lexeme} (a z : ℕ) → All ns next (symbol.Statement ∷ symbol.While ∷ condition (symbol.Semicolon ∷ symbol.End ends.Do ∷ [])) s u ns2 next2 → Means ns next symbol.Statement (reserved word.Do a z ∷ s) u ns2 next2
do_row a z (cons (plain (g, d)) (cons (plain is_word) (cons (plain is_mark) (cons (plain f) (cons (plain is_mark) (cons (plain is_mark) (cons (plain same) nil))))))) = let p = f refl in plain (tree.Do a g p.0, spells.do_while (any d) p.1)

switch_row : {ns next ns2 next2 : List Name} {s u : List Lexeme} (a z : ℕ) → All ns next (condition (symbol.LeftBrace ∷ symbol.Groups ∷ symbol.RightBrace ∷ symbol.End ends.Switch ∷ [])) s u ns2 next2 → Means ns next symbol.Statement (reserved word.Switch a z ∷ s) u ns2 next2
switch_row a z (cons (plain is_mark) (cons (plain f) (cons (plain is_mark) (cons (plain is_mark) (cons (plain (gs, d)) (cons (plain is_mark) (cons (plain same) nil))))))) = let p = f refl in plain (tree.Switch a p.0 gs, spells.switch_on p.1 d)

simply_row : {ns next ns1 next1 ns2 next2 : List Name} {s m u : List Lexeme} (x : Lexeme) → Means ns next (symbol.Expression false wanted.Place) (x ∷ s) m ns1 next1 → All ns1 next1 (symbol.Semicolon ∷ symbol.End ends.Simple ∷ []) m u ns2 next2 → Means ns next symbol.Statement (x ∷ s) u ns2 next2
simply_row x (plain f) (cons (plain is_mark) (cons (plain same) nil)) = let p = f refl in plain (tree.Simply p.0, spells.simply p.1)

pub statement_sound : (ns next : List Name) (k : Kind) (a z : ℕ) → Sound ns next symbol.Statement (token k a z) (choice.statement (is_type ns k) k)
statement_sound ns next (punct sign.Semicolon) a z = λ s u ns2 next2 all. empty_row a z all
statement_sound ns next (punct sign.LeftBrace) a z = λ s u ns2 next2 all. block_row a z all
statement_sound ns next (keyword word.Break) a z = λ s u ns2 next2 all. break_row a z all
statement_sound ns next (keyword word.Continue) a z = λ s u ns2 next2 all. continue_row a z all
statement_sound ns next (keyword word.Return) a z = λ s u ns2 next2 all. return_row a z all
statement_sound ns next (keyword word.If) a z = λ s u ns2 next2 all. if_row a z all
statement_sound ns next (keyword word.While) a z = λ s u ns2 next2 all. while_row a z all
statement_sound ns next (keyword word.For) a z = λ s u ns2 next2 all. for_row a z all
statement_sound ns next (keyword word.Do) a z = λ s u ns2 next2 all. do_row a z all
statement_sound ns next (keyword word.Switch) a z = λ s u ns2 next2 all. switch_row a z all
statement_sound ns next k a z = then_sound ns next symbol.Statement (symbol.Expression false wanted.Place) (token k a z) (choice.simple (is_type ns k) k) (symbol.Semicolon ∷ symbol.End ends.Simple ∷ []) (simple_sound ns next k a z) refl (λ s m u ns1 next1 ns2 next2 first all. simply_row (token k a z) first all)

return_nothing_row : {ns next ns2 next2 : List Name} {s u : List Lexeme} (a z : ℕ) → All ns next (symbol.End ends.Return ∷ []) s u ns2 next2 → Means ns next symbol.ReturnValue (mark sign.Semicolon a z ∷ s) u ns2 next2
return_nothing_row a z (cons (plain same) nil) = plain (λ m a1 z1. (tree.Return a1 None, spells.return_nothing))

return_value_row : {ns next ns1 next1 ns2 next2 : List Name} {s m u : List Lexeme} (x : Lexeme) → Means ns next (symbol.Expression false wanted.Right) (x ∷ s) m ns1 next1 → All ns1 next1 (symbol.Semicolon ∷ symbol.End ends.ReturnValue ∷ []) m u ns2 next2 → Means ns next symbol.ReturnValue (x ∷ s) u ns2 next2
return_value_row x (plain f) (cons (plain is_mark) (cons (plain same) nil)) = let p = f refl in plain (λ m a1 z1. (tree.Return a1 (Some p.0), spells.return_value p.1))

pub return_value_sound : (ns next : List Name) (k : Kind) (a z : ℕ) → Sound ns next symbol.ReturnValue (token k a z) (choice.return_value (is_type ns k) k)
return_value_sound ns next (punct sign.Semicolon) a z = λ s u ns2 next2 all. return_nothing_row a z all
return_value_sound ns next k a z = then_sound ns next symbol.ReturnValue (symbol.Expression false wanted.Right) (token k a z) (choice.operand false wanted.Right (is_type ns k) k) (symbol.Semicolon ∷ symbol.End ends.ReturnValue ∷ []) (operand_sound ns next false wanted.Right k a z) refl (λ s m u ns1 next1 ns2 next2 first all. return_value_row (token k a z) first all)

else_row : {ns next ns2 next2 : List Name} {s u : List Lexeme} (a z : ℕ) → All ns next (symbol.Statement ∷ symbol.End ends.IfElse ∷ []) s u ns2 next2 → Means ns next symbol.Else (reserved word.Else a z ∷ s) u ns2 next2
else_row a z (cons (plain (h, d)) (cons (plain same) nil)) = plain (λ e g a1 z1 a2 z2 a3 z3 v v1 f i. (tree.IfElse a1 e g h, spells.if_else f i d))

pub else_sound : (ns next : List Name) (k : Kind) (a z : ℕ) → Sound ns next symbol.Else (token k a z) (choice.else_part k)
else_sound ns next (keyword word.Else) a z = λ s u ns2 next2 all. else_row a z all
else_sound ns next k a z = λ s. plain (λ e g a1 z1 a2 z2 a3 z3 v v1 f i. (tree.If a1 e g, spells.if_only f i))

local_item_row : {ns next ns1 next1 ns2 next2 : List Name} {s m u : List Lexeme} (x : Lexeme) → Means ns next (symbol.Words false seen.Nothing) (x ∷ s) m ns1 next1 → All ns1 next1 (local_rest (symbol.Items ∷ symbol.End ends.LocalItem ∷ [])) m u ns2 next2 → Means ns next symbol.Items (x ∷ s) u ns2 next2
local_item_row x (plain (ws, d)) (cons (plain (ats, g)) (cons (plain (is_name {n = n} {a = a1} h)) (cons (plain (dims, f)) (cons (plain same) (cons (plain i) (cons (plain j) (cons (plain same) (cons (plain (its, e)) (cons (plain same) nil))))))))) = let p = i (tree.Declare ats a1 n dims) _ (spells.declare g h f) in let q = j p.0 _ p.1 in plain (tree.LocalItem (tree.Locals ws q.0) its, spells.local_item (spells.locals d q.1) e)

statement_item_row : {ns next ns1 next1 ns2 next2 : List Name} {s m u : List Lexeme} (x : Lexeme) → Means ns next symbol.Statement (x ∷ s) m ns1 next1 → All ns1 next1 (symbol.Items ∷ symbol.End ends.StatementItem ∷ []) m u ns2 next2 → Means ns next symbol.Items (x ∷ s) u ns2 next2
statement_item_row x (plain (g, d)) (cons (plain (its, e)) (cons (plain same) nil)) = plain (tree.StatementItem g its, spells.statement_item (any d) e)

pub items_end_sound : (ns next : List Name) (k : Kind) (a z : ℕ) → Sound ns next symbol.Items (token k a z) (choice.items_end (is_type ns k) k)
items_end_sound ns next (punct sign.RightBrace) a z = λ s. plain (tree.NoItems, spells.no_items)
items_end_sound ns next (keyword word.Case) a z = λ s. plain (tree.NoItems, spells.no_items)
items_end_sound ns next (keyword word.Default) a z = λ s. plain (tree.NoItems, spells.no_items)
items_end_sound ns next k a z = then_sound ns next symbol.Items symbol.Statement (token k a z) (choice.statement (is_type ns k) k) (symbol.Items ∷ symbol.End ends.StatementItem ∷ []) (statement_sound ns next k a z) refl (λ s m u ns1 next1 ns2 next2 first all. statement_item_row (token k a z) first all)

pub items_sound : (ns next : List Name) (k : Kind) (a z : ℕ) → Sound ns next symbol.Items (token k a z) (choice.items (is_type ns k) k)
items_sound ns next k a z = if_sound ns next symbol.Items (token k a z) (choice.starts_type (is_type ns k) k) (choice.and_then (choice.words false seen.Nothing (is_type ns k) k) (local_rest (symbol.Items ∷ symbol.End ends.LocalItem ∷ []))) (choice.items_end (is_type ns k) k) (λ c. then_sound ns next symbol.Items (symbol.Words false seen.Nothing) (token k a z) (choice.words false seen.Nothing (is_type ns k) k) (local_rest (symbol.Items ∷ symbol.End ends.LocalItem ∷ [])) (words_sound ns next false seen.Nothing k a z) refl (λ s m u ns1 next1 ns2 next2 first all. local_item_row (token k a z) first all)) (λ c. items_end_sound ns next k a z)

init_row : {ns next ns2 next2 : List Name} {s u : List Lexeme} (a z : ℕ) → All ns next (symbol.Expression false wanted.Right ∷ symbol.End ends.Init ∷ []) s u ns2 next2 → Means ns next symbol.InitValue (mark sign.Equal a z ∷ s) u ns2 next2
init_row a z (cons (plain f) (cons (plain same) nil)) = plain (λ d v g. let p = f refl in (tree.Initialized d (Some p.0), spells.initialized g p.1))

pub init_value_sound : (ns next : List Name) (k : Kind) (a z : ℕ) → Sound ns next symbol.InitValue (token k a z) (choice.init_value k)
init_value_sound ns next (punct sign.Equal) a z = λ s u ns2 next2 all. init_row a z all
init_value_sound ns next k a z = λ s. plain (λ d v g. (tree.Initialized d None, spells.uninitialized g))

more_inits_row : {ns next ns2 next2 : List Name} {s u : List Lexeme} (a z : ℕ) → All ns next (declarator false (symbol.InitValue ∷ symbol.InitMore ∷ symbol.End ends.MoreInits ∷ [])) s u ns2 next2 → Means ns next symbol.InitMore (mark sign.Comma a z ∷ s) u ns2 next2
more_inits_row a z (cons (plain (ats, g)) (cons (plain (is_name {n = n} {a = a1} h)) (cons (plain (dims, f)) (cons (plain same) (cons (plain i) (cons (plain j) (cons (plain same) nil))))))) = plain (λ ini v d. let p = i (tree.Declare ats a1 n dims) _ (spells.declare g h f) in let q = j p.0 _ p.1 in (ini ∷ q.0, spells.more_inits d q.1))

last_init_row : {ns next ns2 next2 : List Name} {s u : List Lexeme} (a z : ℕ) → All ns next (symbol.End ends.LastInit ∷ []) s u ns2 next2 → Means ns next symbol.InitMore (mark sign.Semicolon a z ∷ s) u ns2 next2
last_init_row a z (cons (plain same) nil) = plain (λ ini v d. (ini ∷ [], spells.last_init d))

pub init_more_sound : (ns next : List Name) (k : Kind) (a z : ℕ) → Sound ns next symbol.InitMore (token k a z) (choice.init_more k)
init_more_sound ns next (punct sign.Comma) a z = λ s u ns2 next2 all. more_inits_row a z all
init_more_sound ns next (punct sign.Semicolon) a z = λ s u ns2 next2 all. last_init_row a z all
init_more_sound ns next k a z = tt

no_start_row : {ns next ns2 next2 : List Name} {s u : List Lexeme} (a z : ℕ) → All ns next (symbol.End ends.NoStart ∷ []) s u ns2 next2 → Means ns next symbol.ForStart (mark sign.Semicolon a z ∷ s) u ns2 next2
no_start_row a z (cons (plain same) nil) = plain (tree.NoStart, spells.no_start)

start_simple_row : {ns next ns1 next1 ns2 next2 : List Name} {s m u : List Lexeme} (x : Lexeme) → Means ns next (symbol.Expression false wanted.Place) (x ∷ s) m ns1 next1 → All ns1 next1 (symbol.Semicolon ∷ symbol.End ends.StartSimple ∷ []) m u ns2 next2 → Means ns next symbol.ForStart (x ∷ s) u ns2 next2
start_simple_row x (plain f) (cons (plain is_mark) (cons (plain same) nil)) = let p = f refl in plain (tree.StartSimple p.0, spells.start_simple p.1)

start_local_row : {ns next ns1 next1 ns2 next2 : List Name} {s m u : List Lexeme} (x : Lexeme) → Means ns next (symbol.Words false seen.Nothing) (x ∷ s) m ns1 next1 → All ns1 next1 (local_rest (symbol.End ends.StartLocal ∷ [])) m u ns2 next2 → Means ns next symbol.ForStart (x ∷ s) u ns2 next2
start_local_row x (plain (ws, d)) (cons (plain (ats, g)) (cons (plain (is_name {n = n} {a = a1} h)) (cons (plain (dims, f)) (cons (plain same) (cons (plain i) (cons (plain j) (cons (plain same) (cons (plain same) nil)))))))) = let p = i (tree.Declare ats a1 n dims) _ (spells.declare g h f) in let q = j p.0 _ p.1 in plain (tree.StartLocal (tree.Locals ws q.0), spells.start_local (spells.locals d q.1))

pub start_rest_sound : (ns next : List Name) (k : Kind) (a z : ℕ) → Sound ns next symbol.ForStart (token k a z) (choice.for_start_rest (is_type ns k) k)
start_rest_sound ns next (punct sign.Semicolon) a z = λ s u ns2 next2 all. no_start_row a z all
start_rest_sound ns next k a z = then_sound ns next symbol.ForStart (symbol.Expression false wanted.Place) (token k a z) (choice.simple (is_type ns k) k) (symbol.Semicolon ∷ symbol.End ends.StartSimple ∷ []) (simple_sound ns next k a z) refl (λ s m u ns1 next1 ns2 next2 first all. start_simple_row (token k a z) first all)

pub for_start_sound : (ns next : List Name) (k : Kind) (a z : ℕ) → Sound ns next symbol.ForStart (token k a z) (choice.for_start (is_type ns k) k)
for_start_sound ns next k a z = if_sound ns next symbol.ForStart (token k a z) (choice.starts_type (is_type ns k) k) (choice.and_then (choice.words false seen.Nothing (is_type ns k) k) (local_rest (symbol.End ends.StartLocal ∷ []))) (choice.for_start_rest (is_type ns k) k) (λ c. then_sound ns next symbol.ForStart (symbol.Words false seen.Nothing) (token k a z) (choice.words false seen.Nothing (is_type ns k) k) (local_rest (symbol.End ends.StartLocal ∷ [])) (words_sound ns next false seen.Nothing k a z) refl (λ s m u ns1 next1 ns2 next2 first all. start_local_row (token k a z) first all)) (λ c. start_rest_sound ns next k a z)

no_test_row : {ns next ns2 next2 : List Name} {s u : List Lexeme} (a z : ℕ) → All ns next (symbol.End ends.NoTest ∷ []) s u ns2 next2 → Means ns next symbol.ForTest (mark sign.Semicolon a z ∷ s) u ns2 next2
no_test_row a z (cons (plain same) nil) = plain (None, spells.no_test)

test_row : {ns next ns1 next1 ns2 next2 : List Name} {s m u : List Lexeme} (x : Lexeme) → Means ns next (expression false 0) (x ∷ s) m ns1 next1 → All ns1 next1 (symbol.Semicolon ∷ symbol.End ends.Test ∷ []) m u ns2 next2 → Means ns next symbol.ForTest (x ∷ s) u ns2 next2
test_row x (plain f) (cons (plain is_mark) (cons (plain same) nil)) = let p = f refl in plain (Some p.0, spells.some_test p.1)

pub for_test_sound : (ns next : List Name) (k : Kind) (a z : ℕ) → Sound ns next symbol.ForTest (token k a z) (choice.for_test (is_type ns k) k)
for_test_sound ns next (punct sign.Semicolon) a z = λ s u ns2 next2 all. no_test_row a z all
for_test_sound ns next k a z = then_sound ns next symbol.ForTest (expression false 0) (token k a z) (choice.operand false (wanted.Level 0) (is_type ns k) k) (symbol.Semicolon ∷ symbol.End ends.Test ∷ []) (operand_sound ns next false (wanted.Level 0) k a z) refl (λ s m u ns1 next1 ns2 next2 first all. test_row (token k a z) first all)

no_step_row : {ns next ns2 next2 : List Name} {s u : List Lexeme} (a z : ℕ) → All ns next (symbol.End ends.NoStep ∷ []) s u ns2 next2 → Means ns next symbol.ForStep (mark sign.RightParenthesis a z ∷ s) u ns2 next2
no_step_row a z (cons (plain same) nil) = plain (None, spells.no_step)

step_row : {ns next ns1 next1 ns2 next2 : List Name} {s m u : List Lexeme} (x : Lexeme) → Means ns next (symbol.Expression false wanted.Place) (x ∷ s) m ns1 next1 → All ns1 next1 (symbol.RightParenthesis ∷ symbol.End ends.Step ∷ []) m u ns2 next2 → Means ns next symbol.ForStep (x ∷ s) u ns2 next2
step_row x (plain f) (cons (plain is_mark) (cons (plain same) nil)) = let p = f refl in plain (Some p.0, spells.some_step p.1)

pub for_step_sound : (ns next : List Name) (k : Kind) (a z : ℕ) → Sound ns next symbol.ForStep (token k a z) (choice.for_step (is_type ns k) k)
for_step_sound ns next (punct sign.RightParenthesis) a z = λ s u ns2 next2 all. no_step_row a z all
for_step_sound ns next k a z = then_sound ns next symbol.ForStep (symbol.Expression false wanted.Place) (token k a z) (choice.simple (is_type ns k) k) (symbol.RightParenthesis ∷ symbol.End ends.Step ∷ []) (simple_sound ns next k a z) refl (λ s m u ns1 next1 ns2 next2 first all. step_row (token k a z) first all)

case_group_row : {ns next ns2 next2 : List Name} {s u : List Lexeme} (a z : ℕ) → All ns next (expression false 0 ∷ symbol.Colon ∷ symbol.End ends.Case ∷ symbol.Labels ∷ symbol.Statement ∷ symbol.Items ∷ symbol.Groups ∷ symbol.End ends.MoreGroups ∷ []) s u ns2 next2 → Means ns next symbol.Groups (reserved word.Case a z ∷ s) u ns2 next2
case_group_row a z (cons (plain f) (cons (plain is_mark) (cons (plain same) (cons (plain (las, d1)) (cons (plain (g, d2)) (cons (plain (its, d3)) (cons (plain (gs, d4)) (cons (plain same) nil)))))))) = let p = f refl in plain (tree.MoreGroups (tree.Case a p.0) las g its gs, spells.more_groups (spells.case p.1) d1 (any d2) d3 d4)

default_group_row : {ns next ns2 next2 : List Name} {s u : List Lexeme} (a z : ℕ) → All ns next (symbol.Colon ∷ symbol.End ends.Default ∷ symbol.Labels ∷ symbol.Statement ∷ symbol.Items ∷ symbol.Groups ∷ symbol.End ends.MoreGroups ∷ []) s u ns2 next2 → Means ns next symbol.Groups (reserved word.Default a z ∷ s) u ns2 next2
default_group_row a z (cons (plain is_mark) (cons (plain same) (cons (plain (las, d1)) (cons (plain (g, d2)) (cons (plain (its, d3)) (cons (plain (gs, d4)) (cons (plain same) nil))))))) = plain (tree.MoreGroups (tree.Default a) las g its gs, spells.more_groups spells.default d1 (any d2) d3 d4)

pub groups_sound : (ns next : List Name) (k : Kind) (a z : ℕ) → Sound ns next symbol.Groups (token k a z) (choice.groups k)
groups_sound ns next (keyword word.Case) a z = λ s u ns2 next2 all. case_group_row a z all
groups_sound ns next (keyword word.Default) a z = λ s u ns2 next2 all. default_group_row a z all
groups_sound ns next k a z = λ s. plain (tree.NoGroups, spells.no_groups)

case_label_row : {ns next ns2 next2 : List Name} {s u : List Lexeme} (a z : ℕ) → All ns next (expression false 0 ∷ symbol.Colon ∷ symbol.End ends.Case ∷ symbol.Labels ∷ symbol.End ends.MoreLabels ∷ []) s u ns2 next2 → Means ns next symbol.Labels (reserved word.Case a z ∷ s) u ns2 next2
case_label_row a z (cons (plain f) (cons (plain is_mark) (cons (plain same) (cons (plain (las, d)) (cons (plain same) nil))))) = let p = f refl in plain (tree.Case a p.0 ∷ las, spells.more_labels (spells.case p.1) d)

default_label_row : {ns next ns2 next2 : List Name} {s u : List Lexeme} (a z : ℕ) → All ns next (symbol.Colon ∷ symbol.End ends.Default ∷ symbol.Labels ∷ symbol.End ends.MoreLabels ∷ []) s u ns2 next2 → Means ns next symbol.Labels (reserved word.Default a z ∷ s) u ns2 next2
default_label_row a z (cons (plain is_mark) (cons (plain same) (cons (plain (las, d)) (cons (plain same) nil)))) = plain (tree.Default a ∷ las, spells.more_labels spells.default d)

pub labels_sound : (ns next : List Name) (k : Kind) (a z : ℕ) → Sound ns next symbol.Labels (token k a z) (choice.labels k)
labels_sound ns next (keyword word.Case) a z = λ s u ns2 next2 all. case_label_row a z all
labels_sound ns next (keyword word.Default) a z = λ s u ns2 next2 all. default_label_row a z all
labels_sound ns next k a z = λ s. plain ([], spells.no_labels)
