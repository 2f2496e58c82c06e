-- Which productions end where a symbol goes away, or takes a token, is what the script says of it.
use Rattle.std.proofs.Common.{ℕ, ◌≡◌, Bool, true, false, List, [], ◌∷◌, ◌++◌, Option, Some, None, nat_le, ◌==◌, ◌&&◌, if◌then◌else◌, refl}
use Rattle.c_lex.specs.declared.token.Keyword.{Keyword}
use Rattle.c_lex.specs.declared.token.Keyword.TheVariants as word
use Rattle.c_lex.specs.declared.token.Punct.TheVariants as sign
use Rattle.c_lex.specs.Lexeme.{Kind, name, keyword, punct, character, number}
use Rattle.c_grammar.specs.declared.operator.BinaryOperator.{BinaryOperator}
use Rattle.c_grammar.specs.declared.operator.BinaryOperator.TheVariants as binary
use Rattle.c_grammar.specs.declared.operator.UnaryOperator.{UnaryOperator}
use Rattle.c_grammar.specs.declared.operator.UnaryOperator.TheVariants as unary
use Rattle.c_grammar.specs.declared.symbol.Seen.{Seen}
use Rattle.c_grammar.specs.declared.symbol.Seen.TheVariants as seen
use Rattle.c_grammar.specs.declared.symbol.Wanted.{Wanted}
use Rattle.c_grammar.specs.declared.symbol.Wanted.TheVariants as wanted
use Rattle.c_grammar.specs.declared.symbol.Production.{Production}
use Rattle.c_grammar.specs.declared.symbol.Production.TheVariants as ends
use Rattle.c_grammar.specs.declared.symbol.Symbol.{Symbol}
use Rattle.c_grammar.specs.declared.symbol.Symbol.TheVariants as symbol
use Rattle.c_grammar.specs.Operators.{level, add, complete}
use Rattle.c_grammar.specs.CodeChoice as choice
use Rattle.c_grammar.specs.CodeChoice.{Choice, Refuse, Pass, Take, choice_of, take, and_then, only_if, least, may_open_type, starts_type}
use Rattle.c_grammar.specs.CodeWritten.{ended_by, ended_before}

abbrev pub listed : Option Production → List Production
listed None = []
listed (Some p) = p ∷ []

-- a choice ends these where it passes, and those before a token that it takes
abbrev pub Ends : Option Production → List Production → Choice → Type 0
Ends p ps Refuse = Unit {0}
Ends p ps (Pass before) = before ≡ listed p
Ends p ps (Take before more) = before ≡ ps

either : (p : Option Production) (ps : List Production) (b : Bool) (c d : Choice) → Ends p ps c → Ends p ps d → Ends p ps (if b then c else d)
either p ps true c d x y = x
either p ps false c d x y = y

maybe : (p : Option Production) (ps : List Production) (b : Bool) (c : Choice) → Ends p ps c → Ends p ps (only_if b c)
maybe p ps true c x = x
maybe p ps false c x = tt

-- what passes here is refused with more behind it
more_ends : (p q : Option Production) (ps : List Production) (c : Choice) (more : List Symbol) → Ends p ps c → Ends q ps (and_then c more)
more_ends p q ps Refuse more x = tt
more_ends p q ps (Pass before) more x = tt
more_ends p q ps (Take before next) more x = x

-- Words of a type.

first_ends : (p : Option Production) (q : Seen) (c : Choice) → Ends p [] c → Ends p [] (choice.first_word q c)
first_ends p seen.Nothing c x = x
first_ends p q c x = tt

pass_words_end : (q : Seen) → Ends (Some ends.NoWords) [] (choice.pass_words q)
pass_words_end q = either (Some ends.NoWords) [] (complete q) (Pass (ends.NoWords ∷ [])) Refuse refl tt

tag_ends : (b : Bool) (q : Seen) (k : Keyword) → Ends (Some ends.NoWords) [] (choice.tag_word b q k)
tag_ends b q word.Struct = first_ends (Some ends.NoWords) q (take (symbol.StructTag b ∷ choice.whole b)) refl
tag_ends b q word.Enum = first_ends (Some ends.NoWords) q (take (symbol.EnumTag b ∷ choice.whole b)) refl
tag_ends b q k = pass_words_end q

word_ends : (b : Bool) (q : Seen) (k : Keyword) (o : Option Seen) → Ends (Some ends.NoWords) [] (choice.word_choice b q k o)
word_ends b q k (Some more) = refl
word_ends b q k None = tag_ends b q k

words_end : (b : Bool) (q : Seen) (y : Bool) (k : Kind) → Ends (Some ends.NoWords) [] (choice.words b q y k)
words_end b q y (keyword k) = word_ends b q k (add q k)
words_end b q true (name n) = first_ends (Some ends.NoWords) q (take (choice.end ends.Named ∷ choice.whole b)) refl
words_end b q y k = pass_words_end q

-- an item that begins with words
specified : (p : Option Production) (b : Bool) (y : Bool) (k : Kind) (more : List Symbol) → Ends p [] (and_then (choice.words b seen.Nothing y k) more)
specified p b y k more = more_ends (Some ends.NoWords) p [] (choice.words b seen.Nothing y k) more (words_end b seen.Nothing y k)

-- Expressions.

unary_ends : (p : Option Production) (b : Bool) (w : Wanted) (op : UnaryOperator) → Ends p [] (choice.unary_choice b w op)
unary_ends p b w op = maybe p [] (nat_le (least w) 12) (take (choice.expression b 11 ∷ choice.end (ends.Unary op) ∷ symbol.Tail b w 12 ∷ [])) refl

operand_ends : (p : Option Production) (b : Bool) (w : Wanted) (y : Bool) (k : Kind) → Ends p [] (choice.operand b w y k)
operand_ends p b w y (name n) = either p [] y Refuse (take (choice.end ends.Name ∷ symbol.Tail b w 15 ∷ [])) tt refl
operand_ends p b w y (number value decimal unsigned longs) = refl
operand_ends p b w y (character value) = refl
operand_ends p b w y (punct sign.LeftParenthesis) = refl
operand_ends p b w y (punct sign.Minus) = unary_ends p b w unary.Negate
operand_ends p b w y (punct sign.Plus) = unary_ends p b w unary.Plus
operand_ends p b w y (punct sign.Tilde) = unary_ends p b w unary.Complement
operand_ends p b w y (punct sign.Exclamation) = unary_ends p b w unary.Not
operand_ends p b w y (punct sign.Star) = unary_ends p b w unary.Dereference
operand_ends p b w y (punct sign.Ampersand) = unary_ends p b w unary.Address
operand_ends p b w y (keyword word.Sizeof) = maybe p [] (nat_le (least w) 12) (take (symbol.Expression b wanted.Sized ∷ symbol.Tail b w 12 ∷ [])) refl
operand_ends p b w y k = tt

begun : (p : Option Production) (b : Bool) (w : Wanted) (y : Bool) (k : Kind) (more : List Symbol) → Ends p [] (and_then (choice.operand b w y k) more)
begun p b w y k more = more_ends p p [] (choice.operand b w y k) more (operand_ends p b w y k)

opened_ends : (b : Bool) (w : Wanted) (y : Bool) (k : Kind) → Ends None [] (choice.opened b w y k)
opened_ends b w y k = either None [] (starts_type y k) (choice.open_type b w y k) (choice.open_value b w y k) (maybe None [] (may_open_type w) (and_then (choice.words b seen.Nothing y k) (symbol.Stars false ∷ choice.end ends.TypeName ∷ symbol.RightParenthesis ∷ choice.open_rest b w)) (specified None b y k (symbol.Stars false ∷ choice.end ends.TypeName ∷ symbol.RightParenthesis ∷ choice.open_rest b w))) (begun None b (wanted.Level 0) y k (symbol.RightParenthesis ∷ choice.end ends.Parenthesis ∷ symbol.Tail b w 14 ∷ []))

update_ends : (b : Bool) (r : ℕ) (op : BinaryOperator) → Ends None [] (choice.update_choice b r op)
update_ends b r op = maybe None [] (nat_le 12 r) (take (choice.expression b 0 ∷ choice.end (ends.Update op) ∷ [])) refl

tail_end_ends : (b : Bool) (w : Wanted) (r : ℕ) (k : Kind) → Ends (ended_by (symbol.Tail b w r)) [] (choice.tail_end b w r k)
tail_end_ends b wanted.Right r (punct sign.LeftParenthesis) = either (Some ends.Value) [] (r == 15) (take (symbol.Arguments b ∷ choice.end ends.Call ∷ choice.end ends.CallValue ∷ [])) Refuse refl tt
tail_end_ends b wanted.Place r (punct sign.LeftParenthesis) = maybe None [] (r == 15) (take (symbol.Arguments b ∷ choice.end ends.Call ∷ choice.end ends.Invoke ∷ [])) refl
tail_end_ends b wanted.Place r (punct sign.PlusPlus) = maybe None [] (nat_le 13 r) (take _) refl
tail_end_ends b wanted.Place r (punct sign.MinusMinus) = maybe None [] (nat_le 13 r) (take _) refl
tail_end_ends b wanted.Place r (punct sign.Equal) = maybe None [] (nat_le 12 r) (take _) refl
tail_end_ends b wanted.Place r (punct sign.StarEqual) = update_ends b r binary.Multiply
tail_end_ends b wanted.Place r (punct sign.SlashEqual) = update_ends b r binary.Divide
tail_end_ends b wanted.Place r (punct sign.PercentEqual) = update_ends b r binary.Remainder
tail_end_ends b wanted.Place r (punct sign.PlusEqual) = update_ends b r binary.Add
tail_end_ends b wanted.Place r (punct sign.MinusEqual) = update_ends b r binary.Subtract
tail_end_ends b wanted.Place r (punct sign.LessLessEqual) = update_ends b r binary.ShiftLeft
tail_end_ends b wanted.Place r (punct sign.GreaterGreaterEqual) = update_ends b r binary.ShiftRight
tail_end_ends b wanted.Place r (punct sign.AmpersandEqual) = update_ends b r binary.And
tail_end_ends b wanted.Place r (punct sign.CaretEqual) = update_ends b r binary.ExclusiveOr
tail_end_ends b wanted.Place r (punct sign.BarEqual) = update_ends b r binary.Or
tail_end_ends b wanted.Place r k = tt
tail_end_ends _ _ _ _ = refl

binary_ends : (b : Bool) (w : Wanted) (r : ℕ) (op : BinaryOperator) (k : Kind) → Ends (ended_by (symbol.Tail b w r)) [] (choice.binary_choice b w r op k)
binary_ends b w r op k = either (ended_by (symbol.Tail b w r)) [] (nat_le (least w) (level op) && nat_le (level op) r) (take _) (choice.tail_end b w r k) refl (tail_end_ends b w r k)

suffix_ends : (b : Bool) (w : Wanted) (r : ℕ) (next : List Symbol) (k : Kind) → Ends (ended_by (symbol.Tail b w r)) [] (choice.suffix_choice b w r next k)
suffix_ends b w r next k = either (ended_by (symbol.Tail b w r)) [] (nat_le 13 r) (take (next ++ symbol.Tail b w 13 ∷ [])) (choice.tail_end b w r k) refl (tail_end_ends b w r k)

question_ends : (b : Bool) (w : Wanted) (r : ℕ) (k : Kind) → Ends (ended_by (symbol.Tail b w r)) [] (choice.question_choice b w r k)
question_ends b w r k = either (ended_by (symbol.Tail b w r)) [] (nat_le (least w) 0 && nat_le 1 r) (take _) (choice.tail_end b w r k) refl (tail_end_ends b w r k)

tail_ends : (b : Bool) (w : Wanted) (r : ℕ) (k : Kind) → Ends (ended_by (symbol.Tail b w r)) [] (choice.tail b w r k)
tail_ends b w r (punct sign.LeftBracket) = suffix_ends b w r (choice.expression b 0 ∷ symbol.RightBracket ∷ choice.end ends.Index ∷ []) (punct sign.LeftBracket)
tail_ends b w r (punct sign.Dot) = suffix_ends b w r (symbol.Identifier ∷ choice.end ends.Member ∷ []) (punct sign.Dot)
tail_ends b w r (punct sign.Arrow) = suffix_ends b w r (symbol.Identifier ∷ choice.end ends.PointerMember ∷ []) (punct sign.Arrow)
tail_ends b w r (punct sign.Question) = question_ends b w r (punct sign.Question)
tail_ends b w r (punct sign.Star) = binary_ends b w r binary.Multiply (punct sign.Star)
tail_ends b w r (punct sign.Slash) = binary_ends b w r binary.Divide (punct sign.Slash)
tail_ends b w r (punct sign.Percent) = binary_ends b w r binary.Remainder (punct sign.Percent)
tail_ends b w r (punct sign.Plus) = binary_ends b w r binary.Add (punct sign.Plus)
tail_ends b w r (punct sign.Minus) = binary_ends b w r binary.Subtract (punct sign.Minus)
tail_ends b w r (punct sign.LessLess) = binary_ends b w r binary.ShiftLeft (punct sign.LessLess)
tail_ends b w r (punct sign.GreaterGreater) = binary_ends b w r binary.ShiftRight (punct sign.GreaterGreater)
tail_ends b w r (punct sign.Ampersand) = binary_ends b w r binary.And (punct sign.Ampersand)
tail_ends b w r (punct sign.Caret) = binary_ends b w r binary.ExclusiveOr (punct sign.Caret)
tail_ends b w r (punct sign.Bar) = binary_ends b w r binary.Or (punct sign.Bar)
tail_ends b w r (punct sign.Less) = binary_ends b w r binary.Less (punct sign.Less)
tail_ends b w r (punct sign.Greater) = binary_ends b w r binary.Greater (punct sign.Greater)
tail_ends b w r (punct sign.LessEqual) = binary_ends b w r binary.LessEqual (punct sign.LessEqual)
tail_ends b w r (punct sign.GreaterEqual) = binary_ends b w r binary.GreaterEqual (punct sign.GreaterEqual)
tail_ends b w r (punct sign.EqualEqual) = binary_ends b w r binary.Equal (punct sign.EqualEqual)
tail_ends b w r (punct sign.ExclamationEqual) = binary_ends b w r binary.NotEqual (punct sign.ExclamationEqual)
tail_ends b w r (punct sign.AmpersandAmpersand) = binary_ends b w r binary.LogicalAnd (punct sign.AmpersandAmpersand)
tail_ends b w r (punct sign.BarBar) = binary_ends b w r binary.LogicalOr (punct sign.BarBar)
tail_ends b w r k = tail_end_ends b w r k

arguments_end : (b y : Bool) (k : Kind) → Ends None [] (choice.arguments b y k)
arguments_end b y (punct sign.RightParenthesis) = refl
arguments_end b y k = begun None b (wanted.Level 0) y k (symbol.ArgumentsMore b ∷ [])

arguments_more_end : (b : Bool) (k : Kind) → Ends None [] (choice.arguments_more b k)
arguments_more_end b (punct sign.RightParenthesis) = refl
arguments_more_end b (punct sign.Comma) = refl
arguments_more_end b k = tt

-- Structs, enums and declarators.

struct_tag_ends : (b y : Bool) (k : Kind) → Ends None [] (choice.struct_tag b y k)
struct_tag_ends b y (name n) = either None [] y Refuse (take (symbol.StructBody b ∷ [])) tt refl
struct_tag_ends b y (punct sign.LeftBrace) = maybe None [] b (take _) refl
struct_tag_ends b y k = tt

struct_body_ends : (b : Bool) (k : Kind) → Ends (Some ends.StructTag) [] (choice.struct_body b k)
struct_body_ends b (punct sign.LeftBrace) = either (Some ends.StructTag) [] b (take _) (Pass (ends.StructTag ∷ [])) refl refl
struct_body_ends b k = refl

members_more_end : (y : Bool) (k : Kind) → Ends None [] (choice.members_more y k)
members_more_end y (punct sign.RightBrace) = refl
members_more_end y k = specified None false y k (choice.declarator false (symbol.DeclaratorsMore ∷ symbol.MembersMore ∷ choice.end ends.MoreMembers ∷ []))

declarators_more_end : (k : Kind) → Ends None [] (choice.declarators_more k)
declarators_more_end (punct sign.Comma) = refl
declarators_more_end (punct sign.Semicolon) = refl
declarators_more_end k = tt

stars_end : (f : Bool) (k : Kind) → Ends (Some ends.NoStars) [] (choice.stars f k)
stars_end f (punct sign.Star) = refl
stars_end f (keyword word.Const) = either (Some ends.NoStars) [] f (take _) (Pass (ends.NoStars ∷ [])) refl refl
stars_end f k = refl

dimensions_end : (b : Bool) (k : Kind) → Ends (Some ends.NoDimensions) [] (choice.dimensions b k)
dimensions_end b (punct sign.LeftBracket) = refl
dimensions_end b k = refl

enum_tag_ends : (b y : Bool) (k : Kind) → Ends None [] (choice.enum_tag b y k)
enum_tag_ends b y (name n) = either None [] y Refuse (take (symbol.EnumBody b ∷ [])) tt refl
enum_tag_ends b y (punct sign.LeftBrace) = maybe None [] b (take _) refl
enum_tag_ends b y k = tt

enum_body_ends : (b : Bool) (k : Kind) → Ends (Some ends.EnumTag) [] (choice.enum_body b k)
enum_body_ends b (punct sign.LeftBrace) = either (Some ends.EnumTag) [] b (take _) (Pass (ends.EnumTag ∷ [])) refl refl
enum_body_ends b k = refl

enumerators_end : (y : Bool) (k : Kind) → Ends None [] (choice.enumerators y k)
enumerators_end y (name n) = either None [] y Refuse (take (symbol.EnumValue ∷ symbol.EnumMore ∷ [])) tt refl
enumerators_end y k = tt

enum_value_ends : (k : Kind) → Ends (Some ends.Implicit) [] (choice.enum_value k)
enum_value_ends (punct sign.Equal) = refl
enum_value_ends k = refl

enum_more_ends : (k : Kind) → Ends None [] (choice.enum_more k)
enum_more_ends (punct sign.Comma) = refl
enum_more_ends (punct sign.RightBrace) = refl
enum_more_ends k = tt

enum_next_ends : (y : Bool) (k : Kind) → Ends None [] (choice.enum_next y k)
enum_next_ends y (name n) = either None [] y Refuse (take _) tt refl
enum_next_ends y (punct sign.RightBrace) = refl
enum_next_ends y k = tt

-- Statements.

simple_ends : (p : Option Production) (y : Bool) (k : Kind) → Ends p [] (choice.simple y k)
simple_ends p y (punct sign.PlusPlus) = refl
simple_ends p y (punct sign.MinusMinus) = refl
simple_ends p y k = operand_ends p false wanted.Place y k

statement_ends : (p : Option Production) (y : Bool) (k : Kind) → Ends p [] (choice.statement y k)
statement_ends p y (punct sign.Semicolon) = refl
statement_ends p y (punct sign.LeftBrace) = refl
statement_ends p y (keyword word.Break) = refl
statement_ends p y (keyword word.Continue) = refl
statement_ends p y (keyword word.Return) = refl
statement_ends p y (keyword word.If) = refl
statement_ends p y (keyword word.While) = refl
statement_ends p y (keyword word.For) = refl
statement_ends p y (keyword word.Do) = refl
statement_ends p y (keyword word.Switch) = refl
statement_ends p y k = more_ends p p [] (choice.simple y k) (symbol.Semicolon ∷ choice.end ends.Simple ∷ []) (simple_ends p y k)

return_value_ends : (y : Bool) (k : Kind) → Ends None [] (choice.return_value y k)
return_value_ends y (punct sign.Semicolon) = refl
return_value_ends y k = begun None false wanted.Right y k (symbol.Semicolon ∷ choice.end ends.ReturnValue ∷ [])

else_ends : (k : Kind) → Ends (Some ends.If) [] (choice.else_part k)
else_ends (keyword word.Else) = refl
else_ends k = refl

items_end_ends : (y : Bool) (k : Kind) → Ends (Some ends.NoItems) [] (choice.items_end y k)
items_end_ends y (punct sign.RightBrace) = refl
items_end_ends y (keyword word.Case) = refl
items_end_ends y (keyword word.Default) = refl
items_end_ends y k = more_ends (Some ends.NoItems) (Some ends.NoItems) [] (choice.statement y k) (symbol.Items ∷ choice.end ends.StatementItem ∷ []) (statement_ends (Some ends.NoItems) y k)

items_end : (y : Bool) (k : Kind) → Ends (Some ends.NoItems) [] (choice.items y k)
items_end y k = either (Some ends.NoItems) [] (starts_type y k) (and_then (choice.words false seen.Nothing y k) (choice.local_rest (symbol.Items ∷ choice.end ends.LocalItem ∷ []))) (choice.items_end y k) (specified (Some ends.NoItems) false y k (choice.local_rest (symbol.Items ∷ choice.end ends.LocalItem ∷ []))) (items_end_ends y k)

init_value_ends : (k : Kind) → Ends (Some ends.NoInit) [] (choice.init_value k)
init_value_ends (punct sign.Equal) = refl
init_value_ends k = refl

init_more_ends : (k : Kind) → Ends None [] (choice.init_more k)
init_more_ends (punct sign.Comma) = refl
init_more_ends (punct sign.Semicolon) = refl
init_more_ends k = tt

for_start_rest_ends : (y : Bool) (k : Kind) → Ends None [] (choice.for_start_rest y k)
for_start_rest_ends y (punct sign.Semicolon) = refl
for_start_rest_ends y k = more_ends None None [] (choice.simple y k) (symbol.Semicolon ∷ choice.end ends.StartSimple ∷ []) (simple_ends None y k)

for_start_ends : (y : Bool) (k : Kind) → Ends None [] (choice.for_start y k)
for_start_ends y k = either None [] (starts_type y k) (and_then (choice.words false seen.Nothing y k) (choice.local_rest (choice.end ends.StartLocal ∷ []))) (choice.for_start_rest y k) (specified None false y k (choice.local_rest (choice.end ends.StartLocal ∷ []))) (for_start_rest_ends y k)

for_test_ends : (y : Bool) (k : Kind) → Ends None [] (choice.for_test y k)
for_test_ends y (punct sign.Semicolon) = refl
for_test_ends y k = begun None false (wanted.Level 0) y k (symbol.Semicolon ∷ choice.end ends.Test ∷ [])

for_step_ends : (y : Bool) (k : Kind) → Ends None [] (choice.for_step y k)
for_step_ends y (punct sign.RightParenthesis) = refl
for_step_ends y k = more_ends None None [] (choice.simple y k) (symbol.RightParenthesis ∷ choice.end ends.Step ∷ []) (simple_ends None y k)

label_ends : (p : Production) (more : List Symbol) (k : Kind) → Ends (Some p) [] (choice.label more (Pass (p ∷ [])) k)
label_ends p more (keyword word.Case) = refl
label_ends _ _ _ = refl

-- Externals.

externals_end : (y : Bool) (k : Kind) → Ends None [] (choice.externals y k)
externals_end y (keyword word.Typedef) = refl
externals_end y k = specified None true y k (symbol.Tops false ∷ symbol.Made false ∷ symbol.Externals ∷ choice.end ends.MoreExternals ∷ [])

tops_end : (f y : Bool) (k : Kind) → Ends None (ended_before (symbol.Tops f) k) (choice.tops f y k)
tops_end f y (punct sign.Semicolon) = refl
tops_end f y (punct sign.Star) = refl
tops_end f y (name n) = either None (ends.NoStars ∷ []) y Refuse (Take (ends.NoStars ∷ []) (symbol.Dimensions true ∷ choice.end ends.Declarator ∷ choice.first_top f)) tt refl
tops_end f y k = tt

top_parameters_end : (k : Kind) → Ends (Some ends.NoParameters) [] (choice.top_parameters k)
top_parameters_end (punct sign.LeftParenthesis) = refl
top_parameters_end k = refl

top_value_ends : (k : Kind) → Ends (Some ends.NoValue) [] (choice.top_value k)
top_value_ends (punct sign.Equal) = refl
top_value_ends k = refl

top_more_ends : (k : Kind) → Ends None [] (choice.top_more k)
top_more_ends (punct sign.Comma) = refl
top_more_ends (punct sign.Semicolon) = refl
top_more_ends k = tt

first_parameters_end : (k : Kind) → Ends None (ended_before symbol.FirstParameters k) (choice.first_parameters k)
first_parameters_end (punct sign.LeftParenthesis) = refl
first_parameters_end (punct sign.Equal) = refl
first_parameters_end (punct sign.Comma) = refl
first_parameters_end (punct sign.Semicolon) = refl
first_parameters_end k = tt

first_rest_ends : (k : Kind) → Ends None (ended_before symbol.FirstRest k) (choice.first_rest k)
first_rest_ends (punct sign.LeftBrace) = refl
first_rest_ends (punct sign.Equal) = refl
first_rest_ends (punct sign.Comma) = refl
first_rest_ends (punct sign.Semicolon) = refl
first_rest_ends k = tt

parameters_end : (y : Bool) (k : Kind) → Ends None [] (choice.parameters y k)
parameters_end y (punct sign.RightParenthesis) = refl
parameters_end y k = specified None false y k (choice.parameter_rest [])

parameters_more_end : (k : Kind) → Ends None [] (choice.parameters_more k)
parameters_more_end (punct sign.Comma) = refl
parameters_more_end (punct sign.RightParenthesis) = refl
parameters_more_end k = tt

parameter_name_ends : (y : Bool) (k : Kind) → Ends (Some ends.NoParameterName) [] (choice.parameter_name y k)
parameter_name_ends y (name n) = either (Some ends.NoParameterName) [] y (Pass (ends.NoParameterName ∷ [])) (take (choice.end ends.ParameterName ∷ [])) refl refl
parameter_name_ends y k = refl

parameter_bracket_ends : (k : Kind) → Ends (Some ends.NoBracket) [] (choice.parameter_bracket k)
parameter_bracket_ends (punct sign.LeftBracket) = refl
parameter_bracket_ends k = refl

bracket_rest_ends : (y : Bool) (k : Kind) → Ends None [] (choice.bracket_rest y k)
bracket_rest_ends y (punct sign.RightBracket) = refl
bracket_rest_ends y k = begun None false (wanted.Level 0) y k (symbol.RightBracket ∷ choice.end ends.SizedBracket ∷ [])

-- Tokens that are expected as they are.

left_parenthesis_ends : (k : Kind) → Ends None [] (choice.left_parenthesis k)
left_parenthesis_ends (punct sign.LeftParenthesis) = refl
left_parenthesis_ends k = tt

right_parenthesis_ends : (k : Kind) → Ends None [] (choice.right_parenthesis k)
right_parenthesis_ends (punct sign.RightParenthesis) = refl
right_parenthesis_ends k = tt

right_bracket_ends : (k : Kind) → Ends None [] (choice.right_bracket k)
right_bracket_ends (punct sign.RightBracket) = refl
right_bracket_ends k = tt

left_brace_ends : (k : Kind) → Ends None [] (choice.left_brace k)
left_brace_ends (punct sign.LeftBrace) = refl
left_brace_ends k = tt

right_brace_ends : (k : Kind) → Ends None [] (choice.right_brace k)
right_brace_ends (punct sign.RightBrace) = refl
right_brace_ends k = tt

semicolon_ends : (k : Kind) → Ends None [] (choice.semicolon k)
semicolon_ends (punct sign.Semicolon) = refl
semicolon_ends k = tt

colon_ends : (k : Kind) → Ends None [] (choice.colon k)
colon_ends (punct sign.Colon) = refl
colon_ends k = tt

while_ends : (k : Kind) → Ends None [] (choice.while_word k)
while_ends (keyword word.While) = refl
while_ends k = tt

identifier_ends : (y : Bool) (k : Kind) → Ends None [] (choice.identifier y k)
identifier_ends y (name n) = either None [] y Refuse (take []) tt refl
identifier_ends y k = tt

-- every symbol
pub told : (s : Symbol) (y : Bool) (k : Kind) → Ends (ended_by s) (ended_before s k) (choice_of s y k)
unfolding choice_of
told symbol.LeftParenthesis y k = left_parenthesis_ends k
told symbol.RightParenthesis y k = right_parenthesis_ends k
told symbol.RightBracket y k = right_bracket_ends k
told symbol.LeftBrace y k = left_brace_ends k
told symbol.RightBrace y k = right_brace_ends k
told symbol.Semicolon y k = semicolon_ends k
told symbol.Colon y k = colon_ends k
told symbol.While y k = while_ends k
told symbol.Identifier y k = identifier_ends y k
told symbol.NewName y k = identifier_ends y k
told (symbol.Expression b w) y k = operand_ends None b w y k
told (symbol.Open b w) y k = opened_ends b w y k
told (symbol.Tail b w r) y k = tail_ends b w r k
told (symbol.Arguments b) y k = arguments_end b y k
told (symbol.ArgumentsMore b) y k = arguments_more_end b k
told (symbol.Words b q) y k = words_end b q y k
told (symbol.StructTag b) y k = struct_tag_ends b y k
told (symbol.StructBody b) y k = struct_body_ends b k
told symbol.Members y k = specified None false y k (choice.declarator false (symbol.DeclaratorsMore ∷ symbol.MembersMore ∷ []))
told symbol.MembersMore y k = members_more_end y k
told symbol.DeclaratorsMore y k = declarators_more_end k
told (symbol.Stars f) y k = stars_end f k
told (symbol.Dimensions b) y k = dimensions_end b k
told (symbol.EnumTag b) y k = enum_tag_ends b y k
told (symbol.EnumBody b) y k = enum_body_ends b k
told symbol.Enumerators y k = enumerators_end y k
told symbol.EnumValue y k = enum_value_ends k
told symbol.EnumMore y k = enum_more_ends k
told symbol.EnumNext y k = enum_next_ends y k
told symbol.Statement y k = statement_ends None y k
told symbol.ReturnValue y k = return_value_ends y k
told symbol.Else y k = else_ends k
told symbol.Items y k = items_end y k
told symbol.InitValue y k = init_value_ends k
told symbol.InitMore y k = init_more_ends k
told symbol.ForStart y k = for_start_ends y k
told symbol.ForTest y k = for_test_ends y k
told symbol.ForStep y k = for_step_ends y k
told symbol.Groups y k = label_ends ends.NoGroups (symbol.Labels ∷ symbol.Statement ∷ symbol.Items ∷ symbol.Groups ∷ choice.end ends.MoreGroups ∷ []) k
told symbol.Labels y k = label_ends ends.NoLabels (symbol.Labels ∷ choice.end ends.MoreLabels ∷ []) k
told symbol.Externals y k = externals_end y k
told (symbol.Tops f) y k = tops_end f y k
told symbol.TopParameters y k = top_parameters_end k
told symbol.TopValue y k = top_value_ends k
told symbol.TopMore y k = top_more_ends k
told symbol.FirstParameters y k = first_parameters_end k
told symbol.FirstRest y k = first_rest_ends k
told symbol.Parameters y k = parameters_end y k
told symbol.ParametersMore y k = parameters_more_end k
told symbol.ParameterName y k = parameter_name_ends y k
told symbol.ParameterBracket y k = parameter_bracket_ends k
told symbol.BracketRest y k = bracket_rest_ends y k
told (symbol.Made f) y k = refl
told (symbol.End p) y k = refl
