-- What the parser does at a token with the symbol on top of its stack: it takes the token and expects symbols in the
-- place of that symbol, or takes the symbol away, or refuses. Productions that end before the token are told first.
use Rattle.std.specs.Prelude.{ℕ, Bool, true, false, ◌&&◌, nat_le, ◌==◌, List, [], ◌∷◌, ◌++◌, Option, Some, None, suc, if◌then◌else◌}
use Rattle.c_lex.specs.declared.token.Keyword.{Keyword}
use Rattle.c_lex.specs.declared.token.Keyword.TheVariants as word
use Rattle.c_lex.specs.declared.token.Punct.TheVariants as sign
use Rattle.c_lex.specs.Lexeme.{Kind, name, keyword, punct, character, number}
use Rattle.c_grammar.specs.declared.operator.UnaryOperator.{UnaryOperator}
use Rattle.c_grammar.specs.declared.operator.UnaryOperator.TheVariants as unary
use Rattle.c_grammar.specs.declared.operator.BinaryOperator.{BinaryOperator}
use Rattle.c_grammar.specs.declared.operator.BinaryOperator.TheVariants as binary
use Rattle.c_grammar.specs.declared.operator.StepOperator.TheVariants as step
use Rattle.c_grammar.specs.declared.symbol.Seen.{Seen}
use Rattle.c_grammar.specs.declared.symbol.Seen.TheVariants as seen
use Rattle.c_grammar.specs.declared.symbol.Wanted.{Wanted}
use Rattle.c_grammar.specs.declared.symbol.Wanted.TheVariants as wanted
use Rattle.c_grammar.specs.declared.symbol.Production.{Production}
use Rattle.c_grammar.specs.declared.symbol.Production.TheVariants as ends
use Rattle.c_grammar.specs.declared.symbol.Symbol.{Symbol}
use Rattle.c_grammar.specs.declared.symbol.Symbol.TheVariants as symbol
use Rattle.c_grammar.specs.Operators.{level, add, complete}

pub data Choice : Type 0 where
  Refuse : Choice
  -- the symbol is complete: these productions end
  Pass : List Production → Choice
  -- the token is taken: these productions end before it, and these symbols come next
  Take : List Production → List Symbol → Choice

abbrev pub take : List Symbol → Choice
take next = Take [] next

-- the same, with further symbols behind
abbrev pub and_then : Choice → List Symbol → Choice
and_then Refuse more = Refuse
and_then (Pass before) more = Refuse
and_then (Take before next) more = Take before (next ++ more)

abbrev pub only_if : Bool → Choice → Choice
only_if true choice = choice
only_if false choice = Refuse

-- the level that an expression has at least
abbrev pub least : Wanted → ℕ
least (wanted.Level l) = l
least wanted.Right = 0
least wanted.Place = 12
least wanted.Sized = 12

abbrev pub end : Production → Symbol
end = symbol.End

abbrev pub expression : Bool → ℕ → Symbol
expression b l = symbol.Expression b (wanted.Level l)

-- a token that begins a type; the Bool says that it is a name which a typedef made
abbrev pub starts_type : Bool → Kind → Bool
starts_type y (name n) = y
starts_type y (keyword word.Const) = true
starts_type y (keyword word.Static) = true
starts_type y (keyword word.Inline) = true
starts_type y (keyword word.Extern) = true
starts_type y (keyword word.Char) = true
starts_type y (keyword word.Enum) = true
starts_type y (keyword word.Int) = true
starts_type y (keyword word.Long) = true
starts_type y (keyword word.Short) = true
starts_type y (keyword word.Signed) = true
starts_type y (keyword word.Struct) = true
starts_type y (keyword word.Unsigned) = true
starts_type y (keyword word.Void) = true
starts_type y _ = false

-- Words of a type.

abbrev pub pass_words : Seen → Choice
pass_words q = if complete q then Pass (ends.NoWords ∷ []) else Refuse

abbrev pub whole : Bool → List Symbol
whole b = symbol.Words b seen.Whole ∷ end ends.MoreWords ∷ []

abbrev pub first_word : Seen → Choice → Choice
first_word seen.Nothing choice = choice
first_word _ choice = Refuse

abbrev pub tag_word : Bool → Seen → Keyword → Choice
tag_word b q word.Struct = first_word q (take (symbol.StructTag b ∷ whole b))
tag_word b q word.Enum = first_word q (take (symbol.EnumTag b ∷ whole b))
tag_word b q k = pass_words q

abbrev pub word_choice : Bool → Seen → Keyword → Option Seen → Choice
word_choice b q k (Some more) = take (end ends.Reserved ∷ symbol.Words b more ∷ end ends.MoreWords ∷ [])
word_choice b q k None = tag_word b q k

abbrev pub words : Bool → Seen → Bool → Kind → Choice
words b q y (keyword k) = word_choice b q k (add q k)
words b q true (name n) = first_word q (take (end ends.Named ∷ whole b))
words b q y k = pass_words q

-- Expressions.

abbrev pub unary_choice : Bool → Wanted → UnaryOperator → Choice
unary_choice b w op = only_if (nat_le (least w) 12) (take (expression b 11 ∷ end (ends.Unary op) ∷ symbol.Tail b w 12 ∷ []))

abbrev pub operand : Bool → Wanted → Bool → Kind → Choice
operand b w y (name n) = if y then Refuse else take (end ends.Name ∷ symbol.Tail b w 15 ∷ [])
operand b w y (number value decimal unsigned longs) = take (end ends.Number ∷ symbol.Tail b w 14 ∷ [])
operand b w y (character value) = take (end ends.Character ∷ symbol.Tail b w 14 ∷ [])
operand b w y (punct sign.LeftParenthesis) = take (symbol.Open b w ∷ [])
operand b w y (punct sign.Minus) = unary_choice b w unary.Negate
operand b w y (punct sign.Plus) = unary_choice b w unary.Plus
operand b w y (punct sign.Tilde) = unary_choice b w unary.Complement
operand b w y (punct sign.Exclamation) = unary_choice b w unary.Not
operand b w y (punct sign.Star) = unary_choice b w unary.Dereference
operand b w y (punct sign.Ampersand) = unary_choice b w unary.Address
operand b w y (keyword word.Sizeof) = only_if (nat_le (least w) 12) (take (symbol.Expression b wanted.Sized ∷ symbol.Tail b w 12 ∷ []))
operand b w y _ = Refuse

-- behind the type name in parentheses: a cast, or the end of a `sizeof`
abbrev pub open_rest : Bool → Wanted → List Symbol
open_rest b wanted.Sized = end ends.SizeofType ∷ []
open_rest b w = expression b 11 ∷ end ends.Cast ∷ symbol.Tail b w 11 ∷ []

abbrev pub may_open_type : Wanted → Bool
may_open_type wanted.Sized = true
may_open_type w = nat_le (least w) 11

abbrev pub open_type : Bool → Wanted → Bool → Kind → Choice
open_type b w y k =
    only_if (may_open_type w)
    (and_then (words b seen.Nothing y k) (symbol.Stars false ∷ end ends.TypeName ∷ symbol.RightParenthesis ∷ open_rest b w))

abbrev pub open_value : Bool → Wanted → Bool → Kind → Choice
open_value b w y k =
    and_then (operand b (wanted.Level 0) y k) (symbol.RightParenthesis ∷ end ends.Parenthesis ∷ symbol.Tail b w 14 ∷ [])

abbrev pub opened : Bool → Wanted → Bool → Kind → Choice
opened b w y k = if starts_type y k then open_type b w y k else open_value b w y k

-- an assignment such as `+=`
abbrev pub update_choice : Bool → ℕ → BinaryOperator → Choice
update_choice b r op = only_if (nat_le 12 r) (take (expression b 0 ∷ end (ends.Update op) ∷ []))

-- where no operator follows an expression
abbrev pub tail_end : Bool → Wanted → ℕ → Kind → Choice
tail_end b (wanted.Level l) r k = Pass []
tail_end b wanted.Sized r k = Pass (ends.SizeofValue ∷ [])
tail_end b wanted.Right r (punct sign.LeftParenthesis) =
    if r == 15 then take (symbol.Arguments b ∷ end ends.Call ∷ end ends.CallValue ∷ []) else Refuse
tail_end b wanted.Right r k = Pass (ends.Value ∷ [])
tail_end b wanted.Place r (punct sign.LeftParenthesis) =
    only_if (r == 15) (take (symbol.Arguments b ∷ end ends.Call ∷ end ends.Invoke ∷ []))
tail_end b wanted.Place r (punct sign.PlusPlus) = only_if (nat_le 13 r) (take (end (ends.After step.Increment) ∷ []))
tail_end b wanted.Place r (punct sign.MinusMinus) = only_if (nat_le 13 r) (take (end (ends.After step.Decrement) ∷ []))
tail_end b wanted.Place r (punct sign.Equal) =
    only_if (nat_le 12 r) (take (symbol.Expression b wanted.Right ∷ end ends.Assign ∷ []))
tail_end b wanted.Place r (punct sign.StarEqual) = update_choice b r binary.Multiply
tail_end b wanted.Place r (punct sign.SlashEqual) = update_choice b r binary.Divide
tail_end b wanted.Place r (punct sign.PercentEqual) = update_choice b r binary.Remainder
tail_end b wanted.Place r (punct sign.PlusEqual) = update_choice b r binary.Add
tail_end b wanted.Place r (punct sign.MinusEqual) = update_choice b r binary.Subtract
tail_end b wanted.Place r (punct sign.LessLessEqual) = update_choice b r binary.ShiftLeft
tail_end b wanted.Place r (punct sign.GreaterGreaterEqual) = update_choice b r binary.ShiftRight
tail_end b wanted.Place r (punct sign.AmpersandEqual) = update_choice b r binary.And
tail_end b wanted.Place r (punct sign.CaretEqual) = update_choice b r binary.ExclusiveOr
tail_end b wanted.Place r (punct sign.BarEqual) = update_choice b r binary.Or
tail_end b wanted.Place r k = Refuse

abbrev pub binary_choice : Bool → Wanted → ℕ → BinaryOperator → Kind → Choice
binary_choice b w r op k =
    if nat_le (least w) (level op) && nat_le (level op) r
    then take (expression b (suc (level op)) ∷ end (ends.Binary op) ∷ symbol.Tail b w (level op) ∷ [])
    else tail_end b w r k

abbrev pub suffix_choice : Bool → Wanted → ℕ → List Symbol → Kind → Choice
suffix_choice b w r next k = if nat_le 13 r then take (next ++ symbol.Tail b w 13 ∷ []) else tail_end b w r k

abbrev pub question_choice : Bool → Wanted → ℕ → Kind → Choice
question_choice b w r k =
    if nat_le (least w) 0 && nat_le 1 r
    then take (expression b 0 ∷ symbol.Colon ∷ expression b 0 ∷ end ends.Conditional ∷ symbol.Tail b w 0 ∷ [])
    else tail_end b w r k

abbrev pub tail : Bool → Wanted → ℕ → Kind → Choice
tail b w r (punct sign.LeftBracket) =
    suffix_choice b w r (expression b 0 ∷ symbol.RightBracket ∷ end ends.Index ∷ []) (punct sign.LeftBracket)
tail b w r (punct sign.Dot) = suffix_choice b w r (symbol.Identifier ∷ end ends.Member ∷ []) (punct sign.Dot)
tail b w r (punct sign.Arrow) = suffix_choice b w r (symbol.Identifier ∷ end ends.PointerMember ∷ []) (punct sign.Arrow)
tail b w r (punct sign.Question) = question_choice b w r (punct sign.Question)
tail b w r (punct sign.Star) = binary_choice b w r binary.Multiply (punct sign.Star)
tail b w r (punct sign.Slash) = binary_choice b w r binary.Divide (punct sign.Slash)
tail b w r (punct sign.Percent) = binary_choice b w r binary.Remainder (punct sign.Percent)
tail b w r (punct sign.Plus) = binary_choice b w r binary.Add (punct sign.Plus)
tail b w r (punct sign.Minus) = binary_choice b w r binary.Subtract (punct sign.Minus)
tail b w r (punct sign.LessLess) = binary_choice b w r binary.ShiftLeft (punct sign.LessLess)
tail b w r (punct sign.GreaterGreater) = binary_choice b w r binary.ShiftRight (punct sign.GreaterGreater)
tail b w r (punct sign.Ampersand) = binary_choice b w r binary.And (punct sign.Ampersand)
tail b w r (punct sign.Caret) = binary_choice b w r binary.ExclusiveOr (punct sign.Caret)
tail b w r (punct sign.Bar) = binary_choice b w r binary.Or (punct sign.Bar)
tail b w r (punct sign.Less) = binary_choice b w r binary.Less (punct sign.Less)
tail b w r (punct sign.Greater) = binary_choice b w r binary.Greater (punct sign.Greater)
tail b w r (punct sign.LessEqual) = binary_choice b w r binary.LessEqual (punct sign.LessEqual)
tail b w r (punct sign.GreaterEqual) = binary_choice b w r binary.GreaterEqual (punct sign.GreaterEqual)
tail b w r (punct sign.EqualEqual) = binary_choice b w r binary.Equal (punct sign.EqualEqual)
tail b w r (punct sign.ExclamationEqual) = binary_choice b w r binary.NotEqual (punct sign.ExclamationEqual)
tail b w r (punct sign.AmpersandAmpersand) = binary_choice b w r binary.LogicalAnd (punct sign.AmpersandAmpersand)
tail b w r (punct sign.BarBar) = binary_choice b w r binary.LogicalOr (punct sign.BarBar)
tail b w r k = tail_end b w r k

-- The arguments of a call.

abbrev pub arguments : Bool → Bool → Kind → Choice
arguments b y (punct sign.RightParenthesis) = take (end ends.NoArguments ∷ [])
arguments b y k = and_then (operand b (wanted.Level 0) y k) (symbol.ArgumentsMore b ∷ [])

abbrev pub arguments_more : Bool → Kind → Choice
arguments_more b (punct sign.RightParenthesis) = take (end ends.LastArgument ∷ [])
arguments_more b (punct sign.Comma) = take (expression b 0 ∷ symbol.ArgumentsMore b ∷ end ends.MoreArguments ∷ [])
arguments_more b _ = Refuse

-- Structs, enums and declarators.

abbrev pub struct_tag : Bool → Bool → Kind → Choice
struct_tag b y (name n) = if y then Refuse else take (symbol.StructBody b ∷ [])
struct_tag b y (punct sign.LeftBrace) = only_if b (take (symbol.Members ∷ end ends.StructBody ∷ []))
struct_tag b y _ = Refuse

abbrev pub struct_body : Bool → Kind → Choice
struct_body b (punct sign.LeftBrace) =
    if b then take (symbol.Members ∷ end ends.TaggedStruct ∷ []) else Pass (ends.StructTag ∷ [])
struct_body b _ = Pass (ends.StructTag ∷ [])

abbrev pub declarator : Bool → List Symbol → List Symbol
declarator b more = symbol.Stars false ∷ symbol.Identifier ∷ symbol.Dimensions b ∷ end ends.Declarator ∷ more

abbrev pub members : Bool → Kind → Choice
members y k = and_then (words false seen.Nothing y k) (declarator false (symbol.DeclaratorsMore ∷ symbol.MembersMore ∷ []))

abbrev pub members_more : Bool → Kind → Choice
members_more y (punct sign.RightBrace) = take (end ends.LastMember ∷ [])
members_more y k = and_then (words false seen.Nothing y k) (declarator false (symbol.DeclaratorsMore ∷ symbol.MembersMore ∷ end ends.MoreMembers ∷ []))

abbrev pub declarators_more : Kind → Choice
declarators_more (punct sign.Comma) = take (declarator false (symbol.DeclaratorsMore ∷ end ends.MoreDeclarators ∷ []))
declarators_more (punct sign.Semicolon) = take (end ends.LastDeclarator ∷ [])
declarators_more _ = Refuse

abbrev pub stars : Bool → Kind → Choice
stars f (punct sign.Star) = take (symbol.Stars true ∷ end ends.MoreStars ∷ [])
stars f (keyword word.Const) =
    if f then take (end ends.StarConst ∷ symbol.Stars true ∷ []) else Pass (ends.NoStars ∷ [])
stars f _ = Pass (ends.NoStars ∷ [])

abbrev pub dimensions : Bool → Kind → Choice
dimensions b (punct sign.LeftBracket) =
    take (expression b 0 ∷ symbol.RightBracket ∷ symbol.Dimensions b ∷ end ends.MoreDimensions ∷ [])
dimensions b _ = Pass (ends.NoDimensions ∷ [])

abbrev pub enum_tag : Bool → Bool → Kind → Choice
enum_tag b y (name n) = if y then Refuse else take (symbol.EnumBody b ∷ [])
enum_tag b y (punct sign.LeftBrace) = only_if b (take (symbol.Enumerators ∷ end ends.EnumBody ∷ []))
enum_tag b y _ = Refuse

abbrev pub enum_body : Bool → Kind → Choice
enum_body b (punct sign.LeftBrace) =
    if b then take (symbol.Enumerators ∷ end ends.TaggedEnum ∷ []) else Pass (ends.EnumTag ∷ [])
enum_body b _ = Pass (ends.EnumTag ∷ [])

abbrev pub enumerators : Bool → Kind → Choice
enumerators y (name n) = if y then Refuse else take (symbol.EnumValue ∷ symbol.EnumMore ∷ [])
enumerators y _ = Refuse

abbrev pub enum_value : Kind → Choice
enum_value (punct sign.Equal) = take (expression true 0 ∷ end ends.Explicit ∷ [])
enum_value _ = Pass (ends.Implicit ∷ [])

abbrev pub enum_more : Kind → Choice
enum_more (punct sign.Comma) = take (symbol.EnumNext ∷ [])
enum_more (punct sign.RightBrace) = take (end ends.LastEnumerator ∷ [])
enum_more _ = Refuse

abbrev pub enum_next : Bool → Kind → Choice
enum_next y (name n) = if y then Refuse else take (symbol.EnumValue ∷ symbol.EnumMore ∷ end ends.MoreEnumerators ∷ [])
enum_next y (punct sign.RightBrace) = take (end ends.LastEnumeratorComma ∷ [])
enum_next y _ = Refuse

-- Statements.

abbrev pub simple : Bool → Kind → Choice
simple y (punct sign.PlusPlus) = take (expression false 12 ∷ end (ends.Before step.Increment) ∷ [])
simple y (punct sign.MinusMinus) = take (expression false 12 ∷ end (ends.Before step.Decrement) ∷ [])
simple y k = operand false wanted.Place y k

-- a condition in parentheses
abbrev pub condition : List Symbol → List Symbol
condition more = symbol.LeftParenthesis ∷ expression false 0 ∷ symbol.RightParenthesis ∷ more

abbrev pub statement : Bool → Kind → Choice
statement y (punct sign.Semicolon) = take (end ends.Empty ∷ [])
statement y (punct sign.LeftBrace) = take (symbol.Items ∷ symbol.RightBrace ∷ end ends.Block ∷ [])
statement y (keyword word.Break) = take (symbol.Semicolon ∷ end ends.Break ∷ [])
statement y (keyword word.Continue) = take (symbol.Semicolon ∷ end ends.Continue ∷ [])
statement y (keyword word.Return) = take (symbol.ReturnValue ∷ [])
statement y (keyword word.If) = take (condition (symbol.Statement ∷ symbol.Else ∷ []))
statement y (keyword word.While) = take (condition (symbol.Statement ∷ end ends.While ∷ []))
statement y (keyword word.For) =
    take (symbol.LeftParenthesis ∷ symbol.ForStart ∷ symbol.ForTest ∷ symbol.ForStep ∷ symbol.Statement ∷ end ends.For ∷ [])
statement y (keyword word.Do) =
    take (symbol.Statement ∷ symbol.While ∷ condition (symbol.Semicolon ∷ end ends.Do ∷ []))
statement y (keyword word.Switch) =
    take (condition (symbol.LeftBrace ∷ symbol.Groups ∷ symbol.RightBrace ∷ end ends.Switch ∷ []))
statement y k = and_then (simple y k) (symbol.Semicolon ∷ end ends.Simple ∷ [])

abbrev pub return_value : Bool → Kind → Choice
return_value y (punct sign.Semicolon) = take (end ends.Return ∷ [])
return_value y k = and_then (operand false wanted.Right y k) (symbol.Semicolon ∷ end ends.ReturnValue ∷ [])

abbrev pub else_part : Kind → Choice
else_part (keyword word.Else) = take (symbol.Statement ∷ end ends.IfElse ∷ [])
else_part _ = Pass (ends.If ∷ [])

-- behind the words of a local
abbrev pub local_rest : List Symbol → List Symbol
local_rest more = declarator false (symbol.InitValue ∷ symbol.InitMore ∷ end ends.Local ∷ more)

abbrev pub items_end : Bool → Kind → Choice
items_end y (punct sign.RightBrace) = Pass (ends.NoItems ∷ [])
items_end y (keyword word.Case) = Pass (ends.NoItems ∷ [])
items_end y (keyword word.Default) = Pass (ends.NoItems ∷ [])
items_end y k = and_then (statement y k) (symbol.Items ∷ end ends.StatementItem ∷ [])

abbrev pub items : Bool → Kind → Choice
items y k =
    if starts_type y k
    then and_then (words false seen.Nothing y k) (local_rest (symbol.Items ∷ end ends.LocalItem ∷ []))
    else items_end y k

abbrev pub init_value : Kind → Choice
init_value (punct sign.Equal) = take (symbol.Expression false wanted.Right ∷ end ends.Init ∷ [])
init_value _ = Pass (ends.NoInit ∷ [])

abbrev pub init_more : Kind → Choice
init_more (punct sign.Comma) = take (declarator false (symbol.InitValue ∷ symbol.InitMore ∷ end ends.MoreInits ∷ []))
init_more (punct sign.Semicolon) = take (end ends.LastInit ∷ [])
init_more _ = Refuse

abbrev pub for_start_rest : Bool → Kind → Choice
for_start_rest y (punct sign.Semicolon) = take (end ends.NoStart ∷ [])
for_start_rest y k = and_then (simple y k) (symbol.Semicolon ∷ end ends.StartSimple ∷ [])

abbrev pub for_start : Bool → Kind → Choice
for_start y k =
    if starts_type y k
    then and_then (words false seen.Nothing y k) (local_rest (end ends.StartLocal ∷ []))
    else for_start_rest y k

abbrev pub for_test : Bool → Kind → Choice
for_test y (punct sign.Semicolon) = take (end ends.NoTest ∷ [])
for_test y k = and_then (operand false (wanted.Level 0) y k) (symbol.Semicolon ∷ end ends.Test ∷ [])

abbrev pub for_step : Bool → Kind → Choice
for_step y (punct sign.RightParenthesis) = take (end ends.NoStep ∷ [])
for_step y k = and_then (simple y k) (symbol.RightParenthesis ∷ end ends.Step ∷ [])

-- a label, and what is behind it
abbrev pub label : List Symbol → Choice → Kind → Choice
label more other (keyword word.Case) = take (expression false 0 ∷ symbol.Colon ∷ end ends.Case ∷ more)
label more other (keyword word.Default) = take (symbol.Colon ∷ end ends.Default ∷ more)
label more other _ = other

abbrev pub groups : Kind → Choice
groups =
    label (symbol.Labels ∷ symbol.Statement ∷ symbol.Items ∷ symbol.Groups ∷ end ends.MoreGroups ∷ []) (Pass (ends.NoGroups ∷ []))

abbrev pub labels : Kind → Choice
labels = label (symbol.Labels ∷ end ends.MoreLabels ∷ []) (Pass (ends.NoLabels ∷ []))

-- Externals.

abbrev pub externals : Bool → Kind → Choice
externals y (keyword word.Typedef) =
    take (symbol.Words true seen.Nothing ∷ symbol.Tops true ∷ symbol.Made true ∷ symbol.Externals ∷ end ends.MoreExternals ∷ [])
externals y k =
    and_then (words true seen.Nothing y k) (symbol.Tops false ∷ symbol.Made false ∷ symbol.Externals ∷ end ends.MoreExternals ∷ [])

-- behind a declarator: of a typedef; or the first one of an external that may be a function
abbrev pub first_top : Bool → List Symbol
first_top true = symbol.TopParameters ∷ symbol.TopValue ∷ end ends.Top ∷ symbol.TopMore ∷ end (ends.Declaration true) ∷ []
first_top false = symbol.FirstParameters ∷ []

abbrev pub tops : Bool → Bool → Kind → Choice
tops f y (punct sign.Semicolon) = take (end ends.NoTops ∷ end (ends.Declaration f) ∷ [])
tops f y (punct sign.Star) =
    take (symbol.Stars true ∷ end ends.MoreStars ∷ symbol.NewName ∷ symbol.Dimensions true ∷ end ends.Declarator ∷ first_top f)
tops f y (name n) = if y then Refuse else Take (ends.NoStars ∷ []) (symbol.Dimensions true ∷ end ends.Declarator ∷ first_top f)
tops f y _ = Refuse

abbrev pub top_parameters : Kind → Choice
top_parameters (punct sign.LeftParenthesis) = take (symbol.Parameters ∷ end ends.SomeParameters ∷ [])
top_parameters _ = Pass (ends.NoParameters ∷ [])

abbrev pub top_value : Kind → Choice
top_value (punct sign.Equal) = take (expression true 0 ∷ end ends.SomeValue ∷ [])
top_value _ = Pass (ends.NoValue ∷ [])

abbrev pub next_top : List Symbol → List Symbol
next_top more =
    symbol.Stars false ∷ symbol.NewName ∷ symbol.Dimensions true ∷ end ends.Declarator ∷ symbol.TopParameters ∷ symbol.TopValue ∷ end ends.Top ∷ symbol.TopMore ∷ end ends.MoreTops ∷ more

abbrev pub top_more : Kind → Choice
top_more (punct sign.Comma) = take (next_top [])
top_more (punct sign.Semicolon) = take (end ends.LastTop ∷ [])
top_more _ = Refuse

-- behind the first declarator, whose parameters are told
abbrev pub first_value : List Production → Kind → Choice
first_value before (punct sign.Equal) =
    Take before (expression true 0 ∷ end ends.SomeValue ∷ end ends.Top ∷ symbol.TopMore ∷ end (ends.Declaration false) ∷ [])
first_value before (punct sign.Comma) = Take (before ++ ends.NoValue ∷ ends.Top ∷ []) (next_top (end (ends.Declaration false) ∷ []))
first_value before (punct sign.Semicolon) =
    Take (before ++ ends.NoValue ∷ ends.Top ∷ []) (end ends.LastTop ∷ end (ends.Declaration false) ∷ [])
first_value before _ = Refuse

abbrev pub first_parameters : Kind → Choice
first_parameters (punct sign.LeftParenthesis) = take (symbol.Parameters ∷ end ends.SomeParameters ∷ symbol.FirstRest ∷ [])
first_parameters k = first_value (ends.NoParameters ∷ []) k

abbrev pub first_rest : Kind → Choice
first_rest (punct sign.LeftBrace) = take (symbol.Items ∷ symbol.RightBrace ∷ end ends.Function ∷ [])
first_rest k = first_value [] k

abbrev pub parameter_rest : List Symbol → List Symbol
parameter_rest more =
    symbol.Stars false ∷ symbol.ParameterName ∷ symbol.ParameterBracket ∷ end ends.Parameter ∷ symbol.ParametersMore ∷ more

abbrev pub parameters : Bool → Kind → Choice
parameters y (punct sign.RightParenthesis) = take (end ends.EmptyParameters ∷ [])
parameters y k = and_then (words false seen.Nothing y k) (parameter_rest [])

abbrev pub parameters_more : Kind → Choice
parameters_more (punct sign.Comma) = take (symbol.Words false seen.Nothing ∷ parameter_rest (end ends.MoreParameters ∷ []))
parameters_more (punct sign.RightParenthesis) = take (end ends.LastParameter ∷ [])
parameters_more _ = Refuse

abbrev pub parameter_name : Bool → Kind → Choice
parameter_name y (name n) = if y then Pass (ends.NoParameterName ∷ []) else take (end ends.ParameterName ∷ [])
parameter_name y _ = Pass (ends.NoParameterName ∷ [])

abbrev pub parameter_bracket : Kind → Choice
parameter_bracket (punct sign.LeftBracket) = take (symbol.BracketRest ∷ [])
parameter_bracket _ = Pass (ends.NoBracket ∷ [])

abbrev pub bracket_rest : Bool → Kind → Choice
bracket_rest y (punct sign.RightBracket) = take (end ends.OpenBracket ∷ [])
bracket_rest y k = and_then (operand false (wanted.Level 0) y k) (symbol.RightBracket ∷ end ends.SizedBracket ∷ [])

-- Tokens that are expected as they are.

abbrev pub left_parenthesis : Kind → Choice
left_parenthesis (punct sign.LeftParenthesis) = take []
left_parenthesis _ = Refuse

abbrev pub right_parenthesis : Kind → Choice
right_parenthesis (punct sign.RightParenthesis) = take []
right_parenthesis _ = Refuse

abbrev pub right_bracket : Kind → Choice
right_bracket (punct sign.RightBracket) = take []
right_bracket _ = Refuse

abbrev pub left_brace : Kind → Choice
left_brace (punct sign.LeftBrace) = take []
left_brace _ = Refuse

abbrev pub right_brace : Kind → Choice
right_brace (punct sign.RightBrace) = take []
right_brace _ = Refuse

abbrev pub semicolon : Kind → Choice
semicolon (punct sign.Semicolon) = take []
semicolon _ = Refuse

abbrev pub colon : Kind → Choice
colon (punct sign.Colon) = take []
colon _ = Refuse

abbrev pub while_word : Kind → Choice
while_word (keyword word.While) = take []
while_word _ = Refuse

abbrev pub identifier : Bool → Kind → Choice
identifier y (name n) = if y then Refuse else take []
identifier y _ = Refuse

-- every symbol
unfoldable pub choice_of : Symbol → Bool → Kind → Choice
choice_of symbol.LeftParenthesis y k = left_parenthesis k
choice_of symbol.RightParenthesis y k = right_parenthesis k
choice_of symbol.RightBracket y k = right_bracket k
choice_of symbol.LeftBrace y k = left_brace k
choice_of symbol.RightBrace y k = right_brace k
choice_of symbol.Semicolon y k = semicolon k
choice_of symbol.Colon y k = colon k
choice_of symbol.While y k = while_word k
choice_of symbol.Identifier y k = identifier y k
choice_of symbol.NewName y k = identifier y k
choice_of (symbol.Expression b w) y k = operand b w y k
choice_of (symbol.Open b w) y k = opened b w y k
choice_of (symbol.Tail b w r) y k = tail b w r k
choice_of (symbol.Arguments b) y k = arguments b y k
choice_of (symbol.ArgumentsMore b) y k = arguments_more b k
choice_of (symbol.Words b q) y k = words b q y k
choice_of (symbol.StructTag b) y k = struct_tag b y k
choice_of (symbol.StructBody b) y k = struct_body b k
choice_of symbol.Members y k = members y k
choice_of symbol.MembersMore y k = members_more y k
choice_of symbol.DeclaratorsMore y k = declarators_more k
choice_of (symbol.Stars f) y k = stars f k
choice_of (symbol.Dimensions b) y k = dimensions b k
choice_of (symbol.EnumTag b) y k = enum_tag b y k
choice_of (symbol.EnumBody b) y k = enum_body b k
choice_of symbol.Enumerators y k = enumerators y k
choice_of symbol.EnumValue y k = enum_value k
choice_of symbol.EnumMore y k = enum_more k
choice_of symbol.EnumNext y k = enum_next y k
choice_of symbol.Statement y k = statement y k
choice_of symbol.ReturnValue y k = return_value y k
choice_of symbol.Else y k = else_part k
choice_of symbol.Items y k = items y k
choice_of symbol.InitValue y k = init_value k
choice_of symbol.InitMore y k = init_more k
choice_of symbol.ForStart y k = for_start y k
choice_of symbol.ForTest y k = for_test y k
choice_of symbol.ForStep y k = for_step y k
choice_of symbol.Groups y k = groups k
choice_of symbol.Labels y k = labels k
choice_of symbol.Externals y k = externals y k
choice_of (symbol.Tops f) y k = tops f y k
choice_of symbol.TopParameters y k = top_parameters k
choice_of symbol.TopValue y k = top_value k
choice_of symbol.TopMore y k = top_more k
choice_of symbol.FirstParameters y k = first_parameters k
choice_of symbol.FirstRest y k = first_rest k
choice_of symbol.Parameters y k = parameters y k
choice_of symbol.ParametersMore y k = parameters_more k
choice_of symbol.ParameterName y k = parameter_name y k
choice_of symbol.ParameterBracket y k = parameter_bracket k
choice_of symbol.BracketRest y k = bracket_rest y k
choice_of (symbol.Made f) y k = Pass []
choice_of (symbol.End p) y k = Pass (p ∷ [])
