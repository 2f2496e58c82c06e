-- Texts as lists of tokens, and their trees.
use Rattle.std.specs.Prelude.{List, [], ◌∷◌, Some, None}
use Rattle.c_lex.specs.declared.token.Keyword.TheVariants as word
use Rattle.c_lex.specs.declared.token.Punct.TheVariants as sign
use Rattle.c_lex.specs.Lexeme.{Lexeme}
use Rattle.c_grammar.specs.declared.operator.UnaryOperator.TheVariants as unary
use Rattle.c_grammar.specs.declared.operator.BinaryOperator.TheVariants as binary
use Rattle.c_grammar.specs.Tree as tree
use Rattle.c_grammar.specs.Tree.{Exp, External, Name}
use Rattle.c_grammar.specs.Spells.{mark, named, reserved}

-- the names `a`, `b`, `c`, `d`, `f`, `t` and `x`
abbrev a : Name
a = 97 ∷ []

abbrev b : Name
b = 98 ∷ []

abbrev c : Name
c = 99 ∷ []

abbrev d : Name
d = 100 ∷ []

abbrev f : Name
f = 102 ∷ []

abbrev t : Name
t = 116 ∷ []

abbrev x : Name
x = 120 ∷ []

-- `void f(void){if(a)if(b);else;}`: the `else` belongs to the inner `if`
abbrev pub dangling_else : List Lexeme
dangling_else =
    reserved word.Void 0 4 ∷ named f 5 6 ∷ mark sign.LeftParenthesis 6 7 ∷ reserved word.Void 7 11 ∷ mark sign.RightParenthesis 11 12 ∷ mark sign.LeftBrace 12 13 ∷ reserved word.If 13 15 ∷ mark sign.LeftParenthesis 15 16 ∷ named a 16 17 ∷ mark sign.RightParenthesis 17 18 ∷ reserved word.If 18 20 ∷ mark sign.LeftParenthesis 20 21 ∷ named b 21 22 ∷ mark sign.RightParenthesis 22 23 ∷ mark sign.Semicolon 23 24 ∷ reserved word.Else 24 28 ∷ mark sign.Semicolon 28 29 ∷ mark sign.RightBrace 29 30 ∷ []

abbrev pub inner_else : List External
inner_else =
    tree.Function (tree.MoreWords (tree.Reserved 0 word.Void) tree.NoWords) (tree.Declare [] 5 f tree.NoDimensions) [] (tree.StatementItem (tree.If 13 (tree.Variable 16 a) (tree.IfElse 18 (tree.Variable 21 b) (tree.Empty 23) (tree.Empty 28))) tree.NoItems) ∷ []

-- `int x=a+b*c-d;`: `*` binds first, and `+` and `-` to the left
abbrev pub levels : List Lexeme
levels =
    reserved word.Int 0 3 ∷ named x 4 5 ∷ mark sign.Equal 5 6 ∷ named a 6 7 ∷ mark sign.Plus 7 8 ∷ named b 8 9 ∷ mark sign.Star 9 10 ∷ named c 10 11 ∷ mark sign.Minus 11 12 ∷ named d 12 13 ∷ mark sign.Semicolon 13 14 ∷ []

abbrev pub left_sum : List External
left_sum =
    tree.Declaration None (tree.MoreWords (tree.Reserved 0 word.Int) tree.NoWords) (tree.Topmost (tree.Declare [] 4 x tree.NoDimensions) None (Some (tree.Binary binary.Subtract (tree.Binary binary.Add (tree.Variable 6 a) (tree.Binary binary.Multiply (tree.Variable 8 b) (tree.Variable 10 c))) (tree.Variable 12 d))) ∷ []) ∷ []

-- `int x=(t)-a;` from the offset 14 on: a difference, or a cast where a typedef made `t`
abbrev minus : List Lexeme
minus =
    reserved word.Int 14 17 ∷ named x 18 19 ∷ mark sign.Equal 19 20 ∷ mark sign.LeftParenthesis 20 21 ∷ named t 21 22 ∷ mark sign.RightParenthesis 22 23 ∷ mark sign.Minus 23 24 ∷ named a 24 25 ∷ mark sign.Semicolon 25 26 ∷ []

abbrev global : Exp → External
global e = tree.Declaration None (tree.MoreWords (tree.Reserved 14 word.Int) tree.NoWords) (tree.Topmost (tree.Declare [] 18 x tree.NoDimensions) None (Some e) ∷ [])

abbrev pub without_typedef : List Lexeme
without_typedef = minus

abbrev pub difference : List External
difference =
    global (tree.Binary binary.Subtract (tree.Parenthesis 20 (tree.Variable 21 t)) (tree.Variable 24 a)) ∷ []

-- the same behind `typedef int t;`
abbrev pub with_typedef : List Lexeme
with_typedef =
    reserved word.Typedef 0 7 ∷ reserved word.Int 8 11 ∷ named t 12 13 ∷ mark sign.Semicolon 13 14 ∷ minus

abbrev pub cast : List External
cast =
    tree.Declaration (Some 0) (tree.MoreWords (tree.Reserved 8 word.Int) tree.NoWords) (tree.Topmost (tree.Declare [] 12 t tree.NoDimensions) None None ∷ []) ∷ global (tree.Cast 20 (tree.Typed (tree.MoreWords (tree.Named 21 t) tree.NoWords) []) (tree.Unary 23 unary.Negate (tree.Variable 24 a))) ∷ []
