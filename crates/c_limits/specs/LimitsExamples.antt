-- Trees at a limit and past it.
use Rattle.std.specs.Prelude.{ℕ, zero, suc, ◌+◌, ◌*◌, ◌^◌, List, [], ◌∷◌, Some, None}
use Rattle.c_lex.specs.declared.token.Keyword.TheVariants as word
use Rattle.c_grammar.specs.declared.operator.UnaryOperator.TheVariants as unary
use Rattle.c_grammar.specs.declared.operator.BinaryOperator.TheVariants as binary
use Rattle.c_grammar.specs.Tree as tree
use Rattle.c_grammar.specs.Tree.{Exp, Words, Declarator, Stmt, External, Name}

abbrev x : Name
x = 120 ∷ []

abbrev int : Words
int = tree.MoreWords (tree.Reserved 0 word.Int) tree.NoWords

-- a sum of operands, one more than the number says, each two bytes behind the one before it
abbrev pub sum : ℕ → Exp
sum zero = tree.Variable 0 x
sum (suc n) = tree.Binary binary.Add (sum n) (tree.Variable (2 * suc n) x)

-- operands at successive offsets, as deep as the number says, and two to the power of it
abbrev pub balanced : ℕ → ℕ → Exp
balanced a zero = tree.Variable a x
balanced a (suc n) = tree.Binary binary.Multiply (balanced a n) (balanced (a + 2 ^ n) n)

abbrev pub negation : Exp → Exp
negation e = tree.Unary 0 unary.Negate e

-- a declarator with an array length
abbrev pub array : Exp → Declarator
array e = tree.Declare [] 0 x (tree.MoreDimensions e tree.NoDimensions)

-- a struct whose one member has an array length
abbrev pub struct : Exp → Words
struct e = tree.MoreWords (tree.StructBody 0 None (tree.LastMember int (tree.LastDeclarator (array e)))) tree.NoWords

abbrev pub sizeof : Words → Exp
sizeof ws = tree.SizeofType 0 (tree.Typed ws [])

-- an `if` for each of the number, in the `else` of the one before it
abbrev pub else_ifs : ℕ → ℕ → Stmt
else_ifs a zero = tree.Empty a
else_ifs a (suc n) = tree.IfElse a (tree.Variable a x) (tree.Empty (a + 1)) (else_ifs (a + 2) n)

-- a global with a value
abbrev pub global : Exp → List External
global e = tree.Declaration None int (tree.Topmost (tree.Declare [] 0 x tree.NoDimensions) None (Some e) ∷ []) ∷ []

-- a type that is declared alone
abbrev pub declared_type : Words → List External
declared_type ws = tree.Declaration None ws [] ∷ []

-- a function of one statement
abbrev pub function_of : Stmt → List External
function_of s = tree.Function int (tree.Declare [] 0 x tree.NoDimensions) [] (tree.StatementItem s tree.NoItems) ∷ []
