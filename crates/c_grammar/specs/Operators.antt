-- The signs of the operators, how tightly they bind (C99 6.5), and what the words of a type may be (C99 6.7.2).
use Rattle.std.specs.Prelude.{ℕ, Bool, true, false, List, [], ◌∷◌, Option, Some, None, ◌||◌, nat_eq}
use lib.Pointwise.{pointwise}
use Rattle.c_grammar.specs.Levels as levels
use Rattle.c_lex.specs.declared.token.Keyword.{Keyword}
use Rattle.c_lex.specs.declared.token.Keyword.TheVariants as word
use Rattle.c_lex.specs.declared.token.Punct.{Punct}
use Rattle.c_lex.specs.declared.token.Punct.TheVariants as sign
use Rattle.c_grammar.specs.declared.operator.UnaryOperator.{UnaryOperator}
use Rattle.c_grammar.specs.declared.operator.UnaryOperator.TheVariants as unary
use Rattle.c_grammar.specs.declared.operator.BinaryOperator.{BinaryOperator}
use Rattle.c_grammar.specs.declared.operator.BinaryOperator.TheVariants as binary
use Rattle.c_grammar.specs.declared.operator.StepOperator.{StepOperator}
use Rattle.c_grammar.specs.declared.operator.StepOperator.TheVariants as step
use Rattle.c_grammar.specs.declared.symbol.Seen.{Seen}
use Rattle.c_grammar.specs.declared.symbol.Seen.TheVariants as seen
use Rattle.c_grammar.specs.declared.symbol.Sign.TheVariants as told
use Rattle.c_grammar.specs.declared.symbol.Size.TheVariants as size
use Rattle.c_grammar.specs.Tree.{Name}

abbrev pub unary_sign : UnaryOperator → Punct
unary_sign unary.Negate = sign.Minus
unary_sign unary.Plus = sign.Plus
unary_sign unary.Complement = sign.Tilde
unary_sign unary.Not = sign.Exclamation
unary_sign unary.Dereference = sign.Star
unary_sign unary.Address = sign.Ampersand

abbrev pub binary_sign : BinaryOperator → Punct
binary_sign binary.Multiply = sign.Star
binary_sign binary.Divide = sign.Slash
binary_sign binary.Remainder = sign.Percent
binary_sign binary.Add = sign.Plus
binary_sign binary.Subtract = sign.Minus
binary_sign binary.ShiftLeft = sign.LessLess
binary_sign binary.ShiftRight = sign.GreaterGreater
binary_sign binary.And = sign.Ampersand
binary_sign binary.ExclusiveOr = sign.Caret
binary_sign binary.Or = sign.Bar
binary_sign binary.Less = sign.Less
binary_sign binary.Greater = sign.Greater
binary_sign binary.LessEqual = sign.LessEqual
binary_sign binary.GreaterEqual = sign.GreaterEqual
binary_sign binary.Equal = sign.EqualEqual
binary_sign binary.NotEqual = sign.ExclamationEqual
binary_sign binary.LogicalAnd = sign.AmpersandAmpersand
binary_sign binary.LogicalOr = sign.BarBar

-- the operator of an assignment such as `+=`
abbrev pub update_of : Punct → Option BinaryOperator
update_of sign.StarEqual = Some binary.Multiply
update_of sign.SlashEqual = Some binary.Divide
update_of sign.PercentEqual = Some binary.Remainder
update_of sign.PlusEqual = Some binary.Add
update_of sign.MinusEqual = Some binary.Subtract
update_of sign.LessLessEqual = Some binary.ShiftLeft
update_of sign.GreaterGreaterEqual = Some binary.ShiftRight
update_of sign.AmpersandEqual = Some binary.And
update_of sign.CaretEqual = Some binary.ExclusiveOr
update_of sign.BarEqual = Some binary.Or
update_of _ = None

abbrev pub step_sign : StepOperator → Punct
step_sign step.Increment = sign.PlusPlus
step_sign step.Decrement = sign.MinusMinus

-- How tightly an operator between operands binds.
abbrev pub level : BinaryOperator → ℕ
level binary.LogicalOr = levels.disjunction
level binary.LogicalAnd = levels.conjunction
level binary.Or = levels.bits_or
level binary.ExclusiveOr = levels.bits_exclusive
level binary.And = levels.bits_and
level binary.Equal = levels.equality
level binary.NotEqual = levels.equality
level binary.Less = levels.comparison
level binary.Greater = levels.comparison
level binary.LessEqual = levels.comparison
level binary.GreaterEqual = levels.comparison
level binary.ShiftLeft = levels.shift
level binary.ShiftRight = levels.shift
level binary.Add = levels.sum
level binary.Subtract = levels.sum
level binary.Multiply = levels.product
level binary.Divide = levels.product
level binary.Remainder = levels.product

-- what has been seen of a type after one more word, where the word may stand there
abbrev pub add : Seen → Keyword → Option Seen
add s word.Const = Some s
add s word.Static = Some s
add s word.Inline = Some s
add s word.Extern = Some s
add seen.Nothing word.Void = Some seen.Whole
add seen.Nothing word.Int = Some (seen.Integer told.Plain size.Plain true)
add seen.Nothing word.Char = Some (seen.Integer told.Plain size.Char false)
add seen.Nothing word.Short = Some (seen.Integer told.Plain size.Short false)
add seen.Nothing word.Long = Some (seen.Integer told.Plain size.Long false)
add seen.Nothing word.Signed = Some (seen.Integer told.Told size.Plain false)
add seen.Nothing word.Unsigned = Some (seen.Integer told.Told size.Plain false)
add (seen.Integer told.Plain z i) word.Signed = Some (seen.Integer told.Told z i)
add (seen.Integer told.Plain z i) word.Unsigned = Some (seen.Integer told.Told z i)
add (seen.Integer g size.Plain false) word.Char = Some (seen.Integer g size.Char false)
add (seen.Integer g size.Plain i) word.Short = Some (seen.Integer g size.Short i)
add (seen.Integer g size.Plain i) word.Long = Some (seen.Integer g size.Long i)
add (seen.Integer g size.Long i) word.Long = Some (seen.Integer g size.LongLong i)
add (seen.Integer g size.Plain false) word.Int = Some (seen.Integer g size.Plain true)
add (seen.Integer g size.Short false) word.Int = Some (seen.Integer g size.Short true)
add (seen.Integer g size.Long false) word.Int = Some (seen.Integer g size.Long true)
add (seen.Integer g size.LongLong false) word.Int = Some (seen.Integer g size.LongLong true)
add _ _ = None

-- a type has been seen
abbrev pub complete : Seen → Bool
complete seen.Nothing = false
complete _ = true

-- a typedef made the name
abbrev pub is_made : List Name → Name → Bool
is_made [] x = false
is_made (y ∷ ys) x = pointwise nat_eq x y || is_made ys x
