-- How tightly an expression binds (C99 6.5): its level, from the loosest.
use Rattle.std.specs.Prelude.{ℕ}

-- an expression of any level, down to the choice between two
abbrev pub any : ℕ
any = 0

-- the levels of the operators between operands
abbrev pub disjunction : ℕ
disjunction = 1

abbrev pub conjunction : ℕ
conjunction = 2

abbrev pub bits_or : ℕ
bits_or = 3

abbrev pub bits_exclusive : ℕ
bits_exclusive = 4

abbrev pub bits_and : ℕ
bits_and = 5

abbrev pub equality : ℕ
equality = 6

abbrev pub comparison : ℕ
comparison = 7

abbrev pub shift : ℕ
shift = 8

abbrev pub sum : ℕ
sum = 9

abbrev pub product : ℕ
product = 10

-- `(T)e`
abbrev pub cast : ℕ
cast = 11

-- an operator before its operand, and `sizeof`
abbrev pub unary : ℕ
unary = 12

-- `e[i]`, `e.x` and `e->x`
abbrev pub postfix : ℕ
postfix = 13

-- a constant, and `(e)`
abbrev pub primary : ℕ
primary = 14

-- a name, which alone can be called
abbrev pub name : ℕ
name = 15
