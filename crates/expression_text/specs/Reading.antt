-- Reading of trees as parts of programs. The nodes of a tree are numbered in preorder; past the last number of 32 bits every node has
-- that number. What is read is a value, with the number of the node behind, or the number of the first bad node: a list is bad where its
-- head or how many parts it has don't fit its place, an atom where its word doesn't; otherwise a list's parts are looked at in order.
use Rattle.std.specs.Prelude.{ℕ, ◌+◌, ◌-◌, ◌^◌, min, Result, Ok, Err}

abbrev pub last_number : ℕ
last_number = 2 ^ 32 - 1

abbrev pub next : ℕ → ℕ
next at = min (at + 1) last_number

abbrev pub Read : Type 0 → Type 0
Read A = Result (A × ℕ) ℕ

infixl 10 ◌>>=◌
abbrev pub ◌>>=◌ : {A B : Type 0} → Result A ℕ → (A → Result B ℕ) → Result B ℕ
(Ok x) >>= f = f x
(Err n) >>= f = Err n

-- what is made of what was read
abbrev pub made : {A B : Type 0} → (A → B) → Read A → Read B
made f (Ok (x, n)) = Ok (f x, n)
made f (Err n) = Err n
