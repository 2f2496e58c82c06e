-- Values: words, whole numbers, truth values, and the parts of structs and arrays in order (C99 6.2.5p20).
use Rattle.std.specs.Prelude.{ℕ, zero, suc, ◌==◌, Bool, true, false, not, ◌&&◌, ℤ, pos}
use Rattle.std.specs.Ordering.{int_eq}
use Rattle.c_values.specs.Word.{Word, word}

mutual
  pub data Value : Type 0 where
    Bits : Word → Value
    Number : ℤ → Value
    Truth : Bool → Value
    Parts : Values → Value

  pub data Values : Type 0 where
    no_values : Values
    more : Value → Values → Values

abbrev pub count : Values → ℕ
count no_values = 0
count (more v vs) = suc (count vs)

-- a value that nothing asks for
abbrev pub nothing : Value
nothing = Parts no_values

abbrev pub part : Values → ℕ → Value
part no_values k = nothing
part (more v vs) zero = v
part (more v vs) (suc k) = part vs k

abbrev pub with_part : Values → ℕ → Value → Values
with_part no_values k w = no_values
with_part (more v vs) zero w = more w vs
with_part (more v vs) (suc k) w = more v (with_part vs k w)

abbrev pub word_in : Value → Word
word_in (Bits w) = w
word_in _ = word 8 (pos 0)

abbrev pub number_in : Value → ℤ
number_in (Number n) = n
number_in _ = pos 0

abbrev pub truth_in : Value → Bool
truth_in (Truth b) = b
truth_in _ = false

abbrev pub same_truth : Bool → Bool → Bool
same_truth true b = b
same_truth false b = not b

abbrev mutual
  pub same_value : Value → Value → Bool
  same_value (Bits a) (Bits b) = (a.width == b.width) && (a.bits == b.bits)
  same_value (Number a) (Number b) = int_eq a b
  same_value (Truth a) (Truth b) = same_truth a b
  same_value (Parts as') (Parts bs) = same_values as' bs
  same_value _ _ = false

  pub same_values : Values → Values → Bool
  same_values no_values no_values = true
  same_values (more a as') (more b bs) = same_value a b && same_values as' bs
  same_values _ _ = false
