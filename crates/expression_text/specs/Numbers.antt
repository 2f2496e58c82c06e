-- Numbers as texts have them: decimal, without a leading zero, a plus or `-0`, of a magnitude below 2^128.
use Rattle.std.specs.Prelude.{ℕ, zero, suc, ◌+◌, ◌^◌, nat_lt, ◌==◌, Bool, ◌&&◌, ℤ, pos, negsuc, List, [], ◌∷◌, Option, Some, None, Ok, Err, if◌then◌else◌}
use Rattle.std.specs.Fmt.{decimal}
use Rattle.std.specs.Str.Parse.{digits_value}
use Rattle.c_values.specs.Name.{same_name}
use Rattle.ac_sx.specs.Tree.{Tree, Atom, Node}
use Rattle.expression_text.specs.Reading.{Read, next}

abbrev pub number_text : ℤ → List ℕ
number_text (pos n) = decimal n
number_text (negsuc n) = 45 ∷ decimal (n + 1)

-- of a magnitude below 2^128
abbrev pub is_number : ℤ → Bool
is_number (pos n) = nat_lt n (2 ^ 128)
is_number (negsuc n) = nat_lt (n + 1) (2 ^ 128)

-- the natural number of which this is the text
abbrev pub natural_in : List ℕ → Option ℕ
natural_in word = let n = digits_value 10 word in if nat_lt n (2 ^ 128) && same_name word (decimal n) then Some n else None

abbrev pub negated : Option ℕ → Option ℤ
negated None = None
negated (Some zero) = None
negated (Some (suc n)) = Some (negsuc n)

abbrev pub not_negated : Option ℕ → Option ℤ
not_negated None = None
not_negated (Some n) = Some (pos n)

abbrev pub number_in : List ℕ → Option ℤ
number_in [] = None
number_in (b ∷ bs) = if b == 45 then negated (natural_in bs) else not_negated (natural_in (b ∷ bs))

-- a natural number below a bound
abbrev pub below : ℕ → ℕ → Option ℕ → Read ℕ
below bound at None = Err at
below bound at (Some n) = if nat_lt n bound then Ok (n, next at) else Err at

abbrev pub natural_at : ℕ → ℕ → Tree → Read ℕ
natural_at bound at (Atom word) = below bound at (natural_in word)
natural_at bound at (Node ts) = Err at

abbrev pub number_from : ℕ → Option ℤ → Read ℤ
number_from at None = Err at
number_from at (Some n) = Ok (n, next at)

abbrev pub number_at : ℕ → Tree → Read ℤ
number_at at (Atom word) = number_from at (number_in word)
number_at at (Node ts) = Err at
