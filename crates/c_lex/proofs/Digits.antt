-- The value of digits, as it grows from one digit to the next.
use Rattle.std.proofs.Common.{◌≡◌, ℕ, ◌+◌, ◌*◌, ◌<◌, ◌≤◌, List, length, take, get_or, sym, ap, ◌∙◌, subst}
use Rattle.std.specs.Char.{digit_value}
use Rattle.std.specs.Str.Parse.{digits_value}
use Rattle.std.proofs.lemmas.Int.Digits.{digits_value_more}
use Rattle.std.proofs.lemmas.Str.Parse.{digits_value-take-le}

-- one digit more
pub next_value : (base : ℕ) (ds : List ℕ) (i v : ℕ) → i < length ds → v ≡ digits_value base (take i ds) → v * base + digit_value (get_or ds i 0) ≡ digits_value base (take (i + 1) ds)
next_value base ds i v h e = ap (λ n. n * base + digit_value (get_or ds i 0)) e ∙ sym (digits_value_more base ds i h)

-- the whole is no less
pub next_value-le : (base : ℕ) (ds : List ℕ) (i v : ℕ) → 1 ≤ base → i < length ds → v ≡ digits_value base (take i ds) → v * base + digit_value (get_or ds i 0) ≤ digits_value base ds
next_value-le base ds i v b h e = subst (λ n. n ≤ digits_value base ds) (sym (next_value base ds i v h e)) (digits_value-take-le base ds (i + 1) b)
