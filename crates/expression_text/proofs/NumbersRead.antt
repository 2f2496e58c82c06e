-- A number is read from its decimal alone.
use Rattle.std.proofs.Common.{◌≡◌, ℕ, ◌^◌, ◌<◌, Bool, true, false, ◌&&◌, List, Option, Some, None, refl, ap, ◌∙◌, arith, [], ◌∷◌, eqb-true}
use Rattle.std.specs.Prelude.{◌==◌, nat_lt, if◌then◌else◌}
use Rattle.std.specs.Fmt.{decimal}
use Rattle.std.specs.Str.Parse.{digits_value}
use Rattle.std.proofs.lemmas.Fmt.{decimal_is_IsNumeral_wide, decimal_digit}
use Rattle.std.proofs.lemmas.Bool.{and_parts, and_from, cond-true, ltb-true, lt-ltb}
use Rattle.c_values.specs.Name.{same_name}
use Rattle.expression_text.specs.Numbers.{natural_in, negated, not_negated, number_in}
use Rattle.expression_text.proofs.LookedUp.{name_is, name_same}

pub natural_of : (n : ℕ) → n < 2 ^ 128 → natural_in (decimal n) ≡ Some n
natural_of n lt =
    let is : digits_value 10 (decimal n) ≡ n = (decimal_is_IsNumeral_wide n (omega arith)).1 in
    ap (λ m. if nat_lt m (2 ^ 128) && same_name (decimal n) (decimal m) then Some m else None) is
    ∙ cond-true (nat_lt n (2 ^ 128) && same_name (decimal n) (decimal n)) (Some n) None
    (and_from (nat_lt n (2 ^ 128)) (same_name (decimal n) (decimal n)) (lt-ltb n (2 ^ 128) lt) (name_same (decimal n) (decimal n) refl))

chosen_some : (w : List ℕ) (m n : ℕ) (b : Bool) → (nat_lt m (2 ^ 128) && same_name w (decimal m)) ≡ b → (if b then Some m else None) ≡ Some n → (w ≡ decimal n) × (n < 2 ^ 128)
chosen_some w m n true e f =
    let same : m ≡ n = cc in
    let p = and_parts (nat_lt m (2 ^ 128)) (same_name w (decimal m)) e in
    let lt = ltb-true m (2 ^ 128) p.0 in
    (name_is w (decimal m) p.1 ∙ ap decimal same, omega (arith, same, lt))
chosen_some w m n false e f = absurd cc

pub natural_is : (w : List ℕ) (n : ℕ) → natural_in w ≡ Some n → (w ≡ decimal n) × (n < 2 ^ 128)
natural_is w n e = chosen_some w (digits_value 10 w) n (nat_lt (digits_value 10 w) (2 ^ 128) && same_name w (decimal (digits_value 10 w))) refl e

-- where each number's decimal would be another word, there is no number
pub natural_none : (w : List ℕ) → ((n : ℕ) → n < 2 ^ 128 → w ≡ decimal n → ⊥) → None ≡ natural_in w
natural_none w none = at (natural_in w) refl
  where
    at : (o : Option ℕ) → natural_in w ≡ o → None ≡ o
    at None e = refl
    at (Some n) e = let is = natural_is w n e in absurd (none n is.1 is.0)

no_number : natural_in [] ≡ None
no_number =
    let zero_text : decimal 0 ≡ 48 ∷ [] = decimal_digit 0 (omega arith) in
    ap (λ d. if nat_lt (digits_value 10 []) (2 ^ 128) && same_name [] d then Some (digits_value 10 []) else None) zero_text

plain_byte : (b : ℕ) (bs : List ℕ) (t : Bool) → (b == 45) ≡ t → (t ≡ true → ⊥) → not_negated (natural_in (b ∷ bs)) ≡ (if t then negated (natural_in bs) else not_negated (natural_in (b ∷ bs)))
plain_byte b bs true e no_minus = absurd (no_minus refl)
plain_byte b bs false e no_minus = refl

-- a word without a minus is read as it is
pub number_plain : (w : List ℕ) → ((rest : List ℕ) → w ≡ 45 ∷ rest → ⊥) → not_negated (natural_in w) ≡ number_in w
number_plain [] no_minus = ap not_negated no_number
number_plain (b ∷ bs) no_minus = plain_byte b bs (b == 45) refl (λ e. no_minus bs (ap (λ c. c ∷ bs) (eqb-true b 45 e)))
