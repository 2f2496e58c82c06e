-- Names with digits behind them are names.
use Rattle.std.proofs.Common.{◌≡◌, ℕ, zero, suc, ◌/◌, ◌%◌, ◌<◌, ◌==◌, Bool, true, false, cond, List, [], ◌∷◌, ◌++◌, refl, arith}
use Rattle.std.specs.List.{list_all}
use Rattle.std.proofs.lemmas.Bool.{false≢true, and_parts, and_from}
use Rattle.std.proofs.lemmas.Bool.Decides.{nat_tests}
use Rattle.std.proofs.Math.Nat.{mod-lt}
use Rattle.core.specs.Fmt.{digits, digits_onto, digit_glyph, decimal}
use Rattle.expression_text.specs.Names.{is_name, begins_name, goes_on_name}

digit_goes_on : (n : ℕ) → n < 10 → goes_on_name (digit_glyph false n) ≡ true
digit_goes_on n h = grind (arith, nat_tests)

by_test : (P : List ℕ → Type 0) (b : Bool) (xs ys : List ℕ) → P xs → P ys → P (cond b xs ys)
by_test P true xs ys h k = h
by_test P false xs ys h k = k

digits_go_on : (k n : ℕ) (acc : List ℕ) → list_all goes_on_name acc ≡ true → list_all goes_on_name (digits_onto k 10 false n acc) ≡ true
digits_go_on zero n acc h = h
digits_go_on (suc k) n acc h =
    let glyph = digit_glyph false (n % 10) in
    let longer : list_all goes_on_name (glyph ∷ acc) ≡ true = and_from _ _ (digit_goes_on (n % 10) (mod-lt n (omega arith))) h in
    by_test (λ ds. list_all goes_on_name ds ≡ true) (n / 10 == 0) (glyph ∷ acc) (digits_onto k 10 false (n / 10) (glyph ∷ acc)) longer (digits_go_on k (n / 10) (glyph ∷ acc) longer)

pub decimal_goes_on : (n : ℕ) → list_all goes_on_name (decimal n) ≡ true
unfolding digits
decimal_goes_on n = digits_go_on 64 n [] refl

both_go_on : (xs ys : List ℕ) → list_all goes_on_name xs ≡ true → list_all goes_on_name ys ≡ true → list_all goes_on_name (xs ++ ys) ≡ true
both_go_on [] ys h k = k
both_go_on (x ∷ xs) ys h k = let p = and_parts (goes_on_name x) (list_all goes_on_name xs) h in and_from _ _ p.0 (both_go_on xs ys p.1 k)

pub longer_name : (x ys : List ℕ) → is_name x ≡ true → list_all goes_on_name ys ≡ true → is_name (x ++ ys) ≡ true
longer_name [] ys h k = absurd (false≢true h)
longer_name (c ∷ cs) ys h k = let p = and_parts (begins_name c) (list_all goes_on_name cs) h in and_from _ _ p.0 (both_go_on cs ys p.1 k)
