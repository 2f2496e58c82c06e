-- A number of at most nine digits is below a thousand million.
use Rattle.std.proofs.Common.{◌≡◌, ℕ, suc, true, ◌&&◌, ◌||◌, not, List, [], ◌∷◌, length, ◌≤◌, ◌<◌, ◌+◌, ◌-◌, ◌*◌, ◌^◌, subst, sym, arith}
use Rattle.std.specs.Prelude.{nat_le, nat_eq}
use Rattle.std.specs.List.{list_all}
use Rattle.std.proofs.Math.Nat.{pow-suc, pow-le-pow_right}
use Rattle.std.proofs.lemmas.Bool.{and_parts}
use Rattle.std.proofs.lemmas.Bool.Decides.{nat_tests}
use Rattle.c_values.specs.Name.{Name}
use Rattle.command_line.specs.Words.{is_digit, is_count}

-- so many digits are written, and so many are left
pub record IsBelow (n : ℕ) (rest : List ℕ) : Type 0 where
  pub written : ℕ
  pub most : written + length rest ≤ 9
  pub below : n < 10 ^ written
  pub digits : list_all is_digit rest ≡ true

pub first : (w : Name) → is_count w ≡ true → IsBelow 0 w
first [] h = absurd cc
first (c ∷ cs) h =
    let p = and_parts (list_all is_digit (c ∷ cs) && nat_le (length (c ∷ cs)) 9) (not (nat_eq c 48) || nat_eq (length cs) 0) h in
    let q = and_parts (list_all is_digit (c ∷ cs)) (nat_le (length (c ∷ cs)) 9) p.0 in
    let most : length (c ∷ cs) ≤ 9 = grind (arith, nat_tests, q.1) in
    record { written = 0; most = omega (arith, most); below = omega arith; digits = q.0 }

module _ (n c : ℕ) (cs : List ℕ) (h : IsBelow n (c ∷ cs)) where
  pub is_digit_there : is_digit c ≡ true
  is_digit_there = (and_parts (is_digit c) (list_all is_digit cs) h.digits).0

  pub least : 48 ≤ c
  least = grind (arith, nat_tests, (and_parts (nat_le 48 c) (nat_le c 57) is_digit_there).0)

  pub greatest : c ≤ 57
  greatest = grind (arith, nat_tests, (and_parts (nat_le 48 c) (nat_le c 57) is_digit_there).1)

  few : length cs ≤ 8
  few = omega (arith, h.most)

  pub is_small : n < 100000000
  is_small =
      let m : h.written ≤ 8 = omega (arith, h.most) in
      let p : 10 ^ h.written ≤ 10 ^ 8 = pow-le-pow_right (omega arith) m in
      omega (arith, p, h.below)

  pub next : IsBelow (n * 10 + (c - 48)) cs
  next =
      let e = pow-suc 10 h.written in
      let b : n * 10 + (c - 48) < 10 ^ h.written * 10 = omega (arith, h.below, greatest) in
      record {
        written = suc h.written;
        most = omega (arith, h.most);
        below = subst (λ k. n * 10 + (c - 48) < k) (sym e) b;
        digits = (and_parts (is_digit c) (list_all is_digit cs) h.digits).1;
      }
