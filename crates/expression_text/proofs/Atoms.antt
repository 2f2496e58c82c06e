-- Names, numbers and types have texts of atoms.
use Rattle.std.proofs.Common.{◌≡◌, ℕ, ◌≤◌, true, arith, ◌⊎◌, inl, inr, List, [], ◌∷◌, refl, ◌+◌, ◌<◌, ◌%◌, ◌^◌, ℤ, pos, negsuc, ◌==◌, ◌||◌, eqb-true, nat_lt}
use Rattle.std.specs.Char.{is_ascii_digit}
use Rattle.std.proofs.lemmas.Bool.{or_cases, and_parts, and_from, ltb-true}
use Rattle.std.specs.List.{list_all}
use Rattle.std.specs.Fmt.{decimal}
use Rattle.std.proofs.lemmas.Fmt.{decimal_by_steps_wide}
use Rattle.ac_sx.specs.Tree.{is_atom_byte, is_atom, IsTree}
use Rattle.ac_sx.proofs.Reached.{is_atom-push}
use Rattle.expression_text.specs.Names.{begins_name, goes_on_name, is_name}
use Rattle.expression_text.specs.Numbers.{number_text, is_number}
use Rattle.expression_text.specs.Words.{int_type_word}
use Rattle.expression_text.specs.ExpText.{is_width}
use Rattle.expression_text.specs.TypeText.{type_tree, is_type}
use Rattle.c_values.specs.Types as T

pub plain_byte : (b : ℕ) → 42 ≤ b → b ≤ 126 → is_atom_byte b ≡ true
plain_byte b h k = grind arith

pub first_byte : (b : ℕ) → begins_name b ≡ true → is_atom_byte b ≡ true
first_byte b h = grind arith

pub next_byte : (b : ℕ) → goes_on_name b ≡ true → is_atom_byte b ≡ true
next_byte b h = by_case (or_cases (begins_name b) (is_ascii_digit b) h)
  where
    by_case : (begins_name b ≡ true) ⊎ (is_ascii_digit b ≡ true) → is_atom_byte b ≡ true
    by_case (inl i) = first_byte b i
    by_case (inr i) = grind arith

pub all_bytes : (bs : List ℕ) → list_all goes_on_name bs ≡ true → list_all is_atom_byte bs ≡ true
all_bytes [] h = refl
all_bytes (b ∷ bs) h =
    let p = and_parts (goes_on_name b) (list_all goes_on_name bs) h in
    and_from (is_atom_byte b) (list_all is_atom_byte bs) (next_byte b p.0) (all_bytes bs p.1)

pub name_atom : (x : List ℕ) → is_name x ≡ true → is_atom x ≡ true
name_atom [] h = absurd cc
name_atom (b ∷ bs) h =
    let p = and_parts (begins_name b) (list_all goes_on_name bs) h in
    and_from (is_atom_byte b) (list_all is_atom_byte bs) (first_byte b p.0) (all_bytes bs p.1)

pub digit : (n : ℕ) → n < 10 → is_atom_byte (48 + n) ≡ true
digit n h = plain_byte (48 + n) (omega arith) (omega arith)

pub last_digit : (n : ℕ) → is_atom_byte (48 + n % 10) ≡ true
last_digit n = digit (n % 10) (omega arith)

pub decimal_atom : (n : ℕ) → n < 2 ^ 128 → is_atom (decimal n) ≡ true
decimal_atom n h =
    decimal_by_steps_wide (λ m ds. is_atom ds ≡ true)
    (λ m l. and_from (is_atom_byte (48 + m)) true (digit m l) refl)
    (λ m ds l r. is_atom-push ds (48 + m % 10) r (last_digit m)) n (omega arith)

pub negative : (w : List ℕ) → is_atom w ≡ true → is_atom (45 ∷ w) ≡ true
negative [] h = absurd cc
negative (b ∷ bs) h = h

pub number_atom : (n : ℤ) → is_number n ≡ true → is_atom (number_text n) ≡ true
number_atom (pos n) h = decimal_atom n (ltb-true n (2 ^ 128) h)
number_atom (negsuc n) h = negative (decimal (n + 1)) (decimal_atom (n + 1) (ltb-true (n + 1) (2 ^ 128) h))

pub int_type_atom : (i : T.IntType) → is_atom (int_type_word i) ≡ true
int_type_atom T.Char = refl
int_type_atom _ = refl

pub width_small : (n : ℕ) → is_width n ≡ true → n ≤ 64
width_small n h = by_last (or_cases (n == 8 || n == 16 || n == 32) (n == 64) h)
  where
    is_at_most : (m : ℕ) → m ≤ 64 → (n == m) ≡ true → n ≤ 64
    is_at_most m l e = let i : n ≡ m = eqb-true n m e in omega arith

    by_first : ((n == 8) ≡ true) ⊎ ((n == 16) ≡ true) → n ≤ 64
    by_first (inl e) = is_at_most 8 (omega arith) e
    by_first (inr e) = is_at_most 16 (omega arith) e

    by_third : ((n == 8 || n == 16) ≡ true) ⊎ ((n == 32) ≡ true) → n ≤ 64
    by_third (inl e) = by_first (or_cases (n == 8) (n == 16) e)
    by_third (inr e) = is_at_most 32 (omega arith) e

    by_last : ((n == 8 || n == 16 || n == 32) ≡ true) ⊎ ((n == 64) ≡ true) → n ≤ 64
    by_last (inl e) = by_third (or_cases (n == 8 || n == 16) (n == 32) e)
    by_last (inr e) = is_at_most 64 (omega arith) e

pub short_atom : (n : ℕ) → nat_lt n (2 ^ 32) ≡ true → is_atom (decimal n) ≡ true
short_atom n h = let l = ltb-true n (2 ^ 32) h in decimal_atom n (omega (arith, l))

pub type_is_tree : (t : T.CType) → is_type t ≡ true → IsTree (type_tree t)
type_is_tree (T.Integer i) h = int_type_atom i
type_is_tree T.Void h = refl
type_is_tree (T.Ptr t) h = (refl, (type_is_tree t h, tt))
type_is_tree (T.Struct x) h = (refl, (name_atom x h, tt))
type_is_tree (T.Array t n) h =
    let p = and_parts (is_type t) (nat_lt n (2 ^ 32)) h in (refl, (type_is_tree t p.0, (short_atom n p.1, tt)))
