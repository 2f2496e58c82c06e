-- What stands at the front of a text is read there: character constants and numbers.
use Rattle.std.proofs.Common.{◌≡◌, ℕ, zero, suc, ◌+◌, ◌<◌, ◌≤◌, Bool, true, false, ◌&&◌, ◌||◌, if◌then◌else◌, cond, eqb, ltb, List, [], ◌∷◌, ◌++◌, ◌⊎◌, inl, inr, length, get_or, take, drop, Option, Some, None, refl, sym, ap, ◌∙◌, subst, ⊎_elim, arith, append_assoc}
use Rattle.std.specs.List.{prefix_len, take_while, list_all}
use Rattle.std.specs.Char.{is_digit, digit_value, is_ascii_digit}
use Rattle.std.specs.Str.Parse.{IsNumeral, AllDigits, digits_value}
use Rattle.std.proofs.lemmas.Bool.Decides.{nat_tests}
use Rattle.std.proofs.lemmas.Bool.{and_parts, and_from, false_from_ne_true, eqb-true, lt-ltb, ltb-true, or_cases, le-ltb, eq-eqb}
use Rattle.std.proofs.lemmas.Str.Parse.{digit_from_value}
use Rattle.std.proofs.lemmas.List.Sums.{AllPass-from_list_all}
use Rattle.std.proofs.lemmas.List.{get_or-take, length-take-le, length-append, take-append-drop}
use Rattle.c_lex.specs.Bytes.{is_white, is_letter, is_numeral, quote, backslash}
use Rattle.c_lex.specs.Number.{lp64, has_type, is_u, is_l, is_x, suffix_of, written, number_of}
use Rattle.c_lex.specs.Character.{is_plain, simple_escape, numeric_escape, escape_of, character_of}
use Rattle.c_lex.specs.Gap.{star, slash}
use Rattle.c_lex.specs.Lexeme.{Kind, character, number}
use Rattle.c_lex.specs.Front.{holds, number_front, character_front, front}
use Rattle.c_lex.specs.Spelling.{IsBase, is_hexadecimal, is_octal, is_decimal, IsNumber, IsCharacter, plain, simple, octal_escape, hexadecimal_escape}
use Rattle.c_lex.proofs.TokenReading.{no_zero, begun, run_is}

-- digits, and what ends them

prefix_digits : (base : ℕ) (digits rest : List ℕ) → AllDigits base digits → prefix_len (λ b. is_digit b base) rest ≡ 0 → prefix_len (λ b. is_digit b base) (digits ++ rest) ≡ length digits
prefix_digits base [] rest all ends = ends
prefix_digits base (d ∷ ds) rest all ends =
    ap (λ c. cond c (1 + prefix_len (λ b. is_digit b base) (ds ++ rest)) 0) (lt-ltb _ _ all.0)
    ∙ (let next = prefix_digits base ds rest all.1 ends in omega arith)

prefix_taken : (base most : ℕ) (digits rest : List ℕ) → AllDigits base digits → length digits ≤ most → is_digit quote base ≡ false → prefix_len (λ b. is_digit b base) (take most (digits ++ quote ∷ rest)) ≡ length digits
prefix_taken base zero [] rest all few ends = refl
prefix_taken base (suc most) [] rest all few ends = ap (λ c. cond c (1 + prefix_len (λ b. is_digit b base) (take most rest)) 0) ends
prefix_taken base zero (d ∷ ds) rest all few ends = absurd (omega arith)
prefix_taken base (suc most) (d ∷ ds) rest all few ends =
    ap (λ c. cond c (1 + prefix_len (λ b. is_digit b base) (take most (ds ++ quote ∷ rest))) 0) (lt-ltb _ _ all.0)
    ∙ (let next = prefix_taken base most ds rest all.1 (omega arith) ends in omega arith)

take_front : (xs ys : List ℕ) → take (length xs) (xs ++ ys) ≡ xs
take_front [] ys = refl
take_front (x ∷ xs) ys = ap (λ zs. x ∷ zs) (take_front xs ys)

drop_front : (xs ys : List ℕ) → drop (length xs) (xs ++ ys) ≡ ys
drop_front [] ys = refl
drop_front (x ∷ xs) ys = drop_front xs ys

some_few : (n v : ℕ) → 0 < n → v ≤ 255 → (eqb n 0 || ltb 255 v) ≡ false
some_few n v some few = grind (arith, nat_tests)

-- character constants

numeric_reads : (base most before : ℕ) (digits rest : List ℕ) → IsNumeral base digits → length digits ≤ most → digits_value base digits ≤ 255 → is_digit quote base ≡ false →
    numeric_escape base most before (digits ++ quote ∷ rest) ≡ Some (digits_value base digits, before + length digits + 1)
unfolding numeric_escape
numeric_reads base most before digits rest is few small ends =
    let count = prefix_taken base most digits rest is.1 few ends in
    let cut = take_front digits (quote ∷ rest) in
    let left = drop_front digits (quote ∷ rest) in
    let test = some_few (length digits) (digits_value base digits) is.0 small in
    rw (count, cut, left, test) refl

plain_no_backslash : (c : ℕ) → is_plain c ≡ true → eqb c backslash ≡ false
plain_no_backslash c e = grind (arith, nat_tests)

simple_no_x : (c v : ℕ) → simple_escape c ≡ Some v → eqb c 120 ≡ false
simple_no_x c v h = false_from_ne_true _ (λ e. let none : simple_escape 120 ≡ Some v = ap simple_escape (sym (eqb-true c 120 e)) ∙ h in absurd (cc))

apart : (m n : ℕ) → (m < n) ⊎ (n < m) → eqb m n ≡ false
apart m n (inl h) = grind (arith, nat_tests)
apart m n (inr h) = grind (arith, nat_tests)

digit_no_escape : (c : ℕ) → 48 ≤ c → c ≤ 57 → simple_escape c ≡ None
digit_no_escape c low high =
    let a = apart c 110 (inl (omega arith)) in
    let b = apart c 116 (inl (omega arith)) in
    let d = apart c 114 (inl (omega arith)) in
    let e = apart c 97 (inl (omega arith)) in
    let f = apart c 98 (inl (omega arith)) in
    let g = apart c 102 (inl (omega arith)) in
    let h = apart c 118 (inl (omega arith)) in
    let i = apart c 92 (inl (omega arith)) in
    let j = apart c 39 (inr (omega arith)) in
    let k = apart c 34 (inr (omega arith)) in
    let l = apart c 63 (inl (omega arith)) in
    rw (a, b, d, e, f, g, h, i, j, k, l) refl

simple_no_digit : (c v : ℕ) → simple_escape c ≡ Some v → is_digit c 8 ≡ false
simple_no_digit c v h = false_from_ne_true _ (λ e.
    let small : digit_value c < 8 = ltb-true (digit_value c) 8 e in
    let range = digit_from_value c (omega (arith, small)) in
    let none = digit_no_escape c range.0 range.1 in
    absurd (cc))

digit_no_x : (c base : ℕ) → digit_value c < base → base ≤ 16 → eqb c 120 ≡ false
digit_no_x c base h b = false_from_ne_true _ (λ e. let big : digit_value c ≡ 33 = ap digit_value (eqb-true c 120 e) in absurd (omega arith))

two_digits : (digits : List ℕ) → AllDigits 16 digits → length digits ≤ 2 → digits_value 16 digits ≤ 255
two_digits [] all few = omega arith
two_digits (a ∷ []) all few = let one = all.0 in omega arith
two_digits (a ∷ b ∷ []) all few = let one = all.0 in let two = all.1.0 in omega arith
two_digits (a ∷ b ∷ c ∷ cs) all few = absurd (omega arith)

octal_reads : (digits rest : List ℕ) → IsNumeral 8 digits → length digits ≤ 3 → digits_value 8 digits ≤ 255 → escape_of (digits ++ quote ∷ rest) ≡ Some (digits_value 8 digits, 2 + length digits + 1)
unfolding escape_of
octal_reads [] rest is few small = absurd (omega (arith, is.0))
octal_reads (d ∷ ds) rest is few small =
    let no_x = digit_no_x d 8 is.1.0 (omega arith) in
    let digit : is_digit d 8 ≡ true = lt-ltb (digit_value d) 8 is.1.0 in
    let read = numeric_reads 8 3 2 (d ∷ ds) rest is few small refl in
    rw (no_x, digit) read

character_reads : (body rest : List ℕ) (v : ℕ) → IsCharacter body v → character_of (body ++ quote ∷ rest) ≡ Some (v, length body + 2)
unfolding character_of escape_of
character_reads _ rest _ (plain {c = c} e) = let no = plain_no_backslash c e in rw (e, no) refl
character_reads _ rest _ (simple {c = c} {value = v} e) = let no_x = simple_no_x c v e in let no_digit = simple_no_digit c v e in rw (no_x, no_digit, e) refl
character_reads _ rest _ (octal_escape {digits = digits} is few small) = octal_reads digits rest is few small ∙ ap (λ n. Some (digits_value 8 digits, n)) (omega arith)
character_reads _ rest _ (hexadecimal_escape {digits = digits} is few) = numeric_reads 16 2 3 digits rest is few (two_digits digits is.1 few) refl ∙ ap (λ n. Some (digits_value 16 digits, n)) (omega arith)

front_quote : (fresh : Bool) (t : List ℕ) → front fresh (quote ∷ t) ≡ character_front t
unfolding front
front_quote fresh t = let some = no_zero (length t) in rw some refl

character_front_is : (t : List ℕ) (v n : ℕ) → character_of t ≡ Some (v, n) → character_front t ≡ holds (character v) n
unfolding character_front
character_front_is t v n e = rw e refl

pub read_character : (fresh : Bool) (text body : List ℕ) (v n : ℕ) → take n text ≡ quote ∷ (body ++ quote ∷ []) → IsCharacter body v → n ≤ length text → front fresh text ≡ holds (character v) n
read_character fresh text body v n e is within =
    let size : length body + 2 ≡ n = let cut = length-take-le n text within in omega (arith, cut, ap length e, length-append body (quote ∷ [])) in
    let whole : text ≡ quote ∷ (body ++ quote ∷ drop n text) = sym (take-append-drop n text) ∙ ap (λ t. t ++ drop n text) e ∙ ap (λ t. quote ∷ t) (append_assoc body (quote ∷ []) (drop n text)) in
    ap (front fresh) whole ∙ front_quote fresh (body ++ quote ∷ drop n text) ∙ character_front_is _ v (length body + 2) (character_reads body (drop n text) v is) ∙ ap (λ k. holds (character v) k) size

-- numbers

-- which way a test went
chosen : {A : Type 0} (b : Bool) (x : A) (o : Option A) (z : A) → (if b then Some x else o) ≡ Some z → (b ≡ true) ⊎ (o ≡ Some z)
chosen true x o z h = inl refl
chosen false x o z h = inr h

abbrev is_suffix : ℕ → Bool
is_suffix b = is_u b || is_l b

-- the letters of a suffix
letter_u : (a : ℕ) → is_u a ≡ true → is_suffix a ≡ true
letter_u a e = grind (arith, nat_tests)

letter_l : (a : ℕ) → is_l a ≡ true → is_suffix a ≡ true
letter_l a e = grind (arith, nat_tests)

same_l : (a b : ℕ) → is_l a ≡ true → eqb a b ≡ true → is_suffix b ≡ true
same_l a b e h = letter_l b (ap is_l (sym (eqb-true a b h)) ∙ e)

one_letter : (a : ℕ) (x : Bool × ℕ) → suffix_of (a ∷ []) ≡ Some x → is_suffix a ≡ true
one_letter a x h = ⊎_elim (letter_u a) (λ h. ⊎_elim (letter_l a) (λ none. absurd (cc)) (chosen (is_l a) (false, 1) None x h)) (chosen (is_u a) (true, 0) _ x h)

two_letters : (a b : ℕ) (x : Bool × ℕ) → suffix_of (a ∷ b ∷ []) ≡ Some x → (is_suffix a ≡ true) × (is_suffix b ≡ true)
two_letters a b x h =
    ⊎_elim (λ e. let p = and_parts _ _ e in (letter_l a p.0, same_l a b p.0 p.1))
    (λ h. ⊎_elim
    (λ e. ⊎_elim (λ f. let p = and_parts _ _ f in (letter_u a p.0, letter_l b p.1)) (λ f. let p = and_parts _ _ f in (letter_l a p.0, letter_u b p.1)) (or_cases (is_u a && is_l b) (is_l a && is_u b) e))
    (λ none. absurd (cc))
    (chosen ((is_u a && is_l b) || (is_l a && is_u b)) (true, 1) None x h))
    (chosen (is_l a && eqb a b) (false, 2) _ x h)

three_letters : (a b c : ℕ) (x : Bool × ℕ) → suffix_of (a ∷ b ∷ c ∷ []) ≡ Some x → (is_suffix a ≡ true) × (is_suffix b ≡ true) × (is_suffix c ≡ true)
three_letters a b c x h =
    ⊎_elim
    (λ e. ⊎_elim
    (λ f. let p = and_parts _ _ f in let q = and_parts _ _ p.0 in (letter_u a q.0, letter_l b q.1, same_l b c q.1 p.1))
    (λ f. let p = and_parts _ _ f in let q = and_parts _ _ p.0 in (letter_l a q.0, same_l a b q.0 q.1, letter_u c p.1))
    (or_cases (is_u a && is_l b && eqb b c) (is_l a && eqb a b && is_u c) e))
    (λ none. absurd (cc))
    (chosen ((is_u a && is_l b && eqb b c) || (is_l a && eqb a b && is_u c)) (true, 2) None x h)

suffix_letters : (s : List ℕ) (x : Bool × ℕ) → suffix_of s ≡ Some x → list_all is_suffix s ≡ true
suffix_letters [] x h = refl
suffix_letters (a ∷ []) x h = and_from _ _ (one_letter a x h) refl
suffix_letters (a ∷ b ∷ []) x h = let p = two_letters a b x h in and_from _ _ p.0 (and_from _ _ p.1 refl)
suffix_letters (a ∷ b ∷ c ∷ []) x h = let p = three_letters a b c x h in and_from _ _ p.0 (and_from _ _ p.1 (and_from _ _ p.2 refl))
suffix_letters (a ∷ b ∷ c ∷ d ∷ s) x h = absurd (cc)

-- a letter of a suffix is no digit and no `x`
suffix_codes : (b : ℕ) → is_suffix b ≡ true → (b ≡ 117) ⊎ ((b ≡ 85) ⊎ ((b ≡ 108) ⊎ (b ≡ 76)))
suffix_codes b e =
    ⊎_elim (λ u. ⊎_elim (λ h. inl (eqb-true b 117 h)) (λ h. inr (inl (eqb-true b 85 h))) (or_cases (eqb b 117) (eqb b 85) u))
    (λ l. ⊎_elim (λ h. inr (inr (inl (eqb-true b 108 h)))) (λ h. inr (inr (inr (eqb-true b 76 h)))) (or_cases (eqb b 108) (eqb b 76) l)) (or_cases (is_u b) (is_l b) e)

-- what holds of each letter of a suffix
by_code : (P : ℕ → Type 0) → P 117 → P 85 → P 108 → P 76 → (b : ℕ) → is_suffix b ≡ true → P b
by_code P u U l L b e =
    ⊎_elim (λ h. subst P (sym h) u) (λ r. ⊎_elim (λ h. subst P (sym h) U) (λ r. ⊎_elim (λ h. subst P (sym h) l) (λ h. subst P (sym h) L) r) r) (suffix_codes b e)

suffix_no_digit : (base : ℕ) → base ≤ 16 → (b : ℕ) → is_suffix b ≡ true → is_digit b base ≡ false
suffix_no_digit base h = by_code (λ b. is_digit b base ≡ false) (le-ltb 30 base (omega arith)) (le-ltb 30 base (omega arith)) (le-ltb 21 base (omega arith)) (le-ltb 21 base (omega arith))

suffix_no_x : (b : ℕ) → is_suffix b ≡ true → is_x b ≡ false
suffix_no_x = by_code (λ b. is_x b ≡ false) refl refl refl refl

suffix_numeral : (b : ℕ) → is_suffix b ≡ true → is_numeral b ≡ true
suffix_numeral = by_code (λ b. is_numeral b ≡ true) refl refl refl refl

suffix_ends : (base : ℕ) (s : List ℕ) (x : Bool × ℕ) → base ≤ 16 → suffix_of s ≡ Some x → prefix_len (λ b. is_digit b base) s ≡ 0
suffix_ends base [] x h e = refl
suffix_ends base (a ∷ s) x h e = ap (λ c. cond c (1 + prefix_len (λ b. is_digit b base) s) 0) (suffix_no_digit base h a (and_parts _ _ (suffix_letters (a ∷ s) x e)).0)

some_is : (n : ℕ) → 0 < n → eqb n 0 ≡ false
some_is n h = grind (arith, nat_tests)

written_reads : (base : ℕ) (digits s : List ℕ) (u : Bool) (l : ℕ) → base ≤ 16 → IsNumeral base digits → suffix_of s ≡ Some (u, l) → has_type lp64 (eqb base 10) u l (digits_value base digits) ≡ true →
    written base (digits ++ s) ≡ Some (number (digits_value base digits) (eqb base 10) u l)
unfolding written
written_reads base digits s u l h is e t =
    let count = prefix_digits base digits s is.1 (suffix_ends base s (u, l) h e) in
    let some = some_is (length digits) is.0 in
    let cut = take_front digits s in
    let left = drop_front digits s in
    rw (count, some, cut, left, e, t) refl

octal_no_x : (digits s : List ℕ) (x : Bool × ℕ) → IsNumeral 8 digits → suffix_of s ≡ Some x → is_x (get_or (digits ++ s) 1 0) ≡ false
octal_no_x [] s x is e = absurd (omega (arith, is.0))
octal_no_x (d ∷ []) [] x is e = refl
octal_no_x (d ∷ []) (a ∷ s) x is e = suffix_no_x a (and_parts _ _ (suffix_letters (a ∷ s) x e)).0
octal_no_x (d ∷ c ∷ ds) s x is e = no_x c (digit_no_x c 8 is.1.1.0 (omega arith)) (digit_no_X c is.1.1.0) where
  no_x : (c : ℕ) → eqb c 120 ≡ false → eqb c 88 ≡ false → is_x c ≡ false
  no_x c g h = rw (g, h) refl

  digit_no_X : (c : ℕ) → digit_value c < 8 → eqb c 88 ≡ false
  digit_no_X c h = false_from_ne_true _ (λ e. let big : digit_value c ≡ 33 = ap digit_value (eqb-true c 88 e) in absurd (omega arith))

first_of : (digits s : List ℕ) → 0 < length digits → get_or (digits ++ s) 0 0 ≡ get_or digits 0 0
first_of [] s h = absurd (omega arith)
first_of (d ∷ ds) s h = refl

number_reads : (base : ℕ) (prefix digits s : List ℕ) (u : Bool) (l : ℕ) → IsBase base prefix digits → IsNumeral base digits → suffix_of s ≡ Some (u, l) → has_type lp64 (eqb base 10) u l (digits_value base digits) ≡ true →
    number_of (prefix ++ (digits ++ s)) ≡ Some (number (digits_value base digits) (eqb base 10) u l)
unfolding number_of
number_reads _ _ digits s u l (is_hexadecimal x) is e t = let read = written_reads 16 digits s u l (omega arith) is e t in rw x read
number_reads _ _ digits s u l (is_octal z) is e t =
    let read = written_reads 8 digits s u l (omega arith) is e t in
    let zero = eq-eqb _ 48 (first_of digits s is.0 ∙ z) in
    let no_x = octal_no_x digits s (u, l) is e in
    rw (zero, no_x) read
number_reads _ _ digits s u l (is_decimal z) is e t =
    let read = written_reads 10 digits s u l (omega arith) is e t in
    let other = false_from_ne_true (eqb (get_or (digits ++ s) 0 0) 48) (λ h. z (sym (first_of digits s is.0) ∙ eqb-true _ _ h)) in
    rw other read

-- every byte of a number goes on a number

digit_byte : (b : ℕ) → digit_value b < 16 → is_numeral b ≡ true
digit_byte b h = grind (arith, nat_tests)

all_append : (p : ℕ → Bool) (xs ys : List ℕ) → list_all p xs ≡ true → list_all p ys ≡ true → list_all p (xs ++ ys) ≡ true
all_append p [] ys h k = k
all_append p (x ∷ xs) ys h k = let q = and_parts _ _ h in and_from _ _ q.0 (all_append p xs ys q.1 k)

digit_bytes : (base : ℕ) (digits : List ℕ) → base ≤ 16 → AllDigits base digits → list_all is_numeral digits ≡ true
digit_bytes base [] h all = refl
digit_bytes base (d ∷ ds) h all = and_from _ _ (digit_byte d (let one = all.0 in omega arith)) (digit_bytes base ds h all.1)

suffix_bytes : (s : List ℕ) → list_all is_suffix s ≡ true → list_all is_numeral s ≡ true
suffix_bytes [] h = refl
suffix_bytes (a ∷ s) h = let q = and_parts _ _ h in and_from _ _ (suffix_numeral a q.0) (suffix_bytes s q.1)

x_numeral : (b : ℕ) → is_x b ≡ true → is_numeral b ≡ true
x_numeral b e = grind (arith, nat_tests)

-- the base is known, and so is what stands before the digits
abbrev Begins : ℕ → List ℕ → List ℕ → Type 0
Begins base prefix digits = (base ≤ 16) × (list_all is_numeral prefix ≡ true) × (is_ascii_digit (get_or (prefix ++ digits) 0 0) ≡ true)

decimal_digit : (b : ℕ) → digit_value b < 10 → is_ascii_digit b ≡ true
decimal_digit b h = let range = digit_from_value b h in in_range b range.0 range.1 where
  in_range : (b : ℕ) → 48 ≤ b → b ≤ 57 → is_ascii_digit b ≡ true
  in_range b low high = grind (arith, nat_tests)

first_digit : (base : ℕ) (digits : List ℕ) → base ≤ 10 → IsNumeral base digits → is_ascii_digit (get_or digits 0 0) ≡ true
first_digit base [] h is = absurd (omega (arith, is.0))
first_digit base (d ∷ ds) h is = decimal_digit d (let one = is.1.0 in omega arith)

base_begins : (base : ℕ) (prefix digits : List ℕ) → IsBase base prefix digits → IsNumeral base digits → Begins base prefix digits
base_begins _ _ digits (is_hexadecimal {x = x} e) is = (omega arith, and_from _ _ refl (and_from _ _ (x_numeral x e) refl), refl)
base_begins _ _ digits (is_octal z) is = (omega arith, refl, first_digit 8 digits (omega arith) is)
base_begins _ _ digits (is_decimal z) is = (omega arith, refl, first_digit 10 digits (omega arith) is)

-- digits have a class of their own

digit_no_white : (b : ℕ) → is_ascii_digit b ≡ true → is_white b ≡ false
digit_no_white b e = grind (arith, nat_tests)

digit_no_slash : (b : ℕ) (c : Bool) → is_ascii_digit b ≡ true → (eqb b slash && c) ≡ false
digit_no_slash b c e = grind (arith, nat_tests)

digit_no_letter : (b : ℕ) → is_ascii_digit b ≡ true → is_letter b ≡ false
digit_no_letter b e = grind (arith, nat_tests)

digit_no_zero : (b : ℕ) → is_ascii_digit b ≡ true → eqb b 0 ≡ false
digit_no_zero b e = grind (arith, nat_tests)

front_digits : (fresh : Bool) (text : List ℕ) → is_ascii_digit (get_or text 0 0) ≡ true → front fresh text ≡ number_front (take_while is_numeral text)
unfolding front
front_digits fresh text e =
    let some = begun text (digit_no_zero (get_or text 0 0) e) in
    let white = digit_no_white (get_or text 0 0) e in
    let line = digit_no_slash (get_or text 0 0) (eqb (get_or text 1 0) slash) e in
    let opens = digit_no_slash (get_or text 0 0) (eqb (get_or text 1 0) star) e in
    let letter = digit_no_letter (get_or text 0 0) e in
    rw (some, white, line, opens, letter, e) refl

number_front_is : (numeral : List ℕ) (kind : Kind) → number_of numeral ≡ Some kind → number_front numeral ≡ holds kind (length numeral)
unfolding number_front
number_front_is numeral kind e = rw e refl

byte_first : (text prefix digits s : List ℕ) (n : ℕ) → take n text ≡ prefix ++ (digits ++ s) → 0 < length digits → get_or text 0 0 ≡ get_or (prefix ++ digits) 0 0
byte_first text prefix digits s zero e some = absurd (let sizes = ap length e in omega (arith, length-append prefix (digits ++ s), length-append digits s))
byte_first text prefix digits s (suc n) e some =
    sym (get_or-take (suc n) text 0 0 (omega arith)) ∙ ap (λ t. get_or t 0 0) (e ∙ sym (append_assoc prefix digits s)) ∙ first_of (prefix ++ digits) s (omega (arith, length-append prefix digits))

pub read_number : (fresh : Bool) (text : List ℕ) (v : ℕ) (d u : Bool) (l n : ℕ) → IsNumber (take n text) v d u l → n ≤ length text → is_numeral (get_or text n 0) ≡ false → front fresh text ≡ holds (number v d u l) n
read_number fresh text v d u l n is within stops =
    let begins = base_begins is.base is.prefix is.digits is.told is.numeral in
    let bytes = all_append is_numeral is.prefix (is.digits ++ is.suffix) begins.1 (all_append is_numeral is.digits is.suffix (digit_bytes is.base is.digits begins.0 is.numeral.1) (suffix_bytes is.suffix (suffix_letters is.suffix (u, l) is.suffix_is))) in
    let run = run_is is_numeral text n within (AllPass-from_list_all is_numeral (take n text) (ap (list_all is_numeral) is.whole ∙ bytes)) stops in
    let typed : has_type lp64 (eqb is.base 10) u l (digits_value is.base is.digits) ≡ true = (λ i. has_type lp64 (sym is.decimal_is i) u l (sym is.value_is i)) ∙ is.typed lp64 in
    let kind : number (digits_value is.base is.digits) (eqb is.base 10) u l ≡ number v d u l = λ i. number (sym is.value_is i) (sym is.decimal_is i) u l in
    let read : number_of (take n text) ≡ Some (number v d u l) = ap number_of is.whole ∙ number_reads is.base is.prefix is.digits is.suffix u l is.told is.numeral is.suffix_is typed ∙ ap Some kind in
    front_digits fresh text (ap is_ascii_digit (byte_first text is.prefix is.digits is.suffix n is.whole is.numeral.0) ∙ begins.2)
    ∙ ap number_front run
    ∙ number_front_is (take n text) (number v d u l) read
    ∙ ap (λ k. holds (number v d u l) k) (length-take-le n text within)
