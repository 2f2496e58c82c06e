-- The token at the front of a text is what its bytes spell.
use Rattle.std.proofs.Common.{◌≡◌, ◌≢◌, ℕ, zero, suc, ◌+◌, ◌<◌, ◌≤◌, Bool, true, false, ◌&&◌, ◌||◌, if◌then◌else◌, cond, eqb, ltb, leb, List, [], ◌∷◌, ◌++◌, length, get_or, take, drop, Some, None, refl, sym, ap, ◌∙◌, subst, arith}
use Rattle.std.specs.Option.{option_and_then}
use Rattle.std.specs.List.{prefix_len, take_while, AllPass}
use Rattle.std.specs.Char.{is_digit, digit_value}
use Rattle.std.specs.Str.Parse.{IsNumeral, AllDigits, digits_value}
use Rattle.std.proofs.lemmas.Bool.Decides.{nat_tests}
use Rattle.std.proofs.lemmas.Bool.{and_parts, ltb-true, eqb-true}
use Rattle.std.proofs.lemmas.List.Sums.{prefix_len_passes, prefix_len-le-length}
use Rattle.std.proofs.lemmas.List.Folds.{length-prefix_len}
use Rattle.std.proofs.lemmas.List.{get_or-take, get_or-drop, length-take, take_more, take-append-drop}
use Rattle.c_lex.specs.declared.token.Keyword.{Keyword}
use Rattle.c_lex.specs.declared.fault.Unsupported.{Unsupported}
use Rattle.c_lex.specs.Bytes.{is_letter, is_word, is_numeral, quote, backslash}
use Rattle.c_lex.specs.Keyword.{keyword_text, keywords, keyword_of}
use Rattle.c_lex.specs.Unsupported.{unsupported_text, unsupported_of}
use Rattle.c_lex.specs.Punct.{punct_text, punct_of, punct_at}
use Rattle.c_lex.specs.Number.{Target, ilp32, lp64, has_type, suffix_of, is_x, typed, written, number_of}
use Rattle.c_lex.specs.Character.{is_plain, simple_escape, closed, numeric_escape, escape_of, character_of}
use Rattle.c_lex.specs.Lexeme.{Kind, name, keyword, punct, character, number}
use Rattle.c_lex.specs.Front.{Front, ends, gap, holds, lacks, Cause, bad_byte, word_front, number_front, character_front, comment_front, mark_front, front}
use Rattle.c_lex.specs.Spelling.{IsBase, is_hexadecimal, is_octal, is_decimal, IsCharacter, plain, simple, octal_escape, hexadecimal_escape, Spells}
use Rattle.c_lex.proofs.Cases.{Holds, Each, cond_holds, option_holds, always, each_none, each_cond, weaker, each_or, each_then}
use Rattle.c_lex.proofs.Spelled.{keyword_of-text, unsupported_of-text}
use Rattle.c_lex.proofs.NumberTypes.{targets_agree}
use Rattle.c_lex.specs.Gap.{comment_length}
use Rattle.c_lex.proofs.FrontFits.{find_fits, punct_of_fits, inside, prefix_positive, letter_is_word}

abbrev pub Told : List ℕ → Front → Type 0
Told text ends = Unit {0}
Told text (gap n fresh) = Unit {0}
Told text (holds kind n) = Spells kind (take n text)
Told text (lacks cause) = Unit {0}

says_ends : (text : List ℕ) → Holds (Told text) ends
says_ends text = record { holds = tt }

says_gap : (text : List ℕ) {n : ℕ} {fresh : Bool} → Holds (Told text) (gap n fresh)
says_gap text = record { holds = tt }

says_lacks : (text : List ℕ) {cause : Cause} → Holds (Told text) (lacks cause)
says_lacks text = record { holds = tt }

-- words

keyword_of_fits : (bytes : List ℕ) → Each (keyword_of bytes) (λ k. keyword_text k ≡ bytes)
unfolding keyword_of
keyword_of_fits bytes = find_fits keyword_text bytes keywords

no_keyword : (w : List ℕ) → keyword_of w ≡ None → (k : Keyword) → w ≢ keyword_text k
no_keyword w none k e = let some : keyword_of w ≡ Some k = ap keyword_of e ∙ keyword_of-text k in absurd (cc)

not_refused : (w : List ℕ) → unsupported_of w ≡ None → (u : Unsupported) → w ≢ unsupported_text u
not_refused w none u e = let some : unsupported_of w ≡ Some u = ap unsupported_of e ∙ unsupported_of-text u in absurd (cc)

-- the run from the front, cut out
pub cut_out : (p : ℕ → Bool) (text : List ℕ) → take (length (take_while p text)) text ≡ take_while p text
cut_out p text = ap (λ n. take n text) (length-prefix_len p text)

run_passes : (p : ℕ → Bool) (text : List ℕ) → AllPass p (take_while p text)
run_passes p text k d h =
    let within : k < prefix_len p text = omega (arith, h, length-prefix_len p text) in
    ap p (get_or-take (prefix_len p text) text k d within) ∙ prefix_len_passes p text k d within

short_name : (w : List ℕ) → leb (length w) 63 ≡ true → length w ≤ 63
short_name w e = grind (arith, nat_tests)

name_says : (text : List ℕ) → is_letter (get_or (take_while is_word text) 0 0) ≡ true → keyword_of (take_while is_word text) ≡ None → unsupported_of (take_while is_word text) ≡ None →
    leb (length (take_while is_word text)) 63 ≡ true → Holds (Told text) (holds (name (take_while is_word text)) (length (take_while is_word text)))
name_says text letter k u short = record {
  holds = (
    cut_out is_word text,
    record {
      begins = letter;
      goes_on = run_passes is_word text;
      no_keyword = no_keyword (take_while is_word text) k;
      not_refused = not_refused (take_while is_word text) u;
      short = short_name (take_while is_word text) short;
    },
  );
}

word_says : (text : List ℕ) → is_letter (get_or (take_while is_word text) 0 0) ≡ true → Holds (Told text) (word_front (take_while is_word text))
unfolding word_front
word_says text letter =
    option_holds _ (weaker (λ k. take (length (take_while is_word text)) text ≡ keyword_text k) (keyword_of (take_while is_word text)) (λ k (e : keyword_text k ≡ take_while is_word text). cut_out is_word text ∙ sym e) (keyword_of_fits (take_while is_word text)))
    (λ k. option_holds _ (always (unsupported_of (take_while is_word text)) _ (λ u. tt))
    (λ u. let named = name_says text letter k u in search (cond_holds, says_lacks, named)))

-- punctuators

pub taken : (n : ℕ) (text : List ℕ) → take (length (take n text)) text ≡ take n text
taken zero text = refl
taken (suc n) [] = refl
taken (suc n) (x ∷ xs) = ap (λ ys. x ∷ ys) (taken n xs)

front_punct_says : (n : ℕ) (text : List ℕ) → Each (punct_of (take n text)) (λ p. take (length (punct_text p)) text ≡ punct_text p)
front_punct_says n text =
    weaker (λ p. take (length (punct_text p)) text ≡ punct_text p) (punct_of (take n text)) (λ p (e : punct_text p ≡ take n text). ap (λ bs. take (length bs) text) e ∙ taken n text ∙ sym e) (punct_of_fits (take n text))

punct_says : (text : List ℕ) → Each (punct_at text) (λ p. take (length (punct_text p)) text ≡ punct_text p)
unfolding punct_at
punct_says text = each_or (front_punct_says 3 text) (each_or (front_punct_says 2 text) (front_punct_says 1 text))

mark_says : (text : List ℕ) → Holds (Told text) (mark_front text)
unfolding mark_front
mark_says text =
    let known = punct_says text in
    search (cond_holds, option_holds, says_lacks)

-- numbers

-- digits of the base, a suffix, and the number that they make
record IsWritten (base : ℕ) (text : List ℕ) (kind : Kind) : Type 0 where
  digits : List ℕ
  suffix : List ℕ
  unsigned : Bool
  longs : ℕ
  whole : text ≡ digits ++ suffix
  numeral : IsNumeral base digits
  suffix_is : suffix_of suffix ≡ Some (unsigned, longs)
  typed : has_type lp64 (eqb base 10) unsigned longs (digits_value base digits) ≡ true
  kind_is : kind ≡ number (digits_value base digits) (eqb base 10) unsigned longs

digit_below : (base b : ℕ) → is_digit b base ≡ true → digit_value b < base
digit_below base b e = ltb-true (digit_value b) base e

all_digits : (base : ℕ) (text : List ℕ) (n : ℕ) → n ≤ prefix_len (λ b. is_digit b base) text → AllDigits base (take n text)
all_digits base text zero h = tt
all_digits base [] (suc n) h = tt
all_digits base (b ∷ bs) (suc n) h =
    let passes : is_digit b base ≡ true = prefix_len_passes (λ b. is_digit b base) (b ∷ bs) 0 0 (omega arith) in
    let more : prefix_len (λ b. is_digit b base) (b ∷ bs) ≡ 1 + prefix_len (λ b. is_digit b base) bs = ap (λ c. cond c (1 + prefix_len (λ b. is_digit b base) bs) 0) passes in
    (digit_below base b passes, all_digits base bs n (omega arith))

positive : (n : ℕ) (c : Bool) → (eqb n 0 || c) ≡ false → 0 < n
positive n c e = grind (arith, nat_tests)

some_digits : (n : ℕ) → eqb n 0 ≡ false → 0 < n
some_digits n e = grind (arith, nat_tests)

typed_says : (base : ℕ) (text : List ℕ) (n : ℕ) (s : Bool × ℕ) → 0 < n → n ≤ prefix_len (λ b. is_digit b base) text → suffix_of (drop n text) ≡ Some s → Each (typed (digits_value base (take n text)) (eqb base 10) s) (IsWritten base text)
typed_says base text n s some within e =
    each_cond {b = has_type lp64 (eqb base 10) s.0 s.1 (digits_value base (take n text))} {x = Some (number (digits_value base (take n text)) (eqb base 10) s.0 s.1)} {y = None}
    (λ t. record {
      given = record {
        digits = take n text;
        suffix = drop n text;
        unsigned = s.0;
        longs = s.1;
        whole = sym (take-append-drop n text);
        numeral = (omega (arith, length-take n text, within, prefix_len-le-length (λ b. is_digit b base) text), all_digits base text n within);
        suffix_is = e;
        typed = t;
        kind_is = refl;
      };
    })
    (λ _. each_none)

written_says : (base : ℕ) (text : List ℕ) → Each (written base text) (IsWritten base text)
unfolding written
written_says base text =
    let n = prefix_len (λ b. is_digit b base) text in
    let found = λ (e : eqb (prefix_len (λ b. is_digit b base) text) 0 ≡ false). each_then {f = typed (digits_value base (take (prefix_len (λ b. is_digit b base) text) text)) (eqb base 10)} {P = IsWritten base text} (suffix_of (drop (prefix_len (λ b. is_digit b base) text) text)) (λ s h. typed_says base text (prefix_len (λ b. is_digit b base) text) s (some_digits (prefix_len (λ b. is_digit b base) text) e) (omega arith) h) in
    search (each_cond, each_none, found)

both_targets : (target : Target) (decimal unsigned : Bool) (longs value : ℕ) → has_type lp64 decimal unsigned longs value ≡ true → has_type target decimal unsigned longs value ≡ true
both_targets lp64 d u n v h = h
both_targets ilp32 d u n v h = targets_agree d u n v ∙ h

-- the number, from its digits and what stands before them
number_spelled : (base : ℕ) (prefix text bytes : List ℕ) (kind : Kind) → bytes ≡ prefix ++ text → IsWritten base text kind → ((digits : List ℕ) (suffix : List ℕ) → 0 < length digits → text ≡ digits ++ suffix → IsBase base prefix digits) → Spells kind bytes
number_spelled base prefix text bytes kind e w told =
    subst (λ k. Spells k bytes) (sym w.kind_is) (record {
      base = base;
      prefix = prefix;
      digits = w.digits;
      suffix = w.suffix;
      whole = e ∙ ap (λ t. prefix ++ t) w.whole;
      told = told w.digits w.suffix w.numeral.0 w.whole;
      numeral = w.numeral;
      value_is = refl;
      decimal_is = refl;
      suffix_is = w.suffix_is;
      typed = λ target. both_targets target (eqb base 10) w.unsigned w.longs (digits_value base w.digits) w.typed;
    })

-- the first digit is the first byte
first_digit : (digits suffix text : List ℕ) → 0 < length digits → text ≡ digits ++ suffix → get_or digits 0 0 ≡ get_or text 0 0
first_digit [] suffix text some e = absurd (omega arith)
first_digit (d ∷ ds) suffix text some e = ap (λ t. get_or t 0 0) (sym e)

pub is_no_byte : (m n : ℕ) → eqb m n ≡ false → m ≢ n
is_no_byte m n e = grind (arith, nat_tests)

hexadecimal_says : (text : List ℕ) → (eqb (get_or text 0 0) 48 && is_x (get_or text 1 0)) ≡ true → Each (written 16 (drop 2 text)) (λ kind. Spells kind text)
hexadecimal_says [] e = absurd (cc)
hexadecimal_says (a ∷ []) e = let no : is_x 0 ≡ true = (and_parts _ _ e).1 in absurd (cc)
hexadecimal_says (a ∷ x ∷ bs) e =
    weaker (λ kind. Spells kind (a ∷ x ∷ bs)) (written 16 bs)
    (λ kind w. number_spelled 16 (48 ∷ x ∷ []) bs (a ∷ x ∷ bs) kind (ap (λ z. z ∷ x ∷ bs) (eqb-true a 48 (and_parts _ _ e).0)) w (λ digits suffix some whole. is_hexadecimal (and_parts _ _ e).1))
    (written_says 16 bs)

octal_says : (text : List ℕ) → eqb (get_or text 0 0) 48 ≡ true → Each (written 8 text) (λ kind. Spells kind text)
octal_says text e =
    weaker (λ kind. Spells kind text) (written 8 text)
    (λ kind w. number_spelled 8 [] text text kind refl w (λ digits suffix some whole. is_octal (first_digit digits suffix text some whole ∙ eqb-true _ _ e)))
    (written_says 8 text)

decimal_says : (text : List ℕ) → eqb (get_or text 0 0) 48 ≡ false → Each (written 10 text) (λ kind. Spells kind text)
decimal_says text e =
    weaker (λ kind. Spells kind text) (written 10 text)
    (λ kind w. number_spelled 10 [] text text kind refl w (λ digits suffix some whole. is_decimal (λ z. is_no_byte _ _ e (sym (first_digit digits suffix text some whole) ∙ z))))
    (written_says 10 text)

-- whichever base a first byte tells
base_says : (text : List ℕ) (b : Bool) → eqb (get_or text 0 0) 48 ≡ b → Each (written (if b then 8 else 10) text) (λ kind. Spells kind text)
base_says text true e = octal_says text e
base_says text false e = decimal_says text e

number_of_says : (text : List ℕ) → Each (number_of text) (λ kind. Spells kind text)
unfolding number_of
number_of_says text =
    let hexadecimal = hexadecimal_says text in
    let other = base_says text (eqb (get_or text 0 0) 48) refl in
    search (each_cond, hexadecimal, other)

abbrev pub IsNumberKind : Kind → Type 0
IsNumberKind (number v d u l) = Unit {0}
IsNumberKind (name s) = ⊥
IsNumberKind (keyword k) = ⊥
IsNumberKind (punct x) = ⊥
IsNumberKind (character c) = ⊥

written_kind : (base : ℕ) (text : List ℕ) → Each (written base text) IsNumberKind
written_kind base text = weaker IsNumberKind (written base text) (λ kind w. subst IsNumberKind (sym w.kind_is) tt) (written_says base text)

pub number_of_kind : (text : List ℕ) → Each (number_of text) IsNumberKind
unfolding number_of
number_of_kind text = search (each_cond, written_kind)

number_says : (text : List ℕ) → Holds (Told text) (number_front (take_while is_numeral text))
unfolding number_front
number_says text =
    option_holds _ (weaker (λ kind. Spells kind (take (length (take_while is_numeral text)) text)) (number_of (take_while is_numeral text)) (λ kind (h : Spells kind (take_while is_numeral text)). subst (Spells kind) (sym (cut_out is_numeral text)) h) (number_of_says (take_while is_numeral text)))
    (λ _. says_lacks text)

-- character constants

abbrev Quoted : List ℕ → ℕ × ℕ → Type 0
Quoted text c = Spells (character c.0) (take c.1 text)

closed_says : (text body rest : List ℕ) (value n : ℕ) → get_or rest 0 0 ≡ get_or text n 0 → take n text ≡ quote ∷ body → IsCharacter body value → Each (closed value n rest) (Quoted text)
closed_says text body rest value n at front is =
    each_cond {b = eqb (get_or rest 0 0) quote} {x = Some (value, n + 1)} {y = None}
    (λ e.
    let ends : eqb (get_or text n 0) quote ≡ true = ap (λ b. eqb b quote) (sym at) ∙ e in
    record { given = (body, take_more text n 0 (inside text n 38 ends) ∙ (λ i. front i ++ eqb-true _ _ ends i ∷ []), is) })
    (λ _. each_none)

take_past : (p hs : List ℕ) (n : ℕ) → take (length p + n) (p ++ hs) ≡ p ++ take n hs
take_past [] hs n = ap (λ k. take k hs) (omega arith)
take_past (x ∷ p) hs n = let next : suc (length p) + n ≡ suc (length p + n) = omega arith in ap (λ k. take k (x ∷ (p ++ hs))) next ∙ ap (λ ys. x ∷ ys) (take_past p hs n)

get_past : (p hs : List ℕ) (n : ℕ) → get_or (p ++ hs) (length p + n) 0 ≡ get_or hs n 0
get_past [] hs n = ap (λ k. get_or hs k 0) (omega arith)
get_past (x ∷ p) hs n = let next : suc (length p) + n ≡ suc (length p + n) = omega arith in ap (λ k. get_or (x ∷ (p ++ hs)) k 0) next ∙ get_past p hs n

pub take_within : (n m : ℕ) (xs : List ℕ) → n ≤ m → take n (take m xs) ≡ take n xs
take_within zero m xs h = refl
take_within (suc n) zero xs h = absurd (omega arith)
take_within (suc n) (suc m) [] h = refl
take_within (suc n) (suc m) (x ∷ xs) h = ap (λ ys. x ∷ ys) (take_within n m xs (omega arith))

in_byte : (n value : ℕ) → (eqb n 0 || ltb 255 value) ≡ false → value ≤ 255
in_byte n value e = grind (arith, nat_tests)

-- digits after what stands before them, the quote and a backslash
numeric_says : (base most : ℕ) (before hs : List ℕ) →
    ((digits : List ℕ) → IsNumeral base digits → length digits ≤ most → digits_value base digits ≤ 255 → IsCharacter (before ++ digits) (digits_value base digits)) →
    Each (numeric_escape base most (length (quote ∷ before)) hs) (Quoted (quote ∷ (before ++ hs)))
unfolding numeric_escape
numeric_says base most before hs makes =
    let p = λ (b : ℕ). is_digit b base in
    let n = prefix_len (λ b. is_digit b base) (take most hs) in
    let few : prefix_len (λ b. is_digit b base) (take most hs) ≤ length (take most hs) = prefix_len-le-length (λ b. is_digit b base) (take most hs) in
    let cut : take (prefix_len (λ b. is_digit b base) (take most hs)) (take most hs) ≡ take (prefix_len (λ b. is_digit b base) (take most hs)) hs = take_within (prefix_len (λ b. is_digit b base) (take most hs)) most hs (omega (arith, few, length-take most hs)) in
    let found = λ (e : (eqb (prefix_len (λ b. is_digit b base) (take most hs)) 0 || ltb 255 (digits_value base (take (prefix_len (λ b. is_digit b base) (take most hs)) hs))) ≡ false).
    closed_says (quote ∷ (before ++ hs)) (before ++ take n hs) (drop n hs) (digits_value base (take n hs)) (length (quote ∷ before) + n)
    (get_or-drop n hs 0 0 ∙ ap (λ k. get_or hs k 0) (omega arith) ∙ sym (get_past (quote ∷ before) hs n))
    (take_past (quote ∷ before) hs n)
    (makes (take n hs)
    (omega (arith, positive n _ e, few, length-take most hs, length-take n hs), subst (AllDigits base) cut (all_digits base (take most hs) n (omega arith)))
    (omega (arith, few, length-take most hs, length-take n hs))
    (in_byte n _ e)) in
    search (each_cond, each_none, found)

hexadecimal_escape_says : (es : List ℕ) → eqb (get_or es 0 0) 120 ≡ true → Each (numeric_escape 16 2 3 (drop 1 es)) (Quoted (quote ∷ backslash ∷ es))
hexadecimal_escape_says [] e = absurd (cc)
hexadecimal_escape_says (x ∷ hs) e =
    let is_x : 120 ≡ x = sym (eqb-true x 120 e) in
    subst (λ x. Each (numeric_escape 16 2 3 hs) (Quoted (quote ∷ backslash ∷ x ∷ hs))) is_x
    (numeric_says 16 2 (backslash ∷ 120 ∷ []) hs (λ digits numeral few value. hexadecimal_escape numeral few))

octal_escape_says : (es : List ℕ) → Each (numeric_escape 8 3 2 es) (Quoted (quote ∷ backslash ∷ es))
octal_escape_says es = numeric_says 8 3 (backslash ∷ []) es (λ digits numeral few value. octal_escape numeral few value)

simple_escape_says : (es : List ℕ) → Each (option_and_then (λ value. closed value 3 (drop 1 es)) (simple_escape (get_or es 0 0))) (Quoted (quote ∷ backslash ∷ es))
simple_escape_says [] = each_none
simple_escape_says (e ∷ rest) =
    each_then {f = λ value. closed value 3 rest} {P = Quoted (quote ∷ backslash ∷ e ∷ rest)} (simple_escape e)
    (λ value h. closed_says (quote ∷ backslash ∷ e ∷ rest) (backslash ∷ e ∷ []) rest value 3 refl refl (simple h))

escape_says : (es : List ℕ) → Each (escape_of es) (Quoted (quote ∷ backslash ∷ es))
unfolding escape_of
escape_says es =
    let by_x = hexadecimal_escape_says es in
    let by_digits = octal_escape_says es in
    let by_letter = simple_escape_says es in
    search (each_cond, by_x, by_digits, by_letter)

backslash_says : (t : List ℕ) → eqb (get_or t 0 0) backslash ≡ true → Each (escape_of (drop 1 t)) (Quoted (quote ∷ t))
backslash_says [] e = absurd (cc)
backslash_says (b ∷ es) e = subst (λ b. Each (escape_of es) (Quoted (quote ∷ b ∷ es))) (sym (eqb-true b backslash e)) (escape_says es)

plain_says : (t : List ℕ) → is_plain (get_or t 0 0) ≡ true → Each (closed (get_or t 0 0) 2 (drop 1 t)) (Quoted (quote ∷ t))
plain_says [] e = each_none
plain_says (b ∷ rest) e = closed_says (quote ∷ b ∷ rest) (b ∷ []) rest b 2 refl refl (plain e)

character_of_says : (t : List ℕ) → Each (character_of t) (Quoted (quote ∷ t))
unfolding character_of
character_of_says t =
    let escaped = backslash_says t in
    let itself = plain_says t in
    search (each_cond, each_none, escaped, itself)

character_front_says : (t : List ℕ) → Holds (Told (quote ∷ t)) (character_front t)
unfolding character_front
character_front_says t = option_holds {P = Told (quote ∷ t)} (λ (c : ℕ × ℕ). holds (character c.0) c.1) {o = character_of t} {d = lacks bad_byte} (record { given = (character_of_says t).given }) (λ _. says_lacks (quote ∷ t))

character_says : (text : List ℕ) → eqb (get_or text 0 0) quote ≡ true → Holds (Told text) (character_front (drop 1 text))
character_says [] e = absurd (cc)
character_says (b ∷ t) e = subst (λ b. Holds (Told (b ∷ t)) (character_front t)) (sym (eqb-true b quote e)) (character_front_says t)

-- the whole front

comment_says : (text rest : List ℕ) → Holds (Told text) (comment_front rest)
unfolding comment_front
comment_says text rest = option_holds _ (always (comment_length rest) _ (λ n. tt)) (λ _. says_lacks text)

letters_says : (text : List ℕ) → eqb (length text) 0 ≡ false → is_letter (get_or text 0 0) ≡ true → Holds (Told text) (word_front (take_while is_word text))
letters_says text some e =
    let one : 0 < prefix_len is_word text = prefix_positive is_word text (grind (arith, nat_tests)) (letter_is_word (get_or text 0 0) e) in
    word_says text (ap is_letter (get_or-take (prefix_len is_word text) text 0 0 one) ∙ e)

front_says : (fresh : Bool) (text : List ℕ) → Holds (Told text) (front fresh text)
unfolding front
front_says fresh text =
    let words = letters_says text in
    let numbers = number_says text in
    let characters = character_says text in
    let comments = comment_says text in
    let marks = mark_says text in
    search (cond_holds, says_ends, says_gap, words, numbers, characters, comments, marks) depth 14

-- the token at the front is spelled by its bytes
pub told_spelled : (fresh : Bool) (text : List ℕ) (kind : Kind) (n : ℕ) → front fresh text ≡ holds kind n → Spells kind (take n text)
told_spelled fresh text kind n e = subst (Told text) e (front_says fresh text).holds
