-- What stands at the front of a text is read there: the words and the punctuators.
use Rattle.std.proofs.Common.{◌≡◌, ℕ, zero, suc, ◌<◌, ◌≤◌, Bool, true, false, ◌&&◌, eqb, List, [], ◌∷◌, length, get_or, take, Option, Some, None, IfSome, refl, sym, ap, ◌∙◌, subst, ⊎_elim, arith, lit<}
use Rattle.std.specs.Prelude.{codes}
use Rattle.std.specs.Option.{option_or}
use Rattle.std.specs.List.{take_while, AllPass, list_all}
use Rattle.std.specs.Char.{is_ascii_digit}
use Rattle.std.proofs.lemmas.Bool.Decides.{nat_tests}
use Rattle.std.proofs.lemmas.Bool.{and_parts, false_from_ne_true, eqb-true}
use Rattle.std.proofs.lemmas.List.Sums.{prefix_len_is, AllPass-from_list_all}
use Rattle.std.proofs.lemmas.List.{get_or-take, length-take, length-take-le}
use Rattle.std.proofs.str.Laws.{order}
use Rattle.c_lex.specs.declared.token.Keyword.{Keyword}
use Rattle.c_lex.specs.declared.token.Keyword.TheVariants as k
use Rattle.c_lex.specs.declared.token.Punct.{Punct}
use Rattle.c_lex.specs.declared.token.Punct.TheVariants as p
use Rattle.c_lex.specs.Bytes.{is_white, is_letter, is_word, dot, hash, quote, double_quote}
use Rattle.c_lex.specs.Keyword.{keyword_text}
use Rattle.c_lex.specs.Punct.{punct_text, punct_of, punct_at}
use Rattle.c_lex.specs.Gap.{star, slash}
use Rattle.c_lex.specs.Lexeme.{name, keyword, punct}
use Rattle.c_lex.specs.Front.{holds, word_front, mark_front, front}
use Rattle.c_lex.specs.Spelling.{punctuator, ellipsis, line_comment, comment, IsLongest, IsName}
use Rattle.c_lex.proofs.Spelled.{keyword_of_is, keyword_of-text, unsupported_of_is, punct_of-text}
use Rattle.c_lex.proofs.WordFront.{word_keyword, word_name}
use Rattle.c_lex.proofs.FrontFits.{punct_of_fits, punct_positive}
use Rattle.c_lex.proofs.TokenSpelling.{taken}
use Rattle.c_lex.proofs.TokenLength.{punct_short}

-- no class of bytes has a byte of another

letter_no_white : (b : ℕ) → is_letter b ≡ true → is_white b ≡ false
letter_no_white b e = grind (arith, nat_tests)

letter_no_slash : (b : ℕ) (c : Bool) → is_letter b ≡ true → (eqb b slash && c) ≡ false
letter_no_slash b c e = grind (arith, nat_tests)

pub no_zero : (n : ℕ) → eqb (suc n) 0 ≡ false
no_zero n = grind (arith, nat_tests)

-- a text that isn't empty, by its first byte
pub begun : (text : List ℕ) → eqb (get_or text 0 0) 0 ≡ false → eqb (length text) 0 ≡ false
begun [] e = absurd (cc)
begun (x ∷ xs) e = no_zero (length xs)

letter_no_zero : (b : ℕ) → is_letter b ≡ true → eqb b 0 ≡ false
letter_no_zero b e = grind (arith, nat_tests)

pub front_letters : (fresh : Bool) (text : List ℕ) → is_letter (get_or text 0 0) ≡ true → front fresh text ≡ word_front (take_while is_word text)
unfolding front
front_letters fresh text e =
    let some = begun text (letter_no_zero (get_or text 0 0) e) in
    let white = letter_no_white (get_or text 0 0) e in
    let line = letter_no_slash (get_or text 0 0) (eqb (get_or text 1 0) slash) e in
    let opens = letter_no_slash (get_or text 0 0) (eqb (get_or text 1 0) star) e in
    rw (some, white, line, opens, e) refl

-- a run of so many bytes that ends there is the run from the front
pub run_is : (p : ℕ → Bool) (text : List ℕ) (n : ℕ) → n ≤ length text → AllPass p (take n text) → p (get_or text n 0) ≡ false → take_while p text ≡ take n text
run_is p text n within passes stops =
    ap (λ k. take k text) (prefix_len_is p text n 0 within (λ k h. ap p (sym (get_or-take n text k 0 h)) ∙ passes k 0 (omega (arith, h, length-take-le n text within))) (λ _. stops))

pub read_name : (fresh : Bool) (text s : List ℕ) (n : ℕ) → take n text ≡ s → IsName s → n ≤ length text → is_word (get_or text n 0) ≡ false → front fresh text ≡ holds (name s) n
read_name fresh text s n e is within stops =
    let run = run_is is_word text n within (subst (AllPass is_word) (sym e) is.goes_on) stops ∙ e in
    let size : length s ≡ n = ap length (sym e) ∙ length-take-le n text within in
    let first : get_or s 0 0 ≡ get_or text 0 0 = ap (λ t. get_or t 0 0) (sym e) ∙ first_of text n s (sym e) is.begins in
    front_letters fresh text (ap is_letter (sym first) ∙ is.begins)
    ∙ ap word_front run
    ∙ word_name s (keyword_of_is s None tt is.no_keyword) (unsupported_of_is s None tt is.not_refused) is.short
    ∙ ap (λ k. holds (name s) k) size where
      first_of : (text : List ℕ) (n : ℕ) (s : List ℕ) → s ≡ take n text → is_letter (get_or s 0 0) ≡ true → get_or (take n text) 0 0 ≡ get_or text 0 0
      first_of text zero s e h = let never : is_letter 0 ≡ true = ap (λ t. is_letter (get_or t 0 0)) (sym e) ∙ h in absurd (cc)
      first_of text (suc n) s e h = get_or-take (suc n) text 0 0 (omega arith)

keyword_letter : (x : Keyword) → is_letter (get_or (keyword_text x) 0 0) ≡ true
keyword_letter k.Break = refl
keyword_letter _ = refl

keyword_word : (x : Keyword) → list_all is_word (keyword_text x) ≡ true
keyword_word k.Break = refl
keyword_word _ = refl

keyword_some : (x : Keyword) → 0 < length (keyword_text x)
keyword_some k.Break = lit< tt
keyword_some _ = lit< tt

pub read_keyword : (fresh : Bool) (text : List ℕ) (x : Keyword) (n : ℕ) → take n text ≡ keyword_text x → n ≤ length text → is_word (get_or text n 0) ≡ false → front fresh text ≡ holds (keyword x) n
read_keyword fresh text x n e within stops =
    let run = run_is is_word text n within (subst (AllPass is_word) (sym e) (AllPass-from_list_all is_word (keyword_text x) (keyword_word x))) stops ∙ e in
    let size : length (keyword_text x) ≡ n = ap length (sym e) ∙ length-take-le n text within in
    let first : get_or (keyword_text x) 0 0 ≡ get_or text 0 0 = ap (λ t. get_or t 0 0) (sym e) ∙ get_or-take n text 0 0 (omega (arith, keyword_some x, size)) in
    front_letters fresh text (ap is_letter (sym first) ∙ keyword_letter x)
    ∙ ap word_front run
    ∙ word_keyword (keyword_text x) x (keyword_of-text x)
    ∙ ap (λ k. holds (keyword x) k) size

-- punctuators

-- the first byte of a mark is no other token's
record IsMarkByte (b : ℕ) : Type 0 where
  no_zero : eqb b 0 ≡ false
  no_white : is_white b ≡ false
  no_letter : is_letter b ≡ false
  no_digit : is_ascii_digit b ≡ false
  no_quote : eqb b quote ≡ false
  no_hash : eqb b hash ≡ false
  no_double_quote : eqb b double_quote ≡ false

mark_byte : (x : Punct) → IsMarkByte (get_or (punct_text x) 0 0)
mark_byte p.LeftBrace = record { no_zero = refl; no_white = refl; no_letter = refl; no_digit = refl; no_quote = refl; no_hash = refl; no_double_quote = refl }
mark_byte p.RightBrace = record { no_zero = refl; no_white = refl; no_letter = refl; no_digit = refl; no_quote = refl; no_hash = refl; no_double_quote = refl }
mark_byte p.LeftParenthesis = record { no_zero = refl; no_white = refl; no_letter = refl; no_digit = refl; no_quote = refl; no_hash = refl; no_double_quote = refl }
mark_byte p.RightParenthesis = record { no_zero = refl; no_white = refl; no_letter = refl; no_digit = refl; no_quote = refl; no_hash = refl; no_double_quote = refl }
mark_byte p.LeftBracket = record { no_zero = refl; no_white = refl; no_letter = refl; no_digit = refl; no_quote = refl; no_hash = refl; no_double_quote = refl }
mark_byte p.RightBracket = record { no_zero = refl; no_white = refl; no_letter = refl; no_digit = refl; no_quote = refl; no_hash = refl; no_double_quote = refl }
mark_byte p.Semicolon = record { no_zero = refl; no_white = refl; no_letter = refl; no_digit = refl; no_quote = refl; no_hash = refl; no_double_quote = refl }
mark_byte p.Comma = record { no_zero = refl; no_white = refl; no_letter = refl; no_digit = refl; no_quote = refl; no_hash = refl; no_double_quote = refl }
mark_byte p.Colon = record { no_zero = refl; no_white = refl; no_letter = refl; no_digit = refl; no_quote = refl; no_hash = refl; no_double_quote = refl }
mark_byte p.Question = record { no_zero = refl; no_white = refl; no_letter = refl; no_digit = refl; no_quote = refl; no_hash = refl; no_double_quote = refl }
mark_byte p.Dot = record { no_zero = refl; no_white = refl; no_letter = refl; no_digit = refl; no_quote = refl; no_hash = refl; no_double_quote = refl }
mark_byte p.Arrow = record { no_zero = refl; no_white = refl; no_letter = refl; no_digit = refl; no_quote = refl; no_hash = refl; no_double_quote = refl }
mark_byte p.PlusPlus = record { no_zero = refl; no_white = refl; no_letter = refl; no_digit = refl; no_quote = refl; no_hash = refl; no_double_quote = refl }
mark_byte p.MinusMinus = record { no_zero = refl; no_white = refl; no_letter = refl; no_digit = refl; no_quote = refl; no_hash = refl; no_double_quote = refl }
mark_byte p.Ampersand = record { no_zero = refl; no_white = refl; no_letter = refl; no_digit = refl; no_quote = refl; no_hash = refl; no_double_quote = refl }
mark_byte p.Star = record { no_zero = refl; no_white = refl; no_letter = refl; no_digit = refl; no_quote = refl; no_hash = refl; no_double_quote = refl }
mark_byte p.Plus = record { no_zero = refl; no_white = refl; no_letter = refl; no_digit = refl; no_quote = refl; no_hash = refl; no_double_quote = refl }
mark_byte p.Minus = record { no_zero = refl; no_white = refl; no_letter = refl; no_digit = refl; no_quote = refl; no_hash = refl; no_double_quote = refl }
mark_byte p.Tilde = record { no_zero = refl; no_white = refl; no_letter = refl; no_digit = refl; no_quote = refl; no_hash = refl; no_double_quote = refl }
mark_byte p.Exclamation = record { no_zero = refl; no_white = refl; no_letter = refl; no_digit = refl; no_quote = refl; no_hash = refl; no_double_quote = refl }
mark_byte p.Slash = record { no_zero = refl; no_white = refl; no_letter = refl; no_digit = refl; no_quote = refl; no_hash = refl; no_double_quote = refl }
mark_byte p.Percent = record { no_zero = refl; no_white = refl; no_letter = refl; no_digit = refl; no_quote = refl; no_hash = refl; no_double_quote = refl }
mark_byte p.LessLess = record { no_zero = refl; no_white = refl; no_letter = refl; no_digit = refl; no_quote = refl; no_hash = refl; no_double_quote = refl }
mark_byte p.GreaterGreater = record { no_zero = refl; no_white = refl; no_letter = refl; no_digit = refl; no_quote = refl; no_hash = refl; no_double_quote = refl }
mark_byte p.Less = record { no_zero = refl; no_white = refl; no_letter = refl; no_digit = refl; no_quote = refl; no_hash = refl; no_double_quote = refl }
mark_byte p.Greater = record { no_zero = refl; no_white = refl; no_letter = refl; no_digit = refl; no_quote = refl; no_hash = refl; no_double_quote = refl }
mark_byte p.LessEqual = record { no_zero = refl; no_white = refl; no_letter = refl; no_digit = refl; no_quote = refl; no_hash = refl; no_double_quote = refl }
mark_byte p.GreaterEqual = record { no_zero = refl; no_white = refl; no_letter = refl; no_digit = refl; no_quote = refl; no_hash = refl; no_double_quote = refl }
mark_byte p.EqualEqual = record { no_zero = refl; no_white = refl; no_letter = refl; no_digit = refl; no_quote = refl; no_hash = refl; no_double_quote = refl }
mark_byte p.ExclamationEqual = record { no_zero = refl; no_white = refl; no_letter = refl; no_digit = refl; no_quote = refl; no_hash = refl; no_double_quote = refl }
mark_byte p.Caret = record { no_zero = refl; no_white = refl; no_letter = refl; no_digit = refl; no_quote = refl; no_hash = refl; no_double_quote = refl }
mark_byte p.Bar = record { no_zero = refl; no_white = refl; no_letter = refl; no_digit = refl; no_quote = refl; no_hash = refl; no_double_quote = refl }
mark_byte p.AmpersandAmpersand = record { no_zero = refl; no_white = refl; no_letter = refl; no_digit = refl; no_quote = refl; no_hash = refl; no_double_quote = refl }
mark_byte p.BarBar = record { no_zero = refl; no_white = refl; no_letter = refl; no_digit = refl; no_quote = refl; no_hash = refl; no_double_quote = refl }
mark_byte p.Equal = record { no_zero = refl; no_white = refl; no_letter = refl; no_digit = refl; no_quote = refl; no_hash = refl; no_double_quote = refl }
mark_byte p.StarEqual = record { no_zero = refl; no_white = refl; no_letter = refl; no_digit = refl; no_quote = refl; no_hash = refl; no_double_quote = refl }
mark_byte p.SlashEqual = record { no_zero = refl; no_white = refl; no_letter = refl; no_digit = refl; no_quote = refl; no_hash = refl; no_double_quote = refl }
mark_byte p.PercentEqual = record { no_zero = refl; no_white = refl; no_letter = refl; no_digit = refl; no_quote = refl; no_hash = refl; no_double_quote = refl }
mark_byte p.PlusEqual = record { no_zero = refl; no_white = refl; no_letter = refl; no_digit = refl; no_quote = refl; no_hash = refl; no_double_quote = refl }
mark_byte p.MinusEqual = record { no_zero = refl; no_white = refl; no_letter = refl; no_digit = refl; no_quote = refl; no_hash = refl; no_double_quote = refl }
mark_byte p.LessLessEqual = record { no_zero = refl; no_white = refl; no_letter = refl; no_digit = refl; no_quote = refl; no_hash = refl; no_double_quote = refl }
mark_byte p.GreaterGreaterEqual = record { no_zero = refl; no_white = refl; no_letter = refl; no_digit = refl; no_quote = refl; no_hash = refl; no_double_quote = refl }
mark_byte p.AmpersandEqual = record { no_zero = refl; no_white = refl; no_letter = refl; no_digit = refl; no_quote = refl; no_hash = refl; no_double_quote = refl }
mark_byte p.CaretEqual = record { no_zero = refl; no_white = refl; no_letter = refl; no_digit = refl; no_quote = refl; no_hash = refl; no_double_quote = refl }
mark_byte p.BarEqual = record { no_zero = refl; no_white = refl; no_letter = refl; no_digit = refl; no_quote = refl; no_hash = refl; no_double_quote = refl }

-- no punctuator begins a comment, and none is `...`
no_opener : (x : Punct) → ((eqb (get_or (punct_text x) 0 0) slash && eqb (get_or (punct_text x) 1 0) slash) ≡ false) × ((eqb (get_or (punct_text x) 0 0) slash && eqb (get_or (punct_text x) 1 0) star) ≡ false) × ((eqb (get_or (punct_text x) 0 0) dot && eqb (get_or (punct_text x) 1 0) dot && eqb (get_or (punct_text x) 2 0) dot) ≡ false)
no_opener p.LeftBrace = (refl, refl, refl)
no_opener _ = (refl, refl, refl)

-- two bytes, three bytes
two_bytes : (text : List ℕ) (a b : ℕ) → get_or text 0 0 ≡ suc a → get_or text 1 0 ≡ suc b → take 2 text ≡ suc a ∷ suc b ∷ []
two_bytes [] a b e f = absurd (cc)
two_bytes (x ∷ []) a b e f = absurd (cc)
two_bytes (x ∷ y ∷ ys) a b e f = λ i. e i ∷ f i ∷ []

three_bytes : (text : List ℕ) (a b c : ℕ) → get_or text 0 0 ≡ suc a → get_or text 1 0 ≡ suc b → get_or text 2 0 ≡ suc c → take 3 text ≡ suc a ∷ suc b ∷ suc c ∷ []
three_bytes [] a b c e f g = absurd (cc)
three_bytes (x ∷ []) a b c e f g = absurd (cc)
three_bytes (x ∷ y ∷ []) a b c e f g = absurd (cc)
three_bytes (x ∷ y ∷ z ∷ zs) a b c e f g = λ i. e i ∷ f i ∷ g i ∷ []

module _ (text : List ℕ) (x : Punct) (n : ℕ) (e : take n text ≡ punct_text x) (within : n ≤ length text) (longest : IsLongest (punct x) n text) where
  size : length (punct_text x) ≡ n
  size = ap length (sym e) ∙ length-take-le n text within

  byte : (i : ℕ) → i < n → get_or text i 0 ≡ get_or (punct_text x) i 0
  byte i h = sym (get_or-take n text i 0 h) ∙ ap (λ t. get_or t i 0) e

  first : get_or text 0 0 ≡ get_or (punct_text x) 0 0
  first = byte 0 (omega (arith, size, punct_positive x))

  no_line : (eqb (get_or text 0 0) slash && eqb (get_or text 1 0) slash) ≡ false
  no_line = false_from_ne_true _ (λ h.
      let a : get_or text 0 0 ≡ 47 = eqb-true _ _ (and_parts _ _ h).0 in
      let b : get_or text 1 0 ≡ 47 = eqb-true _ _ (and_parts _ _ h).1 in
      let long : 2 ≤ n = longest (codes "//") line_comment (two_bytes text 46 46 a b) in
      let never = (no_opener x).0 in
      let same : (eqb (get_or (punct_text x) 0 0) slash && eqb (get_or (punct_text x) 1 0) slash) ≡ true = (λ i. eqb (sym first i) slash && eqb (sym (byte 1 (omega arith)) i) slash) ∙ h in
      absurd (cc (never, same)))

  no_comment : (eqb (get_or text 0 0) slash && eqb (get_or text 1 0) star) ≡ false
  no_comment = false_from_ne_true _ (λ h.
      let a : get_or text 0 0 ≡ 47 = eqb-true _ _ (and_parts _ _ h).0 in
      let b : get_or text 1 0 ≡ 42 = eqb-true _ _ (and_parts _ _ h).1 in
      let long : 2 ≤ n = longest (codes "/*") comment (two_bytes text 46 41 a b) in
      let never = (no_opener x).1 in
      let same : (eqb (get_or (punct_text x) 0 0) slash && eqb (get_or (punct_text x) 1 0) star) ≡ true = (λ i. eqb (sym first i) slash && eqb (sym (byte 1 (omega arith)) i) star) ∙ h in
      absurd (cc (never, same)))

  no_ellipsis : (eqb (get_or text 0 0) dot && eqb (get_or text 1 0) dot && eqb (get_or text 2 0) dot) ≡ false
  no_ellipsis = false_from_ne_true _ (λ h.
      let ab = (and_parts _ _ h).0 in
      let a : get_or text 0 0 ≡ 46 = eqb-true _ _ (and_parts _ _ ab).0 in
      let b : get_or text 1 0 ≡ 46 = eqb-true _ _ (and_parts _ _ ab).1 in
      let c : get_or text 2 0 ≡ 46 = eqb-true _ _ (and_parts _ _ h).1 in
      let long : 3 ≤ n = longest (codes "...") ellipsis (three_bytes text 45 45 45 a b c) in
      let never = (no_opener x).2 in
      let same : (eqb (get_or (punct_text x) 0 0) dot && eqb (get_or (punct_text x) 1 0) dot && eqb (get_or (punct_text x) 2 0) dot) ≡ true = (λ i. eqb (sym first i) dot && eqb (sym (byte 1 (omega arith)) i) dot && eqb (sym (byte 2 (omega arith)) i) dot) ∙ h in
      absurd (cc (never, same)))

  -- what is found in so many bytes is this punctuator, where they are as many as it has or more
  found_is : (m : ℕ) (o : Option Punct) → punct_of (take m text) ≡ o → n ≤ m → IfSome o (λ y. punct_text y ≡ take m text) → IfSome o (λ y. y ≡ x)
  found_is m None h more fits = tt
  found_is m (Some y) h more fits =
      let short : length (punct_text y) ≤ n = longest (punct_text y) (punctuator y) (ap (λ bs. take (length bs) text) fits ∙ taken m text ∙ sym fits) in
      let cut : length (take m text) ≡ n = omega (arith, length-take m text, ap length fits) in
      let same : punct_of (take m text) ≡ Some x = ap punct_of (sym (taken m text) ∙ ap (λ k. take k text) cut ∙ e) ∙ punct_of-text x in
      cc

  -- it is found where so many bytes are all of it
  found_at : (m : ℕ) → length (take m text) ≡ n → punct_of (take m text) ≡ Some x
  found_at m cut = ap punct_of (sym (taken m text) ∙ ap (λ k. take k text) cut ∙ e) ∙ punct_of-text x

  sought : (o3 o2 o1 : Option Punct) → punct_of (take 3 text) ≡ o3 → punct_of (take 2 text) ≡ o2 → punct_of (take 1 text) ≡ o1 → option_or o3 (option_or o2 o1) ≡ Some x
  sought (Some y) o2 o1 h3 h2 h1 =
      let is : y ≡ x = found_is 3 (Some y) h3 (omega (arith, size, punct_short x)) (subst (λ o. IfSome o (λ y. punct_text y ≡ take 3 text)) h3 (punct_of_fits (take 3 text)).given) in
      ap Some is
  sought None (Some y) o1 h3 h2 h1 =
      let few : n ≤ 2 = ⊎_elim (λ long. let cut : length (take 3 text) ≡ n = omega (arith, length-take 3 text, size, punct_short x) in let some = found_at 3 cut in absurd (cc)) (λ short. short) (order 2 n) in
      let is : y ≡ x = found_is 2 (Some y) h2 few (subst (λ o. IfSome o (λ y. punct_text y ≡ take 2 text)) h2 (punct_of_fits (take 2 text)).given) in
      ap Some is
  sought None None o1 h3 h2 h1 =
      let few : n ≤ 2 = ⊎_elim (λ long. let cut : length (take 3 text) ≡ n = omega (arith, length-take 3 text, size, punct_short x) in let some = found_at 3 cut in absurd (cc)) (λ short. short) (order 2 n) in
      let one : n ≤ 1 = ⊎_elim (λ long. let cut : length (take 2 text) ≡ n = omega (arith, length-take 2 text, few) in let some = found_at 2 cut in absurd (cc)) (λ short. short) (order 1 n) in
      let cut : length (take 1 text) ≡ n = omega (arith, length-take 1 text, size, punct_positive x) in
      sym h1 ∙ found_at 1 cut

  at_front : punct_at text ≡ Some x
  unfolding punct_at
  at_front = sought _ _ _ refl refl refl

  by_mark : mark_front text ≡ holds (punct x) n
  unfolding mark_front
  by_mark =
      let h = ap (λ b. eqb b hash) first ∙ (mark_byte x).no_hash in
      let d = ap (λ b. eqb b double_quote) first ∙ (mark_byte x).no_double_quote in
      let no = no_ellipsis in
      let found = at_front in
      rw (h, d, no, found) (ap (λ k. holds (punct x) k) size)

  pub read_punct : (fresh : Bool) → front fresh text ≡ holds (punct x) n
  unfolding front
  read_punct fresh =
      let m = mark_byte x in
      let some = begun text (ap (λ b. eqb b 0) first ∙ m.no_zero) in
      let white = ap is_white first ∙ m.no_white in
      let line = no_line in
      let opens = no_comment in
      let letter = ap is_letter first ∙ m.no_letter in
      let digit = ap is_ascii_digit first ∙ m.no_digit in
      let quoted = ap (λ b. eqb b quote) first ∙ m.no_quote in
      let hashed = ap (λ b. eqb b hash) first ∙ m.no_hash in
      rw (some, white, line, opens, letter, digit, quoted, hashed) by_mark
