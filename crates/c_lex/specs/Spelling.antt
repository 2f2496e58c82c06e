-- How each token is written, apart from how it is found in a text (C99 6.4.1, 6.4.2, 6.4.4, 6.4.6).
use Rattle.std.specs.Prelude.{◌≡◌, ◌≢◌, ℕ, ◌≤◌, ◌==◌, Bool, true, false, List, [], ◌∷◌, ◌++◌, length, take, slice_index, codes, Some}
use Rattle.std.specs.List.{AllPass}
use Rattle.std.specs.Str.Parse.{IsNumeral, digits_value}
use Rattle.c_lex.specs.declared.token.Keyword.{Keyword}
use Rattle.c_lex.specs.declared.token.Punct.{Punct}
use Rattle.c_lex.specs.declared.fault.Unsupported.{Unsupported}
use Rattle.c_lex.specs.Bytes.{is_letter, is_word, is_numeral, quote, backslash}
use Rattle.c_lex.specs.Keyword.{keyword_text}
use Rattle.c_lex.specs.Unsupported.{unsupported_text}
use Rattle.c_lex.specs.Punct.{punct_text}
use Rattle.c_lex.specs.Number.{Target, has_type, suffix_of, is_x}
use Rattle.c_lex.specs.Character.{is_plain, simple_escape}
use Rattle.c_lex.specs.Lexeme.{Kind, name, keyword, punct, character, number}
use Rattle.c_lex.specs.Front.{longest_name}

-- a letter or `_`, then letters, digits and `_`; no keyword and no word that is refused; 63 bytes at most
pub record IsName (bytes : List ℕ) : Type 0 where
  pub begins : is_letter (slice_index bytes 0) ≡ true
  pub goes_on : AllPass is_word bytes
  pub no_keyword : (k : Keyword) → bytes ≢ keyword_text k
  pub not_refused : (u : Unsupported) → bytes ≢ unsupported_text u
  pub short : length bytes ≤ longest_name

-- the base of a number, by what stands before its digits and which digit (48 is 0) is the first
pub data IsBase : ℕ → List ℕ → List ℕ → Type 0 where
  is_hexadecimal : {x : ℕ} {digits : List ℕ} → is_x x ≡ true → IsBase 16 (48 ∷ x ∷ []) digits
  is_octal : {digits : List ℕ} → slice_index digits 0 ≡ 48 → IsBase 8 [] digits
  is_decimal : {digits : List ℕ} → slice_index digits 0 ≢ 48 → IsBase 10 [] digits

-- digits of a base with what stands before them, and a suffix; under either target a type of the suffix holds the value
pub record IsNumber (bytes : List ℕ) (value : ℕ) (decimal unsigned : Bool) (longs : ℕ) : Type 0 where
  pub base : ℕ
  pub prefix : List ℕ
  pub digits : List ℕ
  pub suffix : List ℕ
  pub whole : bytes ≡ prefix ++ (digits ++ suffix)
  pub told : IsBase base prefix digits
  pub numeral : IsNumeral base digits
  pub value_is : value ≡ digits_value base digits
  pub decimal_is : decimal ≡ (base == 10)
  pub suffix_is : suffix_of suffix ≡ Some (unsigned, longs)
  pub typed : (target : Target) → has_type target decimal unsigned longs value ≡ true

-- what stands between the quotes of a character constant, and its value: 120 is `x`
pub data IsCharacter : List ℕ → ℕ → Type 0 where
  plain : {c : ℕ} → is_plain c ≡ true → IsCharacter (c ∷ []) c
  simple : {c value : ℕ} → simple_escape c ≡ Some value → IsCharacter (backslash ∷ c ∷ []) value
  octal_escape : {digits : List ℕ} → IsNumeral 8 digits → length digits ≤ 3 → digits_value 8 digits ≤ 255 → IsCharacter (backslash ∷ digits) (digits_value 8 digits)
  hexadecimal_escape : {digits : List ℕ} → IsNumeral 16 digits → length digits ≤ 2 → IsCharacter (backslash ∷ 120 ∷ digits) (digits_value 16 digits)

abbrev pub Spells : Kind → List ℕ → Type 0
Spells (name s) bytes = (bytes ≡ s) × IsName s
Spells (keyword k) bytes = bytes ≡ keyword_text k
Spells (punct p) bytes = bytes ≡ punct_text p
Spells (character value) bytes = (body : List ℕ) × (bytes ≡ quote ∷ (body ++ quote ∷ [])) × IsCharacter body value
Spells (number value decimal unsigned longs) bytes = IsNumber bytes value decimal unsigned longs

-- a punctuator, or what begins a comment or is refused and begins as a punctuator does
pub data IsMark : List ℕ → Type 0 where
  punctuator : (p : Punct) → IsMark (punct_text p)
  ellipsis : IsMark (codes "...")
  line_comment : IsMark (codes "//")
  comment : IsMark (codes "/*")

-- The first n bytes are all of the token: a name or a number could not go on, and no longer mark fits. Past the end of the
-- text `slice_index` is 0, which goes on neither.
abbrev pub IsLongest : Kind → ℕ → List ℕ → Type 0
IsLongest (name s) n text = is_word (slice_index text n) ≡ false
IsLongest (keyword k) n text = is_word (slice_index text n) ≡ false
IsLongest (number value decimal unsigned longs) n text = is_numeral (slice_index text n) ≡ false
IsLongest (character value) n text = Unit {0}
IsLongest (punct p) n text = (mark : List ℕ) → IsMark mark → take (length mark) text ≡ mark → length mark ≤ n

-- the token is spelled by the first n bytes of a text, and goes on no further
pub record Stands (kind : Kind) (n : ℕ) (text : List ℕ) : Type 0 where
  pub spelled : Spells kind (take n text)
  pub within : n ≤ length text
  pub longest : IsLongest kind n text
