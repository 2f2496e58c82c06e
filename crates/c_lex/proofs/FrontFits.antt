-- What stands at the front of a text takes one byte at least, and no more than there are.
use Rattle.std.proofs.Common.{◌≡◌, ℕ, suc, ◌+◌, ◌<◌, ◌≤◌, Bool, true, false, not, ◌&&◌, eqb, List, [], ◌∷◌, length, get_or, take, drop, Some, None, find, ap, ⊎_elim, arith, lit<}
use Rattle.std.specs.Option.{option_map}
use Rattle.std.specs.List.{prefix_len, take_while}
use Rattle.std.specs.Str.{bytes_eq}
use Rattle.std.specs.Char.{is_digit, is_ascii_digit}
use Rattle.std.specs.Str.Parse.{digits_value}
use Rattle.std.proofs.lemmas.Slice.Eq.{bytes_eq-Decides}
use Rattle.std.proofs.lemmas.Bool.Decides.{nat_tests}
use Rattle.std.proofs.lemmas.Bool.{and_parts}
use Rattle.std.proofs.lemmas.List.Sums.{prefix_len-le-length}
use Rattle.std.proofs.lemmas.List.{get_or_past, length-take, length-drop}
use Rattle.std.proofs.str.Laws.{order}
use Rattle.c_lex.proofs.Cases.{Holds, Each, cond_holds, option_holds, always, each_none, each_cond, each_map, weaker, each_or, each_then}
use Rattle.c_lex.specs.declared.token.Punct.{Punct}
use Rattle.c_lex.specs.declared.token.Punct.TheVariants as p
use Rattle.c_lex.specs.Bytes.{line_feed, is_letter, is_word, is_numeral, quote, backslash, hash}
use Rattle.c_lex.specs.Punct.{punct_text, puncts, punct_of, punct_at}
use Rattle.c_lex.specs.Keyword.{keyword_of}
use Rattle.c_lex.specs.Unsupported.{unsupported_of}
use Rattle.c_lex.specs.Number.{number_of}
use Rattle.c_lex.specs.Character.{closed, simple_escape, numeric_escape, escape_of, character_of}
use Rattle.c_lex.specs.Gap.{star, slash, line_length, comment_length}
use Rattle.c_lex.specs.Lexeme.{name}
use Rattle.c_lex.specs.Front.{Front, ends, gap, holds, lacks, Cause, word_front, number_front, character_front, comment_front, mark_front, front}

abbrev pub Fits : ℕ → Front → Type 0
Fits len ends = Unit {0}
Fits len (lacks cause) = Unit {0}
Fits len (gap n fresh) = (0 < n) × (n ≤ len)
Fits len (holds kind n) = (0 < n) × (n ≤ len)

abbrev Room : ℕ → Front → Type 0
Room len front = Holds (Fits len) front

room_ends : {len : ℕ} → Room len ends
room_ends = record { holds = tt }

room_lacks : {len : ℕ} {cause : Cause} → Room len (lacks cause)
room_lacks = record { holds = tt }

-- a byte that isn't 0 is a byte of the text
pub inside : (text : List ℕ) (i b : ℕ) → eqb (get_or text i 0) (suc b) ≡ true → i < length text
inside text i b e =
    ⊎_elim (λ h. h)
    (λ past. let zero : get_or text i 0 ≡ 0 = get_or_past text i 0 past in absurd (grind (arith, nat_tests)))
    (order i (length text))

pub prefix_positive : (p : ℕ → Bool) (text : List ℕ) → 0 < length text → p (get_or text 0 0) ≡ true → 0 < prefix_len p text
prefix_positive p [] h e = absurd (omega arith)
prefix_positive p (x ∷ xs) h e = rw e (omega arith)

-- a run from the front
run_fits : (p : ℕ → Bool) (text : List ℕ) → 0 < length text → p (get_or text 0 0) ≡ true → (0 < length (take_while p text)) × (length (take_while p text) ≤ length text)
run_fits p text h e =
    let positive = prefix_positive p text h e in
    let within = prefix_len-le-length p text in
    (omega (arith, length-take (prefix_len p text) text), omega (arith, length-take (prefix_len p text) text))

comment_fits : (text : List ℕ) → Each (comment_length text) (λ n. n ≤ length text)
comment_fits [] = record { given = tt }
comment_fits (b ∷ bs) =
    each_cond {b = eqb b star && eqb (get_or bs 0 0) slash} {x = Some 2} {y = option_map suc (comment_length bs)}
    (λ e. let one = inside bs 0 46 (and_parts _ _ e).1 in record { given = omega arith })
    (λ _. each_map suc (λ n. n ≤ suc (length bs)) (comment_length bs) (weaker (λ n. suc n ≤ suc (length bs)) (comment_length bs) (λ n (h : n ≤ length bs). omega arith) (comment_fits bs)))

-- a character constant takes so many bytes at most
abbrev Taken : ℕ → ℕ × ℕ → Type 0
Taken most c = (0 < c.1) × (c.1 ≤ most)

closed_fits : (most value n : ℕ) (text : List ℕ) → (0 < length text → n < most) → Each (closed value n text) (Taken most)
closed_fits most value n text h =
    each_cond {b = eqb (get_or text 0 0) quote} {x = Some (value, n + 1)} {y = None}
    (λ e. let one = h (inside text 0 38 e) in record { given = (omega arith, omega arith) }) (λ _. each_none)

run_within : (p : ℕ → Bool) (count : ℕ) (text : List ℕ) → prefix_len p (take count text) ≤ length text
run_within p count text = omega (arith, prefix_len-le-length p (take count text), length-take count text)

numeric_fits : (most base count before : ℕ) (text : List ℕ) → (0 < length text → before + length text ≤ most) → Each (numeric_escape base count before text) (Taken most)
unfolding numeric_escape
numeric_fits most base count before text h =
    let n = prefix_len (λ b. is_digit b base) (take count text) in
    let within = run_within (λ b. is_digit b base) count text in
    let rest = length-drop n text in
    let end = closed_fits most (digits_value base (take n text)) (before + n) (drop n text) (λ (some : 0 < length (drop n text)). let room : before + length text ≤ most = h (omega arith) in omega arith) in
    search (each_cond, each_none, end)

escape_fits : (most : ℕ) (text : List ℕ) → 2 + length text ≤ most → Each (escape_of text) (Taken most)
unfolding escape_of
escape_fits most text h =
    let rest = length-drop 1 text in
    let hexadecimal = numeric_fits most 16 2 3 (drop 1 text) (λ (some : 0 < length (drop 1 text)). omega arith) in
    let octal = numeric_fits most 8 3 2 text (λ (some : 0 < length text). omega arith) in
    let simple = each_then {f = λ value. closed value 3 (drop 1 text)} {P = Taken most} (simple_escape (get_or text 0 0)) (λ value _. closed_fits most value 3 (drop 1 text) (λ (some : 0 < length (drop 1 text)). omega arith)) in
    search (each_cond, hexadecimal, octal, simple)

-- a backslash stands there
backslash_fits : (text : List ℕ) → eqb (get_or text 0 0) backslash ≡ true → Each (escape_of (drop 1 text)) (Taken (suc (length text)))
backslash_fits text e =
    let one = inside text 0 91 e in
    let rest = length-drop 1 text in
    escape_fits (suc (length text)) (drop 1 text) (omega arith)

character_fits : (text : List ℕ) → Each (character_of text) (Taken (suc (length text)))
unfolding character_of
character_fits text =
    let rest = length-drop 1 text in
    let plain = closed_fits (suc (length text)) (get_or text 0 0) 2 (drop 1 text) (λ (some : 0 < length (drop 1 text)). omega arith) in
    search (each_cond, each_none, backslash_fits, plain)

pub find_fits : {X : Type 0} (text_of : X → List ℕ) (bytes : List ℕ) (xs : List X) → Each (find (λ x. bytes_eq (text_of x) bytes) xs) (λ x. text_of x ≡ bytes)
find_fits text_of bytes [] = record { given = tt }
find_fits text_of bytes (x ∷ xs) = each_cond {b = bytes_eq (text_of x) bytes} {x = Some x} {y = find (λ x. bytes_eq (text_of x) bytes) xs} (λ e. record { given = (bytes_eq-Decides (text_of x) bytes).0 e }) (λ _. find_fits text_of bytes xs)

pub punct_of_fits : (bytes : List ℕ) → Each (punct_of bytes) (λ x. punct_text x ≡ bytes)
unfolding punct_of
punct_of_fits bytes = find_fits punct_text bytes puncts

pub punct_positive : (x : Punct) → 0 < length (punct_text x)
punct_positive p.LeftBrace = lit< tt
punct_positive _ = lit< tt

abbrev ShortPunct : List ℕ → Punct → Type 0
ShortPunct text x = (0 < length (punct_text x)) × (length (punct_text x) ≤ length text)

front_punct_fits : (n : ℕ) (text : List ℕ) → Each (punct_of (take n text)) (ShortPunct text)
front_punct_fits n text =
    weaker (ShortPunct text) (punct_of (take n text)) (λ x (e : punct_text x ≡ take n text). (punct_positive x, omega (arith, ap length e, length-take n text))) (punct_of_fits (take n text))

punct_at_fits : (text : List ℕ) → Each (punct_at text) (ShortPunct text)
unfolding punct_at
punct_at_fits text = each_or (front_punct_fits 3 text) (each_or (front_punct_fits 2 text) (front_punct_fits 1 text))

word_fits : (len : ℕ) (word : List ℕ) → (0 < length word) × (length word ≤ len) → Room len (word_front word)
unfolding word_front
word_fits len word h =
    let short : Room len (holds (name word) (length word)) = record { holds = h } in
    option_holds _ (always (keyword_of word) _ (λ k. h)) (λ _. option_holds _ (always (unsupported_of word) _ (λ u. tt)) (λ _. search (cond_holds, room_lacks, short)))

number_fits : (len : ℕ) (numeral : List ℕ) → (0 < length numeral) × (length numeral ≤ len) → Room len (number_front numeral)
unfolding number_front
number_fits len numeral h = option_holds _ (always (number_of numeral) _ (λ k. h)) (λ _. room_lacks)

mark_fits : (text : List ℕ) → Room (length text) (mark_front text)
unfolding mark_front
mark_fits text =
    let short = punct_at_fits text in
    search (cond_holds, option_holds, room_lacks)

character_front_fits : (len : ℕ) (text : List ℕ) → suc (length text) ≤ len → Room len (character_front text)
unfolding character_front
character_front_fits len text h = option_holds _ (weaker (λ c. Taken len c) (character_of text) (λ c (t : Taken (suc (length text)) c). (t.0, omega (arith, t.1))) (character_fits text)) (λ _. room_lacks)

comment_front_fits : (len : ℕ) (text : List ℕ) → 2 + length text ≤ len → Room len (comment_front text)
unfolding comment_front
comment_front_fits len text h = option_holds _ (weaker (λ n. (0 < 2 + n) × (2 + n ≤ len)) (comment_length text) (λ n (t : n ≤ length text). (omega arith, omega arith)) (comment_fits text)) (λ _. room_lacks)

-- a line that begins with another byte than LF
line_fits : (text : List ℕ) → eqb (length text) 0 ≡ false → eqb (get_or text 0 0) line_feed ≡ false → Room (length text) (gap (line_length text) false)
line_fits text some h = record { holds = (prefix_positive (λ b. not (eqb b line_feed)) text (grind (arith, nat_tests)) (ap not h), prefix_len-le-length (λ b. not (eqb b line_feed)) text) }

-- What stands there by its first bytes, one lemma for each test.
white_room : (text : List ℕ) (fresh : Bool) → eqb (length text) 0 ≡ false → Room (length text) (gap 1 fresh)
white_room text fresh some = record { holds = (lit< tt, grind (arith, nat_tests)) }

line_comment_room : (text : List ℕ) → eqb (length text) 0 ≡ false → (eqb (get_or text 0 0) slash && eqb (get_or text 1 0) slash) ≡ true → Room (length text) (gap (line_length text) false)
line_comment_room text some e = line_fits text some (grind (arith, nat_tests))

line_mark_room : (text : List ℕ) (fresh mark : Bool) → eqb (length text) 0 ≡ false → (eqb (get_or text 0 0) hash && fresh && mark) ≡ true → Room (length text) (gap (line_length text) false)
line_mark_room text fresh mark some e = line_fits text some (grind (arith, nat_tests))

comment_room : (text : List ℕ) → (eqb (get_or text 0 0) slash && eqb (get_or text 1 0) star) ≡ true → Room (length text) (comment_front (drop 2 text))
comment_room text e =
    let two = inside text 1 41 (and_parts _ _ e).1 in
    let rest = length-drop 2 text in
    comment_front_fits (length text) (drop 2 text) (omega arith)

pub letter_is_word : (b : ℕ) → is_letter b ≡ true → is_word b ≡ true
letter_is_word b e = grind (arith, nat_tests)

digit_is_numeral : (b : ℕ) → is_ascii_digit b ≡ true → is_numeral b ≡ true
digit_is_numeral b e = grind (arith, nat_tests)

word_room : (text : List ℕ) → eqb (length text) 0 ≡ false → is_letter (get_or text 0 0) ≡ true → Room (length text) (word_front (take_while is_word text))
word_room text some e = word_fits (length text) (take_while is_word text) (run_fits is_word text (grind (arith, nat_tests)) (letter_is_word (get_or text 0 0) e))

number_room : (text : List ℕ) → eqb (length text) 0 ≡ false → is_ascii_digit (get_or text 0 0) ≡ true → Room (length text) (number_front (take_while is_numeral text))
number_room text some e = number_fits (length text) (take_while is_numeral text) (run_fits is_numeral text (grind (arith, nat_tests)) (digit_is_numeral (get_or text 0 0) e))

character_room : (text : List ℕ) → eqb (length text) 0 ≡ false → Room (length text) (character_front (drop 1 text))
character_room text some =
    let rest = length-drop 1 text in
    let one : 0 < length text = grind (arith, nat_tests) in
    character_front_fits (length text) (drop 1 text) (omega arith)

all_fits : (fresh : Bool) (text : List ℕ) → Room (length text) (front fresh text)
unfolding front
all_fits fresh text =
    let marks = mark_fits text in
    let white = white_room text in
    let line_comment = line_comment_room text in
    let line_mark = line_mark_room text in
    let comment = comment_room text in
    let words = word_room text in
    let numbers = number_room text in
    let characters = character_room text in
    search (cond_holds, room_ends, white, line_comment, line_mark, comment, words, numbers, characters, marks) depth 14

pub front_fits : (fresh : Bool) (text : List ℕ) → Fits (length text) (front fresh text)
front_fits fresh text = (all_fits fresh text).holds
