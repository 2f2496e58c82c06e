-- The token at the front of a text goes on no further.
use Rattle.std.proofs.Common.{◌≡◌, ℕ, ◌<◌, ◌≤◌, Bool, false, ◌&&◌, eqb, List, length, get_or, take, Option, Some, None, refl, sym, ap, ◌∙◌, subst, ⊎_elim, arith, lit≤, lit<}
use Rattle.std.specs.Prelude.{codes}
use Rattle.std.specs.Option.{option_map_or, option_or}
use Rattle.std.specs.List.{prefix_len, take_while}
use Rattle.std.proofs.lemmas.List.Sums.{prefix_len_stops}
use Rattle.std.proofs.lemmas.List.Folds.{length-prefix_len}
use Rattle.std.proofs.lemmas.List.{get_or-take, get_or_past, length-take}
use Rattle.std.proofs.str.Laws.{order}
use Rattle.c_lex.specs.declared.token.Punct.{Punct}
use Rattle.c_lex.specs.declared.token.Punct.TheVariants as p
use Rattle.c_lex.specs.Bytes.{is_word, is_numeral, dot}
use Rattle.c_lex.specs.Keyword.{keyword_of}
use Rattle.c_lex.specs.Unsupported.{unsupported_of}
use Rattle.c_lex.specs.Punct.{punct_text, punct_of, punct_at}
use Rattle.c_lex.specs.Number.{number_of}
use Rattle.c_lex.specs.Character.{character_of}
use Rattle.c_lex.specs.Gap.{star, slash, comment_length}
use Rattle.c_lex.specs.Lexeme.{Kind, name, keyword, punct, character, number}
use Rattle.c_lex.specs.Front.{Front, ends, gap, holds, lacks, Cause, bad_byte, word_front, number_front, character_front, comment_front, mark_front, front}
use Rattle.c_lex.specs.Spelling.{IsMark, punctuator, ellipsis, line_comment, comment, IsLongest}
use Rattle.c_lex.proofs.Cases.{Holds, Each, cond_holds, option_holds, always, weaker}
use Rattle.c_lex.proofs.Spelled.{punct_of-text}
use Rattle.c_lex.proofs.FrontFits.{punct_of_fits}
use Rattle.c_lex.proofs.TokenSpelling.{IsNumberKind, number_of_kind}

abbrev pub Ended : List ℕ → Front → Type 0
Ended text ends = Unit {0}
Ended text (gap n fresh) = Unit {0}
Ended text (holds kind n) = IsLongest kind n text
Ended text (lacks cause) = Unit {0}

ended_ends : (text : List ℕ) → Holds (Ended text) ends
ended_ends text = record { holds = tt }

ended_gap : (text : List ℕ) {n : ℕ} {fresh : Bool} → Holds (Ended text) (gap n fresh)
ended_gap text = record { holds = tt }

ended_lacks : (text : List ℕ) {cause : Cause} → Holds (Ended text) (lacks cause)
ended_lacks text = record { holds = tt }

-- a run ends where a byte doesn't pass, or at the end
run_stops : (p : ℕ → Bool) (text : List ℕ) → p 0 ≡ false → p (get_or text (length (take_while p text)) 0) ≡ false
run_stops p text at_end =
    let n = length-prefix_len p text in
    ap (λ k. p (get_or text k 0)) n
    ∙ ⊎_elim (λ within. prefix_len_stops p text 0 within) (λ past. ap p (get_or_past text (prefix_len p text) 0 past) ∙ at_end) (order (prefix_len p text) (length text))

word_ended : (text : List ℕ) → Holds (Ended text) (word_front (take_while is_word text))
unfolding word_front
word_ended text =
    let stops : is_word (get_or text (length (take_while is_word text)) 0) ≡ false = run_stops is_word text refl in
    let named : Holds (Ended text) (holds (name (take_while is_word text)) (length (take_while is_word text))) = record { holds = stops } in
    option_holds _ (always (keyword_of (take_while is_word text)) _ (λ k. stops))
    (λ _. option_holds _ (always (unsupported_of (take_while is_word text)) _ (λ u. tt)) (λ _. search (cond_holds, ended_lacks, named)))

-- a punctuator that fits is found, unless a longer one does
pub punct_short : (q : Punct) → length (punct_text q) ≤ 3
punct_short p.LeftBrace = lit≤ tt
punct_short _ = lit≤ tt

found_by : (text : List ℕ) (q : Punct) (m : ℕ) → take (length (punct_text q)) text ≡ punct_text q → length (punct_text q) ≡ m → punct_of (take m text) ≡ Some q
found_by text q m fits is = ap (λ k. punct_of (take k text)) (sym is) ∙ ap punct_of fits ∙ punct_of-text q

-- the front that a punctuator takes is as long as it may be
taken_length : (text : List ℕ) (x : Punct) (k m : ℕ) (q : Punct) → punct_text x ≡ take k text → take (length (punct_text q)) text ≡ punct_text q → length (punct_text q) ≤ k → length (punct_text q) ≤ length (punct_text x)
taken_length text x k m q front fits short =
    let own = length-take k text in
    let other = ap length fits in
    omega (arith, own, other, ap length front, length-take (length (punct_text q)) text)

abbrev Longest : List ℕ → Punct → Type 0
Longest text x = (q : Punct) → take (length (punct_text q)) text ≡ punct_text q → length (punct_text q) ≤ length (punct_text x)

longest_three : (text : List ℕ) → Each (punct_of (take 3 text)) (Longest text)
longest_three text = weaker (Longest text) (punct_of (take 3 text)) (λ x e q fits. taken_length text x 3 3 q e fits (punct_short q)) (punct_of_fits (take 3 text))

longest_two : (text : List ℕ) → punct_of (take 3 text) ≡ None → Each (punct_of (take 2 text)) (Longest text)
longest_two text three =
    weaker (Longest text) (punct_of (take 2 text))
    (λ x e q fits. ⊎_elim (λ long. let is : length (punct_text q) ≡ 3 = omega (arith, punct_short q, long) in let found : punct_of (take 3 text) ≡ Some q = found_by text q 3 fits is in absurd (cc)) (λ short. taken_length text x 2 2 q e fits short) (order 2 (length (punct_text q))))
    (punct_of_fits (take 2 text))

longest_one : (text : List ℕ) → punct_of (take 3 text) ≡ None → punct_of (take 2 text) ≡ None → Each (punct_of (take 1 text)) (Longest text)
longest_one text three two =
    weaker (Longest text) (punct_of (take 1 text))
    (λ x e q fits. ⊎_elim
    (λ long. ⊎_elim
    (λ longer. let is : length (punct_text q) ≡ 3 = omega (arith, punct_short q, longer) in let found : punct_of (take 3 text) ≡ Some q = found_by text q 3 fits is in absurd (cc))
    (λ short. let is : length (punct_text q) ≡ 2 = omega (arith, long, short) in let found : punct_of (take 2 text) ≡ Some q = found_by text q 2 fits is in absurd (cc))
    (order 2 (length (punct_text q))))
    (λ short. taken_length text x 1 1 q e fits short)
    (order 1 (length (punct_text q))))
    (punct_of_fits (take 1 text))

or_else : {A : Type 0} {P : A → Type 0} {o x : Option A} → Each o P → (o ≡ None → Each x P) → Each (option_or o x) P
or_else {o = Some a} h k = h
or_else {o = None} h k = k refl

punct_longest : (text : List ℕ) → Each (punct_at text) (Longest text)
unfolding punct_at
punct_longest text = or_else (longest_three text) (λ three. or_else (longest_two text three) (λ two. longest_one text three two))

-- no comment begins here, and no `...`
record NoOther (text : List ℕ) : Type 0 where
  no_line : (eqb (get_or text 0 0) slash && eqb (get_or text 1 0) slash) ≡ false
  no_comment : (eqb (get_or text 0 0) slash && eqb (get_or text 1 0) star) ≡ false
  no_ellipsis : (eqb (get_or text 0 0) dot && eqb (get_or text 1 0) dot && eqb (get_or text 2 0) dot) ≡ false

-- the first bytes, where a mark fits
pub byte_of : (text mark : List ℕ) (i : ℕ) → i < length mark → take (length mark) text ≡ mark → get_or text i 0 ≡ get_or mark i 0
byte_of text mark i h e = sym (get_or-take (length mark) text i 0 h) ∙ ap (λ t. get_or t i 0) e

mark_longest : (text : List ℕ) (x : Punct) → NoOther text → Longest text x → (mark : List ℕ) → IsMark mark → take (length mark) text ≡ mark → length mark ≤ length (punct_text x)
mark_longest text x other longest mark (punctuator q) fits = longest q fits
mark_longest text x other longest mark ellipsis fits =
    let a : get_or text 0 0 ≡ 46 = byte_of text (codes "...") 0 (lit< tt) fits in
    let b : get_or text 1 0 ≡ 46 = byte_of text (codes "...") 1 (lit< tt) fits in
    let c : get_or text 2 0 ≡ 46 = byte_of text (codes "...") 2 (lit< tt) fits in
    let never : (eqb 46 dot && eqb 46 dot && eqb 46 dot) ≡ false = (λ i. eqb (sym a i) dot && eqb (sym b i) dot && eqb (sym c i) dot) ∙ other.no_ellipsis in
    absurd (cc)
mark_longest text x other longest mark line_comment fits =
    let a : get_or text 0 0 ≡ 47 = byte_of text (codes "//") 0 (lit< tt) fits in
    let b : get_or text 1 0 ≡ 47 = byte_of text (codes "//") 1 (lit< tt) fits in
    let never : (eqb 47 slash && eqb 47 slash) ≡ false = (λ i. eqb (sym a i) slash && eqb (sym b i) slash) ∙ other.no_line in
    absurd (cc)
mark_longest text x other longest mark comment fits =
    let a : get_or text 0 0 ≡ 47 = byte_of text (codes "/*") 0 (lit< tt) fits in
    let b : get_or text 1 0 ≡ 42 = byte_of text (codes "/*") 1 (lit< tt) fits in
    let never : (eqb 47 slash && eqb 42 star) ≡ false = (λ i. eqb (sym a i) slash && eqb (sym b i) star) ∙ other.no_comment in
    absurd (cc)

puncts_ended : (text : List ℕ) → NoOther text → Holds (Ended text) (option_map_or (λ x. holds (punct x) (length (punct_text x))) (punct_at text) (lacks bad_byte))
puncts_ended text other = option_holds _ (weaker (λ x. IsLongest (punct x) (length (punct_text x)) text) (punct_at text) (λ x longest mark is fits. mark_longest text x other longest mark is fits) (punct_longest text)) (λ _. ended_lacks text)

mark_ended : (text : List ℕ) → (eqb (get_or text 0 0) slash && eqb (get_or text 1 0) slash) ≡ false → (eqb (get_or text 0 0) slash && eqb (get_or text 1 0) star) ≡ false → Holds (Ended text) (mark_front text)
unfolding mark_front
mark_ended text no_line no_comment =
    let known = λ (e : (eqb (get_or text 0 0) dot && eqb (get_or text 1 0) dot && eqb (get_or text 2 0) dot) ≡ false). puncts_ended text (record { no_line = no_line; no_comment = no_comment; no_ellipsis = e }) in
    search (cond_holds, ended_lacks, known)

character_ended : (text rest : List ℕ) → Holds (Ended text) (character_front rest)
unfolding character_front
character_ended text rest = option_holds {P = Ended text} (λ (c : ℕ × ℕ). holds (character c.0) c.1) {o = character_of rest} {d = lacks bad_byte} (always (character_of rest) _ (λ c. tt)) (λ _. ended_lacks text)

comment_ended : (text rest : List ℕ) → Holds (Ended text) (comment_front rest)
unfolding comment_front
comment_ended text rest = option_holds _ (always (comment_length rest) _ (λ n. tt)) (λ _. ended_lacks text)

-- a number that is spelled is a number
number_kind : (text : List ℕ) (kind : Kind) (bytes : List ℕ) → is_numeral (get_or text (length bytes) 0) ≡ false → IsNumberKind kind → IsLongest kind (length bytes) text
number_kind text (number v d u l) bytes stops is = stops
number_kind text (name s) bytes stops is = absurd is
number_kind text (keyword k) bytes stops is = absurd is
number_kind text (punct x) bytes stops is = absurd is
number_kind text (character c) bytes stops is = absurd is

number_ended : (text : List ℕ) → Holds (Ended text) (number_front (take_while is_numeral text))
unfolding number_front
number_ended text =
    option_holds _ (weaker (λ kind. IsLongest kind (length (take_while is_numeral text)) text) (number_of (take_while is_numeral text)) (λ kind is. number_kind text kind (take_while is_numeral text) (run_stops is_numeral text refl) is) (number_of_kind (take_while is_numeral text)))
    (λ _. ended_lacks text)

front_ended : (fresh : Bool) (text : List ℕ) → Holds (Ended text) (front fresh text)
unfolding front
front_ended fresh text =
    let words = word_ended text in
    let numbers = number_ended text in
    let characters = character_ended text in
    let comments = comment_ended text in
    let marks = mark_ended text in
    search (cond_holds, ended_ends, ended_gap, words, numbers, characters, comments, marks) depth 14

-- the token at the front goes on no further
pub told_longest : (fresh : Bool) (text : List ℕ) (kind : Kind) (n : ℕ) → front fresh text ≡ holds kind n → IsLongest kind n text
told_longest fresh text kind n e = subst (Ended text) e (front_ended fresh text).holds
