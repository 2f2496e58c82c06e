-- What may stand between tokens is read there, and what is read there may.
use Rattle.std.proofs.Common.{◌≡◌, ℕ, suc, ◌+◌, Bool, true, false, ◌&&◌, ◌||◌, eqb, List, [], ◌∷◌, length, get_or, drop, Option, Some, None, refl, sym, subst}
use Rattle.std.specs.List.{take_while}
use Rattle.std.proofs.lemmas.Bool.{and_parts, eqb-true}
use Rattle.c_lex.specs.Bytes.{line_feed, hash, is_blank, is_white, is_word, is_numeral}
use Rattle.c_lex.specs.Keyword.{keyword_of}
use Rattle.c_lex.specs.Unsupported.{unsupported_of}
use Rattle.c_lex.specs.Punct.{punct_text, punct_at}
use Rattle.c_lex.specs.Number.{number_of}
use Rattle.c_lex.specs.Character.{character_of}
use Rattle.c_lex.specs.Gap.{star, slash, line_length, comment_length, is_line_mark, IsGap, white, line_comment, comment, line_mark}
use Rattle.c_lex.specs.Lexeme.{name, punct, character}
use Rattle.c_lex.specs.Front.{Front, ends, gap, holds, lacks, Cause, bad_byte, word_front, number_front, character_front, comment_front, mark_front, front}
use Rattle.c_lex.proofs.Cases.{Holds, Each, cond_holds, option_holds, always, weaker}
use Rattle.c_lex.proofs.TokenReading.{no_zero}

comment_front_is : (text : List ℕ) (n : ℕ) → comment_length text ≡ Some n → comment_front text ≡ gap (2 + n) false
unfolding comment_front
comment_front_is text n e = rw e refl

pub gap_read : {fresh after : Bool} {text : List ℕ} {n : ℕ} → IsGap fresh text n after → front fresh text ≡ gap n after
unfolding front
gap_read (white {bs = bs} e) = let some = no_zero (length bs) in rw (some, e) refl
gap_read (line_comment {bs = bs}) = let some = no_zero (suc (length bs)) in rw some refl
gap_read (comment {bs = bs} {n = n} e) = let some = no_zero (suc (length bs)) in rw some (comment_front_is bs n e)
gap_read (line_mark {bs = bs} e) = let some = no_zero (length bs) in rw (some, e) refl

abbrev Gapped : Bool → List ℕ → Front → Type 0
Gapped fresh text ends = Unit {0}
Gapped fresh text (gap n after) = IsGap fresh text n after
Gapped fresh text (holds kind n) = Unit {0}
Gapped fresh text (lacks cause) = Unit {0}

module _ (fresh : Bool) (text : List ℕ) where
  gapped_ends : Holds (Gapped fresh text) ends
  gapped_ends = record { holds = tt }

  gapped_lacks : (cause : Cause) → Holds (Gapped fresh text) (lacks cause)
  gapped_lacks cause = record { holds = tt }

  words_gapped : Holds (Gapped fresh text) (word_front (take_while is_word text))
  unfolding word_front
  words_gapped =
      let named : Holds (Gapped fresh text) (holds (name (take_while is_word text)) (length (take_while is_word text))) = record { holds = tt } in
      option_holds _ (always (keyword_of (take_while is_word text)) _ (λ k. tt))
      (λ _. option_holds _ (always (unsupported_of (take_while is_word text)) _ (λ u. tt)) (λ _. search (cond_holds, gapped_lacks, named)))

  numbers_gapped : Holds (Gapped fresh text) (number_front (take_while is_numeral text))
  unfolding number_front
  numbers_gapped = option_holds _ (always (number_of (take_while is_numeral text)) _ (λ k. tt)) (λ _. record { holds = tt })

  characters_gapped : (rest : List ℕ) → Holds (Gapped fresh text) (character_front rest)
  unfolding character_front
  characters_gapped rest = option_holds {P = Gapped fresh text} (λ (c : ℕ × ℕ). holds (character c.0) c.1) {o = character_of rest} {d = lacks bad_byte} (always (character_of rest) _ (λ c. tt)) (λ _. record { holds = tt })

  marks_gapped : Holds (Gapped fresh text) (mark_front text)
  unfolding mark_front
  marks_gapped =
      let puncts = option_holds {P = Gapped fresh text} (λ x. holds (punct x) (length (punct_text x))) {o = punct_at text} {d = lacks bad_byte} (always (punct_at text) _ (λ x. tt)) (λ _. gapped_lacks bad_byte) in
      search (cond_holds, gapped_lacks, puncts)

white_gapped : (fresh : Bool) (text : List ℕ) → eqb (length text) 0 ≡ false → is_white (get_or text 0 0) ≡ true → Holds (Gapped fresh text) (gap 1 (eqb (get_or text 0 0) line_feed || (is_blank (get_or text 0 0) && fresh)))
white_gapped fresh [] some e = absurd (cc)
white_gapped fresh (b ∷ bs) some e = record { holds = white e }

line_gapped : (fresh : Bool) (text : List ℕ) → (eqb (get_or text 0 0) slash && eqb (get_or text 1 0) slash) ≡ true → Holds (Gapped fresh text) (gap (line_length text) false)
line_gapped fresh [] e = absurd (cc)
line_gapped fresh (a ∷ []) e = let no : eqb 0 slash ≡ true = (and_parts _ _ e).1 in absurd (cc)
line_gapped fresh (a ∷ b ∷ bs) e =
    let one : slash ≡ a = sym (eqb-true a slash (and_parts _ _ e).0) in
    let two : slash ≡ b = sym (eqb-true b slash (and_parts _ _ e).1) in
    subst (λ a. Holds (Gapped fresh (a ∷ b ∷ bs)) (gap (line_length (a ∷ b ∷ bs)) false)) one
    (subst (λ b. Holds (Gapped fresh (slash ∷ b ∷ bs)) (gap (line_length (slash ∷ b ∷ bs)) false)) two (record { holds = line_comment }))

each_some : {A : Type 0} (o : Option A) → Each o (λ a. o ≡ Some a)
each_some (Some a) = record { given = refl }
each_some None = record { given = tt }

comment_front_gapped : (fresh : Bool) (bs : List ℕ) → Holds (Gapped fresh (slash ∷ star ∷ bs)) (comment_front bs)
unfolding comment_front
comment_front_gapped fresh bs = option_holds _ (weaker (λ n. IsGap fresh (slash ∷ star ∷ bs) (2 + n) false) (comment_length bs) (λ n (e : comment_length bs ≡ Some n). comment e) (each_some (comment_length bs))) (λ _. record { holds = tt })

comment_gapped : (fresh : Bool) (text : List ℕ) → (eqb (get_or text 0 0) slash && eqb (get_or text 1 0) star) ≡ true → Holds (Gapped fresh text) (comment_front (drop 2 text))
comment_gapped fresh [] e = absurd (cc)
comment_gapped fresh (a ∷ []) e = let no : eqb 0 star ≡ true = (and_parts _ _ e).1 in absurd (cc)
comment_gapped fresh (a ∷ b ∷ bs) e =
    let one : slash ≡ a = sym (eqb-true a slash (and_parts _ _ e).0) in
    let two : star ≡ b = sym (eqb-true b star (and_parts _ _ e).1) in
    subst (λ a. Holds (Gapped fresh (a ∷ b ∷ bs)) (comment_front bs)) one (subst (λ b. Holds (Gapped fresh (slash ∷ b ∷ bs)) (comment_front bs)) two (comment_front_gapped fresh bs))

three_parts : (x y z : Bool) → (x && y && z) ≡ true → (x ≡ true) × (y ≡ true) × (z ≡ true)
three_parts x y z e = let xy = and_parts (x && y) z e in let x_y = and_parts x y xy.0 in (x_y.0, x_y.1, xy.1)

mark_gapped : (fresh : Bool) (text : List ℕ) → (eqb (get_or text 0 0) hash && fresh && is_line_mark (drop 1 text)) ≡ true → Holds (Gapped fresh text) (gap (line_length text) false)
mark_gapped fresh [] e = let no : false ≡ true = (three_parts false fresh (is_line_mark []) e).0 in absurd (cc)
mark_gapped false (a ∷ bs) e = let no : false ≡ true = (three_parts (eqb a hash) false (is_line_mark bs) e).1 in absurd (cc)
mark_gapped true (a ∷ bs) e =
    let parts = three_parts (eqb a hash) true (is_line_mark bs) e in
    subst (λ a. Holds (Gapped true (a ∷ bs)) (gap (line_length (a ∷ bs)) false)) (sym (eqb-true a hash parts.0)) (record { holds = line_mark parts.2 })

front_gapped : (fresh : Bool) (text : List ℕ) → Holds (Gapped fresh text) (front fresh text)
unfolding front
front_gapped fresh text =
    let nothing = gapped_ends fresh text in
    let whites = white_gapped fresh text in
    let lines = line_gapped fresh text in
    let comments = comment_gapped fresh text in
    let words = words_gapped fresh text in
    let numbers = numbers_gapped fresh text in
    let characters = characters_gapped fresh text in
    let mark_lines = mark_gapped fresh text in
    let marks = marks_gapped fresh text in
    search (cond_holds, nothing, whites, lines, comments, words, numbers, characters, mark_lines, marks) depth 14

pub read_gap : (fresh : Bool) (text : List ℕ) (n : ℕ) (after : Bool) → front fresh text ≡ gap n after → IsGap fresh text n after
read_gap fresh text n after e = subst (Gapped fresh text) e (front_gapped fresh text).holds
