-- What a word is, by what it spells.
use Rattle.std.proofs.Common.{◌≡◌, ℕ, ◌<◌, ◌≤◌, true, List, length, Some, None, refl, sym, subst, arith, ⊎_elim, lit<}
use Rattle.std.specs.List.{prefix_len, take_while}
use Rattle.std.specs.Str.{IsAscii}
use Rattle.std.proofs.lemmas.Bool.Decides.{nat_tests}
use Rattle.std.proofs.lemmas.List.Sums.{prefix_len_passes}
use Rattle.std.proofs.lemmas.List.{get_or-take, get_or_past, length-take}
use Rattle.std.proofs.str.Laws.{order}
use Rattle.c_lex.specs.declared.token.Keyword.{Keyword}
use Rattle.c_lex.specs.declared.fault.Unsupported.{Unsupported}
use Rattle.c_lex.specs.Bytes.{is_word}
use Rattle.c_lex.specs.Keyword.{keyword_of}
use Rattle.c_lex.specs.Unsupported.{unsupported_of}
use Rattle.c_lex.specs.Lexeme.{name, keyword}
use Rattle.c_lex.specs.Front.{holds, lacks, unsupported, long_name, word_front}

pub word_keyword : (w : List ℕ) (k : Keyword) → keyword_of w ≡ Some k → word_front w ≡ holds (keyword k) (length w)
unfolding word_front
word_keyword w k h = rw h refl

pub word_unsupported : (w : List ℕ) (u : Unsupported) → keyword_of w ≡ None → unsupported_of w ≡ Some u → word_front w ≡ lacks (unsupported u)
unfolding word_front
word_unsupported w u g h = rw (g, h) refl

pub word_long : (w : List ℕ) → keyword_of w ≡ None → unsupported_of w ≡ None → 63 < length w → word_front w ≡ lacks long_name
unfolding word_front
word_long w g h long = rw (g, h) (grind (arith, nat_tests))

pub word_name : (w : List ℕ) → keyword_of w ≡ None → unsupported_of w ≡ None → length w ≤ 63 → word_front w ≡ holds (name w) (length w)
unfolding word_front
word_name w g h short = rw (g, h) (grind (arith, nat_tests))

-- the bytes of a name are ASCII
word_below : (b : ℕ) → is_word b ≡ true → b < 128
word_below b h = grind (arith, nat_tests)

pub word_ascii : (text : List ℕ) → IsAscii (take_while is_word text)
word_ascii text i =
    ⊎_elim
    (λ inside. subst (λ b. b < 128) (sym (get_or-take (prefix_len is_word text) text i 0 inside)) (word_below _ (prefix_len_passes is_word text i 0 inside)))
    (λ past. subst (λ b. b < 128) (sym (get_or_past (take_while is_word text) i 0 (omega (arith, length-take (prefix_len is_word text) text)))) (lit< tt))
    (order i (prefix_len is_word text))
