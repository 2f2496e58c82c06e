use Rattle.std.proofs.Common.{◌≡◌, length, take, Some, None, refl, sym, ap, ◌∙◌, subst, arith}
use Rattle.std.specs.List.{take_while}
use Rattle.std.specs.Str.{IsAscii}
use Rattle.c_lex.specs.Bytes.{is_word}
use Rattle.c_lex.specs.Front.{holds, word_front}
use Rattle.c_lex.specs.Lexeme.{name}
use Rattle.c_lex.proofs.Spelled.{keyword_of_is, unsupported_of_is}
use Rattle.c_lex.proofs.WordFront.{word_keyword, word_unsupported, word_long, word_name, word_ascii}
use Rattle.c_lex.proofs.lexer.word_piece.Goals as goal
use Rattle.c_lex.proofs.lexer.word_piece.Goals.{After-first-word}

-- the bytes that are looked at are those of the word
word : (c : After-first-word) → c.first-word.result.now ≡ take_while is_word c.args.text.now
word c = c.first-word.ensures.bytes ∙ ap (λ n. take n c.args.text.now) c.word_length.ensures

pub returns-in-Some : goal.returns-in-Some
returns-in-Some c =
    ap word_front (sym (word (goal.at.returns-in-Some c).After-first-word))
    ∙ word_keyword _ _ (keyword_of_is _ (Some c.in-Some.keyword) c.in-Some.ensures.some c.in-Some.ensures.none)

pub returns-in-Some-unsupported : goal.returns-in-Some-unsupported
returns-in-Some-unsupported c = (
  refl,
  ap word_front (sym (word (goal.at.returns-in-Some-unsupported c).After-first-word))
      ∙ word_unsupported _ _ (keyword_of_is _ None c.in_default.ensures.some c.in_default.ensures.none) (unsupported_of_is _ (Some c.in-Some-unsupported.word) c.in-Some-unsupported.ensures.some c.in-Some-unsupported.ensures.none),
)

pub returns-then-length-gt-LONGEST_NAME : goal.returns-then-length-gt-LONGEST_NAME
returns-then-length-gt-LONGEST_NAME c = (
  refl,
  ap word_front (sym (word (goal.at.returns-then-length-gt-LONGEST_NAME c).After-first-word))
      ∙ word_long _ (keyword_of_is _ None c.in_default.ensures.some c.in_default.ensures.none) (unsupported_of_is _ None c.in_default-unsupported.ensures.some c.in_default-unsupported.ensures.none) (omega arith),
)

pub name-requires : goal.name-requires
name-requires c = subst IsAscii (sym (word (goal.at.name-requires c).After-first-word)) (word_ascii c.args.text.now)

pub returns : goal.returns
returns c =
    ap word_front (sym (word (goal.at.returns c).After-first-word))
    ∙ word_name _ (keyword_of_is _ None c.in_default.ensures.some c.in_default.ensures.none) (unsupported_of_is _ None c.in_default-unsupported.ensures.some c.in_default-unsupported.ensures.none) (omega arith)
    ∙ ap (λ s. holds (name s) (length c.first-word.result.now)) (sym c.in_ok-name.ensures)
