-- What the code knows of a tree: it is that of some text, which is no longer than what memory can hold.
use Rattle.std.specs.Prelude.{ℕ, ◌<◌, ◌^◌, List, length}
use Rattle.c_lex.specs.Lexeme.{Lexeme}
use Rattle.c_lex.specs.Tokens.{Tokens}
use Rattle.c_grammar.specs.Tree.{External}
use Rattle.text_answers.specs.TextAnswer.{IsTree}

pub record HasTokens (ts : List Lexeme) : Type 0 where
  pub text : List ℕ
  pub short : length text < 2 ^ 64
  pub are_tokens : Tokens text ts

pub record HasText (tree : List External) : Type 0 where
  pub tokens : List Lexeme
  pub of_text : HasTokens tokens
  pub is_tree : IsTree tokens tree
