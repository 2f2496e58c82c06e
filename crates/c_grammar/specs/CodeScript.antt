-- What a script means, which is the text's tokens and the ends of its productions in reverse Polish order: a token is put
-- on the values, and a production puts its tree there in place of its parts.
use Rattle.std.specs.Prelude.{List, [], ◌∷◌, Option, Some, None}
use Rattle.c_lex.specs.Lexeme.{Lexeme}
use Rattle.c_grammar.specs.declared.scripts.Step.{Step}
use Rattle.c_grammar.specs.declared.scripts.Step.TheVariants.{Shift, Reduce}
use Rattle.c_grammar.specs.CodeBuild.{Value, Tok, act}

-- the values behind these steps, on these tokens and values; `None` where a token or a part is missing
unfoldable pub replay : List Step → List Lexeme → List Value → Option (List Value)
replay [] ts vs = Some vs
replay (Shift ∷ ss) [] vs = None
replay (Shift ∷ ss) (t ∷ ts) vs = replay ss ts (Tok t ∷ vs)
replay (Reduce p ∷ ss) ts vs = elim (act p vs) [ None ↦ None | Some ws ↦ replay ss ts ws ]
