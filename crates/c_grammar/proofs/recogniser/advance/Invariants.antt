use Rattle.std.proofs.Common.{◌≡◌, ◌++◌, map, reverse, vec_len}
use Rattle.c_lex.specs.Lexeme.{lexeme_of}
use Rattle.c_grammar.specs.CodeNames.{made_of, next_of}
use Rattle.c_grammar.specs.CodeAccepts.{forward}
use Rattle.c_grammar.specs.CodeWritten.{token_steps}
use Rattle.c_grammar.proofs.recogniser.advance.Given as goal

abbrev pub invariant-loop-symbol : goal.invariant-loop-symbol
invariant-loop-symbol l =
    (forward (made_of (map (λ name. name.now) l.names.all.items) l.names.made) (next_of (map (λ name. name.now) l.names.all.items)) (lexeme_of l.token) (reverse l.stack.items) ≡ forward (made_of (map (λ name. name.now) l.initial.names.all.items) l.initial.names.made) (next_of (map (λ name. name.now) l.initial.names.all.items)) (lexeme_of l.token) (reverse l.initial.stack.items)) × (l.steps.items ++ token_steps (made_of (map (λ name. name.now) l.names.all.items) l.names.made) (next_of (map (λ name. name.now) l.names.all.items)) (lexeme_of l.token) (reverse l.stack.items) ≡ l.initial.steps.items ++ token_steps (made_of (map (λ name. name.now) l.initial.names.all.items) l.initial.names.made) (next_of (map (λ name. name.now) l.initial.names.all.items)) (lexeme_of l.token) (reverse l.initial.stack.items))

abbrev pub decreases-loop-symbol : goal.decreases-loop-symbol
decreases-loop-symbol l = vec_len l.stack
