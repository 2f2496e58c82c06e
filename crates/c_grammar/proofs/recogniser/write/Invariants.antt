use Rattle.std.proofs.Common.{◌≡◌, ◌++◌, drop, map, reverse, Some}
use Rattle.c_lex.specs.Lexeme.{lexemes_of}
use Rattle.c_grammar.specs.CodeNames.{made_of, next_of}
use Rattle.c_grammar.specs.CodeAccepts.{accepts, first_stage, stop}
use Rattle.c_grammar.specs.CodeWritten.{script}
use Rattle.c_grammar.proofs.recogniser.write.Given as goal

abbrev pub invariant-loop-token : goal.invariant-loop-token
invariant-loop-token l =
    (accepts (Some (record { stack = reverse l.stack.items; made = made_of (map (λ name. name.now) l.names.all.items) l.names.made; next = next_of (map (λ name. name.now) l.names.all.items) })) (lexemes_of (drop l.token-index l.tokens)) ≡ accepts (Some first_stage) (lexemes_of l.tokens)) × (l.steps.items ++ script (Some (record { stack = reverse l.stack.items; made = made_of (map (λ name. name.now) l.names.all.items) l.names.made; next = next_of (map (λ name. name.now) l.names.all.items) })) (lexemes_of (drop l.token-index l.tokens)) ≡ script (Some first_stage) (lexemes_of l.tokens)) × (stop l.end (record { stack = reverse l.stack.items; made = made_of (map (λ name. name.now) l.names.all.items) l.names.made; next = next_of (map (λ name. name.now) l.names.all.items) }) (lexemes_of (drop l.token-index l.tokens)) ≡ stop 0 first_stage (lexemes_of l.tokens))
