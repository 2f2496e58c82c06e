use Rattle.std.proofs.Common.{◌≡◌, [], map, reverse, take, fold}
use Rattle.c_lex.specs.Lexeme.{lexemes_of}
use Rattle.c_limits.specs.CodeMeasure as machine
use Rattle.c_limits.proofs.limits.measured.Given as goal

abbrev pub invariant-loop-step : goal.invariant-loop-step
invariant-loop-step l =
    (lexemes_of l.rest, reverse (map machine.part_of l.parts.items)) ≡ fold (λ state step. machine.advanced machine.cut step state) (lexemes_of l.tokens, []) (take l.step-index l.steps)
