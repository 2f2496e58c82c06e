-- The steps that are left make of these values what all make of none.
use Rattle.std.proofs.Common.{◌≡◌, drop, []}
use Rattle.c_lex.specs.Lexeme.{lexemes_of}
use Rattle.c_grammar.specs.CodeScript.{replay}
use Rattle.c_build.specs.CodeValues.{values_of}
use Rattle.c_build.proofs.build.run.Given as goal

abbrev pub invariant-loop-step : goal.invariant-loop-step
invariant-loop-step l = replay (drop l.step-index l.steps) (lexemes_of l.rest) (values_of l.values) ≡ replay l.steps (lexemes_of l.tokens) []
