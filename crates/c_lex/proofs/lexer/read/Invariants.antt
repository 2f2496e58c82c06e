use Rattle.std.proofs.Common.{◌≤◌, ◌-◌, length}
use Rattle.c_lex.specs.Lexeme.{lexemes_of}
use Rattle.c_lex.specs.Tokens.{Leads, start}
use Rattle.c_lex.proofs.lexer.read.Given as goal

abbrev pub invariant-loop-at : goal.invariant-loop-at
invariant-loop-at l = record {
  within : l.at ≤ length l.text;
  leads : Leads l.text start (lexemes_of l.tokens.items) (record { at = l.at; fresh = l.fresh });
}

abbrev pub decreases-loop-at : goal.decreases-loop-at
decreases-loop-at l = length l.text - l.at
