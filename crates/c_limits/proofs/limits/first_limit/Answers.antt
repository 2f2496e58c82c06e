-- Within the limits by the bounds, or by the places of the measures.
use Rattle.std.proofs.Common.{◌∙◌, ap, sym}
use Rattle.c_lex.specs.Lexeme.{lexemes_of}
use Rattle.c_limits.specs.CodeMeasure as machine
use Rattle.c_limits.proofs.Bounded.{within_limits}
use Rattle.c_limits.proofs.LimitsFound.{found}
use Rattle.c_limits.proofs.limits.first_limit.Goals as goal

pub returns-then-branch : goal.returns-then-branch
returns-then-branch c = λ exts h. within_limits c.args.steps.now (lexemes_of c.args.tokens.now) exts h (sym c.in_ok-stays_within.ensures ∙ c.if-branch.true)

pub returns : goal.returns
returns c = λ exts h. c.limit_of.ensures ∙ ap machine.limit_of c.in_ok-measured.ensures ∙ found c.args.steps.now (lexemes_of c.args.tokens.now) exts h
