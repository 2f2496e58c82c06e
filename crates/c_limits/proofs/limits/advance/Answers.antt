use Rattle.std.proofs.Common.{◌∙◌, ◌∷◌, ap, map, reverse}
use Rattle.std.proofs.lemmas.List.{nil_from_length}
use Rattle.c_lex.specs.Lexeme.{lexeme_of, lexemes_of}
use Rattle.c_limits.specs.CodeMeasure as machine
use Rattle.c_limits.proofs.LimitsSteps.{stack_pushed, no_token, a_token, a_production}
use Rattle.c_limits.proofs.limits.advance.Goals as goal

pub returns-in_default : goal.returns-in_default
returns-in_default c = no_token c.args.step (lexemes_of c.args.tokens.now) _ c.in-Shift.is (ap lexemes_of (nil_from_length c.args.tokens.now c.in_default.ensures.cases))

pub returns-in_ok-push-in-Shift : goal.returns-in_ok-push-in-Shift
returns-in_ok-push-in-Shift c =
    a_token c.args.step (lexeme_of c.in-Some.token.now) (lexemes_of c.args.tokens.now) (lexemes_of c.in-Some.rest.now) _ _ c.in-Shift.is
    (ap lexemes_of c.in-Some.ensures.cases.0)
    (stack_pushed c.args.parts.now.items c.push.new.self.items c.token.result c.in_ok-push-in-Shift.ensures.items ∙ ap (λ p. p ∷ reverse (map machine.part_of c.args.parts.now.items)) c.token.ensures)

pub returns-in_ok-reduce-in-Reduce : goal.returns-in_ok-reduce-in-Reduce
returns-in_ok-reduce-in-Reduce c = a_production c.args.step c.in-Reduce.production (lexemes_of c.args.tokens.now) _ _ c.in-Reduce.is c.in_ok-reduce-in-Reduce.ensures
