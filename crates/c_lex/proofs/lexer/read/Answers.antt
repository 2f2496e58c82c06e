-- A piece leads on by one step, takes one byte at least, and ends in the text.
use Rattle.std.proofs.Common.{◌≡◌, ◌+◌, ◌<◌, ◌≤◌, ◌∷◌, [], false, is_ok, length, drop, sym, ap, ◌∙◌, subst, arith}
use Rattle.std.proofs.ResultArms.{chosen}
use Rattle.std.proofs.lemmas.List.{map-append}
use Rattle.c_lex.specs.declared.token.Token.{Token}
use Rattle.c_lex.specs.Lexeme.{kind_of, lexeme_of, lexemes_of}
use Rattle.c_lex.specs.Front.{front, gap, holds}
use Rattle.c_lex.specs.Answer.{front_of}
use Rattle.c_lex.specs.Tokens.{Place, Leads, here, start}
use Rattle.c_lex.proofs.Leads.{leads_gap, leads_token, gap_fits, token_fits}
use Rattle.c_lex.proofs.lexer.read.Goals as goal
use Rattle.c_lex.proofs.lexer.read.Goals.{In-Gap, In-Token}

gap_front : (c : In-Gap) → front c.loop-at.fresh (drop c.loop-at.at c.args.text.now) ≡ gap c.in-Gap.length c.in-Gap.still
gap_front c = ap (front c.loop-at.fresh) (sym c.after.ensures) ∙ c.in_ok-length.ensures ∙ ap front_of c.in-Gap.is

gap_step : (c : In-Gap) → (0 < c.in-Gap.length) × (c.loop-at.at + c.in-Gap.length ≤ length c.args.text.now)
gap_step c = gap_fits c.args.text.now (record { at = c.loop-at.at; fresh = c.loop-at.fresh }) c.in-Gap.length c.in-Gap.still c.loop-at.invariant.within (gap_front c)

token_front : (c : In-Token) → front c.loop-at.fresh (drop c.loop-at.at c.args.text.now) ≡ holds (kind_of c.in-Token.kind) c.in-Token.length
token_front c = ap (front c.loop-at.fresh) (sym c.after.ensures) ∙ c.in_ok-length.ensures ∙ ap front_of c.in-Token.is

token_step : (c : In-Token) → (0 < c.in-Token.length) × (c.loop-at.at + c.in-Token.length ≤ length c.args.text.now)
token_step c = token_fits c.args.text.now (record { at = c.loop-at.at; fresh = c.loop-at.fresh }) (kind_of c.in-Token.kind) c.in-Token.length c.loop-at.invariant.within (token_front c)

pub loop-at-init : goal.loop-at-init
loop-at-init c = record { within = omega arith; leads = subst (λ ts. Leads c.args.text.now start (lexemes_of ts) start) (sym c.new-tokens.ensures.items) here }

pub overflow_add-at : goal.overflow_add-at
overflow_add-at c = let step = gap_step (goal.at.overflow_add-at c).In-Gap in omega (arith, step.1)

pub loop-at-smaller-in-Gap : goal.loop-at-smaller-in-Gap
loop-at-smaller-in-Gap c = let step = gap_step (goal.at.loop-at-smaller-in-Gap c).In-Gap in omega (arith, step.0, step.1)

pub loop-at-preserved-in-Gap : goal.loop-at-preserved-in-Gap
loop-at-preserved-in-Gap c =
    let i = (goal.at.loop-at-preserved-in-Gap c).In-Gap in
    record { within = (gap_step i).1; leads = leads_gap c.loop-at.invariant.leads (gap_front i) }

pub overflow_add-at-in-Token : goal.overflow_add-at-in-Token
overflow_add-at-in-Token c = let step = token_step (goal.at.overflow_add-at-in-Token c).In-Token in omega (arith, step.1)

pub overflow_add-at-in-Token-2 : goal.overflow_add-at-in-Token-2
overflow_add-at-in-Token-2 c = let step = token_step (goal.at.overflow_add-at-in-Token-2 c).In-Token in omega (arith, step.1)

pub loop-at-smaller : goal.loop-at-smaller
loop-at-smaller c = let step = token_step (goal.at.loop-at-smaller c).In-Token in omega (arith, step.0, step.1)

pub loop-at-preserved : goal.loop-at-preserved
loop-at-preserved c =
    let i = (goal.at.loop-at-preserved c).In-Token in
    let text = c.args.text.now in
    let next : Place = record { at = c.loop-at.at + c.in-Token.length; fresh = false } in
    let token : Token = record { kind = c.in-Token.kind; start = c.loop-at.at; end = c.loop-at.at + c.in-Token.length } in
    let pushed = chosen _ _ _ _ c.push.ensures.items (ap is_ok c.in_ok-push-in-Token.was) in
    record {
      within = (token_step i).1;
      leads = subst (λ ts. Leads text start ts next) (sym (ap lexemes_of pushed ∙ map-append lexeme_of c.loop-at.tokens.items (token ∷ []))) (leads_token c.loop-at.invariant.leads (token_front i));
    }

pub returns-clause-ok : goal.returns-clause-ok
returns-clause-ok c = record {
  place = record { at = c.loop-at.at; fresh = c.loop-at.fresh };
  leads = c.loop-at.invariant.leads;
  whole = c.loop-at-test.false;
}
