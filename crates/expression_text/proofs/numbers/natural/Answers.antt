use Rattle.std.proofs.Common.{◌≡◌, ◌^◌, ◌<◌, ap, sym, ◌∙◌, arith}
use Rattle.std.specs.Fmt.{decimal}
use Rattle.std.proofs.lemmas.Fmt.{parse-decimal_wide}
use Rattle.expression_text.specs.Numbers.{natural_in}
use Rattle.expression_text.proofs.LookedUp.{name_is, name_same}
use Rattle.expression_text.proofs.NumbersRead.{natural_of, natural_none}
use Rattle.expression_text.proofs.numbers.natural.Goals as goal

pub returns-in_default : goal.returns-in_default
returns-in_default c = natural_none c.args.word.now (λ n lt e. c.in_default.not-Ok n (parse-decimal_wide 128 n c.args.word.now c.parse.result lt (omega arith) e c.parse.ensures.value.0))

pub returns-then-eq : goal.returns-then-eq
returns-then-eq c =
    let is = name_is c.format.result.now c.args.word.now (sym c.eq.ensures ∙ c.if-eq.true) in
    let small : c.in-Ok.number < 2 ^ 128 = omega (arith, c.in-Ok.ensures.value.0.0.1, c.in-Ok.ensures.value.0.1) in
    sym (ap natural_in (sym is ∙ c.format.ensures.text) ∙ natural_of c.in-Ok.number small)

pub returns-else-eq : goal.returns-else-eq
returns-else-eq c = natural_none c.args.word.now (λ n lt e.
    let read = parse-decimal_wide 128 n c.args.word.now c.parse.result lt (omega arith) e c.parse.ensures.value.0 in
    let is = c.in-Ok.is in
    let same : c.in-Ok.number ≡ n = cc in
    let whole = name_same c.format.result.now c.args.word.now (c.format.ensures.text ∙ ap decimal same ∙ sym e) in
    let other = sym c.eq.ensures ∙ c.if-eq.false in
    absurd cc)
