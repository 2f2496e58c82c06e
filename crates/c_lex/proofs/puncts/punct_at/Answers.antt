use Rattle.std.proofs.Common.{Some, None, sym, ap, ◌∙◌}
use Rattle.c_lex.specs.Punct.{punct_of}
use Rattle.c_lex.proofs.Spelled.{punct_of_is, three_fit, two_fit, one_fits}
use Rattle.c_lex.proofs.puncts.punct_at.Goals as goal

pub returns-in-Some : goal.returns-in-Some
returns-in-Some c =
    sym (three_fit _ _ (ap punct_of (sym c.first.ensures.bytes) ∙ punct_of_is _ (Some c.in-Some.punct) c.in-Some.ensures.some c.in-Some.ensures.none))

pub returns-in-Some-punct : goal.returns-in-Some-punct
returns-in-Some-punct c =
    sym (two_fit _ _ (ap punct_of (sym c.first.ensures.bytes) ∙ punct_of_is _ None c.in_default.ensures.some c.in_default.ensures.none)
    (ap punct_of (sym c.first-2.ensures.bytes) ∙ punct_of_is _ (Some c.in-Some-punct.punct) c.in-Some-punct.ensures.some c.in-Some-punct.ensures.none))

pub returns : goal.returns
returns c =
    sym (one_fits _ (ap punct_of (sym c.first.ensures.bytes) ∙ punct_of_is _ None c.in_default.ensures.some c.in_default.ensures.none)
    (ap punct_of (sym c.first-2.ensures.bytes) ∙ punct_of_is _ None c.in_default-punct.ensures.some c.in_default-punct.ensures.none)
    ∙ ap punct_of (sym c.first-3.ensures.bytes) ∙ punct_of_is _ c.punct-3.result c.punct-3.ensures.some c.punct-3.ensures.none)
