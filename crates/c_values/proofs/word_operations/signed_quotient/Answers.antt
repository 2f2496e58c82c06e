use Rattle.std.proofs.Common.{ap, sym, ◌∙◌}
use Rattle.std.proofs.lemmas.Int.{to_z-of_z}
use Rattle.std.specs.Int.{w64}
use Rattle.std.specs.Prelude.{FitsSigned}
use Rattle.c_values.specs.Word.{word}
use Rattle.c_values.proofs.Wrapping.{word-quotient, quotient_by_some}
use Rattle.c_values.proofs.word_operations.signed_quotient.Goals as goal

pub returns-else-b-eq0 : goal.returns-else-b-eq0
returns-else-b-eq0 c =
    let fits : FitsSigned w64 c.wrapping_div.result = record { sfits = c.wrapping_div.type_inv } in
    let a_fits : FitsSigned w64 c.args.a = c.ranges.a in
    let b_fits : FitsSigned w64 c.args.b = c.ranges.b in
    let whole = simp to_z-of_z at c.truncated_signed.ensures in
    let divided = simp to_z-of_z at c.wrapping_div.ensures in
    whole ∙ ap (word c.args.width) divided ∙ word-quotient c.args.width c.args.a c.args.b c.requires c.ranges.a ∙ ap (word c.args.width) (sym (quotient_by_some c.args.a c.args.b c.if-b-eq0.false))
