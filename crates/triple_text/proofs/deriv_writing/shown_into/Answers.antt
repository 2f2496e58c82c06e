-- The text is that of the derivation of the assertion.
use Rattle.std.proofs.Common.{ap, sym, ◌∙◌}
use Rattle.std.proofs.lemmas.Result.{on_ok_weaker}
use Rattle.ac_sx.specs.Writing.{written}
use Rattle.triple_lang.specs.CodeEntail as entails
use Rattle.triple_text.proofs.Shown.{shown_text}
use Rattle.triple_text.proofs.deriv_writing.shown_into.Goals as goal

pub returns : goal.returns
returns g c =
    on_ok_weaker c.entail_into.result
    (λ h. h ∙ ap (written g.W.TreeWriter.writing _) (sym (shown_text (entails.tree_of c.args.entail.now)))) c.entail_into.ensures
