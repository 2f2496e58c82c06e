use Rattle.ac_sx.specs.CodeSx.{tree_of}
use Rattle.triple_lang.specs.CodeEntail as entails
use Rattle.triple_text.specs.EntailReading.{entail_at}
use Rattle.triple_text.proofs.Shown.{shown_given}
use Rattle.triple_text.proofs.deriv_reading.shown_at.Goals as goal

pub returns : goal.returns
returns c = shown_given (λ e. entails.tree_of e.value) c.entail_at.result (entail_at c.args.at (tree_of c.args.tree.now)) c.entail_at.ensures
