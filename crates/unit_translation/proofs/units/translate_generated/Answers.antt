-- What is made of the functions is the last unit, and tidy.
use Rattle.std.proofs.Common.{sym, subst, ◌∙◌, ap}
use Rattle.ac_expr.specs.SameExp.{same_exp}
use Rattle.simpl_lang.specs.CodeCommand.{simpl_unit_of}
use Rattle.monad_lang.specs.Program.{FinalUnit}
use Rattle.pipeline.specs.Made.{AreTidy}
use Rattle.pipeline.proofs.MadeAccepted.{last_are_tidy}
use Rattle.unit_translation.proofs.LastUnit.{made_is_last}
use Rattle.unit_translation.proofs.units.translate_generated.Goals as goal

pub returns-clause-last : goal.returns-clause-last
returns-clause-last g c =
    let u = simpl_unit_of c.args.u in
    ap (λ fs. let v : FinalUnit = record { layout = u.layout; globals = u.globals; functions = fs } in v) c.in_ok-functions.ensures
    ∙ made_is_last u

pub returns-clause-tidy : goal.returns-clause-tidy
returns-clause-tidy g c =
    let u = simpl_unit_of c.args.u in
    subst (λ (v : FinalUnit). AreTidy v.functions) (sym (returns-clause-last g c)) (last_are_tidy same_exp u u.functions u.signatures)
