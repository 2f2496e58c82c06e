-- The functions are those of the last unit.
use Rattle.std.proofs.Common.{List, map, ap, ◌∙◌}
use Rattle.std.proofs.lemmas.Result.{IfOk-weaker}
use Rattle.expression_lang.specs.CodeSignature.{signature_of}
use Rattle.expression_lang.specs.declared.signatures.Signature as G
use Rattle.simpl_lang.specs.CodeCommand.{simpl_unit_of}
use Rattle.monad_lang.specs.Program.{FinalFn, FinalUnit}
use Rattle.monad_lang.specs.CodeProgram.{final_unit_of}
use Rattle.checking.proofs.LastPrograms.{last_of, exact_programs}
use Rattle.checking.proofs.texts.final_text.Goals as goal

pub returns-clause-last : goal.returns-clause-last
returns-clause-last c = λ d is.
    let u = simpl_unit_of c.args.u.now in
    IfOk-weaker c.with_functions.result _ _
    (λ v same. same ∙ ap (λ (fs : List FinalFn). let w : FinalUnit = record { layout = u.layout; globals = u.globals; functions = fs } in w)
    (c.in_ok-functions.ensures d is ∙ ap (λ (ss : List G.Signature). last_of (map signature_of ss) d.functions) c.deref.ensures.value))
    c.with_functions.ensures

pub returns-clause-exact : goal.returns-clause-exact
returns-clause-exact c = λ d is t levels typed same accepted.
    IfOk-weaker c.with_functions.result _ _
    (λ v last. exact_programs t levels (simpl_unit_of c.args.u.now) d.functions (final_unit_of v) typed same accepted last)
    (returns-clause-last c d is)
