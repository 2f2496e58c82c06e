-- The functions are those of the last unit.
use Rattle.std.proofs.Common.{List, map, ap, ap₂, ◌∙◌}
use Rattle.std.proofs.lemmas.Result.{IfOk-weaker}
use Rattle.expression_lang.specs.CodeSignature.{signature_of}
use Rattle.expression_lang.specs.declared.signatures.Signature as G
use Rattle.simpl_lang.specs.CodeCommand.{simpl_unit_of}
use Rattle.monad_lang.specs.Program.{FinalFn, FinalUnit}
use Rattle.monad_lang.specs.CodeProgram.{final_unit_of}
use Rattle.acceptance.specs.CodeCertificate.{steps_of}
use Rattle.acceptance.specs.declared.certificate.Steps as S
use Rattle.checking.proofs.LastPrograms.{last_of, exact_programs}
use Rattle.checking.proofs.certificates.final_unit.Goals as goal

pub returns-clause-last : goal.returns-clause-last
returns-clause-last c =
    let u = simpl_unit_of c.args.u.now in
    IfOk-weaker c.with_functions.result _ _
    (λ v same. same ∙ ap (λ (fs : List FinalFn). let w : FinalUnit = record { layout = u.layout; globals = u.globals; functions = fs } in w)
    (c.in_ok-functions.ensures
    ∙ ap₂ (λ (ss : List G.Signature) (cs : List S.Steps). last_of (map signature_of ss) (map steps_of cs)) c.deref.ensures.value c.deref-2.ensures.value))
    c.with_functions.ensures

pub returns-clause-exact : goal.returns-clause-exact
returns-clause-exact c = λ t levels typed is accepted.
    IfOk-weaker c.with_functions.result _ _
    (λ v same. exact_programs t levels (simpl_unit_of c.args.u.now) (map steps_of c.args.c.now.functions.items) (final_unit_of v) typed is accepted same)
    (returns-clause-last c)
