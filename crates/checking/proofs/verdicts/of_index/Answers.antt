-- The index has the certificate's version.
use Rattle.std.proofs.Common.{sym, ap, ◌∙◌}
use Rattle.std.proofs.lemmas.Result.{IfOk-weaker}
use Rattle.c_values.specs.CodeTypes as types
use Rattle.c_lang.specs.CodeTyped.{unit_of}
use Rattle.certificate_text.specs.CertificateIndex.{Index}
use Rattle.checking.specs.Checked.{target_for}
use Rattle.checking.proofs.Certified.{for_target, for_another}
use Rattle.checking.proofs.verdicts.of_index.Goals as goal

pub returns-then-is_for : goal.returns-then-is_for
returns-then-is_for g c =
    let (d, is, same) = c.requires.scanned in
    let version = ap (λ (i : Index). target_for i.version) same in
    IfOk-weaker c.verdict.result _ _
    (λ r. for_target (types.target_of c.args.target) (unit_of c.args.unit.now) c.args.text.now d is (sym version ∙ c.is_for.ensures.0 c.if-is_for.true) r)
    (c.verdict.ensures d is)

pub returns-in_ok-line : goal.returns-in_ok-line
returns-in_ok-line g c =
    let (d, is, same) = c.requires.scanned in
    let version = ap (λ (i : Index). target_for i.version) same in
    for_another (types.target_of c.args.target) (unit_of c.args.unit.now) c.args.text.now d is c.in_ok-line.field-0.status c.in_ok-line.field-0.lines.items
    (λ e. let t = sym c.if-is_for.false ∙ c.is_for.ensures.1 (version ∙ e) in absurd cc)
    c.in_ok-line.ensures
