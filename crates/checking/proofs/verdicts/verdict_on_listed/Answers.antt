-- What the certificate comes to is accepted, or refused at the first place.
use Rattle.std.proofs.Common.{refl, subst, arith}
use Rattle.simpl_lang.specs.CodeCommand.{simpl_unit_of}
use Rattle.c_lang.specs.CodeTyped.{unit_of}
use Rattle.checking.specs.Refused.{IsAnswer}
use Rattle.checking.specs.CodeRefused.{answer_of, refused_of}
use Rattle.checking.proofs.Decided.{is_accepted, refuses}
use Rattle.checking.proofs.OneText.{fewer_than_bytes}
use Rattle.answers.specs.declared.status.Status.TheVariants.{No}
use Rattle.checking.proofs.verdicts.verdict_on_listed.Goals as goal

pub returns-in-Ok : goal.returns-in-Ok
returns-in-Ok g c = λ d is.
    let none = c.requires.listed d is in
    let tried = c.in_ok-tried.ensures d is in
    record {
      is_text = is;
      listed = none;
      accepted = is_accepted (unit_of c.args.unit.now) d.functions none c.requires.typed (simpl_unit_of c.in_ok-tried.tried.generated) tried.generated
          (subst (λ r. IsAnswer (simpl_unit_of c.in_ok-tried.tried.generated) d.functions (answer_of r)) c.in-Ok.is tried.answer);
      index = tried.index;
      levels = tried.levels;
      generated = tried.generated;
    }

pub returns-in_ok-refused_line-in-Err : goal.returns-in_ok-refused_line-in-Err
returns-in_ok-refused_line-in-Err g c = λ d is.
    let none = c.requires.listed d is in
    let tried = c.in_ok-tried.ensures d is in
    let few = fewer_than_bytes c.args.text.now d is in (
      c.in_ok-refused_line-in-Err.ensures.0,
      refuses (unit_of c.args.unit.now) d.functions none c.requires.typed (simpl_unit_of c.in_ok-tried.tried.generated) tried.generated
          (omega (arith, few, c.requires.short)) (refused_of c.in-Err.refused) No c.in_ok-refused_line-in-Err.field-0.lines.items
          (subst (λ r. IsAnswer (simpl_unit_of c.in_ok-tried.tried.generated) d.functions (answer_of r)) c.in-Err.is tried.answer)
          (refl, c.in_ok-refused_line-in-Err.ensures.1),
    )
