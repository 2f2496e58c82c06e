-- What the certificate comes to is accepted, or refused at a place.
use Rattle.std.proofs.Common.{subst, arith}
use Rattle.std.specs.Option.{option_map}
use Rattle.std.proofs.lemmas.Result.{IfOk-weaker}
use Rattle.c_values.specs.CodeTypes as types
use Rattle.simpl_lang.specs.CodeCommand.{simpl_unit_of}
use Rattle.c_lang.specs.CodeTyped.{unit_of}
use Rattle.checking.specs.Refused.{IsAnswer}
use Rattle.checking.specs.CodeRefused.{answer_of, refused_of}
use Rattle.checking.proofs.Decided.{at_levels, none_differ}
use Rattle.checking.proofs.OneText.{fewer_than_bytes}
use Rattle.checking.proofs.PartShown.{accepted, refused}
use Rattle.checking.proofs.parts.part_of_listed.Goals as goal

pub returns-in-Ok : goal.returns-in-Ok
returns-in-Ok c =
    let (d, is, same) = c.requires.scanned in
    let g = simpl_unit_of c.in_ok-tried.tried.generated in
    let tried = c.in_ok-tried.ensures d is in
    accepted (types.target_of c.args.target) c.args.text.now (unit_of c.args.unit.now) d is (c.requires.for_target d is) (c.requires.listed d is) c.requires.typed g tried.generated
    (subst (λ r. IsAnswer g d.functions (answer_of r)) c.in-Ok.is tried.answer)

pub part_in-requires-clause-listed : goal.part_in-requires-clause-listed
part_in-requires-clause-listed c = λ d is.
    let tried = c.in_ok-tried.ensures d is in
    none_differ (unit_of c.args.unit.now) d.functions (c.requires.listed d is) c.requires.typed (simpl_unit_of c.in_ok-tried.tried.generated) tried.generated

pub part_in-requires-clause-at_levels : goal.part_in-requires-clause-at_levels
part_in-requires-clause-at_levels c = λ d is.
    let tried = c.in_ok-tried.ensures d is in
    at_levels (unit_of c.args.unit.now) d.functions (c.requires.listed d is) c.requires.typed (simpl_unit_of c.in_ok-tried.tried.generated) tried.generated

pub returns : goal.returns
returns c =
    let (d, is, same) = c.requires.scanned in
    let g = simpl_unit_of c.in_ok-tried.tried.generated in
    let tried = c.in_ok-tried.ensures d is in
    let few = fewer_than_bytes c.args.text.now d is in
    IfOk-weaker c.part_in.result _ _
    (λ found h. refused (types.target_of c.args.target) c.args.text.now (unit_of c.args.unit.now) d is (c.requires.for_target d is) (c.requires.listed d is) c.requires.typed g tried.generated
    (omega (arith, few, c.requires.short)) (refused_of c.in-Err.refused) (subst (λ r. IsAnswer g d.functions (answer_of r)) c.in-Err.is tried.answer)
    (option_map (λ shown. shown.items) found) h)
    (c.part_in.ensures d is)
