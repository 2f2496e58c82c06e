-- What is left begins with a function, its signature and its steps.
use Rattle.std.proofs.Common.{map, length, ap}
use Rattle.expression_lang.specs.CodeSignature.{signature_of}
use Rattle.simpl_lang.specs.CodeCommand.{simpl_fn_of, simpl_unit_of}
use Rattle.acceptance.specs.CodeCertificate.{steps_of}
use Rattle.acceptance.specs.CodePlace.{place_of}
use Rattle.acceptance.specs.UnitVerdict.{AreFunctionsVerdict}
use Rattle.acceptance.proofs.Along.{counted_on, listed_on, ready_on, refused_here, whole_on}
use Rattle.acceptance.proofs.units.check_each.Goals as goal

pub returns-in-Err : goal.returns-in-Err
returns-in-Err c =
    refused_here (simpl_unit_of c.args.u.now) c.functions.at (map simpl_fn_of c.functions.left.now)
    (map simpl_fn_of c.in-Some.functions.now) (simpl_fn_of c.in-Some.function.now) (map signature_of c.functions.signed.now)
    (map signature_of c.in-Some-split_first.signatures.now) (signature_of c.in-Some-split_first.signature.now)
    (map steps_of c.functions.right.now) (map steps_of c.in-Some-split_first-2.certificate.now)
    (steps_of c.in-Some-split_first-2.steps.now) (ap (map simpl_fn_of) c.in-Some.ensures.cases.0)
    (ap (map signature_of) c.in-Some-split_first.ensures.cases.0) (ap (map steps_of) c.in-Some-split_first-2.ensures.cases.0)
    (AreFunctionsVerdict (simpl_unit_of c.args.u.now) 0 (map simpl_fn_of c.args.functions.now)
    (map signature_of c.args.signatures.now) (map steps_of c.args.certificate.now)) c.functions.invariant.whole
    (place_of c.in-Err.place) c.in-Err.ensures.verdict

pub functions-preserved : goal.functions-preserved
functions-preserved c =
    let p = ap (map simpl_fn_of) c.in-Some.ensures.cases.0 in
    let q = ap (map signature_of) c.in-Some-split_first.ensures.cases.0 in
    let r = ap (map steps_of) c.in-Some-split_first-2.ensures.cases.0 in
    let u = simpl_unit_of c.args.u.now in
    let at = c.functions.at in
    let left = map simpl_fn_of c.functions.left.now in
    let fs = map simpl_fn_of c.in-Some.functions.now in
    let f = simpl_fn_of c.in-Some.function.now in
    let signed = map signature_of c.functions.signed.now in
    let ss = map signature_of c.in-Some-split_first.signatures.now in
    let s = signature_of c.in-Some-split_first.signature.now in
    let right = map steps_of c.functions.right.now in
    let cs = map steps_of c.in-Some-split_first-2.certificate.now in
    let d = steps_of c.in-Some-split_first-2.steps.now in
    record {
      ready = ready_on u at left fs f signed ss s right cs d p q r c.functions.invariant.ready;
      same = listed_on u at left fs f signed ss s right cs d p q r c.functions.invariant.same;
      whole = whole_on u at left fs f signed ss s right cs d p q r
          (AreFunctionsVerdict u 0 (map simpl_fn_of c.args.functions.now) (map signature_of c.args.signatures.now)
          (map steps_of c.args.certificate.now)) c.functions.invariant.whole c.in_default-check_function.ensures.verdict;
      counted = counted_on at (length c.args.functions.now) c.in-Some.function.now c.functions.left.now
          c.in-Some.functions.now c.in-Some.ensures.cases.0 c.functions.invariant.counted;
    }
