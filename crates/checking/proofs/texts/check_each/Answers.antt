-- The functions are the certificate's, and a verdict on what is left of them is one on all.
use Rattle.std.proofs.Common.{◌≡◌, [], map, length, Ok, Err, ap, subst, arith}
use Rattle.std.proofs.lemmas.List.{length-map, nil_from_length}
use Rattle.expression_lang.specs.CodeSignature.{signature_of}
use Rattle.simpl_lang.specs.CodeCommand.{simpl_fn_of, simpl_unit_of}
use Rattle.acceptance.specs.Verdict.{IsFunctionVerdict}
use Rattle.acceptance.specs.UnitVerdict.{of_function}
use Rattle.acceptance.specs.CodePlace.{place_of, verdict_of}
use Rattle.acceptance.proofs.UnitVerdicts.{behind_list}
use Rattle.acceptance.proofs.WellFormed.{ready_there, results_there}
use Rattle.certificate_text.specs.CodeIndex.{index_in}
use Rattle.checking.proofs.Along.{all_left, ready_left, refused_left, more_left, none_left}
use Rattle.checking.proofs.Answered.{list_is, as_many}
use Rattle.checking.proofs.Indexed.{code_length}
use Rattle.checking.proofs.OneText.{one_index, fewer_than_bytes}
use Rattle.checking.proofs.texts.check_each.Goals as goal

pub functions-init : goal.functions-init
functions-init g c =
    let u = simpl_unit_of c.args.u.now in
    let left = ap (map simpl_fn_of) c.as_slice-left.ensures.value in
    let signed = ap (map signature_of) c.as_slice-signed.ensures.value in
    record {
      ready = rw (c.as_slice-left.ensures.value, c.as_slice-signed.ensures.value) (ready_there u c.requires.formed);
      whole = all_left u c.args.bytes.now (map simpl_fn_of c.as_slice-left.result.now) (map signature_of c.as_slice-signed.result.now) left signed;
      counted =
          let (d, is, same) = c.requires.scanned in
          let a = length-map c.args.u.now.functions.items simpl_fn_of in
          let b = as_many u d.functions (c.requires.listed d is) in
          let e = code_length c.args.index.now d same in
          let l = ap length c.as_slice-left.ensures.value in
          omega (arith, a, b, e, l);
    }

pub check_at-requires-clause-results : goal.check_at-requires-clause-results
check_at-requires-clause-results g c = results_there (simpl_unit_of c.args.u.now) c.requires.formed

pub returns-in-Err : goal.returns-in-Err
returns-in-Err g c = λ d is.
    let u = simpl_unit_of c.args.u.now in
    let l = ap length c.in-Some.ensures.cases.0 in (
      c.functions.at,
      place_of c.in-Err.place,
      behind_list u d.functions (Err (of_function c.functions.at (place_of c.in-Err.place))) (list_is u d.functions (c.requires.at_levels d is) (c.requires.listed d is))
          (refused_left u c.args.bytes.now c.functions.at (map simpl_fn_of c.functions.left.now) (map simpl_fn_of c.in-Some.functions.now)
          (simpl_fn_of c.in-Some.function.now) (map signature_of c.functions.signed.now) (map signature_of c.in-Some-split_first.signatures.now)
          (signature_of c.in-Some-split_first.signature.now) (ap (map simpl_fn_of) c.in-Some.ensures.cases.0)
          (ap (map signature_of) c.in-Some-split_first.ensures.cases.0) c.functions.invariant.whole
          (λ e h. let n = code_length c.args.index.now e (one_index c.args.bytes.now (index_in c.args.index.now) e c.requires.scanned h) in
          omega (arith, n, l, c.functions.invariant.counted))
          (place_of c.in-Err.place)
          (λ e f h there. subst (λ v. IsFunctionVerdict u (simpl_fn_of c.in-Some.function.now) (signature_of c.in-Some-split_first.signature.now) f (verdict_of v))
          c.in-Err.is (c.in_ok-verdict.ensures e f h there))
          d is),
      c.at_place.ensures,
    )

pub overflow_add-at : goal.overflow_add-at
overflow_add-at g c =
    let (d, is, same) = c.requires.scanned in
    let n = code_length c.args.index.now d same in
    let few = fewer_than_bytes c.args.bytes.now d is in
    let l = ap length c.in-Some.ensures.cases.0 in
    omega (arith, n, few, l, c.functions.invariant.counted, c.requires.short)

pub functions-preserved : goal.functions-preserved
functions-preserved g c =
    let u = simpl_unit_of c.args.u.now in
    let l = ap length c.in-Some.ensures.cases.0 in
    let p = ap (map simpl_fn_of) c.in-Some.ensures.cases.0 in
    let q = ap (map signature_of) c.in-Some-split_first.ensures.cases.0 in
    record {
      ready = ready_left (map simpl_fn_of c.functions.left.now) (map simpl_fn_of c.in-Some.functions.now) (simpl_fn_of c.in-Some.function.now)
          (map signature_of c.functions.signed.now) (map signature_of c.in-Some-split_first.signatures.now)
          (signature_of c.in-Some-split_first.signature.now) p q c.functions.invariant.ready;
      whole = more_left u c.args.bytes.now c.functions.at (map simpl_fn_of c.functions.left.now) (map simpl_fn_of c.in-Some.functions.now)
          (simpl_fn_of c.in-Some.function.now) (map signature_of c.functions.signed.now) (map signature_of c.in-Some-split_first.signatures.now)
          (signature_of c.in-Some-split_first.signature.now) p q c.functions.invariant.whole
          (λ e h. let n = code_length c.args.index.now e (one_index c.args.bytes.now (index_in c.args.index.now) e c.requires.scanned h) in
          omega (arith, n, l, c.functions.invariant.counted))
          (λ e f h there. subst (λ v. IsFunctionVerdict u (simpl_fn_of c.in-Some.function.now) (signature_of c.in-Some-split_first.signature.now) f (verdict_of v))
          c.in_default-verdict.is (c.in_ok-verdict.ensures e f h there));
      counted = omega (arith, l, c.functions.invariant.counted);
    }

pub returns : goal.returns
returns g c = λ d is.
    let u = simpl_unit_of c.args.u.now in
    let none : c.functions.left.now ≡ [] = nil_from_length c.functions.left.now c.in_default.ensures.cases in
    let l = ap length none in
    let n = code_length c.args.index.now d (one_index c.args.bytes.now (index_in c.args.index.now) d c.requires.scanned is) in
    behind_list u d.functions (Ok tt) (list_is u d.functions (c.requires.at_levels d is) (c.requires.listed d is))
    (none_left u c.args.bytes.now c.functions.at (map simpl_fn_of c.functions.left.now) (map signature_of c.functions.signed.now)
    (ap (map simpl_fn_of) none) c.functions.invariant.ready c.functions.invariant.whole d is (omega (arith, n, l, c.functions.invariant.counted)))
