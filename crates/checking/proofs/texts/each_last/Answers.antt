-- The functions that are read are the certificate's.
use Rattle.std.proofs.Common.{map, length, ap, ◌∙◌, arith}
use Rattle.std.proofs.lemmas.List.{map_push, nil_from_length}
use Rattle.expression_lang.specs.CodeSignature.{signature_of}
use Rattle.monad_lang.specs.CodeProgram.{final_fn_of}
use Rattle.certificate_text.specs.CodeIndex.{index_in}
use Rattle.checking.proofs.Indexed.{code_length}
use Rattle.checking.proofs.LastPrograms.{last_of, one_more_read, all_read, unsigned_done}
use Rattle.checking.proofs.OneText.{one_index, fewer_than_bytes}
use Rattle.checking.proofs.texts.each_last.Goals as goal
use Rattle.checking.proofs.texts.each_last.Goals.{in-Some+in_default-split_first, in_default}

pub overflow_add-at : goal.overflow_add-at
overflow_add-at c =
    let (d, is, same) = c.requires.scanned in
    let n = code_length c.args.index.now d same in
    let few = fewer_than_bytes c.args.bytes.now d is in
    let l = ap length c.in-Some-split_first.ensures.cases.0 in
    omega (arith, n, few, l, c.functions.invariant.counted, c.requires.short)

pub functions-preserved : goal.functions-preserved
functions-preserved c =
    let l = ap length c.in-Some-split_first.ensures.cases.0 in
    record {
      whole = one_more_read c.args.bytes.now (map signature_of c.args.signatures.now) (map final_fn_of c.functions.made.items)
          (map final_fn_of c.push.new.self.items) (final_fn_of c.in_ok-last_at.field-0) c.functions.at (map signature_of c.functions.signed.now)
          (map signature_of c.in-Some.signatures.now) (signature_of c.in-Some.signature.now) (ap (map signature_of) c.in-Some.ensures.cases.0)
          (ap (map final_fn_of) c.in_ok-push.ensures.items ∙ map_push final_fn_of c.functions.made.items c.in_ok-last_at.field-0)
          (λ e h. let n = code_length c.args.index.now e (one_index c.args.bytes.now (index_in c.args.index.now) e c.requires.scanned h) in
          omega (arith, n, l, c.functions.invariant.counted))
          (λ e f h there. c.in_ok-last_at.ensures e f h there)
          c.functions.invariant.whole;
      counted = omega (arith, l, c.functions.invariant.counted);
    }

pub returns : goal.returns
returns c =
    elim c.match-split_first.branch [
      | in-Some+in_default-split_first w ↦
          λ e h.
          let n = code_length c.args.index.now e (one_index c.args.bytes.now (index_in c.args.index.now) e c.requires.scanned h) in
          all_read c.args.bytes.now (map signature_of c.args.signatures.now) (map final_fn_of c.functions.made.items) c.functions.at
          (map signature_of c.functions.signed.now) c.functions.invariant.whole e h
          (let none = w.in_default-split_first.ensures.cases in omega (arith, n, none, c.functions.invariant.counted))
      | in_default w ↦
          λ e h. unsigned_done (map final_fn_of c.functions.made.items) (last_of (map signature_of c.args.signatures.now) e.functions)
          (map signature_of c.functions.signed.now) _ (ap (map signature_of) (nil_from_length c.functions.signed.now w.in_default.ensures.cases))
          (c.functions.invariant.whole e h)
    ]
