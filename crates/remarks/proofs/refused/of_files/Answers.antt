use Rattle.std.proofs.Common.{ℕ, List, Err, inl, inr, ap, subst, arith}
use Rattle.std.proofs.lemmas.Result.{IfOk-weaker}
use Rattle.c_values.specs.CodeTypes.{target_of}
use Rattle.remarks.specs.Remark.{Again, OfRefused, about, not_accepted, certificate_limit}
use Rattle.remarks.proofs.Again.{from_first}
use Rattle.remarks.proofs.refused.of_files.Goals as goal

pub returns-in-Ok-clause-said : goal.returns-in-Ok-clause-said
returns-in-Ok-clause-said g c =
    let held = g.H.Shelf.contents c.args.shelf.now in
    let held' = g.H.Shelf.contents c.read_whole.new.shelf in
    let before = g.H.Shelf.faults c.args.shelf.now in
    let mid = g.H.Shelf.faults c.read_whole.new.shelf in
    let after = g.H.Shelf.faults c.of_certificate.new.shelf in
    let cert = c.args.certificate.now in
    let target = target_of c.args.target in
    let alone = about cert not_accepted in
    let within = c.in-Ok.ensures.within in
    IfOk-weaker c.of_certificate.result _ _
    (λ v h. inl (record {
      text = c.in-Ok.text.items;
      is_text = c.in-Ok.ensures.whole;
      within = omega (arith, within);
      of_text = from_first held held' before mid after c.in-Ok.ensures.contents c.in-Ok.ensures.counts cert certificate_limit alone alone (OfRefused target cert c.in-Ok.text.items) v.items
          (subst (λ (text : List ℕ). Again held' mid after cert certificate_limit alone alone (OfRefused target cert text) v.items) c.deref.ensures.value h);
    }))
    c.of_certificate.ensures.said

pub returns-in-Err-ReadFault-clause-said : goal.returns-in-Err-ReadFault-clause-said
returns-in-Err-ReadFault-clause-said g c =
    IfOk-weaker c.about.result _ _ (λ v e. inr (inl (record { fault = c.in-Err-ReadFault.ensures.fault (ap (λ e. Err e) c.in-Err-ReadFault.field-0-is); written = e }))) c.about.ensures

pub returns-in-Err-Limit-clause-said : goal.returns-in-Err-Limit-clause-said
returns-in-Err-Limit-clause-said g c =
    IfOk-weaker c.about-in-Err-Limit.result _ _ (λ v e. inr (inr (record { longer = c.in-Err-Limit.ensures.limit (ap (λ e. Err e) c.in-Err-Limit.field-0-is); written = e }))) c.about-in-Err-Limit.ensures
