use Rattle.std.proofs.Common.{Err, inl, inr, ap}
use Rattle.std.proofs.lemmas.Result.{IfOk-weaker}
use Rattle.remarks.proofs.refused.of_certificate.Goals as goal

pub returns-in-Err-ReadFault-clause-said : goal.returns-in-Err-ReadFault-clause-said
returns-in-Err-ReadFault-clause-said g c =
    IfOk-weaker c.about.result _ _ (λ v e. inr (inl (record { fault = c.in-Err-ReadFault.ensures.fault (ap (λ e. Err e) c.in-Err-ReadFault.field-0-is); written = e }))) c.about.ensures

pub returns-in-Err-Limit-clause-said : goal.returns-in-Err-Limit-clause-said
returns-in-Err-Limit-clause-said g c =
    IfOk-weaker c.about-in-Err-Limit.result _ _ (λ v e. inr (inr (record { longer = c.in-Err-Limit.ensures.limit (ap (λ e. Err e) c.in-Err-Limit.field-0-is); written = e }))) c.about-in-Err-Limit.ensures
