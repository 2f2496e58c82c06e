use Rattle.std.proofs.Common.{sym, ◌∙◌}
use Rattle.ac_sx.proofs.Answered.{not_broken, not_deep, error_told, broken_refused, deep_refused, not_refused}
use Rattle.ac_sx.proofs.Spanned.{found_parts, only_parts}
use Rattle.ac_sx.proofs.spans.parts.Goals as goal

pub returns-in_err-recognise-clause-only : goal.returns-in_err-recognise-clause-only
returns-in_err-recognise-clause-only c = λ tree is low same. absurd (not_refused c.args.text.now tree c.in_err-recognise.field-0.0 (sym c.recognise.ensures ∙ c.in_err-recognise.was) is low same)

pub returns-in_err-recognise-clause-fault : goal.returns-in_err-recognise-clause-fault
returns-in_err-recognise-clause-fault c = error_told c.from_residual.result c.args.text.now c.in_err-recognise.field-0.0 c.from_residual.ensures.1 (sym c.recognise.ensures ∙ c.in_err-recognise.was)

pub returns-in_err-recognise-clause-no_text : goal.returns-in_err-recognise-clause-no_text
returns-in_err-recognise-clause-no_text c = λ at cause. broken_refused c.from_residual.result c.args.text.now c.in_err-recognise.field-0.0 at c.from_residual.ensures.1 (sym c.recognise.ensures ∙ c.in_err-recognise.was) cause

pub returns-in_err-recognise-clause-deep : goal.returns-in_err-recognise-clause-deep
returns-in_err-recognise-clause-deep c = λ at cause. deep_refused c.from_residual.result c.args.text.now c.in_err-recognise.field-0.0 at c.from_residual.ensures.1 (sym c.recognise.ensures ∙ c.in_err-recognise.was) cause

pub returns-clause-found : goal.returns-clause-found
returns-clause-found c = found_parts c.args.text.now c.in_ok-recognise.field-0 _ (sym c.recognise.ensures ∙ c.in_ok-recognise.was) c.in_ok-scan.ensures

pub returns-clause-only : goal.returns-clause-only
returns-clause-only c = λ tree is low same. only_parts c.args.text.now tree _ is same c.in_ok-scan.ensures

pub returns-clause-no_text : goal.returns-clause-no_text
returns-clause-no_text c = λ at cause. not_broken c.args.text.now c.in_ok-recognise.field-0 at (sym c.recognise.ensures ∙ c.in_ok-recognise.was) cause

pub returns-clause-deep : goal.returns-clause-deep
returns-clause-deep c = λ at cause. not_deep c.args.text.now c.in_ok-recognise.field-0 at (sym c.recognise.ensures ∙ c.in_ok-recognise.was) cause
