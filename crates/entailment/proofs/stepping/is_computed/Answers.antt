-- The value that is computed is its value.
use Rattle.std.proofs.Common.{sym, true, ◌∙◌}
use Rattle.entailment.specs.CodeClaim.{claim_of, scope_at}
use Rattle.entailment.proofs.TruthValues.{truth_sorted, value_says}
use Rattle.entailment.proofs.stepping.is_computed.Goals as goal

pub returns : goal.returns
returns g c =
    let scope = scope_at g.N.Scope.scalars c.args.site.now in
    let says = value_says scope (claim_of c.args.claim.now) (truth_sorted scope (claim_of c.args.claim.now) c.requires) true in
    (λ yes. says.0 (sym c.truth_of_claim.ensures ∙ c.is_value.ensures.0 yes), λ so. c.is_value.ensures.1 (c.truth_of_claim.ensures ∙ says.1 so))
