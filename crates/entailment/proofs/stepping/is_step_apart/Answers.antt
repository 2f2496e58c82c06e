-- What isn't built is a truth value.
use Rattle.std.proofs.Common.{refl, false}
use Rattle.expression_lang.specs.Expression.{TruthLit}
use Rattle.entailment.specs.CodeClaim.{scope_at}
use Rattle.entailment.proofs.TruthValues.{truth_sorted}
use Rattle.entailment.proofs.stepping.is_step_apart.Goals as goal

pub are_apart-requires-in-Nothing-clause-left : goal.are_apart-requires-in-Nothing-clause-left
are_apart-requires-in-Nothing-clause-left g c = truth_sorted (scope_at g.N.Scope.scalars c.args.site.now) (TruthLit false) refl
