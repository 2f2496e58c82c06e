-- What is left gives it what all do.
use Rattle.std.proofs.Common.{◌≡◌}
use Rattle.given_scalars.specs.CodeScalars.{names_in}
use Rattle.given_scalars.proofs.around.AroundScope.scalar.Given as goal

abbrev pub invariant-links : goal.invariant-links
invariant-links g l = names_in g.N.Scope.scalars l.names l.name ≡ names_in g.N.Scope.scalars l.self l.name
