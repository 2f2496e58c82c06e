-- The name is looked up in what is left of the chain.
use Rattle.std.proofs.Common.{◌≡◌}
use Rattle.std.specs.Str.{IsUtf8}
use Rattle.hoare_check.specs.CodeScoping.{names_in}
use Rattle.hoare_check.proofs.scoping.InScope.scalar_named.Given as goal

abbrev pub invariant-links : goal.invariant-links
invariant-links g l = record {
  same : names_in g.N.Scope.scalars l.inside l.name ≡ names_in g.N.Scope.scalars l.fn.self l.fn.name;
  text : IsUtf8 l.name;
}
