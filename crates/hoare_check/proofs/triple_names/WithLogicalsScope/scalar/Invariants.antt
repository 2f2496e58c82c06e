-- Those behind what is left have other names.
use Rattle.std.proofs.Common.{◌≡◌, map, length}
use Rattle.triple_lang.specs.CodeDeriv.{logical_of}
use Rattle.hoare_check.specs.CodeNames.{with_logicals}
use Rattle.hoare_check.proofs.triple_names.WithLogicalsScope.scalar.Given as goal

abbrev pub invariant-along : goal.invariant-along
invariant-along g l =
    with_logicals (map logical_of l.rest) (λ y. g.N.Scope.scalars l.self.outer.now y) l.name
    ≡ with_logicals (map logical_of l.self.logicals.now) (λ y. g.N.Scope.scalars l.self.outer.now y) l.name

abbrev pub decreases-along : goal.decreases-along
decreases-along g l = length l.rest
