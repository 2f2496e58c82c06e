-- Some fact of what is left of the chain passes exactly where one of all does.
use Rattle.std.proofs.Common.{◌↔◌, ◌≤◌}
use Rattle.ac_expr.specs.declared.chain.Facts.{size-Facts}
use Rattle.ac_expr.specs.Known.{SomeFact}
use Rattle.ac_expr.specs.CodeChain.{facts_of}
use Rattle.ac_expr.specs.CodeLasting.{lasts}
use Rattle.ac_expr.specs.Guarded.{Lasting}
use Rattle.ac_expr.proofs.knowing.+some.Given as goal

abbrev pub invariant-links : goal.invariant-links
invariant-links g l = record {
  same : SomeFact (Lasting (g.T.FactTest.Passes l.test) (lasts g.S.Sequence.parts l.after)) (facts_of g.S.Sequence.parts l.rest)
      ↔ SomeFact (Lasting (g.T.FactTest.Passes l.test) (lasts g.S.Sequence.parts l.after)) (facts_of g.S.Sequence.parts l.facts);
  smaller : size-Facts _ l.rest ≤ size-Facts _ l.facts;
}

abbrev pub decreases-links : goal.decreases-links
decreases-links g l = size-Facts _ l.rest
