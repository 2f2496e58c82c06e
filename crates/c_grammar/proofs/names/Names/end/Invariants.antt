use Rattle.std.proofs.Common.{◌≡◌, ◌-◌, length}
use Rattle.c_grammar.proofs.names.Names.end.Given as goal

abbrev pub invariant-loop-self : goal.invariant-loop-self
invariant-loop-self l = l.self.all.items ≡ l.initial.self.all.items

abbrev pub decreases-loop-self : goal.decreases-loop-self
decreases-loop-self l = length l.self.all.items - l.self.made
