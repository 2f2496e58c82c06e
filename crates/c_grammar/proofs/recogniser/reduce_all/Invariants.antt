use Rattle.std.proofs.Common.{◌≡◌, ◌++◌, drop}
use Rattle.c_grammar.specs.CodeWritten.{reduces}
use Rattle.c_grammar.proofs.recogniser.reduce_all.Given as goal

abbrev pub invariant-loop-production : goal.invariant-loop-production
invariant-loop-production l = l.steps.items ++ reduces (drop l.production-index l.productions) ≡ l.initial.steps.items ++ reduces l.productions
