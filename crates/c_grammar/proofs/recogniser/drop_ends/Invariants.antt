use Rattle.std.proofs.Common.{◌≡◌, ◌++◌, reverse, vec_len}
use Rattle.c_grammar.specs.CodeAccepts.{drop_ends}
use Rattle.c_grammar.specs.CodeWritten.{end_steps}
use Rattle.c_grammar.proofs.recogniser.drop_ends.Given as goal

abbrev pub invariant-loop-production : goal.invariant-loop-production
invariant-loop-production l = (drop_ends (reverse l.stack.items) ≡ drop_ends (reverse l.initial.stack.items)) × (l.steps.items ++ end_steps (reverse l.stack.items) ≡ l.initial.steps.items ++ end_steps (reverse l.initial.stack.items))

abbrev pub decreases-loop-production : goal.decreases-loop-production
decreases-loop-production l = vec_len l.stack
