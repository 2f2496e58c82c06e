use Rattle.std.proofs.Common.{◌≡◌, ◌++◌, reverse, vec_len}
use Rattle.c_grammar.specs.CodeAccepts.{is_complete}
use Rattle.c_grammar.specs.CodeWritten.{last_steps}
use Rattle.c_grammar.proofs.recogniser.finish.Given as goal

abbrev pub invariant-loop-symbol : goal.invariant-loop-symbol
invariant-loop-symbol l = (is_complete (reverse l.stack.items) ≡ is_complete (reverse l.fn.stack.items)) × (l.steps.items ++ last_steps (reverse l.stack.items) ≡ l.initial.steps.items ++ last_steps (reverse l.fn.stack.items))

abbrev pub decreases-loop-symbol : goal.decreases-loop-symbol
decreases-loop-symbol l = vec_len l.stack
