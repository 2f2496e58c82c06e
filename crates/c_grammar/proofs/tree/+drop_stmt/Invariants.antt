use Rattle.std.proofs.Common.{◌≤◌}
use Rattle.c_grammar.specs.declared.tree.Items.{size-Items}
use Rattle.c_grammar.specs.declared.tree.Groups.{size-Groups}
use Rattle.c_grammar.proofs.tree.+drop_stmt.Given as goal

abbrev pub invariant-Items::drop-loop-self : goal.invariant-Items::drop-loop-self
invariant-Items::drop-loop-self l = size-Items l.self ≤ size-Items l.initial.self

abbrev pub invariant-Groups::drop-loop-self : goal.invariant-Groups::drop-loop-self
invariant-Groups::drop-loop-self l = size-Groups l.self ≤ size-Groups l.initial.self
