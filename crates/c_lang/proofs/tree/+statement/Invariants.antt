-- What is left is no deeper than what was to be dropped.
use Rattle.std.proofs.Common.{◌≤◌}
use Rattle.c_lang.specs.declared.tree.Statements.{size-Statements}
use Rattle.c_lang.specs.declared.tree.Groups.{size-Groups}
use Rattle.c_lang.proofs.tree.+statement.Given as goal

abbrev pub invariant-Groups::drop-loop-self : goal.invariant-Groups::drop-loop-self
invariant-Groups::drop-loop-self l = size-Groups l.self ≤ size-Groups l.fn.self

abbrev pub invariant-Statements::drop-loop-self : goal.invariant-Statements::drop-loop-self
invariant-Statements::drop-loop-self l = size-Statements l.self ≤ size-Statements l.fn.self
