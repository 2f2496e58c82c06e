-- What is left ends as all does.
use Rattle.std.proofs.Common.{◌≡◌}
use Rattle.c_grammar.specs.CodeTree.{items_of}
use Rattle.typing_rules.specs.Statements.{ends_by_jump}
use Rattle.typing_statements.proofs.switches.ends_by_jump.Given as goal

abbrev pub invariant-loop-rest : goal.invariant-loop-rest
invariant-loop-rest l = ends_by_jump l.ends (items_of l.rest) ≡ ends_by_jump l.initial.ends (items_of l.initial.rest)
