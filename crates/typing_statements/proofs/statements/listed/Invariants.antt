-- The statements that are left, in front of the list so far, are all.
use Rattle.std.proofs.Common.{◌≡◌, map, vec_len}
use Rattle.typing_rules.specs.Statements.{onto}
use Rattle.c_lang.specs.CodeTyped.{statement_of, statements_of}
use Rattle.typing_statements.proofs.statements.listed.Given as goal

abbrev pub invariant-loop-statement : goal.invariant-loop-statement
invariant-loop-statement l =
    onto (map statement_of l.statements.items) (statements_of l.list) ≡ onto (map statement_of l.initial.statements.items) (statements_of l.initial.list)

abbrev pub decreases-loop-statement : goal.decreases-loop-statement
decreases-loop-statement l = vec_len l.statements
