-- The groups that are left, in front of the list so far, are all.
use Rattle.std.proofs.Common.{◌≡◌, vec_len}
use Rattle.typing_statements.specs.CodeStatements.{in_front}
use Rattle.c_lang.specs.CodeTyped.{groups_of}
use Rattle.typing_statements.proofs.switches.grouped.Given as goal

abbrev pub invariant-loop-group : goal.invariant-loop-group
invariant-loop-group l =
    in_front l.groups.items (groups_of l.list) ≡ in_front l.initial.groups.items (groups_of l.initial.list)

abbrev pub decreases-loop-group : goal.decreases-loop-group
decreases-loop-group l = vec_len l.groups
