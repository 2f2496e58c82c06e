-- The members before this one have other names, so the first of the name is the first among what is left.
use Rattle.std.proofs.Common.{◌≡◌, map, drop}
use Rattle.c_values.specs.CodeLayout.{member_of}
use Rattle.typing_rules.specs.Expressions.{member_from}
use Rattle.typing_nodes.proofs.addresses.member_at.Given as goal

abbrev pub invariant-loop-k : goal.invariant-loop-k
invariant-loop-k l =
    member_from 0 (map member_of l.definition.members.items) l.name
    ≡ member_from l.k (map member_of (drop l.k l.definition.members.items)) l.name
