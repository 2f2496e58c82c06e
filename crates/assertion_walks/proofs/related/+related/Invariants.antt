-- A part's shape is less high than the whole's. What is left of the members has such a part where all of them do.
use Rattle.std.proofs.Common.{◌≡◌, ◌+◌, ◌*◌, ◌≤◌, map, length}
use Rattle.c_values.specs.Layout.{shape_of}
use Rattle.c_values.specs.CodeLayout.{member_of}
use Rattle.c_values.specs.CodeTypes.{type_of}
use Rattle.c_values.proofs.Height.{height}
use Rattle.c_values.proofs.Zeroed.{heights}
use Rattle.assertion_walks.specs.CodeRelated.{members_have}
use Rattle.assertion_walks.proofs.related.+related.Given as goal

abbrev pub decreases-has_part : goal.decreases-has_part
decreases-has_part l = 2 * height (shape_of l.l.now (type_of l.whole.now))

abbrev pub decreases-members_have : goal.decreases-members_have
decreases-members_have l = 2 * heights (shape_of l.l.now) (map member_of l.members.now) + 1

abbrev pub invariant-members_have-members : goal.invariant-members_have-members
invariant-members_have-members l = record {
  lower : heights (shape_of l.l) (map member_of l.rest) ≤ heights (shape_of l.l) (map member_of l.members);
  same : members_have (shape_of l.l) (map member_of l.rest) (type_of l.t) ≡ members_have (shape_of l.l) (map member_of l.members) (type_of l.t);
}

abbrev pub decreases-members_have-members : goal.decreases-members_have-members
decreases-members_have-members l = length l.rest
