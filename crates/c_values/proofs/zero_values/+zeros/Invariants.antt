-- A part's shape is less high than the whole's. The values so far are the zeros of the parts so far.
use Rattle.std.proofs.Common.{◌≡◌, ◌+◌, ◌*◌, ◌≤◌, map, length}
use Rattle.c_values.specs.Types.{Struct}
use Rattle.c_values.specs.Layout.{shape_of}
use Rattle.c_values.specs.Path.{zeros, copies}
use Rattle.c_values.specs.CodeLayout.{member_of}
use Rattle.c_values.specs.CodeTypes.{type_of}
use Rattle.c_values.proofs.Height.{height}
use Rattle.c_values.specs.CodeParts.{values_in, joined}
use Rattle.c_values.proofs.Zeroed.{zeros_each, heights}
use Rattle.c_values.proofs.zero_values.+zeros.Given as goal

abbrev pub decreases-zeros_of_type : goal.decreases-zeros_of_type
decreases-zeros_of_type l = 4 * height (shape_of l.layout.now (type_of l.ty.now)) + 3

abbrev pub decreases-zeros_by_kind : goal.decreases-zeros_by_kind
decreases-zeros_by_kind l = 4 * height (shape_of l.layout.now (type_of l.ty.now)) + 2

abbrev pub decreases-zeros_of_struct : goal.decreases-zeros_of_struct
decreases-zeros_of_struct l = 4 * height (shape_of l.layout.now (Struct l.name.now)) + 1

abbrev pub decreases-zeros_of_members : goal.decreases-zeros_of_members
decreases-zeros_of_members l = 4 * heights (shape_of l.layout.now) (map member_of l.members.now) + 4

abbrev pub decreases-zeros_of_array : goal.decreases-zeros_of_array
decreases-zeros_of_array l = 4 * height (shape_of l.layout.now (type_of l.element.now)) + 4

abbrev pub invariant-zeros_of_array-elements : goal.invariant-zeros_of_array-elements
invariant-zeros_of_array-elements l =
    values_in l.values.items ≡ copies l._i (zeros (shape_of l.layout (type_of l.element)))

abbrev pub invariant-zeros_of_members-members : goal.invariant-zeros_of_members-members
invariant-zeros_of_members-members l =
    (heights (shape_of l.layout) (map member_of l.rest) ≤ heights (shape_of l.layout) (map member_of l.fn.members))
    × (joined (values_in l.values.items) (zeros_each (shape_of l.layout) (map member_of l.rest)) ≡ zeros_each (shape_of l.layout) (map member_of l.fn.members))

abbrev pub decreases-zeros_of_members-members : goal.decreases-zeros_of_members-members
decreases-zeros_of_members-members l = length l.rest
