use Rattle.std.proofs.Common.{◌≡◌, ◌+◌, ◌-◌, ◌*◌}
use Rattle.c_values.specs.Types.{Struct}
use Rattle.c_values.specs.Layout.{shape_of, size, space}
use Rattle.c_values.specs.CodeTypes.{type_of}
use Rattle.c_values.proofs.Height.{height}
use Rattle.c_memory.specs.Memory.{load, loaded_members, loaded_elements}
use Rattle.c_memory.specs.CodePages.{byte_at}
use Rattle.c_values.specs.CodeParts.{values_in, joined}
use Rattle.c_memory.proofs.Rows.{fields_of, drop_fields}
use Rattle.c_memory.proofs.loads.+load.Given as goal

abbrev pub decreases-load : goal.decreases-load
decreases-load l = 3 * height (shape_of l.l.now (type_of l.t.now)) + 2

abbrev pub decreases-load_by_kind : goal.decreases-load_by_kind
decreases-load_by_kind l = 3 * height (shape_of l.l.now (type_of l.t.now)) + 1

abbrev pub decreases-load_struct : goal.decreases-load_struct
decreases-load_struct l = 3 * height (shape_of l.l.now (Struct l.name.now))

abbrev pub decreases-load_array : goal.decreases-load_array
decreases-load_array l = 3 * height (shape_of l.l.now (type_of l.element.now)) + 3

abbrev pub invariant-load_array-elements : goal.invariant-load_array-elements
invariant-load_array-elements l =
    let e = shape_of l.l (type_of l.element) in
    values_in l.values.items ≡ loaded_elements (λ b. load (space l.l) (byte_at l.pages) e b) (size e) l.address l.i

abbrev pub invariant-load_struct-members : goal.invariant-load_struct-members
invariant-load_struct-members l =
    let s = shape_of l.l (Struct l.name) in
    joined (values_in l.values.items) (loaded_members (space l.l) (byte_at l.pages) (drop_fields l.k (fields_of s)) l.address)
    ≡ loaded_members (space l.l) (byte_at l.pages) (fields_of s) l.address

abbrev pub decreases-load_struct-members : goal.decreases-load_struct-members
decreases-load_struct-members l = 65536 - l.k
