use Rattle.std.proofs.Common.{◌≡◌, ◌-◌}
use Rattle.c_values.specs.Types.{CType, Struct}
use Rattle.c_values.specs.Layout.{shape_of}
use Rattle.c_memory.specs.Tags.{member_path}
use Rattle.c_memory.proofs.Rows.{fields_of, drop_fields}
use Rattle.c_memory.proofs.parts.member_at.Given as goal

abbrev pub invariant-members : goal.invariant-members
invariant-members l =
    (t : CType) → member_path (fields_of (shape_of l.l (Struct l.name))) 0 t l.offset ≡ member_path (drop_fields l.k (fields_of (shape_of l.l (Struct l.name)))) l.k t l.offset

abbrev pub decreases-members : goal.decreases-members
decreases-members l = 65536 - l.k
