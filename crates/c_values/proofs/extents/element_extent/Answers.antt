use Rattle.std.proofs.Common.{string_bytes}
use Rattle.c_values.proofs.extents.element_extent.Goals as goal

pub returns-in-Struct : goal.returns-in-Struct
returns-in-Struct c structs d h =
    let x = string_bytes c.in-Struct.name in
    rw c.in-Struct.is (c.struct_extent.ensures (structs x) (rw (c.get.ensures.value, c.as_str.ensures.value) (d.at x)))
