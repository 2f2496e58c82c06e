-- An integer type has a width.
use Rattle.std.proofs.Common.{◌≤◌, lit≤}
use Rattle.c_values.specs.Types.{Target, Ilp32, Lp64, address_width, IntType, Long, ULong, width_of}

pub some_address : (t : Target) → 1 ≤ address_width t
some_address Ilp32 = lit≤ tt
some_address Lp64 = lit≤ tt

pub some_width : (t : Target) (i : IntType) → 1 ≤ width_of t i
some_width t Long = some_address t
some_width t ULong = some_address t
some_width _ _ = lit≤ tt
