-- An object has a place in the space.
use Rattle.std.proofs.Common.{◌≡◌, ◌^◌, ◌<◌, ◌≤◌, true, lit≤, le_trans}
use Rattle.std.proofs.lemmas.Bool.{and_parts, leb-true}
use Rattle.std.proofs.lemmas.Nat.{pow_pos}
use Rattle.c_values.specs.Types.{Target, Ilp32, Lp64, CType, address_width}
use Rattle.c_values.specs.Layout.{Layout, shape_of, size_of, is_object, is_complete, largest_size, space}

target_space : (t : Target) → largest_size ≤ 2 ^ address_width t
target_space Ilp32 = lit≤ tt
target_space Lp64 = lit≤ tt

pub object_complete : (l : Layout) (t : CType) → is_object l t ≡ true → is_complete (shape_of l t) ≡ true
object_complete l t h = (and_parts (is_complete (shape_of l t)) _ h).0

pub object_fits : (l : Layout) (t : CType) → is_object l t ≡ true → size_of l t ≤ space l
object_fits l t h =
    let small : size_of l t ≤ largest_size = leb-true (size_of l t) largest_size (and_parts (is_complete (shape_of l t)) _ h).1 in
    le_trans small (target_space l.target)

pub some_space : (l : Layout) → 0 < space l
some_space l = pow_pos (address_width l.target)

-- the space has at most 2^64 addresses
pub small_space : (t : Target) → 2 ^ address_width t ≤ 2 ^ 64
small_space Ilp32 = lit≤ tt
small_space Lp64 = lit≤ tt

pub space_small : (l : Layout) → space l ≤ 2 ^ 64
space_small l = small_space l.target
