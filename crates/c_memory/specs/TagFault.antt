-- Why tags can't stand in a memory: the first tag that is misaligned, null, past the end of the space or over an earlier
-- one, in this order.
use Rattle.std.specs.Prelude.{◌≡◌, ℕ, suc, ◌+◌, ◌%◌, nat_eq, nat_lt, nat_le, Bool, true, ◌&&◌, ◌||◌, List, [], ◌∷◌, ◌++◌, Option, Some, None, if◌then◌else◌}
use Rattle.c_memory.specs.declared.faults.HeapFault.{HeapFault}
use Rattle.c_memory.specs.declared.faults.HeapFault.TheVariants.{Misaligned, Null, Past, Overlap}
use Rattle.c_values.specs.Layout.{Layout, size_of, align_of, space, is_object}
use Rattle.c_memory.specs.Memory.{Tag}
use Rattle.c_memory.specs.Tags.{is_root_type}

-- the objects have no byte in common
abbrev pub are_apart : Layout → Tag → Tag → Bool
are_apart l t u = nat_le (t.address + size_of l t.type) u.address || nat_le (u.address + size_of l u.type) t.address

abbrev pub is_apart : Layout → Tag → List Tag → Bool
is_apart l t [] = true
is_apart l t (u ∷ us) = are_apart l t u && is_apart l t us

-- what is wrong with the tag of this number, after the earlier ones
abbrev pub tag_fault : Layout → List Tag → ℕ → Tag → Option HeapFault
tag_fault l earlier k t =
    if nat_lt 0 (t.address % align_of l t.type) then Some (Misaligned k)
    else (if nat_eq t.address 0 then Some (Null k)
    else (if nat_lt (space l) (t.address + size_of l t.type) then Some (Past k)
    else (if is_apart l t earlier then None else Some (Overlap k))))

abbrev pub or_else : Option HeapFault → Option HeapFault → Option HeapFault
or_else None o = o
or_else (Some e) o = Some e

-- the first fault, from the tag of this number on
abbrev pub first_fault : Layout → List Tag → ℕ → List Tag → Option HeapFault
first_fault l earlier k [] = None
first_fault l earlier k (t ∷ ts) = or_else (tag_fault l earlier k t) (first_fault l (earlier ++ t ∷ []) (suc k) ts)

-- an integer, a pointer or a struct, and an object of the layout
pub record IsRoot (l : Layout) (t : Tag) : Type 0 where
  pub root : is_root_type t.type ≡ true
  pub object : is_object l t.type ≡ true
