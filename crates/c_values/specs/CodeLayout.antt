-- What the code's structs stand for, and which is the first that is too large.
use Rattle.std.specs.Prelude.{◌≡◌, ℕ, suc, ◌<◌, true, false, List, length, map, take, String, string_bytes}
use Rattle.std.specs.declared.alloc.Global.{Global}
use Rattle.c_values.specs.declared.layouts.StructDef as D
use Rattle.c_values.specs.declared.types.CType as C
use Rattle.c_values.specs.Types.{Target}
use Rattle.c_values.specs.Layout.{Member, StructDef, Incomplete, are_small}
use Rattle.c_values.specs.CodeTypes.{type_of}

abbrev pub member_of : String Global × C.CType → Member
member_of m = record { name = string_bytes m.0; type = type_of m.1 }

abbrev pub struct_def_of : D.StructDef → StructDef
struct_def_of d = record { name = string_bytes d.name; members = map member_of d.members.items }

-- struct k is the first that is larger than an object may be
pub record IsFirstLarge (t : Target) (ds : List StructDef) (k : ℕ) : Type 0 where
  pub is_struct : k < length ds
  pub before : are_small t (λ x. Incomplete) (take k ds) ≡ true
  pub large : are_small t (λ x. Incomplete) (take (suc k) ds) ≡ false
