-- Where an offset into an object lies: in which member or element, and where in it.
use Rattle.std.specs.Prelude.{◌≡◌, ℕ, ◌+◌, ◌/◌, ◌%◌, nat_eq, nat_lt, Bool, true, ◌&&◌, List, Option, Some, None, pos, if◌then◌else◌}
use Rattle.c_values.specs.Types.{CType, Integer, Void, Ptr, Struct, Array, same_type}
use Rattle.c_values.specs.Layout.{Layout, Shape, Incomplete, Scalar, Record, Row, size, shape_of, is_object}
use Rattle.c_values.specs.Path.{Step, Field, Index, step_spot}
use Rattle.c_memory.specs.Tags.{is_root_type, root_path, member_path, prefixed}

-- the path to a part, from a member or an element on
abbrev pub inner_path : Shape → CType → ℕ → Option (List Step)
inner_path Incomplete t d = None
inner_path (Scalar u width) t d = None
inner_path (Record x n align fs) t d = member_path fs 0 t d
inner_path (Row e n) t d = if nat_lt (d / size e) n then prefixed (Index (pos (d / size e))) (root_path e t (d % size e)) else None

-- an object of the type, at its beginning
abbrev pub is_root_here : CType → CType → ℕ → Bool
is_root_here u t d = is_root_type u && (same_type u t && nat_eq d 0)

abbrev pub part_step : CType → ℕ → Step
part_step (Array t n) i = Index (pos i)
part_step (Integer t) k = Field k
part_step Void k = Field k
part_step (Ptr t) k = Field k
part_step (Struct x) k = Field k

-- the offset lies in this part, so far from its beginning
pub record LiesIn (l : Layout) (whole : CType) (offset index : ℕ) (part : CType) (rest : ℕ) : Type 0 where
  pub at : ℕ
  pub here : step_spot (shape_of l whole) (part_step whole index) ≡ Some (record { offset = pos at; shape = shape_of l part })
  pub split : at + rest ≡ offset
  pub object : is_object l part ≡ true
  pub path : (t : CType) → inner_path (shape_of l whole) t offset ≡ prefixed (part_step whole index) (root_path (shape_of l part) t rest)

-- it lies in none
pub record LiesInNone (l : Layout) (whole : CType) (offset : ℕ) : Type 0 where
  pub path : (t : CType) → inner_path (shape_of l whole) t offset ≡ None
