-- Tags: which objects lie in memory, and which roots they cover (after the typed heaps of Tuch, Klein and Norrish, with a
-- fixed list of tags in place of retyping). A tag covers itself and, through its members and elements, every part of it that
-- is an integer, a pointer or a struct.
use Rattle.std.specs.Prelude.{◌≡◌, ℕ, suc, ◌+◌, ◌-◌, ◌*◌, ◌/◌, ◌%◌, ◌<◌, ◌≤◌, nat_eq, nat_lt, nat_le, Bool, true, false, not, ◌&&◌, ◌||◌, List, [], ◌∷◌, Option, Some, None, is_some, ◌⊎◌, if◌then◌else◌, pos}
use Rattle.c_values.specs.Types.{CType, Integer, Ptr, Struct, same_type}
use Rattle.c_values.specs.Layout.{Layout, Shape, Incomplete, Scalar, Record, Row, Fields, no_fields, field, size, shape_of, size_of, align_of, is_object, space}
use Rattle.c_values.specs.Path.{Step, Field, Index}
use Rattle.c_memory.specs.Memory.{Tag, Memory, AreBytes}

-- an integer, a pointer or a struct
abbrev pub is_root_type : CType → Bool
is_root_type (Integer i) = true
is_root_type (Ptr t) = true
is_root_type (Struct x) = true
is_root_type _ = false

-- (C99 6.3.2.3p7, 6.5.3.2p4) aligned, not null, and all of it in the space
abbrev pub is_pointer_ok : Layout → CType → ℕ → Bool
is_pointer_ok l t a = nat_eq (a % align_of l t) 0 && not (nat_eq a 0) && nat_le (a + size_of l t) (space l)

-- a tag by itself
pub record IsTag (l : Layout) (t : Tag) : Type 0 where
  pub root : is_root_type t.type ≡ true
  pub object : is_object l t.type ≡ true
  pub placed : is_pointer_ok l t.type t.address ≡ true

-- the footprints of two tags have no byte in common
abbrev pub AreApart : Layout → Tag → Tag → Type 0
AreApart l t u = (t.address + size_of l t.type ≤ u.address) ⊎ (u.address + size_of l u.type ≤ t.address)

abbrev pub ApartFrom : Layout → Tag → List Tag → Type 0
ApartFrom l t [] = Unit {0}
ApartFrom l t (u ∷ us) = AreApart l t u × ApartFrom l t us

abbrev pub AreTags : Layout → List Tag → Type 0
AreTags l [] = Unit {0}
AreTags l (t ∷ ts) = IsTag l t × ApartFrom l t ts × AreTags l ts

pub record IsWellTagged (l : Layout) (m : Memory) : Type 0 where
  pub bytes : AreBytes m.bytes
  pub tags : AreTags l m.tags

-- a member at an offset
pub data IsMember : Fields → ℕ → Shape → Type 0 where
  here : {at : ℕ} {s : Shape} {fs : Fields} → IsMember (field at s fs) at s
  later : {at at' : ℕ} {s s' : Shape} {fs : Fields} → IsMember fs at s → IsMember (field at' s' fs) at s

-- At this offset in a shape stands a part of this type: the whole, or a part of a member or of an element.
pub data IsPart : Shape → ℕ → CType → Type 0 where
  scalar : {t : CType} {width : ℕ} → IsPart (Scalar t width) 0 t
  struct : {x : _} {n align : ℕ} {fs : Fields} → IsPart (Record x n align fs) 0 (Struct x)
  of_member : {x : _} {n align at d : ℕ} {fs : Fields} {s : Shape} {t : CType} → IsMember fs at s → IsPart s d t → IsPart (Record x n align fs) (at + d) t
  of_element : {e : Shape} {n i d : ℕ} {t : CType} → i < n → IsPart e d t → IsPart (Row e n) (i * size e + d) t

-- the same as a search: the path to the part of a type at an offset
abbrev pub prefixed : Step → Option (List Step) → Option (List Step)
prefixed p None = None
prefixed p (Some ps) = Some (p ∷ ps)

abbrev mutual
  pub root_path : Shape → CType → ℕ → Option (List Step)
  root_path Incomplete t d = None
  root_path (Scalar u width) t d = if same_type u t && nat_eq d 0 then Some [] else None
  root_path (Record x n align fs) t d = if same_type (Struct x) t && nat_eq d 0 then Some [] else member_path fs 0 t d
  root_path (Row e n) t d = if nat_lt (d / size e) n then prefixed (Index (pos (d / size e))) (root_path e t (d % size e)) else None

  pub member_path : Fields → ℕ → CType → ℕ → Option (List Step)
  member_path no_fields k t d = None
  member_path (field at s fs) k t d =
      if nat_le at d && nat_lt d (at + size s) then prefixed (Field k) (root_path s t (d - at)) else member_path fs (suc k) t d

-- the path from a tag to a root that it covers
abbrev pub path_from : Layout → Tag → CType → ℕ → Option (List Step)
path_from l u t a = if nat_le u.address a then root_path (shape_of l u.type) t (a - u.address) else None

abbrev pub is_covered : Layout → List Tag → CType → ℕ → Bool
is_covered l [] t a = false
is_covered l (u ∷ us) t a = is_some (path_from l u t a) || is_covered l us t a
