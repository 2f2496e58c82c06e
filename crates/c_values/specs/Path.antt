-- Paths into structs and arrays, of shapes and of values (C99 6.5.2.1, 6.5.2.3): the sum of offsets along a path, and the
-- part of a value at its end.
use Rattle.std.specs.Prelude.{ℕ, zero, suc, nat_lt, Bool, true, false, ◌&&◌, List, [], ◌∷◌, Option, Some, None, ℤ, pos, negsuc, ◌+ℤ◌, ◌*ℤ◌, if◌then◌else◌, unwrap_or}
use Rattle.c_values.specs.Types.{CType}
use Rattle.c_values.specs.Word.{IsWord, word}
use Rattle.c_values.specs.Value.{Value, Values, Bits, Number, Truth, Parts, no_values, more, count, nothing, part, with_part}
use Rattle.c_values.specs.Layout.{Layout, Shape, Incomplete, Scalar, Record, Row, Fields, no_fields, field, size, shape_of}

-- a member, from 0, or an element
pub data Step : Type 0 where
  Field : ℕ → Step
  Index : ℤ → Step

-- where a path leads: an offset in bytes, and the shape there
pub record Spot : Type 0 where
  pub offset : ℤ
  pub shape : Shape

abbrev pub member_spot : Fields → ℕ → Option Spot
member_spot no_fields k = None
member_spot (field offset s fs) zero = Some (record { offset = pos offset; shape = s })
member_spot (field offset s fs) (suc k) = member_spot fs k

abbrev pub step_spot : Shape → Step → Option Spot
step_spot (Record x bytes align fs) (Field k) = member_spot fs k
step_spot (Row e n) (Index i) = Some (record { offset = i *ℤ pos (size e); shape = e })
step_spot _ _ = None

abbrev pub and_then_spot : Option Spot → (Spot → Option Spot) → Option Spot
and_then_spot None f = None
and_then_spot (Some s) f = f s

abbrev pub further : ℤ → Option Spot → Option Spot
further offset None = None
further offset (Some s) = Some (record { offset = offset +ℤ s.offset; shape = s.shape })

-- the spot at the end of a path, by plain address arithmetic: an index may be any number
abbrev pub spot : Shape → List Step → Option Spot
spot s [] = Some (record { offset = pos 0; shape = s })
spot s (p ∷ ps) = and_then_spot (step_spot s p) (λ q. further q.offset (spot q.shape ps))

-- an index of an element that is there
abbrev pub is_index : ℤ → ℕ → Bool
is_index (pos i) n = nat_lt i n
is_index (negsuc i) n = false

abbrev pub step_in_range : Shape → Step → Bool
step_in_range (Row e n) (Index i) = is_index i n
step_in_range _ _ = true

abbrev pub where_some : Option Spot → (Shape → Bool) → Bool
where_some None f = true
where_some (Some q) f = f q.shape

-- each index along the path is of an element that is there
abbrev pub in_range : Shape → List Step → Bool
in_range s [] = true
in_range s (p ∷ ps) = step_in_range s p && where_some (step_spot s p) (λ q. in_range q ps)

abbrev pub spot_offset : Option Spot → Option ℤ
spot_offset None = None
spot_offset (Some s) = Some s.offset

-- the offset of a path that is in the type
abbrev pub offset_of : Layout → CType → List Step → Option ℤ
offset_of l t ps = if in_range (shape_of l t) ps then spot_offset (spot (shape_of l t) ps) else None

-- the place of a step among parts, where it is one
abbrev pub place_of : Step → ℕ → Option ℕ
place_of (Field k) n = if nat_lt k n then Some k else None
place_of (Index (pos i)) n = if nat_lt i n then Some i else None
place_of (Index (negsuc i)) n = None

-- A part of a value. What is out of range reads the first part.
abbrev pub sel : Value → List Step → Value
sel v [] = v
sel (Parts vs) (p ∷ ps) = sel (part vs (unwrap_or (place_of p (count vs)) 0)) ps
sel _ (p ∷ ps) = nothing

-- the parts with the one at a place changed, where there is one
abbrev pub with_changed : Values → Option ℕ → (Value → Value) → Values
with_changed vs None f = vs
with_changed vs (Some k) f = with_part vs k (f (part vs k))

-- A value with a part replaced. What is out of range is not written.
abbrev pub upd : Value → List Step → Value → Value
upd v [] w = w
upd (Parts vs) (p ∷ ps) w = Parts (with_changed vs (place_of p (count vs)) (λ v. upd v ps w))
upd v (p ∷ ps) w = v

-- copies of one value
abbrev pub copies : ℕ → Value → Values
copies zero v = no_values
copies (suc n) v = more v (copies n v)

abbrev mutual
  -- the value that is all zeros
  pub zeros : Shape → Value
  zeros Incomplete = nothing
  zeros (Scalar t width) = Bits (word width (pos 0))
  zeros (Record x bytes align fs) = Parts (member_zeros fs)
  zeros (Row e n) = Parts (copies n (zeros e))

  pub member_zeros : Fields → Values
  member_zeros no_fields = no_values
  member_zeros (field offset s fs) = more (zeros s) (member_zeros fs)

abbrev pub IsBits : ℕ → Value → Type 0
IsBits width (Bits w) = IsWord width w
IsBits width (Number n) = ⊥
IsBits width (Truth b) = ⊥
IsBits width (Parts vs) = ⊥

abbrev pub HasParts : (Values → Type 0) → Value → Type 0
HasParts P (Parts vs) = P vs
HasParts P (Bits w) = ⊥
HasParts P (Number n) = ⊥
HasParts P (Truth b) = ⊥

-- so many parts, each with P
abbrev pub AreElements : (Value → Type 0) → ℕ → Values → Type 0
AreElements P zero no_values = Unit {0}
AreElements P (suc n) (more v vs) = P v × AreElements P n vs
AreElements P zero (more v vs) = ⊥
AreElements P (suc n) no_values = ⊥

abbrev mutual
  -- a value of a shape: the words have the widths, and each part is there
  pub HasShape : Shape → Value → Type 0
  HasShape Incomplete v = ⊥
  HasShape (Scalar t width) v = IsBits width v
  HasShape (Record x bytes align fs) v = HasParts (λ vs. AreMembers fs vs) v
  HasShape (Row e n) v = HasParts (AreElements (λ w. HasShape e w) n) v

  pub AreMembers : Fields → Values → Type 0
  AreMembers no_fields no_values = Unit {0}
  AreMembers (field offset s fs) (more v vs) = HasShape s v × AreMembers fs vs
  AreMembers no_fields (more v vs) = ⊥
  AreMembers (field offset s fs) no_values = ⊥
