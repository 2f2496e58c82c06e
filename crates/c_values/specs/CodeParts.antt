-- What lists of the code's values stand for.
use Rattle.std.specs.Prelude.{ℕ, suc, ◌+◌, Bool, true, false, List, [], ◌∷◌, Vec}
use Rattle.std.specs.declared.alloc.Global.{Global}
use Rattle.c_values.specs.declared.values.Value as V
use Rattle.c_values.specs.Value.{Value, Values, Bits, Number, Truth, Parts, no_values, more}
use Rattle.c_values.specs.CodeValue.{value_of}

abbrev pub values_in : List V.Value → Values
values_in [] = no_values
values_in (v ∷ vs) = more (value_of v) (values_in vs)

abbrev pub has_parts : Value → Bool
has_parts (Bits w) = false
has_parts (Number n) = false
has_parts (Truth b) = false
has_parts (Parts vs) = true

-- without parts in it
abbrev pub IsLeaf : Value → Type 0
IsLeaf (Bits w) = Unit {0}
IsLeaf (Number n) = Unit {0}
IsLeaf (Truth b) = Unit {0}
IsLeaf (Parts no_values) = Unit {0}
IsLeaf (Parts (more v vs)) = ⊥

abbrev pub joined : Values → Values → Values
joined no_values ws = ws
joined (more v vs) ws = more v (joined vs ws)

-- the parts before the last one, and that
abbrev pub with_front : Vec V.Value Global → Value → Value
with_front front v = Parts (joined (values_in front.items) (more v no_values))

-- the outermost first
abbrev pub with_fronts : List (Vec V.Value Global) → Value → Value
with_fronts [] v = v
with_fronts (front ∷ fronts) v = with_front front (with_fronts fronts v)

abbrev mutual
  -- how many values there are in one
  pub rank : Value → ℕ
  rank (Bits w) = 0
  rank (Number n) = 0
  rank (Truth b) = 0
  rank (Parts vs) = suc (ranks vs)

  pub ranks : Values → ℕ
  ranks no_values = 0
  ranks (more v vs) = suc (rank v + ranks vs)
