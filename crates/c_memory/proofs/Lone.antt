-- Arrays of one element in memory: what lies in them begins where they begin, and is as large.
use Rattle.std.proofs.Common.{◌≡◌, ℕ, Bool, true, false, cond, eqb, List, [], ◌∷◌, Some, None, slice_get, refl, ap}
use Rattle.c_values.specs.declared.values.Value as V
use Rattle.c_values.specs.Types.{CType, Integer, Void, Ptr, Struct, Array}
use Rattle.c_values.specs.Layout.{Layout, shape_of, is_object}
use Rattle.c_values.specs.Value.{Parts}
use Rattle.c_values.specs.CodeValue.{value_of}
use Rattle.c_values.specs.CodeParts.{values_in}
use Rattle.c_values.specs.CodeLone.{inside, around}
use Rattle.c_values.proofs.Lone.{whole_around}
use Rattle.c_memory.specs.Memory.{load, store}
use Rattle.c_memory.proofs.Walks.{element_object}

-- what is inside an object is an object
pub inside_object : (l : Layout) (t : CType) → is_object l t ≡ true → is_object l (inside t) ≡ true
inside_object l (Array t n) object = by_cases (eqb n 1) (inside_object l t (element_object l t n object))
  where
    by_cases : (b : Bool) → is_object l (inside t) ≡ true → is_object l (cond b (inside t) (Array t n)) ≡ true
    by_cases true below = below
    by_cases false below = object
inside_object l (Integer i) object = object
inside_object l Void object = object
inside_object l (Ptr t) object = object
inside_object l (Struct x) object = object

-- what is loaded is what lies inside, in as many parts
pub load_around : (space : ℕ) (bytes : ℕ → ℕ) (a : ℕ) (l : Layout) (t : CType) → around t (load space bytes (shape_of l (inside t)) a) ≡ load space bytes (shape_of l t) a
load_around space bytes a l t = whole_around (λ s. load space bytes s a) (λ e. refl) l t

module _ (space : ℕ) (l : Layout) (u : CType) (a : ℕ) (bytes : ℕ → ℕ) where
  -- the one part is stored
  pub lone_stored : (vs : List V.Value) (v : V.Value) → slice_get vs 0 ≡ Some v → store space (shape_of l (Array u 1)) a (Parts (values_in vs)) bytes ≡ store space (shape_of l u) a (value_of v) bytes
  lone_stored [] v h = absurd cc
  lone_stored (w ∷ ws) v h = let e : w ≡ v = cc in ap (λ x. store space (shape_of l u) a (value_of x) bytes) e

  -- where there is none, nothing is
  pub none_stored : (vs : List V.Value) → slice_get vs 0 ≡ None → store space (shape_of l (Array u 1)) a (Parts (values_in vs)) bytes ≡ bytes
  none_stored [] h = refl
  none_stored (w ∷ ws) h = absurd cc
