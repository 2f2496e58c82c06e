-- Values as lines have them: each word is the number that it is at its type, a pointer being unsigned; a struct or an array is the list
-- of its parts.
use Rattle.std.specs.Prelude.{ℕ, List, [], ◌∷◌, unwrap_or}
use Rattle.c_values.specs.Types.{CType}
use Rattle.c_values.specs.Layout.{Layout, Shape, shape_of, type_of}
use Rattle.c_values.specs.Value.{Value, Values, Bits, Number, Truth, Parts, no_values, more}
use Rattle.ac_sx.specs.Tree.{spelling}
use Rattle.c_meaning.specs.CValue.{number_of_type}
use Rattle.memory_text.specs.ValueText.{value_tree, parts_of}

abbrev mutual
  -- a value of a shape, its words being numbers; a number stays
  pub shown : Shape → Value → Value
  shown s (Bits w) = Number (number_of_type (type_of s) (Bits w))
  shown s (Number n) = Number n
  shown s (Truth b) = Truth b
  shown s (Parts vs) = Parts (all_shown (unwrap_or (parts_of s) []) vs)

  -- one of each shape
  pub all_shown : List Shape → Values → Values
  all_shown (s ∷ ss) (more v vs) = more (shown s v) (all_shown ss vs)
  all_shown _ _ = no_values

-- the text of a value of a type
abbrev pub value_text : Layout → CType → Value → List ℕ
value_text l t v = spelling (value_tree (shown (shape_of l t) v))
