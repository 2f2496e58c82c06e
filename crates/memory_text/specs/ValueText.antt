-- Values as trees: a scalar's is its number, a struct's or an array's the list of its parts'. And which values are of a shape, words being numbers.
use Rattle.std.specs.Prelude.{◌-◌, ◌^◌, Bool, true, false, ◌&&◌, ℤ, pos, List, [], ◌∷◌, replicate, Option, Some, None}
use Rattle.std.specs.Fmt.{decimal}
use Rattle.c_values.specs.Types.{Target, Integer, Ptr, address_width}
use Rattle.c_values.specs.Number.{is_between, is_of_type}
use Rattle.c_values.specs.Layout.{Shape, Incomplete, Scalar, Record, Row, Fields, no_fields, field}
use Rattle.c_values.specs.Value.{Value, Values, Bits, Number, Truth, Parts, no_values, more}
use Rattle.ac_sx.specs.Tree as T
use Rattle.ac_sx.specs.Tree.{Tree, Trees, Atom, Node, no_trees}
use Rattle.expression_text.specs.Numbers.{number_text}
use Rattle.expression_text.specs.ExpText.{truth_word}

abbrev mutual
  pub value_tree : Value → Tree
  value_tree (Bits w) = Atom (decimal w.bits)
  value_tree (Number n) = Atom (number_text n)
  value_tree (Truth b) = Atom (truth_word b)
  value_tree (Parts vs) = Node (value_trees vs)

  pub value_trees : Values → Trees
  value_trees no_values = no_trees
  value_trees (more v vs) = T.more (value_tree v) (value_trees vs)

abbrev pub shapes_in : Fields → List Shape
shapes_in no_fields = []
shapes_in (field offset s fs) = s ∷ shapes_in fs

-- the shapes of the parts, where a shape has any
abbrev pub parts_of : Shape → Option (List Shape)
parts_of Incomplete = None
parts_of (Scalar t width) = None
parts_of (Record x bytes align fs) = Some (shapes_in fs)
parts_of (Row e n) = Some (replicate n e)

abbrev pub is_address : Target → ℤ → Bool
is_address g n = is_between (pos 0) n (pos (2 ^ address_width g - 1))

-- the number is of the integer type, or an address
abbrev pub is_number_of : Target → Shape → ℤ → Bool
is_number_of g (Scalar (Integer i) width) n = is_of_type g i n
is_number_of g (Scalar (Ptr t) width) n = is_address g n
is_number_of g _ n = false

abbrev pub where_parts : Option (List Shape) → (List Shape → Bool) → Bool
where_parts None test = false
where_parts (Some ss) test = test ss

abbrev mutual
  pub is_value : Target → Shape → Value → Bool
  is_value g s (Number n) = is_number_of g s n
  is_value g s (Parts vs) = where_parts (parts_of s) (λ ss. are_values g ss vs)
  is_value g s (Bits w) = false
  is_value g s (Truth b) = false

  -- one of each shape
  pub are_values : Target → List Shape → Values → Bool
  are_values g [] no_values = true
  are_values g (s ∷ ss) (more v vs) = is_value g s v && are_values g ss vs
  are_values g [] (more v vs) = false
  are_values g (s ∷ ss) no_values = false
