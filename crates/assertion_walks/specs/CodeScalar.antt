-- Elements at constant indexes, by shapes.
use Rattle.std.specs.Prelude.{◌≡◌, true, ℕ, ℤ}
use Rattle.c_values.specs.Layout.{Shape, Row}
use Rattle.c_values.specs.Path.{is_index}
use Rattle.expression_lang.specs.Expression.{Exp, NumberLit}

-- the index is a constant, and an element of the shape is there
pub record IsElementAt (index : Exp) (s e : Shape) : Type 0 where
  pub number : ℤ
  pub length : ℕ
  pub constant : index ≡ NumberLit number
  pub row : s ≡ Row e length
  pub there : is_index number length ≡ true

abbrev pub HasNoElementAt : Exp → Shape → Type 0
HasNoElementAt index s = (e : Shape) → IsElementAt index s e → ⊥
