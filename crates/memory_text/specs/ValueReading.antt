-- Trees read as values of shapes. A list is bad where it has too many or too few parts.
use Rattle.std.specs.Prelude.{ℕ, suc, ◌==◌, List, [], ◌∷◌, length, Option, Some, None, Ok, Err, if◌then◌else◌}
use Rattle.c_values.specs.Types.{Target}
use Rattle.c_values.specs.Layout.{Shape}
use Rattle.c_values.specs.Value.{Value, Values, Number, Parts, no_values, more}
use Rattle.ac_sx.specs.Tree as T
use Rattle.ac_sx.specs.Tree.{Tree, Trees, Atom, Node, no_trees}
use Rattle.expression_text.specs.Reading.{Read, next, made, ◌>>=◌}
use Rattle.expression_text.specs.Numbers.{number_at}
use Rattle.memory_text.specs.ValueText.{parts_of, is_number_of}

-- a number of the shape
abbrev pub number_value_at : Target → Shape → ℕ → Tree → Read Value
number_value_at g s at t = do
  x ← number_at at t
  if is_number_of g s x.0 then Ok (Number x.0, x.1) else Err at

abbrev pub tree_count : Trees → ℕ
tree_count no_trees = 0
tree_count (T.more t ts) = suc (tree_count ts)

-- what is read of so many parts
abbrev pub counted : {A : Type 0} → ℕ → Trees → Option (List Shape) → (List Shape → Read A) → Read A
counted at ts None read = Err at
counted at ts (Some ss) read = if tree_count ts == length ss then read ss else Err at

abbrev mutual
  pub value_at : Target → Shape → ℕ → Tree → Read Value
  value_at g s at (Atom word) = number_value_at g s at (Atom word)
  value_at g s at (Node ts) = made (λ vs. Parts vs) (counted at ts (parts_of s) (λ ss. values_at g ss (next at) ts))

  -- one of each shape
  pub values_at : Target → List Shape → ℕ → Trees → Read Values
  values_at g [] at no_trees = Ok (no_values, at)
  values_at g (s ∷ ss) at (T.more t ts) = do
    x ← value_at g s at t
    y ← values_at g ss x.1 ts
    Ok (more x.0 y.0, y.1)
  values_at g [] at (T.more t ts) = Err at
  values_at g (s ∷ ss) at no_trees = Err at
