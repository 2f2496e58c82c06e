-- What the code's rows of values stand for.
use Rattle.std.specs.Prelude.{List, drop, map, reverse}
use Rattle.c_values.specs.Layout.{Layout, shape_of}
use Rattle.c_values.specs.CodeParts.{values_in}
use Rattle.ac_sx.specs.Tree.{Trees}
use Rattle.memory_text.specs.ValueText.{value_trees}
use Rattle.memory_text.specs.CodeTypes.{types_in}
use Rattle.run_lines.specs.declared.values.Row as R
use Rattle.run_lines.specs.Shown.{all_shown}

-- the values that are left, as they are shown
abbrev pub row_in : Layout → R.Row → Trees
row_in l r = value_trees (all_shown (drop r.next (map (shape_of l) (types_in r.types))) (values_in r.values.now))

-- the innermost first
abbrev pub rows_in : Layout → List R.Row → List Trees
rows_in l rows = reverse (map (row_in l) rows)
