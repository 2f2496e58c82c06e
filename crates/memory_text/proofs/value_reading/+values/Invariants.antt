-- A part has fewer nodes; the values so far, and those to come, are the whole.
use Rattle.std.proofs.Common.{◌≡◌, ◌+◌, ◌*◌, drop, map}
use Rattle.ac_sx.specs.Tree.{nodes, all_nodes}
use Rattle.ac_sx.specs.CodeSx.{tree_of, trees_in}
use Rattle.c_values.specs.Layout.{shape_of}
use Rattle.c_values.specs.CodeParts.{values_in, joined}
use Rattle.expression_text.specs.Reading.{made}
use Rattle.memory_text.specs.ValueReading.{values_at}
use Rattle.memory_text.specs.CodeTypes.{types_in}
use Rattle.memory_text.proofs.value_reading.+values.Given as goal

abbrev pub decreases-value_at : goal.decreases-value_at
decreases-value_at l = 2 * nodes (tree_of l.tree.now)

abbrev pub decreases-values_at : goal.decreases-values_at
decreases-values_at l = 2 * all_nodes (trees_in l.parts.now) + 1

abbrev pub invariant-values_at-parts : goal.invariant-values_at-parts
invariant-values_at-parts l =
    made (joined (values_in l.values.items)) (values_at l.layout.target (drop l.k (map (shape_of l.layout) (types_in l.types))) l.here (trees_in (drop l.k l.parts)))
    ≡ values_at l.layout.target (map (shape_of l.layout) (types_in l.fn.types)) l.fn.inner (trees_in l.fn.parts)
