-- A part has fewer parts; what is left, behind what is written, is the whole.
use Rattle.std.proofs.Common.{◌≡◌, ◌+◌, ◌*◌, ◌≤◌, length}
use Rattle.ac_sx.specs.Writing.{all_written}
use Rattle.c_values.specs.CodeValue.{value_of}
use Rattle.c_values.specs.CodeParts.{values_in, rank, ranks}
use Rattle.memory_text.specs.ValueText.{value_trees}
use Rattle.memory_text.proofs.writing.+values.Given as goal

abbrev pub decreases-value_into : goal.decreases-value_into
decreases-value_into g l = 3 * rank (value_of l.value.now)

abbrev pub decreases-parts_into : goal.decreases-parts_into
decreases-parts_into g l = 3 * ranks (values_in l.parts.now) + 2

abbrev pub decreases-values_into : goal.decreases-values_into
decreases-values_into g l = 3 * ranks (values_in l.values.now) + 1

abbrev pub invariant-values_into-values : goal.invariant-values_into-values
invariant-values_into-values g l = record {
  same :
      all_written g.W.TreeWriter.writing (g.W.TreeWriter.state l.out) (value_trees (values_in l.rest))
      ≡ all_written g.W.TreeWriter.writing (g.W.TreeWriter.state l.fn.out) (value_trees (values_in l.fn.values));
  smaller : ranks (values_in l.rest) ≤ ranks (values_in l.fn.values);
}

abbrev pub decreases-values_into-values : goal.decreases-values_into-values
decreases-values_into-values g l = length l.rest
