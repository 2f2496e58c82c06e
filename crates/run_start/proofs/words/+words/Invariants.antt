-- A part has fewer parts; the words so far, and those to come, are the whole.
use Rattle.std.proofs.Common.{◌≡◌, ◌+◌, ◌*◌, drop, map}
use Rattle.c_values.specs.Layout.{shape_of}
use Rattle.c_values.specs.CodeValue.{value_of}
use Rattle.c_values.specs.CodeParts.{values_in, joined, rank, ranks}
use Rattle.memory_text.specs.CodeTypes.{types_in}
use Rattle.run_start.specs.Start.{all_as_words}
use Rattle.run_start.proofs.words.+words.Given as goal

abbrev pub decreases-as_words : goal.decreases-as_words
decreases-as_words l = 2 * rank (value_of l.value.now)

abbrev pub decreases-all_as_words : goal.decreases-all_as_words
decreases-all_as_words l = 2 * ranks (values_in l.values.now) + 1

abbrev pub invariant-all_as_words-values : goal.invariant-all_as_words-values
invariant-all_as_words-values l =
    joined (values_in l.words.items) (all_as_words (drop l.k (map (shape_of l.layout) (types_in l.types))) (values_in (drop l.k l.values)))
    ≡ all_as_words (map (shape_of l.layout) (types_in l.fn.types)) (values_in l.fn.values)
