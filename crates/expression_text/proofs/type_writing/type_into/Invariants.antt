-- The ends of the lists that are open, behind what is left, are those of the type.
use Rattle.std.proofs.Common.{◌≡◌}
use Rattle.ac_sx.specs.Writing.{written}
use Rattle.c_values.specs.CodeTypes.{type_of}
use Rattle.expression_text.specs.TypeText.{type_tree}
use Rattle.expression_text.specs.CodeWriting.{type_ends}
use Rattle.expression_text.proofs.type_writing.type_into.Given as goal

abbrev pub invariant-down : goal.invariant-down
invariant-down g l =
    type_ends g.W.TreeWriter.writing l.lists.items (written g.W.TreeWriter.writing (g.W.TreeWriter.state l.out) (type_tree (type_of l.inner)))
    ≡ written g.W.TreeWriter.writing (g.W.TreeWriter.state l.fn.out) (type_tree (type_of l.fn.t))
