-- The ends of the lists that are open, behind what is left, are those of the expression; the steps left, behind those written, are the path's.
use Rattle.std.proofs.Common.{◌≡◌, ◌≤◌, vec_len}
use Rattle.ac_sx.specs.Writing.{written, all_written}
use Rattle.expression_lang.specs.declared.expression.Exp.{size-Exp}
use Rattle.expression_lang.specs.declared.paths.Path.{size-Path}
use Rattle.expression_lang.specs.CodeExpression.{exp_of, path_of}
use Rattle.expression_text.specs.ExpText.{exp_tree, step_trees}
use Rattle.expression_text.specs.CodeWriting.{exp_ends, AreWithin}
use Rattle.expression_text.proofs.exp_writing.+written.Given as goal

abbrev pub invariant-exp_into-along : goal.invariant-exp_into-along
invariant-exp_into-along g l = record {
  same :
      exp_ends g.W.TreeWriter.writing l.lists.items (written g.W.TreeWriter.writing (g.W.TreeWriter.state l.out) (exp_tree (exp_of l.rest)))
      ≡ written g.W.TreeWriter.writing (g.W.TreeWriter.state l.fn.out) (exp_tree (exp_of l.fn.e));
  smaller : size-Exp l.rest ≤ size-Exp l.fn.e;
  within : AreWithin (size-Exp l.fn.e) l.lists.items;
}

abbrev pub decreases-exp_into-along : goal.decreases-exp_into-along
decreases-exp_into-along g l = size-Exp l.rest

abbrev pub invariant-exp_into-back : goal.invariant-exp_into-back
invariant-exp_into-back g l = record {
  same :
      exp_ends g.W.TreeWriter.writing l.lists.items (g.W.TreeWriter.state l.out)
      ≡ written g.W.TreeWriter.writing (g.W.TreeWriter.state l.fn.out) (exp_tree (exp_of l.fn.e));
  within : AreWithin (size-Exp l.fn.e) l.lists.items;
}

abbrev pub decreases-exp_into-back : goal.decreases-exp_into-back
decreases-exp_into-back g l = vec_len l.lists

abbrev pub invariant-steps_into-along : goal.invariant-steps_into-along
invariant-steps_into-along g l = record {
  same :
      all_written g.W.TreeWriter.writing (g.W.TreeWriter.state l.out) (step_trees (path_of l.rest))
      ≡ all_written g.W.TreeWriter.writing (g.W.TreeWriter.state l.fn.out) (step_trees (path_of l.fn.path));
  smaller : size-Path l.rest ≤ size-Path l.fn.path;
}

abbrev pub decreases-steps_into-along : goal.decreases-steps_into-along
decreases-steps_into-along g l = size-Path l.rest
