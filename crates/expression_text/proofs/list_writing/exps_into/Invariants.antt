-- What is left, behind what is written, is the whole.
use Rattle.std.proofs.Common.{◌≡◌, map, length}
use Rattle.ac_sx.specs.Writing.{all_written}
use Rattle.expression_lang.specs.CodeExpression.{exp_of}
use Rattle.expression_text.specs.Lists.{exp_trees}
use Rattle.expression_text.proofs.list_writing.exps_into.Given as goal

abbrev pub invariant-exps : goal.invariant-exps
invariant-exps g l =
    all_written g.W.TreeWriter.writing (g.W.TreeWriter.state l.out) (exp_trees (map exp_of l.rest))
    ≡ all_written g.W.TreeWriter.writing (g.W.TreeWriter.state l.fn.out) (exp_trees (map exp_of l.fn.exps))

abbrev pub decreases-exps : goal.decreases-exps
decreases-exps g l = length l.rest
