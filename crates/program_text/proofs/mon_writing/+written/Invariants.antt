-- The ends of the lists that are open, behind what is left, are those of the program; the parts left, behind those written, are the sequence.
use Rattle.std.proofs.Common.{◌≡◌, ◌≤◌, vec_len}
use Rattle.ac_sx.specs.Writing.{written, all_written}
use Rattle.monad_lang.specs.declared.program.Mon.{size-Mon}
use Rattle.monad_lang.specs.CodeProgram.{mon_of}
use Rattle.program_text.specs.MonText.{mon_tree, sequence_parts}
use Rattle.program_text.specs.CodeWriting.{lists_left}
use Rattle.program_text.proofs.mon_writing.+written.Given as goal

abbrev pub invariant-mon_into-along : goal.invariant-mon_into-along
invariant-mon_into-along g l = record {
  same :
      lists_left g.W.TreeWriter.writing l.lists.items (written g.W.TreeWriter.writing (g.W.TreeWriter.state l.out) (mon_tree (mon_of l.rest)))
      ≡ written g.W.TreeWriter.writing (g.W.TreeWriter.state l.fn.out) (mon_tree (mon_of l.fn.m));
  smaller : size-Mon l.rest ≤ size-Mon l.fn.m;
}

abbrev pub decreases-mon_into-along : goal.decreases-mon_into-along
decreases-mon_into-along g l = size-Mon l.rest

abbrev pub invariant-mon_into-back : goal.invariant-mon_into-back
invariant-mon_into-back g l =
    lists_left g.W.TreeWriter.writing l.lists.items (g.W.TreeWriter.state l.out) ≡ written g.W.TreeWriter.writing (g.W.TreeWriter.state l.fn.out) (mon_tree (mon_of l.fn.m))

abbrev pub decreases-mon_into-back : goal.decreases-mon_into-back
decreases-mon_into-back g l = vec_len l.lists

abbrev pub invariant-binds_into-binds : goal.invariant-binds_into-binds
invariant-binds_into-binds g l = record {
  same :
      all_written g.W.TreeWriter.writing (g.W.TreeWriter.state l.out) (sequence_parts (mon_of l.rest))
      ≡ all_written g.W.TreeWriter.writing (g.W.TreeWriter.state l.fn.out) (sequence_parts (mon_of l.fn.m));
  smaller : size-Mon l.rest ≤ size-Mon l.fn.m;
}

abbrev pub decreases-binds_into-binds : goal.decreases-binds_into-binds
decreases-binds_into-binds g l = size-Mon l.rest
