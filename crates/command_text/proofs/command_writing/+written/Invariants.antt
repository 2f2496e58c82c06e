-- The ends of the lists that are open, behind what is left, are those of the command; the parts left, behind those written, are the sequence.
use Rattle.std.proofs.Common.{◌≡◌, ◌≤◌, vec_len}
use Rattle.ac_sx.specs.Writing.{written, all_written}
use Rattle.simpl_lang.specs.declared.command.Simpl.{size-Simpl}
use Rattle.simpl_lang.specs.CodeCommand.{simpl_of}
use Rattle.command_text.specs.CommandText.{command_tree, sequence_parts}
use Rattle.program_text.specs.CodeWriting.{lists_left}
use Rattle.command_text.proofs.command_writing.+written.Given as goal

abbrev pub invariant-command_into-along : goal.invariant-command_into-along
invariant-command_into-along g l = record {
  same :
      lists_left g.W.TreeWriter.writing l.lists.items (written g.W.TreeWriter.writing (g.W.TreeWriter.state l.out) (command_tree (simpl_of l.rest)))
      ≡ written g.W.TreeWriter.writing (g.W.TreeWriter.state l.fn.out) (command_tree (simpl_of l.fn.c));
  smaller : size-Simpl l.rest ≤ size-Simpl l.fn.c;
}

abbrev pub decreases-command_into-along : goal.decreases-command_into-along
decreases-command_into-along g l = size-Simpl l.rest

abbrev pub invariant-command_into-back : goal.invariant-command_into-back
invariant-command_into-back g l =
    lists_left g.W.TreeWriter.writing l.lists.items (g.W.TreeWriter.state l.out) ≡ written g.W.TreeWriter.writing (g.W.TreeWriter.state l.fn.out) (command_tree (simpl_of l.fn.c))

abbrev pub decreases-command_into-back : goal.decreases-command_into-back
decreases-command_into-back g l = vec_len l.lists

abbrev pub invariant-seqs_into-seqs : goal.invariant-seqs_into-seqs
invariant-seqs_into-seqs g l = record {
  same :
      all_written g.W.TreeWriter.writing (g.W.TreeWriter.state l.out) (sequence_parts (simpl_of l.rest))
      ≡ all_written g.W.TreeWriter.writing (g.W.TreeWriter.state l.fn.out) (sequence_parts (simpl_of l.fn.c));
  smaller : size-Simpl l.rest ≤ size-Simpl l.fn.c;
}

abbrev pub decreases-seqs_into-seqs : goal.decreases-seqs_into-seqs
decreases-seqs_into-seqs g l = size-Simpl l.rest
