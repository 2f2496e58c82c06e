use Rattle.std.proofs.Common.{◌≡◌, ◌<◌, rules, arith, sym, ap, subst, ◌∙◌}
use Rattle.ac_sx.specs.Writing.{written, all_written}
use Rattle.simpl_lang.specs.declared.command.Simpl as M
use Rattle.simpl_lang.specs.declared.command.Simpl.{size-Simpl}
use Rattle.simpl_lang.specs.CodeCommand.{simpl_of}
use Rattle.command_text.specs.CommandText.{command_tree, sequence_parts}
use Rattle.command_text.proofs.Writing.{sequence_written}
use Rattle.command_text.proofs.command_writing.+written.Goals as goal

after_seq : (p : _) (c : M.Simpl) (q : _) (d : M.Simpl) → size-Simpl d < size-Simpl (M.Seq' p c q d)
after_seq p c q d = search (rules, M.the_lemmas)

last_is_smaller : (c : M.Simpl) (first : _) (last : _) → c ≡ M.Seq first last → size-Simpl last.value < size-Simpl c
last_is_smaller c first last e = subst (λ q. size-Simpl last.value < size-Simpl q) (sym e) (after_seq _ first.value _ last.value)

pub seqs_into-seqs-preserved : goal.seqs_into-seqs-preserved
seqs_into-seqs-preserved g t c = record {
  same =
      let w = g.W.TreeWriter.writing in
      let old = g.W.TreeWriter.state c.seqs.out in
      let new = g.W.TreeWriter.state c.command_into.new.out in
      ap (λ d. all_written w new (sequence_parts (simpl_of d))) c.deref-rest.ensures
      ∙ sequence_written w old new (simpl_of c.in-Seq.first.value) (simpl_of c.in-Seq.last.value) (simpl_of c.seqs.rest.now) _ (c.in_ok-command_into.ensures ∙ ap (λ d. written w old (command_tree (simpl_of d))) c.deref.ensures) (ap simpl_of c.in-Seq.is)
      c.seqs.invariant.same;
  smaller = let h = last_is_smaller c.seqs.rest.now c.in-Seq.first c.in-Seq.last c.in-Seq.is in omega (arith, ap size-Simpl c.deref-rest.ensures);
}
