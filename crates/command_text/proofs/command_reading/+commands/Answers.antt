use Rattle.std.proofs.Common.{arith, refl, ap, subst, ◌∙◌}
use Rattle.ac_sx.specs.CodeSx.{tree_of, trees_in}
use Rattle.expression_text.specs.Reading.{next}
use Rattle.expression_text.specs.CodeFault.{Gives}
use Rattle.simpl_lang.specs.declared.fronts.Front as F
use Rattle.simpl_lang.specs.CodeCommand.{simpl_of}
use Rattle.command_text.specs.CommandReading.{sequence_at}
use Rattle.command_text.proofs.SequencesRead.{sequence_more}
use Rattle.command_text.proofs.CommandRows.{word_given, command_given, command_refused}
use Rattle.command_text.proofs.command_reading.+commands.Goals as goal

pub command_at-returns-in-Some : goal.command_at-returns-in-Some
command_at-returns-in-Some t c = subst (Gives (λ c. simpl_of c.value) c.leaf_at.result) (word_given c.args.at c.in-Some.word.now (tree_of c.args.tree.now) c.in-Some.ensures) c.leaf_at.ensures

pub command_at-returns-in-Some-command_head : goal.command_at-returns-in-Some-command_head
command_at-returns-in-Some-command_head t c =
    subst (Gives (λ c. simpl_of c.value) c.row_at.result)
    (command_given c.args.at c.next-in-Some-command_head.result c.in-Some-headed.word.now (trees_in c.in-Some-headed.parts.now) (tree_of c.args.tree.now) c.in-Some-command_head.head
    c.in_default.ensures c.in-Some-headed.ensures.parts c.in-Some-command_head.ensures.some (c.next-in-Some-command_head.ensures ∙ ap next c.next.ensures))
    c.row_at.ensures

pub command_at-returns-in-None : goal.command_at-returns-in-None
command_at-returns-in-None t c = command_refused c.args.at c.in-Some-headed.word.now (trees_in c.in-Some-headed.parts.now) (tree_of c.args.tree.now) c.in_default.ensures c.in-Some-headed.ensures.parts c.in-None.ensures.none

pub sequence_at-fronts-preserved : goal.sequence_at-fronts-preserved
sequence_at-fronts-preserved t c = record {
  same =
      sequence_more c.fronts.fronts.items c.push.new.self.items (F.TheVariants.Seq c.in_ok-first.first) c.fronts.at c.in_ok-first.behind (trees_in c.fronts.rest.now) (tree_of c.in-Some.first.now, trees_in c.in-Some.others.now)
      (simpl_of c.in_ok-first.first.value) (sequence_at c.args.at (trees_in c.args.parts.now)) c.in-Some.ensures.parts c.in_ok-push.ensures.items c.in_ok-first.ensures (λ l. refl) c.fronts.invariant.same;
  smaller = omega (arith, c.in-Some.ensures.smaller, c.fronts.invariant.smaller);
}
