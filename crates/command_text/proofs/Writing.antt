-- Sequences, a command more.
use Rattle.std.proofs.Common.{◌≡◌, ap, sym, ◌∙◌}
use Rattle.ac_sx.specs.Writing.{Writing, written, all_written}
use Rattle.simpl_lang.specs.Command.{Simpl, Seq}
use Rattle.command_text.specs.CommandText.{command_tree, sequence_parts}

module _ {S : Type 0} (w : Writing S) where
  pub sequence_written : (old new : S) (first last rest : Simpl) (whole : S) → new ≡ written w old (command_tree first) → rest ≡ Seq first last →
      all_written w old (sequence_parts rest) ≡ whole → all_written w new (sequence_parts last) ≡ whole
  sequence_written old new first last rest whole run is so_far =
      ap (λ s. all_written w s (sequence_parts last)) run
      ∙ ap (λ c. all_written w old (sequence_parts c)) (sym is)
      ∙ so_far
