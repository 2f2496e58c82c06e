-- Commands, as the writer writes them.
use Rattle.std.specs.Prelude.{ℕ, ◌<◌, Option, Some, None}
use Rattle.std.specs.Borrow.{Bor}
use Rattle.ac_sx.specs.Writing.{Writing, written}
use Rattle.simpl_lang.specs.declared.command.Simpl as C
use Rattle.simpl_lang.specs.declared.command.Simpl.{size-Simpl}
use Rattle.simpl_lang.specs.CodeCommand.{simpl_of}
use Rattle.command_text.specs.CommandText.{command_tree}

module _ {S : Type 0} (w : Writing S) where
  -- a command that is written as far as its last command, where it is left
  abbrev pub command_goes_on : Option (Bor C.Simpl) → S → S
  command_goes_on None s = s
  command_goes_on (Some last) s = w.left (written w s (command_tree (simpl_of last.now)))

abbrev pub LastIsSmaller : Option (Bor C.Simpl) → ℕ → Type 0
LastIsSmaller None n = Unit {0}
LastIsSmaller (Some last) n = size-Simpl last.now < n
