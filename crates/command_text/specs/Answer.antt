-- Which tree is whose text.
use Rattle.std.specs.Prelude.{◌≡◌, true}
use Rattle.ac_sx.specs.Tree.{Tree}
use Rattle.simpl_lang.specs.Command.{Simpl}
use Rattle.command_text.specs.CommandText.{command_tree, is_command}

abbrev pub IsCommandText : Tree → Simpl → Type 0
IsCommandText t c = (t ≡ command_tree c) × (is_command c ≡ true)
