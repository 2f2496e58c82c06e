-- Which tree is whose text.
use Rattle.std.specs.Prelude.{◌≡◌, true}
use Rattle.ac_sx.specs.Tree.{Tree}
use Rattle.expression_lang.specs.Sort.{Kind, is_kind}
use Rattle.monad_lang.specs.Program.{Mon}
use Rattle.program_text.specs.Kinds.{kind_tree}
use Rattle.program_text.specs.MonText.{mon_tree, is_mon}

abbrev pub IsKindText : Tree → Kind → Type 0
IsKindText t k = (t ≡ kind_tree k) × (is_kind k ≡ true)

abbrev pub IsMonText : Tree → Mon → Type 0
IsMonText t m = (t ≡ mon_tree m) × (is_mon m ≡ true)
