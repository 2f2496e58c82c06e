-- Kinds as trees, and trees read as kinds.
use Rattle.std.specs.Prelude.{ℕ, List, [], ◌∷◌, Option, Some, None, Ok, Err, codes, if◌then◌else◌}
use Rattle.std.specs.Fmt.{decimal}
use Rattle.c_values.specs.Name.{Name, same_name}
use Rattle.expression_lang.specs.Sort.{Kind, WordKind, NatKind, IntKind, BoolKind}
use Rattle.ac_sx.specs.Tree.{Tree, Trees, Atom, Node, no_trees, more}
use Rattle.ac_sx.specs.CodeSx.{word_in, headed_in, one_of}
use Rattle.expression_text.specs.Reading.{Read, next, ◌>>=◌}
use Rattle.expression_text.specs.Words.{looked_up}
use Rattle.expression_text.specs.ExpReading.{width_at}
use Rattle.program_text.specs.declared.kinds.KindHead.{KindHead}
use Rattle.program_text.specs.declared.kinds.KindHead.TheVariants as H

abbrev pub kind_head_word : KindHead → Name
kind_head_word H.Word = codes "w"
kind_head_word H.Nat = codes "nat"
kind_head_word H.Int = codes "int"

abbrev pub kind_heads : List KindHead
kind_heads = H.Word ∷ H.Nat ∷ H.Int ∷ []

abbrev pub of_width : KindHead → ℕ → Kind
of_width H.Word n = WordKind n
of_width H.Nat n = NatKind n
of_width H.Int n = IntKind n

abbrev pub bool_word : Name
bool_word = codes "bool"

abbrev pub sized_kind : KindHead → ℕ → Tree
sized_kind h n = Node (more (Atom (kind_head_word h)) (more (Atom (decimal n)) no_trees))

abbrev pub kind_tree : Kind → Tree
kind_tree (WordKind n) = sized_kind H.Word n
kind_tree (NatKind n) = sized_kind H.Nat n
kind_tree (IntKind n) = sized_kind H.Int n
kind_tree BoolKind = Atom bool_word

-- of a list at this number, whose parts begin at that one
abbrev pub sized_kind_at : ℕ → ℕ → Option KindHead → Option Tree → Read Kind
sized_kind_at at inner None _ = Err at
sized_kind_at at inner (Some h) None = Err at
sized_kind_at at inner (Some h) (Some n) = do
  x ← width_at inner n
  Ok (of_width h x.0, x.1)

-- of a word, or of a list's head and parts
abbrev pub kind_by : ℕ → Option Name → Option (Name × Trees) → Read Kind
kind_by at (Some word) _ = if same_name word bool_word then Ok (BoolKind, next at) else Err at
kind_by at None (Some (head, ts)) = sized_kind_at at (next (next at)) (looked_up kind_head_word kind_heads head) (one_of ts)
kind_by at None None = Err at

abbrev pub kind_at : ℕ → Tree → Read Kind
kind_at at t = kind_by at (word_in t) (headed_in t)
