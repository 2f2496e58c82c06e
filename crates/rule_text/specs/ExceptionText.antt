-- The texts of the rules that take exceptions out, which have no data.
use Rattle.std.specs.Prelude.{ℕ, Bool, true, List, [], ◌∷◌, None, codes}
use Rattle.ac_sx.specs.Tree.{Tree, Trees, no_trees}
use Rattle.c_values.specs.Name.{Name}
use Rattle.expression_text.specs.Reading.{Read}
use Rattle.expression_text.specs.Words.{looked_up}
use Rattle.rule_exn.specs.Rule as R
use Rattle.rule_trees.specs.RuleTree as rules
use Rattle.rule_text.specs.declared.arity.Arity.{Arity}
use Rattle.rule_text.specs.Arities.{exactly}
use Rattle.rule_text.specs.RuleText.{rule_tree}
use Rattle.rule_text.specs.RuleText as text
use Rattle.rule_text.specs.RuleReading.{Words}
use Rattle.rule_text.specs.RuleReading as reading

abbrev pub word : R.Rule → Name
word R.Skip = codes "skip"
word R.Set = codes "set"
word R.Pick = codes "pick"
word R.Call = codes "call"
word R.Throw = codes "throw"
word R.SeqPlain = codes "seq_plain"
word R.SeqTest = codes "seq_test"
word R.Cond = codes "cond"
word R.Guard = codes "guard"
word R.WhilePlain = codes "while_plain"
word R.WhileTest = codes "while_test"
word R.CatchPlain = codes "catch_plain"
word R.CatchTest = codes "catch_test"
word R.CatchSkip = codes "catch_skip"

abbrev pub all_rules : List R.Rule
all_rules = R.Skip ∷ R.Set ∷ R.Pick ∷ R.Call ∷ R.Throw ∷ R.SeqPlain ∷ R.SeqTest ∷ R.Cond ∷ R.Guard ∷ R.WhilePlain ∷ R.WhileTest ∷ R.CatchPlain ∷ R.CatchTest ∷ R.CatchSkip ∷ []

abbrev pub arity : R.Rule → Arity
arity R.Guard = exactly 1
arity R.WhilePlain = exactly 1
arity R.WhileTest = exactly 1
arity R.CatchPlain = exactly 1
arity R.CatchSkip = exactly 1
arity R.SeqPlain = exactly 2
arity R.SeqTest = exactly 2
arity R.Cond = exactly 2
arity R.CatchTest = exactly 2
arity _ = exactly 0

-- what stands behind the word
abbrev pub data_of : R.Rule → Trees
data_of _ = no_trees

abbrev pub text_of : rules.Tree R.Rule → Tree
text_of = rule_tree word data_of

abbrev pub is_tree : rules.Tree R.Rule → Bool
is_tree = text.is_tree arity (λ r. true)

-- trees read as these
abbrev pub words : Words R.Rule
words = record { plain = looked_up word all_rules; arity = arity; given = λ w. None }

abbrev pub tree_at : ℕ → Tree → Read (rules.Tree R.Rule)
tree_at = reading.tree_at words
