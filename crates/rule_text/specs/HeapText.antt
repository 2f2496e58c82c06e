-- The texts of the rules of typed heaps: some have an address.
use Rattle.std.specs.Prelude.{ℕ, Bool, true, false, List, [], ◌∷◌, Option, Some, None, codes, if◌then◌else◌}
use Rattle.ac_sx.specs.Tree.{Tree, Trees, no_trees, more}
use Rattle.c_values.specs.Name.{Name, same_name}
use Rattle.expression_text.specs.Reading.{Read, made}
use Rattle.expression_text.specs.Words.{looked_up}
use Rattle.expression_text.specs.ExpText.{exp_tree, is_exp}
use Rattle.expression_text.specs.ExpReading.{exp_at}
use Rattle.rule_heap.specs.Rule as R
use Rattle.rule_trees.specs.RuleTree as rules
use Rattle.rule_text.specs.declared.arity.Arity.{Arity}
use Rattle.rule_text.specs.Arities.{exactly, at_least}
use Rattle.rule_text.specs.RuleText.{rule_tree}
use Rattle.rule_text.specs.RuleText as text
use Rattle.rule_text.specs.RuleReading.{Given, Words}
use Rattle.rule_text.specs.RuleReading as reading

abbrev pub word : R.Rule → Name
word R.Ret = codes "ret"
word R.Bind = codes "bind"
word R.Guard = codes "guard"
word R.If = codes "if"
word R.Global = codes "global"
word R.Loop = codes "loop"
word R.Call = codes "call"
word R.Pick = codes "pick"
word R.Write = codes "write"
word R.Pointer = codes "pointer"
word (R.Drop a) = codes "drop"
word R.Same = codes "same"
word R.Leaf = codes "leaf"
word R.Load = codes "load"
word R.Tagged = codes "tagged"
word R.PtrOk = codes "ptrok"
word R.Op = codes "op"
word R.And = codes "and"
word R.Or = codes "or"
word R.Imp = codes "imp"
word R.Cond = codes "cond"
word (R.Known a) = codes "known"

-- what stands behind the word
abbrev pub data_of : R.Rule → Trees
data_of (R.Drop a) = more (exp_tree a) no_trees
data_of (R.Known a) = more (exp_tree a) no_trees
data_of _ = no_trees

abbrev pub text_of : rules.Tree R.Rule → Tree
text_of = rule_tree word data_of

abbrev pub arity : R.Rule → Arity
arity R.Ret = at_least 0
arity R.Call = at_least 0
arity R.Bind = exactly 2
arity R.Guard = exactly 1
arity R.If = exactly 3
arity R.Global = at_least 1
arity R.Loop = at_least 3
arity R.Pick = exactly 0
arity R.Write = at_least 2
arity R.Pointer = exactly 2
arity (R.Drop a) = exactly 2
arity R.Same = exactly 0
arity R.Leaf = exactly 0
arity R.Load = at_least 1
arity R.Tagged = exactly 1
arity R.PtrOk = exactly 1
arity R.Op = at_least 1
arity R.And = exactly 2
arity R.Or = exactly 2
arity R.Imp = exactly 2
arity R.Cond = exactly 3
arity (R.Known a) = exactly 1

-- the data have a text
abbrev pub has_text : R.Rule → Bool
has_text (R.Drop a) = is_exp a
has_text (R.Known a) = is_exp a
has_text _ = true

abbrev pub is_tree : rules.Tree R.Rule → Bool
is_tree = text.is_tree arity has_text

-- trees read as these
abbrev pub is_plain : R.Rule → Bool
is_plain (R.Drop a) = false
is_plain (R.Known a) = false
is_plain _ = true

abbrev pub plain_rules : List R.Rule
plain_rules =
    R.Ret ∷ R.Bind ∷ R.Guard ∷ R.If ∷ R.Global ∷ R.Loop ∷ R.Call ∷ R.Pick ∷ R.Write ∷ R.Pointer ∷ R.Same ∷
    R.Leaf ∷ R.Load ∷ R.Tagged ∷ R.PtrOk ∷ R.Op ∷ R.And ∷ R.Or ∷ R.Imp ∷ R.Cond ∷ []

abbrev pub given : Name → Option (Given R.Rule)
given w =
    if same_name w (codes "drop") then Some (record { arity = exactly 2; read = λ at t. made (λ a. R.Drop a) (exp_at at t) })
    else if same_name w (codes "known") then Some (record { arity = exactly 1; read = λ at t. made (λ a. R.Known a) (exp_at at t) })
    else None

abbrev pub words : Words R.Rule
words = record { plain = looked_up word plain_rules; arity = arity; given = given }

abbrev pub tree_at : ℕ → Tree → Read (rules.Tree R.Rule)
tree_at = reading.tree_at words
