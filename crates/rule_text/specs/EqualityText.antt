-- The texts of the rules of equality: some have a program between, or a position.
use Rattle.std.specs.Prelude.{ℕ, ◌^◌, nat_lt, Bool, true, false, List, [], ◌∷◌, Option, Some, None, codes, if◌then◌else◌}
use Rattle.ac_sx.specs.Tree.{Tree, Trees, Atom, no_trees, more}
use Rattle.c_values.specs.Name.{Name, same_name}
use Rattle.expression_text.specs.Reading.{Read, made}
use Rattle.expression_text.specs.Words.{looked_up}
use Rattle.expression_text.specs.Numbers.{natural_at}
use Rattle.std.specs.Fmt.{decimal}
use Rattle.program_text.specs.MonText.{mon_tree, is_mon}
use Rattle.program_text.specs.MonReading.{mon_at}
use Rattle.rule_eq.specs.Rule as R
use Rattle.rule_trees.specs.RuleTree as rules
use Rattle.rule_text.specs.declared.arity.Arity.{Arity}
use Rattle.rule_text.specs.Arities.{exactly}
use Rattle.rule_text.specs.RuleText.{rule_tree}
use Rattle.rule_text.specs.RuleText as text
use Rattle.rule_text.specs.RuleReading.{Given, Words}
use Rattle.rule_text.specs.RuleReading as reading

abbrev pub word : R.Rule → Name
word R.Refl = codes "refl"
word (R.Trans m) = codes "trans"
word R.Bind = codes "bind"
word R.If = codes "if"
word R.Loop = codes "loop"
word (R.RetOne i) = codes "ret_one"
word R.BindRet = codes "bind_ret"
word R.Assoc = codes "assoc"
word R.IfConst = codes "if_const"
word R.GuardKnown = codes "guard_known"
word R.Exp = codes "exp"

-- what stands behind the word
abbrev pub data_of : R.Rule → Trees
data_of (R.Trans m) = more (mon_tree m) no_trees
data_of (R.RetOne i) = more (Atom (decimal i)) no_trees
data_of _ = no_trees

abbrev pub text_of : rules.Tree R.Rule → Tree
text_of = rule_tree word data_of

abbrev pub arity : R.Rule → Arity
arity (R.Trans m) = exactly 2
arity R.Bind = exactly 2
arity R.If = exactly 2
arity R.Loop = exactly 1
arity _ = exactly 0

-- the data have a text
abbrev pub has_text : R.Rule → Bool
has_text (R.Trans m) = is_mon m
has_text (R.RetOne i) = nat_lt i (2 ^ 32)
has_text _ = true

abbrev pub is_tree : rules.Tree R.Rule → Bool
is_tree = text.is_tree arity has_text

-- trees read as these
abbrev pub is_plain : R.Rule → Bool
is_plain (R.Trans m) = false
is_plain (R.RetOne i) = false
is_plain _ = true

abbrev pub plain_rules : List R.Rule
plain_rules =
    R.Refl ∷ R.Bind ∷ R.If ∷ R.Loop ∷ R.BindRet ∷ R.Assoc ∷ R.IfConst ∷ R.GuardKnown ∷ R.Exp ∷ []

abbrev pub given : Name → Option (Given R.Rule)
given w =
    if same_name w (codes "trans") then Some (record { arity = exactly 2; read = λ at t. made (λ m. R.Trans m) (mon_at at t) })
    else if same_name w (codes "ret_one") then Some (record { arity = exactly 0; read = λ at t. made (λ i. R.RetOne i) (natural_at (2 ^ 32) at t) })
    else None

abbrev pub words : Words R.Rule
words = record { plain = looked_up word plain_rules; arity = arity; given = given }

abbrev pub tree_at : ℕ → Tree → Read (rules.Tree R.Rule)
tree_at = reading.tree_at words
