-- The texts of the rules of numbers: some have the kinds of names, or a kind.
use Rattle.std.specs.Prelude.{ℕ, Bool, true, false, List, [], ◌∷◌, Option, Some, None, Err, codes, if◌then◌else◌}
use Rattle.ac_sx.specs.Tree.{Tree, Trees, Atom, Node, no_trees, more}
use Rattle.c_values.specs.Name.{Name, same_name}
use Rattle.expression_text.specs.Reading.{Read, made, next}
use Rattle.expression_text.specs.Words.{looked_up}
use Rattle.expression_lang.specs.Sort.{Kind, is_kind}
use Rattle.expression_text.specs.Lists.{each, trees_for, list_at}
use Rattle.program_text.specs.Kinds.{kind_tree, kind_at}
use Rattle.rule_word.specs.Rule as R
use Rattle.rule_trees.specs.RuleTree as rules
use Rattle.rule_text.specs.declared.arity.Arity.{Arity}
use Rattle.rule_text.specs.Arities.{exactly, at_least, between}
use Rattle.rule_text.specs.RuleText.{rule_tree}
use Rattle.rule_text.specs.RuleText as text
use Rattle.rule_text.specs.RuleReading.{Given, Words}
use Rattle.rule_text.specs.RuleReading as reading

-- the list of these kinds
abbrev pub kinds_tree : List Kind → Tree
kinds_tree ks = Node (trees_for kind_tree ks)

abbrev pub word : R.Rule → Name
word R.Ret = codes "ret"
word R.Guard = codes "guard"
word R.If = codes "if"
word R.Global = codes "global"
word R.Pick = codes "pick"
word R.Write = codes "write"
word (R.Bind ks) = codes "bind"
word (R.Loop ks) = codes "loop"
word R.Call = codes "call"
word R.PickNat = codes "pick_nat"
word R.PickInt = codes "pick_int"
word (R.Recast ks) = codes "recast"
word R.Var = codes "var"
word R.Const = codes "const"
word R.Nat = codes "nat"
word R.Int = codes "int"
word (R.Word k) = codes "word"
word R.Unat = codes "unat"
word R.Sint = codes "sint"
word R.Add = codes "add"
word R.Sub = codes "sub"
word R.Mul = codes "mul"
word R.Neg = codes "neg"
word R.Udiv = codes "udiv"
word R.Umod = codes "umod"
word R.Sdiv = codes "sdiv"
word R.Smod = codes "smod"
word R.Order = codes "order"
word (R.Eq k) = codes "eq"
word R.Zext = codes "zext"
word R.Sext = codes "sext"
word R.Logic = codes "logic"
word R.Cond = codes "cond"
word R.Op = codes "op"

-- what stands behind the word
abbrev pub data_of : R.Rule → Trees
data_of (R.Bind ks) = more (kinds_tree ks) no_trees
data_of (R.Loop ks) = more (kinds_tree ks) no_trees
data_of (R.Recast ks) = more (kinds_tree ks) no_trees
data_of (R.Word k) = more (kind_tree k) no_trees
data_of (R.Eq k) = more (kind_tree k) no_trees
data_of _ = no_trees

abbrev pub text_of : rules.Tree R.Rule → Tree
text_of = rule_tree word data_of

abbrev pub arity : R.Rule → Arity
arity R.Ret = at_least 0
arity R.Guard = exactly 1
arity R.If = exactly 3
arity R.Global = at_least 1
arity R.Pick = exactly 0
arity R.Write = at_least 2
arity (R.Bind ks) = exactly 2
arity (R.Loop ks) = at_least 3
arity R.Call = at_least 0
arity R.PickNat = exactly 0
arity R.PickInt = exactly 0
arity (R.Recast ks) = exactly 1
arity R.Var = exactly 0
arity R.Const = exactly 0
arity R.Nat = exactly 1
arity R.Int = exactly 1
arity (R.Word k) = exactly 1
arity R.Unat = exactly 1
arity R.Sint = exactly 1
arity R.Add = exactly 2
arity R.Sub = exactly 2
arity R.Mul = exactly 2
arity R.Neg = exactly 1
arity R.Udiv = exactly 2
arity R.Umod = exactly 2
arity R.Sdiv = exactly 2
arity R.Smod = exactly 2
arity R.Order = exactly 2
arity (R.Eq k) = exactly 2
arity R.Zext = exactly 1
arity R.Sext = exactly 1
arity R.Logic = between 1 2
arity R.Cond = exactly 3
arity R.Op = at_least 0

-- the data have a text
abbrev pub has_text : R.Rule → Bool
has_text (R.Bind ks) = each is_kind ks
has_text (R.Loop ks) = each is_kind ks
has_text (R.Recast ks) = each is_kind ks
has_text (R.Word k) = is_kind k
has_text (R.Eq k) = is_kind k
has_text _ = true

abbrev pub is_tree : rules.Tree R.Rule → Bool
is_tree = text.is_tree arity has_text

-- trees read as these
abbrev pub is_plain : R.Rule → Bool
is_plain (R.Bind ks) = false
is_plain (R.Loop ks) = false
is_plain (R.Recast ks) = false
is_plain (R.Word k) = false
is_plain (R.Eq k) = false
is_plain _ = true

abbrev pub plain_rules : List R.Rule
plain_rules =
    R.Ret ∷ R.Guard ∷ R.If ∷ R.Global ∷ R.Pick ∷ R.Write ∷ R.Call ∷ R.PickNat ∷ R.PickInt ∷ R.Var ∷ R.Const ∷ R.Nat ∷ R.Int ∷ R.Unat ∷ R.Sint ∷
    R.Add ∷ R.Sub ∷ R.Mul ∷ R.Neg ∷ R.Udiv ∷ R.Umod ∷ R.Sdiv ∷ R.Smod ∷ R.Order ∷ R.Zext ∷ R.Sext ∷ R.Logic ∷ R.Cond ∷ R.Op ∷ []

abbrev pub kinds_at : ℕ → Tree → Read (List Kind)
kinds_at at (Atom w) = Err at
kinds_at at (Node ts) = list_at kind_at (next at) ts

abbrev pub with_kinds : Arity → (List Kind → R.Rule) → Option (Given R.Rule)
with_kinds a rule = Some (record { arity = a; read = λ at t. made rule (kinds_at at t) })

abbrev pub with_kind : Arity → (Kind → R.Rule) → Option (Given R.Rule)
with_kind a rule = Some (record { arity = a; read = λ at t. made rule (kind_at at t) })

abbrev pub given : Name → Option (Given R.Rule)
given w =
    if same_name w (codes "bind") then with_kinds (exactly 2) (λ ks. R.Bind ks)
    else if same_name w (codes "loop") then with_kinds (at_least 3) (λ ks. R.Loop ks)
    else if same_name w (codes "recast") then with_kinds (exactly 1) (λ ks. R.Recast ks)
    else if same_name w (codes "word") then with_kind (exactly 1) (λ k. R.Word k)
    else if same_name w (codes "eq") then with_kind (exactly 2) (λ k. R.Eq k)
    else None

abbrev pub words : Words R.Rule
words = record { plain = looked_up word plain_rules; arity = arity; given = given }

abbrev pub tree_at : ℕ → Tree → Read (rules.Tree R.Rule)
tree_at = reading.tree_at words
