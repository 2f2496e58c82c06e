-- Trees of rules over any table of rules, as derivations of a natural-deduction system are. A table says of each rule and each
-- claim what has to hold for the claim to be an instance of the rule, and which claims are left to the parts. What is
-- claimed is for the table to say: for the rules of a phase, that a right side stands for a left side.
use Rattle.std.specs.Prelude.{◌≡◌, ℕ, suc, ◌+◌, ◌-◌, ◌^◌, min, List, [], ◌∷◌, length, ◌⊎◌, Result, Ok, Err}

mutual
  -- a rule, and a tree for each of its parts
  pub data Tree (Rule : Type 0) : Type 0 where
    node : Rule → Trees Rule → Tree Rule

  pub data Trees (Rule : Type 0) : Type 0 where
    no_trees : Trees Rule
    tree : Tree Rule → Trees Rule → Trees Rule

abbrev pub count : {Rule : Type 0} → Trees Rule → ℕ
count no_trees = 0
count (tree t ts) = suc (count ts)

-- what a rule asks of a claim, and what it leaves to the parts, in order
pub record Row (Claim : Type 0) : Type 1 where
  pub holds : Type 0
  pub parts : List Claim

abbrev pub asks : {Claim : Type 0} → Type 0 → List Claim → Row Claim
asks holds parts = record { holds = holds; parts = parts }

-- the claim is of another form
abbrev pub no_row : {Claim : Type 0} → Row Claim
no_row = record { holds = ⊥; parts = [] }

abbrev pub Table : Type 0 → Type 0 → Type 1
Table Rule Claim = Rule → Claim → Row Claim

-- the node is an instance of its rule: what is asked holds, and there is a tree for each part
pub record IsInstance {Rule Claim : Type 0} (row : Row Claim) (trees : Trees Rule) : Type 0 where
  pub holds : row.holds
  pub parts : count trees ≡ length row.parts

abbrev mutual
  -- each node is an instance of its rule
  pub Accepts : {Rule Claim : Type 0} → Table Rule Claim → Tree Rule → Claim → Type 0
  Accepts table (node rule trees) c = (table rule c).holds × AcceptsAll table trees (table rule c).parts

  pub AcceptsAll : {Rule Claim : Type 0} → Table Rule Claim → Trees Rule → List Claim → Type 0
  AcceptsAll table no_trees [] = Unit {0}
  AcceptsAll table (tree t ts) (c ∷ cs) = Accepts table t c × AcceptsAll table ts cs
  AcceptsAll table no_trees (c ∷ cs) = ⊥
  AcceptsAll table (tree t ts) [] = ⊥

-- Nodes are numbered in preorder. Past the last number of 32 bits every node has that number.
abbrev pub last_number : ℕ
last_number = 2 ^ 32 - 1

abbrev pub next : ℕ → ℕ
next at = min (at + 1) last_number

abbrev mutual
  -- Numbered from `at`, the nodes end before a number, or one is the first that is no instance of its rule.
  pub Checked : {Rule Claim : Type 0} → Table Rule Claim → Tree Rule → Claim → ℕ → Result ℕ ℕ → Type 0
  Checked table (node rule trees) c at r =
      (IsInstance (table rule c) trees × AllChecked table trees (table rule c).parts (next at) r) ⊎ ((IsInstance (table rule c) trees → ⊥) × (r ≡ Err at))

  -- one after the other, until one has such a node
  pub AllChecked : {Rule Claim : Type 0} → Table Rule Claim → Trees Rule → List Claim → ℕ → Result ℕ ℕ → Type 0
  AllChecked table no_trees [] at r = r ≡ Ok at
  AllChecked table (tree t ts) (c ∷ cs) at r =
      ((n : ℕ) × Checked table t c at (Ok n) × AllChecked table ts cs n r) ⊎ ((n : ℕ) × Checked table t c at (Err n) × (r ≡ Err n))
  AllChecked table no_trees (c ∷ cs) at r = ⊥
  AllChecked table (tree t ts) [] at r = ⊥

-- what a checker answers: every node is an instance, or this one is the first that isn't
abbrev pub IsVerdict : {Rule Claim : Type 0} → Table Rule Claim → Tree Rule → Claim → Result (Unit {0}) ℕ → Type 0
IsVerdict table t c (Ok done) = Accepts table t c
IsVerdict table t c (Err n) = Checked table t c 0 (Err n)

-- what holds of each claim
abbrev pub AllHold : {Claim : Type 0} → (Claim → Type 1) → List Claim → Type 1
AllHold P [] = Unit {1}
AllHold P (c ∷ cs) = P c × AllHold P cs

-- what holds of the parts' claims holds of each instance's claim
abbrev pub Preserves : {Rule Claim : Type 0} → Table Rule Claim → (Claim → Type 1) → Type 1
Preserves {Rule} {Claim} table P = (rule : Rule) (c : Claim) → (table rule c).holds → AllHold P (table rule c).parts → P c
