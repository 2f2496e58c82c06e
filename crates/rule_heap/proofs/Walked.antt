-- What the kernel finds at a node of a tree, and what the walk keeps.
use Rattle.std.proofs.Common.{◌≡◌, ◌↔◌, ◌<◌, ◌≤◌, ◌+◌, ◌*◌, ℕ, suc, Bool, true, false, List, [], ◌∷◌, ◌++◌, length, Result, Ok, Err, sym, subst, ap, ap₂, ◌∙◌, arith, IsTrue, inl}
use Rattle.std.proofs.lemmas.Bool.{false≢true}
use Rattle.c_values.specs.Layout.{Layout}
use Rattle.expression_lang.specs.Expression.{Exp}
use Rattle.ac_expr.specs.Fact.{Fact}
use Rattle.monad_lang.specs.Program.{Mon}
use Rattle.rule_trees.specs.declared.tree.Tree as T
use Rattle.rule_trees.specs.declared.tree.Tree.{out-Tree}
use Rattle.rule_trees.specs.RuleTree.{Checked, AllChecked, next}
use Rattle.rule_trees.specs.CodeTree.{trees_in}
use Rattle.rule_trees.specs.CodeNodes.{nodes, nodes_in}
use Rattle.rule_trees.proofs.WalkedParts as walked_parts
use Rattle.rule_trees.proofs.Walk as walk
use Rattle.rule_heap.specs.declared.rule.Rule as C
use Rattle.rule_heap.specs.Rule.{Rule, Claim, OfExp}
use Rattle.rule_heap.specs.Table.{table, each, row, exp_row}
use Rattle.rule_heap.specs.CodeParts.{firsts, rights, exp_thens, program_exps, program_thens, is_flat}
use Rattle.rule_heap.specs.CodeRule.{rule_of, rule_at, tree_of}
use Rattle.rule_heap.proofs.Rows.{exp_parts, program_parts}

abbrev pub parts_at : T.Tree C.Rule → List (T.Tree C.Rule)
parts_at t = (out-Tree C.Rule t).parts.items

pub never : {A : Type 0} (b : Bool) → b ≡ false → b ≡ true → A
never b e f = absurd (false≢true (sym e ∙ f))

module _ (l : Layout) (t : T.Tree C.Rule) (c : Claim) where
  -- the claims of the parts, as the code goes along them
  abbrev Parts : List Claim → Type 0
  Parts cs = (table l (rule_at t) c).parts ≡ cs

  pub refused : (b : Bool) (at : ℕ) → b ≡ false → (IsTrue b ↔ (table l (rule_at t) c).holds) → Checked (table l) (tree_of t) c at (Err at)
  refused b at e says = walk.no_instance (table l) rule_of t c at (λ h. never b e (says.1 h))

  pub unmatched : (cs : List Claim) (ts : List (T.Tree C.Rule)) (b : Bool) (at : ℕ) → Parts cs → parts_at t ≡ ts → b ≡ false → (IsTrue b ↔ (length ts ≡ length cs)) → Checked (table l) (tree_of t) c at (Err at)
  unmatched cs ts b at parts items e says = walk.wrong_parts (table l) rule_of t c cs at parts (λ same. never b e (says.1 (sym (ap length items) ∙ same)))

  pub miscounted : (cs : List Claim) (at : ℕ) → Parts cs → (length (parts_at t) ≡ length cs → ⊥) → Checked (table l) (tree_of t) c at (Err at)
  miscounted cs at parts differ = walk.wrong_parts (table l) rule_of t c cs at parts differ

  pub decided : (cs : List Claim) (ts : List (T.Tree C.Rule)) (at later : ℕ) (r : Result ℕ ℕ) → (table l (rule_at t) c).holds → Parts cs → parts_at t ≡ ts → length ts ≡ length cs → later ≡ next at →
      AllChecked (table l) (trees_in rule_of ts) cs later r → Checked (table l) (tree_of t) c at r
  decided cs ts at later r holds parts items same e h =
      walked_parts.all_by_parts (table l) rule_of t c cs ts at r holds parts items same (subst (λ n. AllChecked (table l) (trees_in rule_of ts) cs n r) e h)

-- the claims of a row by what the code makes of both sides
pub exp_claims : (l : Layout) (fs : List Fact) (rule : Rule) (a b : Exp) (xs ys : List Exp) (zs : List Claim) → (exp_row l fs rule a b).holds → xs ≡ firsts a → ys ≡ rights rule b → zs ≡ exp_thens fs a b →
    (exp_row l fs rule a b).parts ≡ each fs xs ys ++ zs
exp_claims l fs rule a b xs ys zs h e f g = exp_parts l fs rule a b h ∙ sym (ap₂ (λ cs ds. cs ++ ds) (ap₂ (λ x y. each fs x y) e f) g)

pub program_claims : (l : Layout) (fs : List Fact) (rule : Rule) (a b : Mon) (xs ys : List Exp) (zs : List Claim) → is_flat rule ≡ true → (row l fs rule a b).holds → xs ≡ program_exps a → ys ≡ program_exps b → zs ≡ program_thens fs a b →
    (row l fs rule a b).parts ≡ each fs xs ys ++ zs
program_claims l fs rule a b xs ys zs f h e g i = program_parts l fs rule a b f h ∙ sym (ap₂ (λ cs ds. cs ++ ds) (ap₂ (λ x y. each fs x y) e g) i)

-- measures
pub parts_less : (t : T.Tree C.Rule) (ts : List (T.Tree C.Rule)) (k : ℕ) → 1 ≤ k → parts_at t ≡ ts → 8 * nodes_in (trees_in rule_of ts) + 6 < 8 * nodes (tree_of t) + k
parts_less t ts k p items =
    let count : nodes (tree_of t) ≡ suc (nodes_in (trees_in rule_of ts)) = walked_parts.node_count {Claim = Claim} (λ rule c. record { holds = ⊥; parts = [] }) rule_of t ∙ ap (λ us. suc (nodes_in (trees_in rule_of us))) items in
    omega arith

-- along the parts
pub another : (l : Layout) (part : T.Tree C.Rule) (ts us : List (T.Tree C.Rule)) (c : Claim) (cs ds : List Claim) (at n : ℕ) (r : Result ℕ ℕ) → us ≡ part ∷ ts → ds ≡ c ∷ cs →
    Checked (table l) (tree_of part) c at (Ok n) → AllChecked (table l) (trees_in rule_of ts) cs n r → AllChecked (table l) (trees_in rule_of us) ds at r
another l part ts us c cs ds at n r e f h k =
    subst (λ vs. AllChecked (table l) (trees_in rule_of vs) ds at r) (sym e) (subst (λ es. AllChecked (table l) (trees_in rule_of (part ∷ ts)) es at r) (sym f) (inl (n, h, k)))

pub pair_first : (fs : List Fact) (a b : Exp) (xs ys xs' ys' : List Exp) (zs : List Claim) → xs' ≡ a ∷ xs → ys' ≡ b ∷ ys → each fs xs' ys' ++ zs ≡ OfExp fs a b ∷ (each fs xs ys ++ zs)
pair_first fs a b xs ys xs' ys' zs e f = ap₂ (λ x y. each fs x y ++ zs) e f

pub one_less : {A B : Type 0} (x : A) (y : B) (xs xs' : List A) (ys ys' : List B) → xs' ≡ x ∷ xs → ys' ≡ y ∷ ys → length xs' ≡ length ys' → length xs ≡ length ys
one_less x y xs xs' ys ys' e f h = let more : suc (length xs) ≡ suc (length ys) = sym (ap length e) ∙ h ∙ ap length f in omega arith

pub fewer : (part : T.Tree C.Rule) (ts us : List (T.Tree C.Rule)) (n : ℕ) → us ≡ part ∷ ts → nodes_in (trees_in rule_of us) ≤ n → nodes_in (trees_in rule_of ts) ≤ n
fewer part ts us n e h =
    let count : nodes_in (trees_in rule_of us) ≡ nodes (tree_of part) + nodes_in (trees_in rule_of ts) = ap (λ vs. nodes_in (trees_in rule_of vs)) e in omega arith
