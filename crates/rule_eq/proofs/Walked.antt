-- What the kernel finds at a node of a tree, and what the walk keeps.
use Rattle.std.proofs.Common.{◌≡◌, ◌↔◌, ◌<◌, ◌≤◌, ◌+◌, ◌*◌, ℕ, suc, Bool, true, false, List, [], ◌∷◌, length, ◌⊎◌, inl, inr, Result, Ok, Err, refl, sym, subst, ap, ◌∙◌, arith, IsTrue}
use Rattle.std.proofs.lemmas.Bool.{false≢true}
use Rattle.ac_expr.specs.Fact.{Whole, NotTrue}
use Rattle.expression_lang.specs.Expression.{Exp}
use Rattle.monad_lang.specs.Program as M
use Rattle.monad_lang.specs.Program.{Mon, Start}
use Rattle.rule_trees.specs.declared.tree.Tree as T
use Rattle.rule_trees.specs.declared.tree.Tree.{out-Tree}
use Rattle.rule_trees.specs.RuleTree.{Checked, next}
use Rattle.rule_trees.specs.CodeTree.{trees_in}
use Rattle.rule_trees.specs.CodeNodes.{nodes, nodes_in}
use Rattle.rule_trees.proofs.WalkedParts as walked_parts
use Rattle.rule_trees.proofs.Walk as walk
use Rattle.rule_eq.specs.declared.rule.Rule as C
use Rattle.rule_eq.specs.Rule as R
use Rattle.rule_eq.specs.Rule.{Rule, Point, Claim, does}
use Rattle.rule_eq.specs.Table.{knowing, within, row, table}
use Rattle.rule_eq.specs.CodeFits.{Fits}
use Rattle.rule_eq.specs.CodeRule.{rule_of, rule_at, tree_of}
use Rattle.rule_eq.specs.CodeSteps.{is_along, is_leaf, left_first, right_first, left_behind, right_behind, point_behind}
use Rattle.rule_eq.proofs.Along.{step_parts, leaf_parts}
use Rattle.rule_eq.proofs.Fitting.{choice_fits, turn_fits}

abbrev pub parts_at : T.Tree C.Rule → List (T.Tree C.Rule)
parts_at t = (out-Tree C.Rule t).parts.items

never : {A : Type 0} (b : Bool) → b ≡ false → b ≡ true → A
never b e f = absurd (false≢true (sym e ∙ f))

module _ (t : T.Tree C.Rule) (at : Point) (a b : Mon) where
  abbrev claim : Claim
  claim = does at a b

  pub refused : (asked : Bool) (from : ℕ) → asked ≡ false → (IsTrue asked ↔ (row at (rule_at t) a b).holds) →
      Checked table (tree_of t) claim from (Err from)
  refused asked from e says = walk.no_instance table rule_of t claim from (λ h. never asked e (says.1 h))

  -- a rule that has no parts
  module _ (leaf : is_leaf (rule_at t) ≡ true) (holds : (row at (rule_at t) a b).holds) where
    pub leaf_done : (from later : ℕ) → length (parts_at t) ≡ 0 → later ≡ next from → Checked table (tree_of t) claim from (Ok later)
    leaf_done from later none e =
        subst (λ n. Checked table (tree_of t) claim from (Ok n)) (sym e)
        (walk.no_parts table rule_of t claim from holds (leaf_parts at (rule_at t) a b leaf) (nothing (parts_at t) none))
      where
        nothing : {A : Type 0} (xs : List A) → length xs ≡ 0 → xs ≡ []
        nothing [] e = refl
        nothing (x ∷ xs) e = absurd (omega arith)

    pub leaf_bad : (from : ℕ) → (length (parts_at t) ≡ 0 → ⊥) → Checked table (tree_of t) claim from (Err from)
    leaf_bad from some = walk.wrong_parts table rule_of t claim [] from (leaf_parts at (rule_at t) a b leaf) some

  -- a rule along a sequence
  module _ (along : is_along (rule_at t) ≡ true) (holds : (row at (rule_at t) a b).holds) where
    pub along_miscounted : (from : ℕ) → (length (parts_at t) ≡ 2 → ⊥) → Checked table (tree_of t) claim from (Err from)
    along_miscounted from differ = walk.wrong_parts table rule_of t claim _ from (step_parts at (rule_at t) a b along holds) differ

    module _ (u v : T.Tree C.Rule) (items : parts_at t ≡ u ∷ v ∷ []) where
      abbrev first : Claim
      first = does at (left_first (rule_at t) a) (right_first (rule_at t) b)

      abbrev last : Claim
      last = does (point_behind (rule_at t) b at) (left_behind (rule_at t) a) (right_behind (rule_at t) b)

      pub along_bad : (from later n : ℕ) → later ≡ next from → Checked table (tree_of u) first later (Err n) →
          Checked table (tree_of t) claim from (Err n)
      along_bad from later n e h =
          walk.first_bad table rule_of t claim first last u v from n holds (step_parts at (rule_at t) a b along holds) items
          (subst (λ j. Checked table (tree_of u) first j (Err n)) e h)

      pub along_onward : (from later n : ℕ) → later ≡ next from → Checked table (tree_of u) first later (Ok n) →
          (r : Result ℕ ℕ) → Checked table (tree_of v) last n r → Checked table (tree_of t) claim from r
      along_onward from later n e h r k =
          walk.two_parts table rule_of t claim first last u v from n holds (step_parts at (rule_at t) a b along holds) items
          (subst (λ j. Checked table (tree_of u) first j (Ok n)) e h) r k

-- a choice

choice_parts : (at : Point) (e e' : Exp) (m n m' n' : Mon) (rule : Rule) → rule ≡ R.If →
    (row at rule (M.If e m n) (M.If e' m' n')).parts ≡ does (knowing (Whole e') at) m m' ∷ does (knowing (NotTrue e') at) n n' ∷ []
choice_parts at e e' m n m' n' rule i =
    ap (λ q. (row at q (M.If e m n) (M.If e' m' n')).parts) i

module _ (t : T.Tree C.Rule) (at : Point) (a b : Mon) (rule : rule_at t ≡ R.If) (holds : (row at (rule_at t) a b).holds)
    (e e' : Exp) (m n m' n' : Mon) (left : a ≡ M.If e m n) (right : b ≡ M.If e' m' n') where
  choice_claims : (row at (rule_at t) a b).parts ≡ does (knowing (Whole e') at) m m' ∷ does (knowing (NotTrue e') at) n n' ∷ []
  choice_claims =
      ap (λ q. (row at (rule_at t) q b).parts) left ∙ ap (λ q. (row at (rule_at t) (M.If e m n) q).parts) right
      ∙ choice_parts at e e' m n m' n' (rule_at t) rule

  pub choice_miscounted : (from : ℕ) → (length (parts_at t) ≡ 2 → ⊥) → Checked table (tree_of t) (does at a b) from (Err from)
  choice_miscounted from differ = walk.wrong_parts table rule_of t (does at a b) _ from choice_claims differ

  pub both_fit : Fits at.setting a b → Fits at.setting m m' × Fits at.setting n n'
  both_fit f =
      choice_fits at.setting e e' m m' n n'
      (subst (λ q. Fits at.setting (M.If e m n) q) right (subst (λ q. Fits at.setting q b) left f))

  module _ (u v : T.Tree C.Rule) (items : parts_at t ≡ u ∷ v ∷ []) where
    pub choice_bad : (from later k : ℕ) → later ≡ next from → Checked table (tree_of u) (does (knowing (Whole e') at) m m') later (Err k) →
        Checked table (tree_of t) (does at a b) from (Err k)
    choice_bad from later k i h =
        walk.first_bad table rule_of t (does at a b) _ _ u v from k holds choice_claims items
        (subst (λ j. Checked table (tree_of u) (does (knowing (Whole e') at) m m') j (Err k)) i h)

    pub choice_onward : (from later k : ℕ) → later ≡ next from → Checked table (tree_of u) (does (knowing (Whole e') at) m m') later (Ok k) →
        (r : Result ℕ ℕ) → Checked table (tree_of v) (does (knowing (NotTrue e') at) n n') k r → Checked table (tree_of t) (does at a b) from r
    choice_onward from later k i h r w =
        walk.two_parts table rule_of t (does at a b) _ _ u v from k holds choice_claims items
        (subst (λ j. Checked table (tree_of u) (does (knowing (Whole e') at) m m') j (Ok k)) i h) r w

-- a loop

module _ (t : T.Tree C.Rule) (at : Point) (a b : Mon) (rule : rule_at t ≡ R.Loop) (holds : (row at (rule_at t) a b).holds)
    (starts starts' : List Start) (guard guard' test test' : Exp) (m m' : Mon)
    (left : a ≡ M.Loop starts guard test m) (right : b ≡ M.Loop starts' guard' test' m') where
  abbrev inside : Claim
  inside = does (within starts' (Whole test' ∷ Whole guard' ∷ []) at) m m'

  turn_claims : (row at (rule_at t) a b).parts ≡ inside ∷ []
  turn_claims =
      ap (λ q. (row at (rule_at t) q b).parts) left ∙ ap (λ q. (row at (rule_at t) (M.Loop starts guard test m) q).parts) right
      ∙ ap (λ q. (row at q (M.Loop starts guard test m) (M.Loop starts' guard' test' m')).parts) rule

  pub turn_miscounted : (from : ℕ) → (length (parts_at t) ≡ 1 → ⊥) → Checked table (tree_of t) (does at a b) from (Err from)
  turn_miscounted from differ = walk.wrong_parts table rule_of t (does at a b) _ from turn_claims differ

  pub body_fits : Fits at.setting a b → Fits (within starts' (Whole test' ∷ Whole guard' ∷ []) at).setting m m'
  body_fits f =
      turn_fits at starts starts' guard guard' test test' m m' (Whole test' ∷ Whole guard' ∷ [])
      (subst (λ q. Fits at.setting (M.Loop starts guard test m) q) right (subst (λ q. Fits at.setting q b) left f))

  pub turn_onward : (u : T.Tree C.Rule) → parts_at t ≡ u ∷ [] → (from later : ℕ) (r : Result ℕ ℕ) → later ≡ next from →
      Checked table (tree_of u) inside later r → Checked table (tree_of t) (does at a b) from r
  turn_onward u items from later r i h =
      walk.one_part table rule_of t (does at a b) inside u from holds turn_claims items r
      (subst (λ j. Checked table (tree_of u) inside j r) i h)

-- which sides and which rules are left

choice_there : (at : Point) (a b : Mon) → (row at R.If a b).holds →
    ((e : Exp) (m n : Mon) → a ≡ M.If e m n → ⊥) ⊎ ((e : Exp) (m n : Mon) → b ≡ M.If e m n → ⊥) → ⊥
choice_there at (M.If e m n) (M.If e' m' n') h (inl out) = out e m n refl
choice_there at (M.If e m n) (M.If e' m' n') h (inr out) = out e' m' n' refl
choice_there at a b h out = absurd h

turn_there : (at : Point) (a b : Mon) → (row at R.Loop a b).holds →
    ((starts : List Start) (guard test : Exp) (m : Mon) → a ≡ M.Loop starts guard test m → ⊥)
    ⊎ ((starts : List Start) (guard test : Exp) (m : Mon) → b ≡ M.Loop starts guard test m → ⊥) → ⊥
turn_there at (M.Loop starts guard test m) (M.Loop starts' guard' test' m') h (inl out) = out starts guard test m refl
turn_there at (M.Loop starts guard test m) (M.Loop starts' guard' test' m') h (inr out) = out starts' guard' test' m' refl
turn_there at a b h out = absurd h

module _ (at : Point) (rule : Rule) (a b : Mon) where
  pub choice_left : rule ≡ R.If → (row at rule a b).holds → ((e : Exp) (m n : Mon) → a ≡ M.If e m n → ⊥) → ⊥
  choice_left i h out = choice_there at a b (subst (λ q. (row at q a b).holds) i h) (inl out)

  pub choice_right : rule ≡ R.If → (row at rule a b).holds → ((e : Exp) (m n : Mon) → b ≡ M.If e m n → ⊥) → ⊥
  choice_right i h out = choice_there at a b (subst (λ q. (row at q a b).holds) i h) (inr out)

  pub turn_left : rule ≡ R.Loop → (row at rule a b).holds →
      ((starts : List Start) (guard test : Exp) (m : Mon) → a ≡ M.Loop starts guard test m → ⊥) → ⊥
  turn_left i h out = turn_there at a b (subst (λ q. (row at q a b).holds) i h) (inl out)

  pub turn_right : rule ≡ R.Loop → (row at rule a b).holds →
      ((starts : List Start) (guard test : Exp) (m : Mon) → b ≡ M.Loop starts guard test m → ⊥) → ⊥
  turn_right i h out = turn_there at a b (subst (λ q. (row at q a b).holds) i h) (inr out)

-- measures

pub two_less : (t u v : T.Tree C.Rule) → parts_at t ≡ u ∷ v ∷ [] →
    (nodes (tree_of u) < nodes (tree_of t)) × (nodes (tree_of v) < nodes (tree_of t))
two_less t u v items =
    let count : nodes (tree_of t) ≡ suc (nodes (tree_of u) + (nodes (tree_of v) + 0)) =
    walked_parts.node_count {Claim = Claim} (λ rule c. record { holds = ⊥; parts = [] }) rule_of t
    ∙ ap (λ us. suc (nodes_in (trees_in rule_of us))) items in
    (omega arith, omega arith)

pub one_less : (t u : T.Tree C.Rule) → parts_at t ≡ u ∷ [] → nodes (tree_of u) < nodes (tree_of t)
one_less t u items =
    let count : nodes (tree_of t) ≡ suc (nodes (tree_of u) + 0) =
    walked_parts.node_count {Claim = Claim} (λ rule c. record { holds = ⊥; parts = [] }) rule_of t
    ∙ ap (λ us. suc (nodes_in (trees_in rule_of us))) items in
    omega arith

pub below_by : (x y z k j : ℕ) → x < y → y ≤ z → k < 8 → 8 * x + k < 8 * z + j
below_by x y z k j h i l = omega arith

pub no_larger : (x y z : ℕ) → x < y → y ≤ z → x ≤ z
no_larger x y z h k = omega arith
