-- What the kernel finds along a sequence.
use Rattle.std.proofs.Common.{◌≡◌, ◌<◌, ◌≤◌, ◌+◌, ◌*◌, ℕ, zero, suc, true, List, [], ◌∷◌, length, Result, Ok, Err, None, refl, sym, subst, ap, ap₂, ◌∙◌, arith}
use Rattle.c_values.specs.Layout.{Layout}
use Rattle.expression_lang.specs.Expression as E
use Rattle.ac_expr.specs.Fact.{Fact}
use Rattle.ac_expr.specs.Passed.{Part, passed, after}
use Rattle.monad_lang.specs.Program as M
use Rattle.monad_lang.specs.Program.{Mon}
use Rattle.program_facts.specs.Flow.{parts, facts_after}
use Rattle.rule_trees.specs.declared.tree.Tree as T
use Rattle.rule_trees.specs.RuleTree.{Checked, next}
use Rattle.rule_trees.specs.CodeTree.{trees_in}
use Rattle.rule_trees.specs.CodeNodes.{nodes, nodes_in}
use Rattle.rule_trees.proofs.WalkedParts as walked_parts
use Rattle.rule_trees.proofs.Walk as walk
use Rattle.rule_heap.specs.declared.rule.Rule as C
use Rattle.rule_heap.specs.Rule as R
use Rattle.rule_heap.specs.Rule.{Rule, Claim, OfExp, OfProgram}
use Rattle.rule_heap.specs.Table.{table, row}
use Rattle.rule_heap.specs.CodeParts.{is_step, step_claim, passes, rest_of, left_behind, right_behind, address}
use Rattle.rule_heap.specs.CodeRule.{rule_of, rule_at, tree_of}
use Rattle.rule_heap.proofs.Walked.{parts_at}

pub nothing : {A : Type 0} (xs : List A) → length xs ≡ 0 → xs ≡ []
nothing [] e = refl
nothing (x ∷ xs) e = absurd (omega arith)

pub same_parts : (l : Layout) (fs : List Fact) (rule : Rule) (a b : Mon) → rule ≡ R.Same → (row l fs rule a b).parts ≡ []
same_parts l fs rule a b e = subst (λ q. (row l fs q a b).parts ≡ []) (sym e) refl

pub pointer_right : (l : Layout) (fs : List Fact) (a b : Mon) → (row l fs R.Pointer a b).holds → address b ≡ None → ⊥
pointer_right l fs (M.Bind (M.Guard (E.PtrOk t p)) [] (M.Bind (M.Guard (E.Tagged u q)) [] m)) (M.Bind (M.Guard (E.Tagged v p')) [] m') h e = cc
pointer_right l fs a b h e = absurd h

-- the claims of a rule that goes along a sequence
pub step_parts : (l : Layout) (fs : List Fact) (rule : Rule) (a b : Mon) → is_step rule ≡ true → (row l fs rule a b).holds →
    (row l fs rule a b).parts ≡ step_claim fs rule a b ∷ OfProgram (passed (passes rule) (parts b) fs) (left_behind rule a) (right_behind rule b) ∷ []
step_parts l fs R.Bind (M.Bind m xs n) (M.Bind m' xs' n') s h = ap (λ ys. OfProgram fs m m' ∷ OfProgram (facts_after m' ys fs) n n' ∷ []) (sym h)
step_parts l fs R.Pointer (M.Bind (M.Guard (E.PtrOk t p)) [] (M.Bind (M.Guard (E.Tagged u q)) [] m)) (M.Bind (M.Guard (E.Tagged v p')) [] m') s h =
    ap (λ w. OfExp fs p p' ∷ OfProgram (facts_after (M.Guard (E.Tagged w p')) [] fs) m m' ∷ []) (sym h.2)
step_parts l fs (R.Drop q) (M.Bind (M.Guard (E.PtrOk t p)) [] m) m' s h = refl
step_parts l fs R.Ret a b s h = cc
step_parts l fs R.Guard a b s h = cc
step_parts l fs R.If a b s h = cc
step_parts l fs R.Global a b s h = cc
step_parts l fs R.Loop a b s h = cc
step_parts l fs R.Call a b s h = cc
step_parts l fs R.Pick a b s h = cc
step_parts l fs R.Write a b s h = cc
step_parts l fs R.Same a b s h = cc
step_parts l fs rule a b s h = absurd h

-- so many parts more
passed_none : (k : ℕ) (fs : List Fact) → passed k [] fs ≡ fs
passed_none zero fs = refl
passed_none (suc k) fs = refl

passed_more : (n k : ℕ) (ps : List Part) (fs : List Fact) → passed k (rest_of n ps) (passed n ps fs) ≡ passed (n + k) ps fs
passed_more zero k ps fs = let e : k ≡ 0 + k = omega arith in ap (λ j. passed j ps fs) e
passed_more (suc n) k [] fs = passed_none k fs ∙ sym (passed_none (suc n + k) fs)
passed_more (suc n) k (p ∷ ps) fs =
    let e : suc (n + k) ≡ suc n + k = omega arith in passed_more n k ps (after p fs) ∙ ap (λ j. passed j (p ∷ ps) fs) e

rest_none : (k : ℕ) → rest_of k [] ≡ []
rest_none zero = refl
rest_none (suc k) = refl

rest_more : (n k : ℕ) (ps : List Part) → rest_of k (rest_of n ps) ≡ rest_of (n + k) ps
rest_more zero k ps = let e : k ≡ 0 + k = omega arith in ap (λ j. rest_of j ps) e
rest_more (suc n) k [] = rest_none k ∙ sym (rest_none (suc n + k))
rest_more (suc n) k (p ∷ ps) = let e : suc (n + k) ≡ suc n + k = omega arith in rest_more n k ps ∙ ap (λ j. rest_of j (p ∷ ps)) e

parts_behind : (rule : Rule) (m : Mon) → parts (right_behind rule m) ≡ rest_of (passes rule) (parts m)
parts_behind (R.Drop q) m = refl
parts_behind rule (M.Bind m xs n) = refl
parts_behind rule m = refl

pub left_over : (rule : Rule) (m m' : Mon) (count k : ℕ) (ps : List Part) → m' ≡ right_behind rule m → k ≡ passes rule → parts m ≡ rest_of count ps → parts m' ≡ rest_of (count + k) ps
left_over rule m m' count k ps e f h =
    ap parts e ∙ parts_behind rule m ∙ ap (λ j. rest_of j (parts m)) (sym f) ∙ ap (λ qs. rest_of k qs) h ∙ rest_more count k ps

pub known_behind : (fs base : List Fact) (m : Mon) (count k : ℕ) (ps : List Part) → fs ≡ passed count ps base → parts m ≡ rest_of count ps → passed k (parts m) fs ≡ passed (count + k) ps base
known_behind fs base m count k ps e h = ap₂ (λ qs gs. passed k qs gs) h e ∙ passed_more count k ps base

module _ (l : Layout) (fs : List Fact) (t : T.Tree C.Rule) (a b : Mon) (step : is_step (rule_at t) ≡ true) (holds : (row l fs (rule_at t) a b).holds) where
  pub miscounted : (at : ℕ) → (length (parts_at t) ≡ 2 → ⊥) → Checked (table l) (tree_of t) (OfProgram fs a b) at (Err at)
  miscounted at differ = walk.wrong_parts (table l) rule_of t (OfProgram fs a b) _ at (step_parts l fs (rule_at t) a b step holds) differ

  module _ (u v : T.Tree C.Rule) (items : parts_at t ≡ u ∷ v ∷ []) where
    pub bad_step : (at later n : ℕ) → later ≡ next at → Checked (table l) (tree_of u) (step_claim fs (rule_at t) a b) later (Err n) → Checked (table l) (tree_of t) (OfProgram fs a b) at (Err n)
    bad_step at later n e h =
        walk.first_bad (table l) rule_of t (OfProgram fs a b) (step_claim fs (rule_at t) a b) _ u v at n holds (step_parts l fs (rule_at t) a b step holds) items
        (subst (λ j. Checked (table l) (tree_of u) (step_claim fs (rule_at t) a b) j (Err n)) e h)

    -- what is left decides
    pub onward : (gs : List Fact) (a' b' : Mon) (k at later n : ℕ) → k ≡ passes (rule_at t) → gs ≡ passed k (parts b) fs → a' ≡ left_behind (rule_at t) a → b' ≡ right_behind (rule_at t) b → later ≡ next at →
        Checked (table l) (tree_of u) (step_claim fs (rule_at t) a b) later (Ok n) → (r : Result ℕ ℕ) → Checked (table l) (tree_of v) (OfProgram gs a' b') n r → Checked (table l) (tree_of t) (OfProgram fs a b) at r
    onward gs a' b' k at later n i g e f j h r w =
        walk.two_parts (table l) rule_of t (OfProgram fs a b) (step_claim fs (rule_at t) a b) (OfProgram (passed (passes (rule_at t)) (parts b) fs) (left_behind (rule_at t) a) (right_behind (rule_at t) b)) u v at n holds
        (step_parts l fs (rule_at t) a b step holds) items
        (subst (λ m. Checked (table l) (tree_of u) (step_claim fs (rule_at t) a b) m (Ok n)) j h) r
        (subst (λ hs. Checked (table l) (tree_of v) (OfProgram hs (left_behind (rule_at t) a) (right_behind (rule_at t) b)) n r) (g ∙ ap (λ m. passed m (parts b) fs) i)
        (subst (λ x. Checked (table l) (tree_of v) (OfProgram gs x (right_behind (rule_at t) b)) n r) e (subst (λ x. Checked (table l) (tree_of v) (OfProgram gs a' x) n r) f w)))

pub two_less : (t u v : T.Tree C.Rule) → parts_at t ≡ u ∷ v ∷ [] → (nodes (tree_of u) < nodes (tree_of t)) × (nodes (tree_of v) < nodes (tree_of t))
two_less t u v items =
    let count : nodes (tree_of t) ≡ suc (nodes (tree_of u) + (nodes (tree_of v) + 0)) = walked_parts.node_count {Claim = Claim} (λ rule c. record { holds = ⊥; parts = [] }) rule_of t ∙ ap (λ us. suc (nodes_in (trees_in rule_of us))) items in
    (omega arith, omega arith)

pub below_by : (x y z k : ℕ) → x < y → y ≤ z → k < 10 → 8 * x + k < 8 * z + 2
below_by x y z k h i j = omega arith

pub no_larger : (x y z : ℕ) → x < y → y ≤ z → x ≤ z
no_larger x y z h k = omega arith
