-- What the kernel finds at a node of a tree, and what the walk keeps.
use Rattle.std.proofs.Common.{◌≡◌, ◌↔◌, ◌<◌, ◌≤◌, ℕ, Bool, true, false, List, [], ◌∷◌, length, Result, Ok, Err, refl, sym, subst, ap, ap₂, ◌∙◌, arith}
use Rattle.std.specs.Prelude.{IsTrue}
use Rattle.simpl_lang.specs.Command.{Simpl}
use Rattle.rule_trees.specs.declared.tree.Tree as T
use Rattle.rule_trees.specs.declared.tree.Tree.{out-Tree}
use Rattle.rule_trees.specs.RuleTree.{Tree, Checked, next}
use Rattle.rule_trees.proofs.Walk as walk
use Rattle.rule_exn.specs.declared.rule.Rule as R
use Rattle.rule_exn.specs.Rule.{Rule, ◌to◌}
use Rattle.rule_exn.specs.Table.{row, table}
use Rattle.rule_exn.specs.CodeRow.{arity, claims, first_of, last_of, first_right, last_right}
use Rattle.rule_exn.specs.CodeRule.{rule_of, tree_of}
use Rattle.rule_exn.proofs.Rows.{parts_are_claims}

-- the rule of a tree, and its parts
abbrev pub rule_at : T.Tree R.Rule → Rule
rule_at t = rule_of (out-Tree R.Rule t).rule

abbrev pub parts_at : T.Tree R.Rule → List (T.Tree R.Rule)
parts_at t = (out-Tree R.Rule t).parts.items

abbrev pub Answers : T.Tree R.Rule → Simpl → Simpl → ℕ → Result ℕ ℕ → Type 0
Answers t a c at r = Checked table (tree_of t) (a to c) at r

abbrev pub Says : Bool → T.Tree R.Rule → Simpl → Simpl → Type 0
Says b t a c = IsTrue b ↔ (row (rule_at t) a c).holds

holds_where : (b : Bool) (t : T.Tree R.Rule) (a c : Simpl) → b ≡ true → Says b t a c → (row (rule_at t) a c).holds
holds_where b t a c e i = i.0 e

pub no_instance : (b : Bool) (t : T.Tree R.Rule) (a c : Simpl) (at : ℕ) → b ≡ false → Says b t a c → Checked table (tree_of t) (a to c) at (Err at)
no_instance b t a c at e i = walk.no_instance table rule_of t (a to c) at (λ h. let clash : true ≡ false = sym (i.1 h) ∙ e in cc)

-- a list of no length
pub nothing : {A : Type 0} (xs : List A) → length xs ≡ 0 → xs ≡ []
nothing [] e = refl
nothing (x ∷ xs) e = cc

claims_at : (b : Bool) (t : T.Tree R.Rule) (a c : Simpl) (n : ℕ) → b ≡ true → Says b t a c → n ≡ arity (rule_at t) → (row (rule_at t) a c).parts ≡ claims n (rule_at t) a c
claims_at b t a c n e i k = parts_are_claims (rule_at t) a c (holds_where b t a c e i) ∙ ap (λ m. claims m (rule_at t) a c) (sym k)

pub no_parts : (b : Bool) (t : T.Tree R.Rule) (a c : Simpl) (at : ℕ) → b ≡ true → Says b t a c → 0 ≡ arity (rule_at t) → parts_at t ≡ [] → Checked table (tree_of t) (a to c) at (Ok (next at))
no_parts b t a c at e i k none = walk.no_parts table rule_of t (a to c) at (holds_where b t a c e i) (claims_at b t a c 0 e i k) none

pub some_parts : (b : Bool) (t : T.Tree R.Rule) (a c : Simpl) (n at : ℕ) → b ≡ true → Says b t a c → n ≡ arity (rule_at t) → (length (parts_at t) ≡ length (claims n (rule_at t) a c) → ⊥) → Checked table (tree_of t) (a to c) at (Err at)
some_parts b t a c n at e i k differ = walk.wrong_parts table rule_of t (a to c) (claims n (rule_at t) a c) at (claims_at b t a c n e i k) differ

pub one_part : (b : Bool) (t u : T.Tree R.Rule) (a c : Simpl) (at : ℕ) → b ≡ true → Says b t a c → 1 ≡ arity (rule_at t) → parts_at t ≡ u ∷ [] → (r : Result ℕ ℕ) →
    Checked table (tree_of u) (first_of a to first_right (rule_at t) c) (next at) r → Checked table (tree_of t) (a to c) at r
one_part b t u a c at e i k one = walk.one_part table rule_of t (a to c) (first_of a to first_right (rule_at t) c) u at (holds_where b t a c e i) (claims_at b t a c 1 e i k) one

pub two_parts : (b : Bool) (t u v : T.Tree R.Rule) (a c : Simpl) (at n : ℕ) → b ≡ true → Says b t a c → 2 ≡ arity (rule_at t) → parts_at t ≡ u ∷ v ∷ [] →
    Checked table (tree_of u) (first_of a to first_right (rule_at t) c) (next at) (Ok n) → (r : Result ℕ ℕ) →
    Checked table (tree_of v) (last_of a to last_right (rule_at t) c) n r → Checked table (tree_of t) (a to c) at r
two_parts b t u v a c at n e i k two = walk.two_parts table rule_of t (a to c) (first_of a to first_right (rule_at t) c) (last_of a to last_right (rule_at t) c) u v at n (holds_where b t a c e i) (claims_at b t a c 2 e i k) two

pub first_bad : (b : Bool) (t u v : T.Tree R.Rule) (a c : Simpl) (at n : ℕ) → b ≡ true → Says b t a c → 2 ≡ arity (rule_at t) → parts_at t ≡ u ∷ v ∷ [] →
    Checked table (tree_of u) (first_of a to first_right (rule_at t) c) (next at) (Err n) → Checked table (tree_of t) (a to c) at (Err n)
first_bad b t u v a c at n e i k two = walk.first_bad table rule_of t (a to c) (first_of a to first_right (rule_at t) c) (last_of a to last_right (rule_at t) c) u v at n (holds_where b t a c e i) (claims_at b t a c 2 e i k) two

-- the same claim, at the same number
pub moved : (t : Tree Rule) {a a' c c' : Simpl} {at at' : ℕ} → a' ≡ a → c' ≡ c → at' ≡ at → (r : Result ℕ ℕ) → Checked table t (a to c) at r → Checked table t (a' to c') at' r
moved t {a} {a'} {c} {c'} {at} {at'} e f g r h = subst (λ n. Checked table t (a' to c') n r) (sym g) (subst (λ k. Checked table t k at r) (sym (ap₂ (λ x y. x to y) e f)) h)

pub no_larger : (x y z : ℕ) → x < y → y ≤ z → x ≤ z
no_larger x y z h k = omega arith

pub smaller : (x y z : ℕ) → x < y → y ≤ z → x < z
smaller x y z h k = omega arith
