-- What the kernel finds at a node of a tree, and what the walk keeps.
use Rattle.std.proofs.Common.{◌≡◌, ◌↔◌, ◌<◌, ◌≤◌, ℕ, suc, Bool, true, false, List, [], ◌∷◌, length, Result, Ok, Err, refl, sym, subst, ap, ◌∙◌, arith}
use Rattle.std.specs.Prelude.{IsTrue}
use Rattle.c_values.specs.Name.{Name}
use Rattle.simpl_lang.specs.Command.{Simpl}
use Rattle.monad_lang.specs.Program.{Mon}
use Rattle.rule_trees.specs.declared.tree.Tree as T
use Rattle.rule_trees.specs.declared.tree.Tree.{out-Tree}
use Rattle.rule_trees.specs.RuleTree.{Tree, Accepts, Checked, next}
use Rattle.rule_trees.specs.CodeTree.{trees_in}
use Rattle.rule_trees.proofs.Parts.{tree_parts}
use Rattle.rule_trees.proofs.Walk as walk
use Rattle.rule_local.specs.declared.rule.Rule as R
use Rattle.rule_local.specs.declared.rule.Asks as A
use Rattle.rule_local.specs.Rule.{Rule, Context, Claim, whole}
use Rattle.rule_local.specs.Table.{table, AllFreeAmong}
use Rattle.rule_local.specs.CodeRow.{arity, has_parts, claim, claims, first_claim, last_claim, forms, table_of}
use Rattle.rule_local.specs.CodeUses.{LosesNone}
use Rattle.rule_local.specs.CodeRule.{rule_of, tree_of}
use Rattle.rule_local.proofs.Rows as rows
use Rattle.rule_local.proofs.FormsTaken as taken

-- the rule of a tree, and its parts
abbrev pub rule_at : T.Tree R.Rule → Rule
rule_at t = rule_of (out-Tree R.Rule t).rule

abbrev pub parts_at : T.Tree R.Rule → List (T.Tree R.Rule)
parts_at t = (out-Tree R.Rule t).parts.items

abbrev pub Answers : A.Asks → Context → T.Tree R.Rule → Claim → ℕ → Result ℕ ℕ → Type 0
Answers asks ctx t c at r = Checked (table_of asks ctx) (tree_of t) c at r

abbrev pub Says : Bool → A.Asks → Context → T.Tree R.Rule → Claim → Type 0
Says b asks ctx t c = IsTrue b ↔ (table_of asks ctx (rule_at t) c).holds

parts_are_claims : (asks : A.Asks) (ctx : Context) (rule : Rule) (c : Claim) → (table_of asks ctx rule c).holds → (table_of asks ctx rule c).parts ≡ claims (arity rule) rule c
parts_are_claims A.TheVariants.All ctx rule c h = rows.parts_are_claims ctx c.is_whole c.outputs rule c.left c.right h.0
parts_are_claims A.TheVariants.Forms ctx rule c h = refl

has_some_parts : (asks : A.Asks) (ctx : Context) (rule : Rule) (c : Claim) (n : ℕ) → (table_of asks ctx rule c).holds → arity rule ≡ suc n → has_parts c.right ≡ true
has_some_parts A.TheVariants.All ctx rule c n h k = rows.some_parts ctx c.is_whole c.outputs rule c.left c.right n (rows.fits_of ctx c.is_whole c.outputs rule c.left c.right h.0) k
has_some_parts A.TheVariants.Forms ctx rule c n h k = rows.some_parts ctx c.is_whole c.outputs rule c.left c.right n h k

-- a list of no length
pub nothing : {A : Type 0} (xs : List A) → length xs ≡ 0 → xs ≡ []
nothing [] e = refl
nothing (x ∷ xs) e = cc

module _ (asks : A.Asks) (ctx : Context) (b : Bool) (t : T.Tree R.Rule) (c : Claim) where
  pub no_instance : (at : ℕ) → b ≡ false → Says b asks ctx t c → Answers asks ctx t c at (Err at)
  no_instance at e i = walk.no_instance (table_of asks ctx) rule_of t c at (λ h. let clash : true ≡ false = sym (i.1 h) ∙ e in cc)

  module _ (holds : b ≡ true) (says : Says b asks ctx t c) where
    claims_at : (n : ℕ) → n ≡ arity (rule_at t) → (table_of asks ctx (rule_at t) c).parts ≡ claims n (rule_at t) c
    claims_at n k = parts_are_claims asks ctx (rule_at t) c (says.0 holds) ∙ ap (λ m. claims m (rule_at t) c) (sym k)

    pub has_some : (n : ℕ) → suc n ≡ arity (rule_at t) → has_parts c.right ≡ true
    has_some n k = has_some_parts asks ctx (rule_at t) c n (says.0 holds) (sym k)

    pub no_parts : (at : ℕ) → 0 ≡ arity (rule_at t) → parts_at t ≡ [] → Answers asks ctx t c at (Ok (next at))
    no_parts at k none = walk.no_parts (table_of asks ctx) rule_of t c at (says.0 holds) (claims_at 0 k) none

    pub some_parts : (n at : ℕ) → n ≡ arity (rule_at t) → (length (parts_at t) ≡ length (claims n (rule_at t) c) → ⊥) → Answers asks ctx t c at (Err at)
    some_parts n at k differ = walk.wrong_parts (table_of asks ctx) rule_of t c (claims n (rule_at t) c) at (claims_at n k) differ

    pub one_part : (u : T.Tree R.Rule) (at : ℕ) → 1 ≡ arity (rule_at t) → parts_at t ≡ u ∷ [] → (r : Result ℕ ℕ) → Answers asks ctx u (first_claim (rule_at t) c) (next at) r → Answers asks ctx t c at r
    one_part u at k one = walk.one_part (table_of asks ctx) rule_of t c (first_claim (rule_at t) c) u at (says.0 holds) (claims_at 1 k) one

    pub two_parts : (u v : T.Tree R.Rule) (at n : ℕ) → 2 ≡ arity (rule_at t) → parts_at t ≡ u ∷ v ∷ [] → Answers asks ctx u (first_claim (rule_at t) c) (next at) (Ok n) →
        (r : Result ℕ ℕ) → Answers asks ctx v (last_claim c) n r → Answers asks ctx t c at r
    two_parts u v at n k two = walk.two_parts (table_of asks ctx) rule_of t c (first_claim (rule_at t) c) (last_claim c) u v at n (says.0 holds) (claims_at 2 k) two

    pub first_bad : (u v : T.Tree R.Rule) (at n : ℕ) → 2 ≡ arity (rule_at t) → parts_at t ≡ u ∷ v ∷ [] → Answers asks ctx u (first_claim (rule_at t) c) (next at) (Err n) → Answers asks ctx t c at (Err n)
    first_bad u v at n k two = walk.first_bad (table_of asks ctx) rule_of t c (first_claim (rule_at t) c) (last_claim c) u v at n (says.0 holds) (claims_at 2 k) two

-- the same claim, at the same number
pub moved : (asks : A.Asks) (ctx : Context) (t : Tree Rule) (w : Bool) {a a' : Simpl} {m m' : Mon} {vs vs' : List Name} {at at' : ℕ} → a' ≡ a → m' ≡ m → vs' ≡ vs → at' ≡ at → (r : Result ℕ ℕ) →
    Checked (table_of asks ctx) t (claim a m vs w) at r → Checked (table_of asks ctx) t (claim a' m' vs' w) at' r
moved asks ctx t w {a} {a'} {m} {m'} {vs} {vs'} {at} {at'} e f g i r h =
    subst (λ n. Checked (table_of asks ctx) t (claim a' m' vs' w) n r) (sym i)
    (subst (λ z. Checked (table_of asks ctx) t (claim z m' vs' w) at r) (sym e) (subst (λ z. Checked (table_of asks ctx) t (claim a z vs' w) at r) (sym f) (subst (λ z. Checked (table_of asks ctx) t (claim a m z w) at r) (sym g) h)))

pub no_larger : (x y z : ℕ) → x < y → y ≤ z → x ≤ z
no_larger x y z h k = omega arith

pub smaller : (x y z : ℕ) → x < y → y ≤ z → x < z
smaller x y z h k = omega arith

-- a whole function's tree, whose nodes have the forms of their rules
pub whole_taken : (ctx : Context) (t : T.Tree R.Rule) (a : Simpl) (m : Mon) (vs : List Name) → Accepts (forms ctx) (tree_of t) (whole a m vs) → LosesNone (rule_at t) a m vs →
    AllFreeAmong ctx.parameters m → Accepts (table ctx) (tree_of t) (whole a m vs)
whole_taken ctx t a m vs h lost free =
    let parts = tree_parts rule_of t in
    subst (λ u. Accepts (table ctx) u (whole a m vs)) (sym parts)
    (taken.whole_taken ctx (rule_at t) (trees_in rule_of (parts_at t)) a m vs (subst (λ u. Accepts (forms ctx) u (whole a m vs)) parts h) lost free)
