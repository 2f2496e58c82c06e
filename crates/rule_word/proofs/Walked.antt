-- What the kernel finds at a node of a tree, and what the walk keeps.
use Rattle.std.proofs.Common.{◌≡◌, ◌↔◌, ◌<◌, ◌≤◌, ◌+◌, ℕ, suc, Bool, true, false, List, [], ◌∷◌, ◌++◌, map, length, Result, Ok, Err, refl, sym, subst, ap, ap₂, ◌∙◌, arith, IsTrue, inl, inr}
use Rattle.std.proofs.lemmas.Bool.{false≢true}
use Rattle.expression_lang.specs.Expression.{Exp}
use Rattle.expression_lang.specs.Sort.{Kind, Scope, sort_of}
use Rattle.monad_lang.specs.Program.{Mon}
use Rattle.rule_trees.specs.declared.tree.Tree as T
use Rattle.rule_trees.specs.declared.tree.Tree.{out-Tree}
use Rattle.rule_trees.specs.RuleTree.{Checked, AllChecked, next}
use Rattle.rule_trees.specs.CodeTree.{trees_in}
use Rattle.rule_trees.specs.CodeNodes.{nodes, nodes_in}
use Rattle.rule_trees.proofs.WalkedParts as walked_parts
use Rattle.rule_trees.proofs.Walk as walk
use Rattle.rule_trees.proofs.Checking.{checked_accepts}
use Rattle.rule_word.specs.declared.rule.Rule as R
use Rattle.rule_word.specs.declared.rule.Context as C
use Rattle.rule_word.specs.declared.rule.Point as P
use Rattle.rule_word.specs.declared.rule.View as V
use Rattle.rule_parts.specs.declared.exps.Exps as X
use Rattle.rule_word.specs.declared.claims.Views as W
use Rattle.rule_word.specs.Rule.{Rule, View, Claim, program}
use Rattle.rule_word.specs.Scopes.{sort_seen}
use Rattle.rule_word.specs.Table.{each}
use Rattle.rule_word.specs.CodeFits.{AreReady, ClaimFits, AllFit, FitInTurn}
use Rattle.rule_word.specs.CodeClaims.{lefts, rights, part_seen, exp_pairs, exp_thens, looks, program_exps, program_views, program_looks, program_pairs, program_thens, inside, is_flat}
use Rattle.rule_word.specs.CodeRule.{rule_of, rule_at, tree_of, view_at, context_in, table_at}
use Rattle.rule_word.specs.CodeKinds.{point_in, scope_at}
use Rattle.rule_word.specs.CodeParts.{views_in, looks_in, pairs_at}
use Rattle.rule_parts.specs.CodeExps.{exps_in}
use Rattle.rule_word.specs.CodeRows.{row_at, program_row_at, FitsAt, claim_at}
use Rattle.rule_word.specs.CodeFront.{AreReadyAt}
use Rattle.rule_word.proofs.Rows.{exp_parts, exp_ready, exp_in_turn}
use Rattle.rule_word.proofs.ProgramRows.{program_parts, program_ready, program_in_turn}

abbrev pub parts_at : T.Tree R.Rule → List (T.Tree R.Rule)
parts_at t = (out-Tree R.Rule t).parts.items

pub never : {A : Type 0} (b : Bool) → b ≡ false → b ≡ true → A
never b e f = absurd (false≢true (sym e ∙ f))

-- of the sort that is seen
abbrev pub HasSort : Scope → Exp → View → Type 0
HasSort g e v = sort_of g e ≡ sort_seen v

-- claims that are more than none
pub nothing_more : {A : Type 0} (cs ds : List A) → length cs ≡ length (cs ++ ds) → cs ++ ds ≡ cs
nothing_more [] [] h = refl
nothing_more [] (d ∷ ds) h = absurd (omega arith)
nothing_more (c ∷ cs) ds h = let e : length cs ≡ length (cs ++ ds) = omega arith in ap (λ es. c ∷ es) (nothing_more cs ds e)

pub fewer_first : {A : Type 0} (cs ds : List A) → length cs ≤ length (cs ++ ds)
fewer_first [] ds = omega arith
fewer_first (c ∷ cs) ds = let h = fewer_first cs ds in omega arith

pub rest_count : {A : Type 0} (cs ds : List A) (n m : ℕ) → m ≡ length (cs ++ ds) → n + length cs ≡ m → n ≡ length ds
rest_count [] ds n m h e = omega arith
rest_count (c ∷ cs) ds n m h e =
    let i : n + suc (length cs) ≡ suc (length (cs ++ ds)) = e ∙ h in
    let j : n + length cs ≡ length (cs ++ ds) = omega arith in rest_count cs ds n (length (cs ++ ds)) refl j

module _ (c : C.Context) (t : T.Tree R.Rule) (claim : Claim) where
  abbrev Parts : List Claim → Type 0
  Parts cs = (table_at c (rule_at t) claim).parts ≡ cs

  pub refused : (b : Bool) (at : ℕ) → b ≡ false → ((table_at c (rule_at t) claim).holds → IsTrue b) → Checked (table_at c) (tree_of t) claim at (Err at)
  refused b at e says = walk.no_instance (table_at c) rule_of t claim at (λ h. never b e (says h))

  pub miscounted : (cs : List Claim) (at : ℕ) → Parts cs → (length (parts_at t) ≡ length cs → ⊥) → Checked (table_at c) (tree_of t) claim at (Err at)
  miscounted cs at parts differ = walk.wrong_parts (table_at c) rule_of t claim cs at parts differ

  pub unmatched : (cs : List Claim) (ts : List (T.Tree R.Rule)) (b : Bool) (at : ℕ) → Parts cs → parts_at t ≡ ts → b ≡ false → (IsTrue b ↔ (length ts ≡ length cs)) → Checked (table_at c) (tree_of t) claim at (Err at)
  unmatched cs ts b at parts items e says = miscounted cs at parts (λ same. never b e (says.1 (sym (ap length items) ∙ same)))

  pub decided : (cs : List Claim) (ts : List (T.Tree R.Rule)) (at later : ℕ) (r : Result ℕ ℕ) → (table_at c (rule_at t) claim).holds → Parts cs → parts_at t ≡ ts → length ts ≡ length cs → later ≡ next at →
      AllChecked (table_at c) (trees_in rule_of ts) cs later r → Checked (table_at c) (tree_of t) claim at r
  decided cs ts at later r holds parts items same e h =
      walked_parts.all_by_parts (table_at c) rule_of t claim cs ts at r holds parts items same (subst (λ n. AllChecked (table_at c) (trees_in rule_of ts) cs n r) e h)

-- two expressions
module _ (c : C.Context) (p : P.Point) (rule : Rule) (e : Exp) (v : V.View) (a : Exp) (l : X.Exps) (w : W.Views) (r : X.Exps) (left : exps_in l ≡ lefts rule e) (right : exps_in r ≡ rights rule a)
    (views : (es : List Exp) → views_in (scope_at c p) es w ≡ map (λ d. part_seen (scope_at c p) rule e (view_at (scope_at c p) e v) d) es) where
  abbrev g : Scope
  g = scope_at c p

  pub pairs_are : pairs_at (context_in c) (point_in p) l w r ≡ exp_pairs g (point_in p) rule e (view_at g e v) a
  pairs_are =
      ap₂ (λ es as'. each (point_in p) es (views_in g es w) as') left right
      ∙ ap (λ vs. each (point_in p) (lefts rule e) vs (rights rule a)) (views (lefts rule e))

  pub claims_are : (ds : List Claim) → ds ≡ exp_thens g (point_in p) e (view_at g e v) a → FitsAt c p e v → (row_at c p rule e v a).holds →
      (table_at c rule (claim_at c p e v a)).parts ≡ pairs_at (context_in c) (point_in p) l w r ++ ds
  claims_are ds thens f h = exp_parts (context_in c) (point_in p) rule e (view_at g e v) a f h ∙ sym (ap₂ (λ cs es. cs ++ es) pairs_are thens)

  pub ready_is : looks_in w ≡ looks rule → FitsAt c p e v → (row_at c p rule e v a).holds → AreReadyAt c p l w r
  ready_is look f h =
      subst (λ b. AreReady (context_in c) g b (exps_in l) (pairs_at (context_in c) (point_in p) l w r)) (sym look)
      (subst (λ es. AreReady (context_in c) g (looks rule) es (pairs_at (context_in c) (point_in p) l w r)) (sym left)
      (subst (λ cs. AreReady (context_in c) g (looks rule) (lefts rule e) cs) (sym pairs_are)
      (exp_ready (context_in c) (point_in p) rule e (view_at g e v) a f h)))

  pub thens_fit : (ds : List Claim) → ds ≡ exp_thens g (point_in p) e (view_at g e v) a → FitsAt c p e v → (row_at c p rule e v a).holds → AllFit (context_in c) (pairs_at (context_in c) (point_in p) l w r) →
      FitInTurn (context_in c) (pairs_at (context_in c) (point_in p) l w r ++ ds)
  thens_fit ds thens f h k =
      subst (λ cs. FitInTurn (context_in c) cs) (sym (ap₂ (λ cs es. cs ++ es) pairs_are thens))
      (exp_in_turn (context_in c) (point_in p) rule e (view_at g e v) a f h (subst (λ cs. AllFit (context_in c) cs) pairs_are k))

-- two programs
module _ (c : C.Context) (p : P.Point) (rule : Rule) (m m' : Mon) (ks : List Kind) (l : X.Exps) (w : W.Views) (r : X.Exps) (left : exps_in l ≡ program_exps m) (right : exps_in r ≡ program_exps m')
    (views : views_in (scope_at c p) (program_exps m) w ≡ program_views (context_in c) (scope_at c p) rule m ks) where
  pub program_pairs_are : pairs_at (context_in c) (point_in p) l w r ≡ program_pairs (context_in c) (point_in p) rule m m' ks
  program_pairs_are =
      ap₂ (λ es as'. each (point_in p) es (views_in (scope_at c p) es w) as') left right ∙ ap (λ vs. each (point_in p) (program_exps m) vs (program_exps m')) views

  module _ (flat : is_flat rule ≡ true) (f : ClaimFits (context_in c) (program (point_in p) m m' ks)) (h : (program_row_at c p rule m m' ks).holds) where
    pub program_claims : (ds : List Claim) → ds ≡ program_thens (inside rule m (point_in p)) rule m m' ks →
        (table_at c rule (program (point_in p) m m' ks)).parts ≡ pairs_at (context_in c) (point_in p) l w r ++ ds
    program_claims ds thens = program_parts (context_in c) (point_in p) rule m m' ks flat f h ∙ sym (ap₂ (λ cs es. cs ++ es) program_pairs_are thens)

    pub program_is_ready : looks_in w ≡ program_looks rule → AreReadyAt c p l w r
    program_is_ready look =
        subst (λ b. AreReady (context_in c) (scope_at c p) b (exps_in l) (pairs_at (context_in c) (point_in p) l w r)) (sym look)
        (subst (λ es. AreReady (context_in c) (scope_at c p) (program_looks rule) es (pairs_at (context_in c) (point_in p) l w r)) (sym left)
        (subst (λ cs. AreReady (context_in c) (scope_at c p) (program_looks rule) (program_exps m) cs) (sym program_pairs_are)
        (program_ready (context_in c) (point_in p) rule m m' ks flat f h)))

    pub program_thens_fit : (ds : List Claim) → ds ≡ program_thens (inside rule m (point_in p)) rule m m' ks → AllFit (context_in c) (pairs_at (context_in c) (point_in p) l w r) →
        FitInTurn (context_in c) (pairs_at (context_in c) (point_in p) l w r ++ ds)
    program_thens_fit ds thens k =
        subst (λ cs. FitInTurn (context_in c) cs) (sym (ap₂ (λ cs es. cs ++ es) program_pairs_are thens))
        (program_in_turn (context_in c) (point_in p) rule m m' ks flat f h (subst (λ cs. AllFit (context_in c) cs) program_pairs_are k))

-- along the parts
module _ (c : C.Context) (part : T.Tree R.Rule) (ts us : List (T.Tree R.Rule)) (claim : Claim) (cs ds : List Claim) (trees : us ≡ part ∷ ts) (claims : ds ≡ claim ∷ cs) where
  pub another : (es : List Claim) (at n : ℕ) (r : Result ℕ ℕ) → Checked (table_at c) (tree_of part) claim at (Ok n) → AllChecked (table_at c) (trees_in rule_of ts) (cs ++ es) n r →
      AllChecked (table_at c) (trees_in rule_of us) (ds ++ es) at r
  another es at n r h k =
      subst (λ vs. AllChecked (table_at c) (trees_in rule_of vs) (ds ++ es) at r) (sym trees) (subst (λ fs. AllChecked (table_at c) (trees_in rule_of (part ∷ ts)) (fs ++ es) at r) (sym claims) (inl (n, h, k)))

  pub bad : (es : List Claim) (at n : ℕ) → Checked (table_at c) (tree_of part) claim at (Err n) → AllChecked (table_at c) (trees_in rule_of us) (ds ++ es) at (Err n)
  bad es at n h =
      subst (λ vs. AllChecked (table_at c) (trees_in rule_of vs) (ds ++ es) at (Err n)) (sym trees)
      (subst (λ fs. AllChecked (table_at c) (trees_in rule_of (part ∷ ts)) (fs ++ es) at (Err n)) (sym claims) (inr (n, h, refl)))

  pub alone : (at : ℕ) (r : Result ℕ ℕ) → ts ≡ [] → cs ≡ [] → Checked (table_at c) (tree_of part) claim at r → AllChecked (table_at c) (trees_in rule_of us) ds at r
  alone at r i j h =
      subst (λ vs. AllChecked (table_at c) (trees_in rule_of vs) ds at r) (sym (trees ∙ ap (λ vs. part ∷ vs) i))
      (subst (λ fs. AllChecked (table_at c) (trees_in rule_of (part ∷ [])) fs at r) (sym (claims ∙ ap (λ es. claim ∷ es) j)) (by r h))
    where
      by : (r : Result ℕ ℕ) → Checked (table_at c) (tree_of part) claim at r → AllChecked (table_at c) (trees_in rule_of (part ∷ [])) (claim ∷ []) at r
      by (Ok n) h = inl (n, h, refl)
      by (Err n) h = inr (n, h, refl)

  pub onwards : (es : List Claim) (at n : ℕ) → Checked (table_at c) (tree_of part) claim at (Ok n) → FitInTurn (context_in c) (ds ++ es) → FitInTurn (context_in c) (cs ++ es)
  onwards es at n h f =
      let k : FitInTurn (context_in c) (claim ∷ (cs ++ es)) = subst (λ fs. FitInTurn (context_in c) (fs ++ es)) claims f in
      k.1 (tree_of part) (checked_accepts (table_at c) (tree_of part) claim at n h)

  pub all_fit : ClaimFits (context_in c) claim → AllFit (context_in c) cs → AllFit (context_in c) ds
  all_fit f h = subst (λ fs. AllFit (context_in c) fs) (sym claims) (f, h)

  pub first_fits : FitInTurn (context_in c) ds → ClaimFits (context_in c) claim
  first_fits f = let k : FitInTurn (context_in c) (claim ∷ cs) = subst (λ fs. FitInTurn (context_in c) fs) claims f in k.0

  pub fewer : (n : ℕ) → nodes_in (trees_in rule_of us) ≤ n → (nodes_in (trees_in rule_of ts) ≤ n) × (nodes (tree_of part) ≤ n)
  fewer n h =
      let count : nodes_in (trees_in rule_of us) ≡ nodes (tree_of part) + nodes_in (trees_in rule_of ts) = ap (λ vs. nodes_in (trees_in rule_of vs)) trees in
      (omega arith, omega arith)

-- of a node fewer are in the parts
pub parts_less : (t : T.Tree R.Rule) (ts : List (T.Tree R.Rule)) → parts_at t ≡ ts → nodes_in (trees_in rule_of ts) < nodes (tree_of t)
parts_less t ts items =
    let count : nodes (tree_of t) ≡ suc (nodes_in (trees_in rule_of ts)) = walked_parts.node_count {Claim = Claim} (λ rule d. record { holds = ⊥; parts = [] }) rule_of t ∙ ap (λ us. suc (nodes_in (trees_in rule_of us))) items in
    omega arith

-- along the claims behind the pairs
module _ (c : C.Context) (part : T.Tree R.Rule) (ts us : List (T.Tree R.Rule)) (claim : Claim) (cs ds : List Claim) (trees : us ≡ part ∷ ts) (claims : ds ≡ claim ∷ cs) where
  pub next_checked : (at n : ℕ) (r : Result ℕ ℕ) → Checked (table_at c) (tree_of part) claim at (Ok n) → AllChecked (table_at c) (trees_in rule_of ts) cs n r → AllChecked (table_at c) (trees_in rule_of us) ds at r
  next_checked at n r h k =
      subst (λ vs. AllChecked (table_at c) (trees_in rule_of vs) ds at r) (sym trees) (subst (λ fs. AllChecked (table_at c) (trees_in rule_of (part ∷ ts)) fs at r) (sym claims) (inl (n, h, k)))

  pub next_fits : (at n : ℕ) → Checked (table_at c) (tree_of part) claim at (Ok n) → FitInTurn (context_in c) ds → FitInTurn (context_in c) cs
  next_fits at n h f =
      let k : FitInTurn (context_in c) (claim ∷ cs) = subst (λ fs. FitInTurn (context_in c) fs) claims f in
      k.1 (tree_of part) (checked_accepts (table_at c) (tree_of part) claim at n h)

  pub next_count : length us ≡ length ds → length ts ≡ length cs
  next_count h = let more : suc (length ts) ≡ suc (length cs) = sym (ap length trees) ∙ h ∙ ap length claims in omega arith
