-- What is left of a row's claims once pairs of expressions are checked: the claims behind them, or the last pair.
use Rattle.std.specs.Prelude.{◌≡◌, ◌+◌, ◌≤◌, ◌<◌, ℕ, true, List, ◌++◌, length, Result, Ok, Err}
use Rattle.expression_lang.specs.Expression.{Exp}
use Rattle.expression_lang.specs.Sort.{Kind, Scope}
use Rattle.expression_lang.specs.CodeExpression.{exp_of}
use Rattle.monad_lang.specs.Program.{Mon}
use Rattle.rule_trees.specs.declared.tree.Tree as T
use Rattle.rule_trees.specs.RuleTree.{Checked, AllChecked}
use Rattle.rule_trees.specs.CodeTree.{trees_in}
use Rattle.rule_trees.specs.CodeNodes.{nodes, nodes_in}
use Rattle.rule_word.specs.declared.rule.Rule as R
use Rattle.rule_word.specs.declared.rule.Context as C
use Rattle.rule_word.specs.declared.rule.Point as P
use Rattle.rule_word.specs.declared.rule.View as V
use Rattle.rule_word.specs.declared.claims.Seen as S
use Rattle.rule_parts.specs.declared.exps.Exps as X
use Rattle.rule_word.specs.declared.claims.Views as W
use Rattle.rule_word.specs.declared.kernel.Front as F
use Rattle.rule_word.specs.Rule.{Claim, program}
use Rattle.rule_word.specs.CodeFits.{IsSorted, AreReady, Fits, AllFit, FitInTurn}
use Rattle.rule_word.specs.CodeNames.{are_binders}
use Rattle.rule_word.specs.CodeClaims.{program_thens, inside}
use Rattle.rule_word.specs.CodeRule.{rule_of, rule_at, tree_of, view_at, context_in, table_at}
use Rattle.rule_word.specs.CodeKinds.{point_in, scope_at}
use Rattle.rule_word.specs.CodeParts.{looks_in, pairs_at}
use Rattle.rule_parts.specs.CodeExps.{exps_in}
use Rattle.rule_word.specs.CodeRows.{FitsAt, claim_at}

-- its sort is known, or is to be looked at
abbrev pub IsReady : Scope → Exp → S.Seen → Type 0
IsReady g e (S.TheVariants.As v) = Fits g e (view_at g e v)
IsReady g e (S.TheVariants.At k) = IsSorted g e

abbrev pub AreReadyAt : C.Context → P.Point → X.Exps → W.Views → X.Exps → Type 0
AreReadyAt c at l w r = AreReady (context_in c) (scope_at c at) (looks_in w) (exps_in l) (pairs_at (context_in c) (point_in at) l w r)

pub record IsBehind (c : C.Context) (ts : List (T.Tree R.Rule)) (cs : List Claim) (at : ℕ) (rest : List (T.Tree R.Rule)) (n : ℕ) : Type 0 where
  pub decides : (ds : List Claim) (r : Result ℕ ℕ) → AllChecked (table_at c) (trees_in rule_of rest) ds n r → AllChecked (table_at c) (trees_in rule_of ts) (cs ++ ds) at r
  pub fit : AllFit (context_in c) cs
  pub turn : (ds : List Claim) → FitInTurn (context_in c) (cs ++ ds) → FitInTurn (context_in c) ds
  pub count : length rest + length cs ≡ length ts
  pub fewer : nodes_in (trees_in rule_of rest) ≤ nodes_in (trees_in rule_of ts)

pub record IsLast (c : C.Context) (p : P.Point) (ts : List (T.Tree R.Rule)) (cs : List Claim) (at : ℕ) (t : T.Tree R.Rule) (e : Exp) (v : V.View) (a : Exp) (n : ℕ) : Type 0 where
  pub decides : (r : Result ℕ ℕ) → Checked (table_at c) (tree_of t) (claim_at c p e v a) n r → AllChecked (table_at c) (trees_in rule_of ts) cs at r
  pub fits : FitsAt c p e v
  pub count : length cs ≡ length ts
  pub fewer : nodes (tree_of t) ≤ nodes_in (trees_in rule_of ts)

abbrev pub Leaves : C.Context → P.Point → List (T.Tree R.Rule) → List Claim → ℕ → Result F.Front ℕ → Type 0
Leaves c p ts cs at (Ok (F.TheVariants.Behind rest n)) = IsBehind c ts cs at rest.now n
Leaves c p ts cs at (Ok (F.TheVariants.Last t e v a n)) = IsLast c p ts cs at t.now (exp_of e.now) v (exp_of a.now) n
Leaves c p ts cs at (Err n) = (ds : List Claim) → AllChecked (table_at c) (trees_in rule_of ts) (cs ++ ds) at (Err n)

-- What is left of two programs by a rule once the pairs of its row are checked: the claims behind them, where the names of a loop are in
-- scope, or the last pair.

abbrev pub row_thens : P.Point → T.Tree R.Rule → Mon → Mon → List Kind → List Claim
row_thens p t m m' ks = program_thens (inside (rule_at t) m (point_in p)) (rule_at t) m m' ks

pub record IsEntered (c : C.Context) (p : P.Point) (t : T.Tree R.Rule) (m m' : Mon) (ks : List Kind) (at : ℕ) (rest : List (T.Tree R.Rule)) (n : ℕ) : Type 0 where
  pub decides : (r : Result ℕ ℕ) → AllChecked (table_at c) (trees_in rule_of rest) (row_thens p t m m' ks) n r → Checked (table_at c) (tree_of t) (program (point_in p) m m' ks) at r
  pub fit : FitInTurn (context_in c) (row_thens p t m m' ks)
  pub count : length rest ≡ length (row_thens p t m m' ks)
  pub names : are_binders (inside (rule_at t) m (point_in p)).names ≡ true
  pub fewer : nodes_in (trees_in rule_of rest) < nodes (tree_of t)

pub record IsLastOf (c : C.Context) (p : P.Point) (t : T.Tree R.Rule) (m m' : Mon) (ks : List Kind) (at : ℕ) (u : T.Tree R.Rule) (e : Exp) (v : V.View) (a : Exp) (n : ℕ) : Type 0 where
  pub decides : (r : Result ℕ ℕ) → Checked (table_at c) (tree_of u) (claim_at c p e v a) n r → Checked (table_at c) (tree_of t) (program (point_in p) m m' ks) at r
  pub fits : FitsAt c p e v
  pub fewer : nodes (tree_of u) < nodes (tree_of t)

abbrev pub RowLeaves : C.Context → P.Point → T.Tree R.Rule → Mon → Mon → List Kind → ℕ → Result F.Front ℕ → Type 0
RowLeaves c p t m m' ks at (Ok (F.TheVariants.Behind rest n)) = IsEntered c p t m m' ks at rest.now n
RowLeaves c p t m m' ks at (Ok (F.TheVariants.Last u e v a n)) = IsLastOf c p t m m' ks at u.now (exp_of e.now) v (exp_of a.now) n
RowLeaves c p t m m' ks at (Err n) = Checked (table_at c) (tree_of t) (program (point_in p) m m' ks) at (Err n)
