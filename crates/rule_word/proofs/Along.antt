-- What the kernel finds along a sequence and along `and`s.
use Rattle.std.proofs.Common.{◌≡◌, ◌<◌, ◌≤◌, ◌+◌, ◌*◌, ℕ, suc, true, List, [], ◌∷◌, length, Result, Ok, Err, refl, sym, subst, ap, ap₂, ◌∙◌, arith}
use Rattle.c_values.specs.Name.{Name}
use Rattle.c_values.specs.Layout.{IsLayout}
use Rattle.expression_lang.specs.Expression as X
use Rattle.expression_lang.specs.Expression.{Exp}
use Rattle.expression_lang.specs.Sort.{Kind, Scope}
use Rattle.expression_lang.specs.Signature.{Binder}
use Rattle.ac_expr.specs.Fact.{Whole}
use Rattle.ac_expr.specs.Passed.{Part, passed}
use Rattle.monad_lang.specs.Program.{Mon}
use Rattle.program_facts.specs.Flow.{part, parts}
use Rattle.rule_trees.specs.declared.tree.Tree as T
use Rattle.rule_trees.specs.RuleTree.{Tree, node, tree, no_trees, Checked, next}
use Rattle.rule_trees.specs.CodeTree.{trees_in}
use Rattle.rule_trees.specs.CodeNodes.{nodes, nodes_in}
use Rattle.rule_trees.proofs.Parts.{tree_parts}
use Rattle.rule_trees.proofs.WalkedParts as walked_parts
use Rattle.rule_trees.proofs.Walk as walk
use Rattle.rule_trees.proofs.Checking.{checked_accepts}
use Rattle.rule_word.specs.declared.rule.Rule as C
use Rattle.rule_word.specs.Rule as R
use Rattle.rule_word.specs.Rule.{Rule, Context, Point, Claim, expression, program}
use Rattle.rule_word.specs.Scopes.{words, own, with_kinds}
use Rattle.rule_word.specs.Table.{knowing, program_row, table}
use Rattle.rule_word.specs.CodeFits.{Fits, ClaimFits, FitInTurn}
use Rattle.rule_word.specs.CodeNames.{with_passed, are_binders, are_results}
use Rattle.rule_word.specs.CodeClaims.{first_of, behind, names_bound}
use Rattle.rule_word.specs.CodeRule.{rule_of, rule_at, tree_of}
use Rattle.rule_word.proofs.Steps.{sides, and_parts, and_fit, two_programs, binds, next_point, bind_parts, bind_fits, recast_parts}
use Rattle.rule_word.proofs.KindsStay.{bound_stay}
use Rattle.rule_word.proofs.Sequences.{FactsLeft, one_fact_passed, more_facts_passed, NamesLeft, one_name_passed, more_names_passed}
use Rattle.rule_word.proofs.Walked.{parts_at}

pub two_less : (t u v : T.Tree C.Rule) → parts_at t ≡ u ∷ v ∷ [] → (nodes (tree_of u) < nodes (tree_of t)) × (nodes (tree_of v) < nodes (tree_of t))
two_less t u v items =
    let count : nodes (tree_of t) ≡ suc (nodes (tree_of u) + (nodes (tree_of v) + 0)) = walked_parts.node_count {Claim = Claim} (λ rule c. record { holds = ⊥; parts = [] }) rule_of t ∙ ap (λ us. suc (nodes_in (trees_in rule_of us))) items in
    (omega arith, omega arith)

pub one_less : (t u : T.Tree C.Rule) → parts_at t ≡ u ∷ [] → nodes (tree_of u) < nodes (tree_of t)
one_less t u items =
    let count : nodes (tree_of t) ≡ suc (nodes (tree_of u) + 0) = walked_parts.node_count {Claim = Claim} (λ rule c. record { holds = ⊥; parts = [] }) rule_of t ∙ ap (λ us. suc (nodes_in (trees_in rule_of us))) items in omega arith

pub no_larger : (x y z : ℕ) → x < y → y ≤ z → x ≤ z
no_larger x y z h k = omega arith

pub le_less : (x y z : ℕ) → x ≤ y → y < z → x < z
le_less x y z h k = omega arith

pub below_by : (x y z k j : ℕ) → x < y → y ≤ z → k < 8 → 8 * x + k < 8 * z + j
below_by x y z k j h i m = omega arith

module _ (ctx : Context) (t u v : T.Tree C.Rule) (items : parts_at t ≡ u ∷ v ∷ []) where
  -- the last of two parts
  decided : (claim d e : Claim) (at later n : ℕ) → (table ctx (rule_at t) claim).holds → (table ctx (rule_at t) claim).parts ≡ d ∷ e ∷ [] → later ≡ next at → Checked (table ctx) (tree_of u) d later (Ok n) →
      (r : Result ℕ ℕ) → Checked (table ctx) (tree_of v) e n r → Checked (table ctx) (tree_of t) claim at r
  decided claim d e at later n holds parts i h r k =
      walk.two_parts (table ctx) rule_of t claim d e u v at n holds parts items (subst (λ j. Checked (table ctx) (tree_of u) d j (Ok n)) i h) r k

  bad : (claim d e : Claim) (at later n : ℕ) → (table ctx (rule_at t) claim).holds → (table ctx (rule_at t) claim).parts ≡ d ∷ e ∷ [] → later ≡ next at → Checked (table ctx) (tree_of u) d later (Err n) →
      Checked (table ctx) (tree_of t) claim at (Err n)
  bad claim d e at later n holds parts i h =
      walk.first_bad (table ctx) rule_of t claim d e u v at n holds parts items (subst (λ j. Checked (table ctx) (tree_of u) d j (Err n)) i h)

  tree_is : (rule : Rule) → rule_at t ≡ rule → tree_of t ≡ node rule (tree (tree_of u) (tree (tree_of v) no_trees))
  tree_is rule e = tree_parts rule_of t ∙ ap₂ (λ q ts. node q (trees_in rule_of ts)) e items

  -- along `and`s
  module _ (at : Point) (rule : rule_at t ≡ R.Logic) (a b a' b' : Exp) (fits : Fits (words ctx at.names).scope (X.And a b) (own (words ctx at.names).scope (X.And a b))) where
    abbrev g : Scope
    g = (words ctx at.names).scope

    abbrev claim : Claim
    claim = expression at (X.And a b) (own g (X.And a b)) (X.And a' b')

    holds : (table ctx (rule_at t) claim).holds
    holds = subst (λ q. (table ctx q claim).holds) (sym rule) (refl, tt)

    pub and_two : (table ctx (rule_at t) claim).parts ≡ expression at a (own g a) a' ∷ expression (knowing (Whole a') at) b (own g b) b' ∷ []
    and_two = subst (λ q. (table ctx q claim).parts ≡ expression at a (own g a) a' ∷ expression (knowing (Whole a') at) b (own g b) b' ∷ []) (sym rule) (and_parts ctx at a b a' b' fits)

    pub and_fits : Fits g a (own g a) × Fits g b (own g b)
    and_fits = and_fit ctx at a b a' b' fits

    pub and_bad : (from later n : ℕ) → later ≡ next from → Checked (table ctx) (tree_of u) (expression at a (own g a) a') later (Err n) → Checked (table ctx) (tree_of t) claim from (Err n)
    and_bad from later n i h = bad claim _ _ from later n holds and_two i h

    pub and_onward : (from later n : ℕ) → later ≡ next from → Checked (table ctx) (tree_of u) (expression at a (own g a) a') later (Ok n) →
        (r : Result ℕ ℕ) → Checked (table ctx) (tree_of v) (expression (knowing (Whole a') at) b (own g b) b') n r → Checked (table ctx) (tree_of t) claim from r
    and_onward from later n i h r k = decided claim _ _ from later n holds and_two i h r k

  -- along a sequence, at a point behind so many parts
  module _ (base : Point) (count : ℕ) (all : List Part) (whole : Tree Rule) (program' : Mon) (js ks : List Kind) (m m' : Mon) (rule : rule_at t ≡ R.Bind js)
      (facts : FactsLeft (parts m') count all) (names : NamesLeft (tree_of t) m count whole program') where
    abbrev pub here : Point
    here = record { facts = passed count all base.facts; names = with_passed count whole program' base.names }

    abbrev pub there : Point
    there = record { facts = passed (count + 1) all base.facts; names = with_passed (count + 1) whole program' base.names }

    module _ (fits : ClaimFits ctx (program here m m' ks)) (asked : (program_row ctx here (rule_at t) m m' ks).holds) where
      held : (program_row ctx here (R.Bind js) m m' ks).holds
      held = subst (λ q. (program_row ctx here q m m' ks).holds) rule asked

      xs : List Name
      xs = (binds ctx here js ks m m' held).names

      first_part : parts m' ≡ part (first_of m') (binds ctx here js ks m m' held).names ∷ parts (behind m')
      first_part = ap parts (binds ctx here js ks m m' held).right

      there_is : next_point ctx here (binds ctx here js ks m m' held).names js (first_of m') ≡ there
      there_is =
          ap₂ (λ fs bs. record { facts = fs; names = bs })
          (one_fact_passed (part (first_of m') (binds ctx here js ks m m' held).names) (parts (behind m')) (parts m') count all first_part facts base.facts)
          (one_name_passed js (tree_of u) (tree_of v) (first_of m) (binds ctx here js ks m m' held).names (behind m) (tree_of t) m count whole program' (tree_is (R.Bind js) rule) (binds ctx here js ks m m' held).left names base.names)

      pub two_there : (program_row ctx here (rule_at t) m m' ks).parts ≡ program here (first_of m) (first_of m') js ∷ program there (behind m) (behind m') ks ∷ []
      two_there =
          ap (λ q. (program_row ctx here q m m' ks).parts) rule ∙ bind_parts ctx here js ks m m' held
          ∙ ap (λ p. program here (first_of m) (first_of m') js ∷ program p (behind m) (behind m') ks ∷ []) there_is

      in_turn : FitInTurn ctx (program here (first_of m) (first_of m') js ∷ program there (behind m) (behind m') ks ∷ [])
      in_turn = subst (λ p. FitInTurn ctx (program here (first_of m) (first_of m') js ∷ program p (behind m) (behind m') ks ∷ [])) there_is (bind_fits ctx here js ks m m' held fits)

      pub step_fits : ClaimFits ctx (program here (first_of m) (first_of m') js)
      step_fits = in_turn.0

      pub step_bad : (from later n : ℕ) → later ≡ next from → Checked (table ctx) (tree_of u) (program here (first_of m) (first_of m') js) later (Err n) → Checked (table ctx) (tree_of t) (program here m m' ks) from (Err n)
      step_bad from later n i h = bad (program here m m' ks) _ _ from later n asked two_there i h

      pub step_onward : (from later n : ℕ) → later ≡ next from → Checked (table ctx) (tree_of u) (program here (first_of m) (first_of m') js) later (Ok n) →
          (r : Result ℕ ℕ) → Checked (table ctx) (tree_of v) (program there (behind m) (behind m') ks) n r → Checked (table ctx) (tree_of t) (program here m m' ks) from r
      step_onward from later n i h r k = decided (program here m m' ks) _ _ from later n asked two_there i h r k

      pub behind_fits : (later n : ℕ) → Checked (table ctx) (tree_of u) (program here (first_of m) (first_of m') js) later (Ok n) → ClaimFits ctx (program there (behind m) (behind m') ks)
      behind_fits later n h = (in_turn.1 (tree_of u) (checked_accepts (table ctx) (tree_of u) (program here (first_of m) (first_of m') js) later n h)).0

      pub behind_facts : FactsLeft (parts (behind m')) (count + 1) all
      behind_facts = more_facts_passed (part (first_of m') (binds ctx here js ks m m' held).names) (parts (behind m')) (parts m') count all first_part facts

      pub behind_names : NamesLeft (tree_of v) (behind m) (count + 1) whole program'
      behind_names =
          more_names_passed js (tree_of u) (tree_of v) (first_of m) (binds ctx here js ks m m' held).names (behind m) (tree_of t) m count whole program' (tree_is (R.Bind js) rule) (binds ctx here js ks m m' held).left names

      -- the names that the step binds
      step_names : names_bound m ≡ xs
      unfolding xs
      step_names = ap names_bound (binds ctx here js ks m m' held).left

      pub step_binds : (bs : List Binder) → with_kinds (names_bound m) js (with_passed count whole program' bs) ≡ with_passed (count + 1) whole program' bs
      unfolding xs
      step_binds bs =
          ap (λ ys. with_kinds ys js (with_passed count whole program' bs)) step_names
          ∙ one_name_passed js (tree_of u) (tree_of v) (first_of m) (binds ctx here js ks m m' held).names (behind m) (tree_of t) m count whole program' (tree_is (R.Bind js) rule) (binds ctx here js ks m m' held).left names bs

      pub behind_kinds : IsLayout ctx.layout → are_results ctx.functions ≡ true → are_binders here.names ≡ true → (later n : ℕ) →
          Checked (table ctx) (tree_of u) (program here (first_of m) (first_of m') js) later (Ok n) → are_binders there.names ≡ true
      behind_kinds lay results kinds later n h =
          subst (λ p. are_binders p.names ≡ true) there_is
          (bound_stay ctx lay results here kinds (binds ctx here js ks m m' held).names js (first_of m) (first_of m') (tree_of u) step_fits (checked_accepts (table ctx) (tree_of u) (program here (first_of m) (first_of m') js) later n h))

-- parts that aren't two
pub bind_miscounted : (ctx : Context) (t : T.Tree C.Rule) (at : Point) (js ks : List Kind) (m m' : Mon) → rule_at t ≡ R.Bind js → (program_row ctx at (rule_at t) m m' ks).holds → (from : ℕ) → (length (parts_at t) ≡ 2 → ⊥) →
    Checked (table ctx) (tree_of t) (program at m m' ks) from (Err from)
bind_miscounted ctx t at js ks m m' rule asked from differ =
    let held : (program_row ctx at (R.Bind js) m m' ks).holds = subst (λ q. (program_row ctx at q m m' ks).holds) rule asked in
    walk.wrong_parts (table ctx) rule_of t (program at m m' ks) (two_programs ctx at (binds ctx at js ks m m' held).names js ks m m') from
    (ap (λ q. (program_row ctx at q m m' ks).parts) rule ∙ bind_parts ctx at js ks m m' held) differ

pub and_miscounted : (ctx : Context) (t : T.Tree C.Rule) (at : Point) → rule_at t ≡ R.Logic → (a b a' b' : Exp) → Fits (words ctx at.names).scope (X.And a b) (own (words ctx at.names).scope (X.And a b)) → (from : ℕ) →
    (length (parts_at t) ≡ 2 → ⊥) → Checked (table ctx) (tree_of t) (expression at (X.And a b) (own (words ctx at.names).scope (X.And a b)) (X.And a' b')) from (Err from)
and_miscounted ctx t at rule a b a' b' fits from differ =
    walk.wrong_parts (table ctx) rule_of t (expression at (X.And a b) (own (words ctx at.names).scope (X.And a b)) (X.And a' b')) (sides ctx at a b a' b') from
    (subst (λ q. (table ctx q (expression at (X.And a b) (own (words ctx at.names).scope (X.And a b)) (X.And a' b'))).parts ≡ sides ctx at a b a' b') (sym rule) (and_parts ctx at a b a' b' fits)) differ

pub below_flat : (x y k : ℕ) → x < y → k < 8 → 8 * x + k < 8 * y
below_flat x y k h i = omega arith

pub recast_miscounted : (ctx : Context) (t : T.Tree C.Rule) (at : Point) (js ks : List Kind) (m m' : Mon) → rule_at t ≡ R.Recast js → (program_row ctx at (rule_at t) m m' ks).holds → (from : ℕ) → (length (parts_at t) ≡ 1 → ⊥) →
    Checked (table ctx) (tree_of t) (program at m m' ks) from (Err from)
recast_miscounted ctx t at js ks m m' rule asked from differ =
    walk.wrong_parts (table ctx) rule_of t (program at m m' ks) (program at m (first_of m') js ∷ []) from
    (ap (λ q. (program_row ctx at q m m' ks).parts) rule ∙ recast_parts ctx at js ks m m' (subst (λ q. (program_row ctx at q m m' ks).holds) rule asked)) differ

-- a rule that makes other kinds
module _ (ctx : Context) (t u : T.Tree C.Rule) (items : parts_at t ≡ u ∷ []) (at : Point) (js ks : List Kind) (m m' : Mon) (rule : rule_at t ≡ R.Recast js)
    (fits : ClaimFits ctx (program at m m' ks)) (asked : (program_row ctx at (rule_at t) m m' ks).holds) where
  one_there : (program_row ctx at (rule_at t) m m' ks).parts ≡ program at m (first_of m') js ∷ []
  one_there = ap (λ q. (program_row ctx at q m m' ks).parts) rule ∙ recast_parts ctx at js ks m m' (subst (λ q. (program_row ctx at q m m' ks).holds) rule asked)

  pub recast_fits : ClaimFits ctx (program at m (first_of m') js)
  recast_fits = fits

  pub recast_onward : (from later : ℕ) (r : Result ℕ ℕ) → later ≡ next from → Checked (table ctx) (tree_of u) (program at m (first_of m') js) later r → Checked (table ctx) (tree_of t) (program at m m' ks) from r
  recast_onward from later r i h =
      walk.one_part (table ctx) rule_of t (program at m m' ks) (program at m (first_of m') js) u from asked one_there items r (subst (λ j. Checked (table ctx) (tree_of u) (program at m (first_of m') js) j r) i h)
