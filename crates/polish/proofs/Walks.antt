-- The walks of trees that are made of others.
use Rattle.std.proofs.Common.{◌≡◌, ◌<◌, Bool, true, false, cond, ◌&&◌, Some, None, refl, sym, ap, ap₂, ◌∙◌}
use Rattle.monad_lang.specs.Program as M
use Rattle.monad_lang.specs.Program.{Mon}
use Rattle.rule_trees.specs.RuleTree.{Tree, Trees, node, no_trees, tree}
use Rattle.rule_eq.specs.Rule as R
use Rattle.rule_eq.specs.Rule.{Rule, Point}
use Rattle.rule_walks.specs.Balanced.{Chain, single, before, chained, built, steps_of, all_balanced}
use Rattle.rule_walks.specs.Walk.{Walk, Stays, Second, Goes, walk_of, stays, one_walk, has_stayed, steps_in, joined_walks, over_bind, over_two, over_one, Walked, walked, then_walked}
use Rattle.expression_steps.specs.Rewritten.{direct_nodes}
use Rattle.expression_steps.specs.Shortened.{shortened}
use Rattle.polish.specs.Direct.{direct_step, direct_steps, more}
use Rattle.polish.specs.Polished.{Polished, leaf, is_refl, joined, bind_tree, if_tree, loop_tree, exp_tree, last_of, and_then, shortened_in, parted}
use Rattle.polish.specs.Seen.{seen, SeenParted, seen_parted}
use Rattle.polish.proofs.Fewer.{direct_fewer, steps_go_on}
use Rattle.polish.proofs.Shortened.{shortened_nodes}

-- A tree by its rule: nothing is done at it, or all of its steps are kept.

pub record Told (t : Tree Rule) : Type 0 where
  pub stayed : has_stayed (walk_of t) ≡ is_refl t
  pub steps : steps_in (walk_of t) ≡ steps_of t

told_second : (ts : Trees Rule) (t : Tree Rule) → Told t → Told (node R.Bind (tree (node R.Refl ts) (tree t no_trees)))
told_second ts t h = record {
  stayed = refl;
  steps = ap (λ c. single (node R.Bind (tree (node R.Refl (all_balanced ts)) (tree (built c) no_trees)))) h.steps;
}

pub told : (t : Tree Rule) → Told t
told (node R.Refl ts) = record { stayed = refl; steps = refl }
told (node R.Bind (tree (node R.Refl ts) (tree t no_trees))) = told_second ts t (told t)
told (node R.Bind no_trees) = record { stayed = refl; steps = refl }
told (node R.Bind (tree (node R.Refl ts) no_trees)) = record { stayed = refl; steps = refl }
told (node R.Bind (tree (node R.Refl ts) (tree t (tree u us)))) = record { stayed = refl; steps = refl }
told t = record { stayed = refl; steps = refl }

module _ (t : Tree Rule) (m : Mon) (u : Tree Rule) where
  pub walk_joined : walk_of (joined m t u) ≡ joined_walks (walk_of t) m (walk_of u)
  walk_joined =
      by (is_refl t) (is_refl u)
      ∙ ap₂ (λ a b. cond a (walk_of u) (cond b (walk_of t) (Goes (chained (steps_of t) m (steps_of u))))) (sym (told t).stayed)
      (sym (told u).stayed)
      ∙ ap₂
      (λ c d. cond (has_stayed (walk_of t)) (walk_of u) (cond (has_stayed (walk_of u)) (walk_of t) (Goes (chained c m d))))
      (sym (told t).steps) (sym (told u).steps)
    where
      by : (a b : Bool) → walk_of (cond a u (cond b t (node (R.Trans m) (tree t (tree u no_trees)))))
          ≡ cond a (walk_of u) (cond b (walk_of t) (Goes (chained (steps_of t) m (steps_of u))))
      by false true = refl
      by _ _ = refl

-- a program by one tree, and then on
pub seen_then : (t : Tree Rule) (m : Mon) (p : Polished) → seen (and_then t m p) ≡ then_walked (walk_of t) m (seen p)
seen_then t m p = ap (λ w. walked p.program w) (walk_joined t m p.tree)

module _ (t u : Tree Rule) where
  pub walk_if : walk_of (if_tree t u) ≡ over_two R.If (walk_of t) (walk_of u)
  walk_if =
      by (is_refl t && is_refl u)
      ∙ ap₂ (λ a b. cond (a && b) stays
      (one_walk (node R.If (tree (built (steps_of t)) (tree (built (steps_of u)) no_trees))))) (sym (told t).stayed) (sym (told u).stayed)
      ∙ ap₂
      (λ c d. cond (has_stayed (walk_of t) && has_stayed (walk_of u)) stays
      (one_walk (node R.If (tree (built c) (tree (built d) no_trees))))) (sym (told t).steps) (sym (told u).steps)
    where
      by : (b : Bool) → walk_of (cond b (leaf R.Refl) (node R.If (tree t (tree u no_trees))))
          ≡ cond b stays (one_walk (node R.If (tree (built (steps_of t)) (tree (built (steps_of u)) no_trees))))
      by true = refl
      by false = refl

pub walk_loop : (t : Tree Rule) → walk_of (loop_tree t) ≡ over_one R.Loop (walk_of t)
walk_loop t =
    by (is_refl t)
    ∙ ap₂ (λ a c. cond a stays (one_walk (node R.Loop (tree (built c) no_trees)))) (sym (told t).stayed) (sym (told t).steps)
  where
    by : (b : Bool) → walk_of (cond b (leaf R.Refl) (node R.Loop (tree t no_trees)))
        ≡ cond b stays (one_walk (node R.Loop (tree (built (steps_of t)) no_trees)))
    by true = refl
    by false = refl

-- Steps of expressions

pub chained_on : (c d e : Chain) (m n : Mon) → chained c m (chained d n e) ≡ chained (chained c m d) n e
chained_on (single t) d e m n = refl
chained_on (before t k c) d e m n = ap (λ x. before t k x) (chained_on c d e m n)

pub walks_on : (c : Chain) (m : Mon) (t : Tree Rule) (n : Mon) (s : Walked) →
    then_walked (Goes c) m (then_walked (one_walk t) n s) ≡ then_walked (Goes (chained c m (single t))) n s
walks_on c m t n s = by (has_stayed s.walk)
  where
    by : (b : Bool) →
        walked s.program (joined_walks (Goes c) m (cond b (one_walk t) (Goes (chained (single t) n (steps_in s.walk)))))
        ≡ walked s.program
        (cond b (Goes (chained c m (single t))) (Goes (chained (chained c m (single t)) n (steps_in s.walk))))
    by true = refl
    by false = ap (λ x. walked s.program (Goes x)) (chained_on c (single t) (steps_in s.walk) m n)

module _ (at : Point) (m : Mon) where
  pub rewritten_on : (x : Mon) → direct_step shortened at m ≡ Some x →
      seen (shortened_in at m) ≡ then_walked (one_walk (leaf R.Exp)) x (seen (shortened_in at x))
  rewritten_on x h =
      ap (λ ms. walked (last_of m ms) (walk_of (exp_tree ms)))
      (steps_go_on shortened (λ g. shortened_nodes g) at m
      ∙ ap (λ o. more o (λ y. direct_steps shortened at (direct_nodes y) y)) h)
      ∙ ap (λ w. walked (last_of x (direct_steps shortened at (direct_nodes x) x)) w)
      (walk_joined (leaf R.Exp) x (exp_tree (direct_steps shortened at (direct_nodes x) x)))

  pub rewritten_no_more : direct_step shortened at m ≡ None → seen (shortened_in at m) ≡ walked m stays
  rewritten_no_more h =
      ap (λ ms. walked (last_of m ms) (walk_of (exp_tree ms)))
      (steps_go_on shortened (λ g. shortened_nodes g) at m
      ∙ ap (λ o. more o (λ y. direct_steps shortened at (direct_nodes y) y)) h)

-- Both parts of a sequence

over_side : (w v : Walk) → has_stayed w ≡ false →
    over_bind w v ≡ one_walk (node R.Bind (tree (built (steps_in w)) (tree (built (steps_in v)) no_trees)))
over_side (Stays ts) v h = absurd cc
over_side _ _ _ = refl

module _ (u : Tree Rule) where
  pub walk_bind : (t : Tree Rule) → walk_of (bind_tree t u) ≡ over_bind (walk_of t) (walk_of u)
  walk_bind (node R.Refl ts) =
      by (is_refl u) ∙ ap (λ b. cond b stays (Second ts (walk_of u))) (sym (told u).stayed)
    where
      by : (b : Bool) → walk_of (cond b (leaf R.Refl) (node R.Bind (tree (node R.Refl ts) (tree u no_trees))))
          ≡ cond b stays (Second ts (walk_of u))
      by true = refl
      by false = refl
  walk_bind t =
      ap₂ (λ c d. one_walk (node R.Bind (tree (built c) (tree (built d) no_trees)))) (sym (told t).steps) (sym (told u).steps)
      ∙ sym (over_side (walk_of t) (walk_of u) (told t).stayed)

-- What a tree does to a sequence before it is turned

pub parted_seen : (t : Tree Rule) (m c : Mon) →
    ◌≡◌ {A = SeenParted}
    (record { before = walk_of (parted t m c).before; second = (parted t m c).second; walk = walk_of (parted t m c).tree })
    (seen_parted (walk_of t) m c)
parted_seen (node R.Bind (tree (node R.Refl ts) (tree t no_trees))) (M.Bind a zs b) c = refl
parted_seen t m c = refl

-- a step leaves fewer nodes
pub step_fewer : (at : Point) (m r : Mon) → direct_step shortened at m ≡ Some r → direct_nodes r < direct_nodes m
step_fewer at m r h = direct_fewer shortened (λ g. shortened_nodes g) at m r h
