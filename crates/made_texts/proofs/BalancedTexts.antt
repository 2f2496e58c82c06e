-- A tree of rules of equality has a text also where its steps stand in a balanced way.
use Rattle.std.proofs.Common.{◌≡◌, ℕ, zero, suc, ◌%◌, nat_eq, Bool, true, false, ◌&&◌, refl, sym, ap, subst}
use Rattle.std.proofs.lemmas.Bool.{and_parts, and_from}
use Rattle.monad_lang.specs.Program.{Mon}
use Rattle.program_text.specs.MonText.{is_mon}
use Rattle.rule_trees.specs.RuleTree.{Tree, Trees, node, no_trees, tree, count}
use Rattle.rule_eq.specs.Rule as R
use Rattle.rule_eq.specs.Rule.{Rule}
use Rattle.rule_walks.specs.Balanced.{Chain, single, before, chained, paired, paired_from, round, links, as_one, built, steps_of, all_balanced, balanced}
use Rattle.rule_text.specs.Arities.{fits}
use Rattle.rule_text.specs.EqualityText.{arity, has_text, is_tree}
use Rattle.rule_text.specs.RuleText as trees

abbrev are_trees : Trees Rule → Bool
are_trees = trees.are_trees arity has_text

-- each tree and each program of a chain
abbrev HasText : Chain → Type 0
HasText (single t) = is_tree t ≡ true
HasText (before t m c) = (is_tree t ≡ true) × (is_mon m ≡ true) × HasText c

pair_text : (m : Mon) (t u : Tree Rule) → is_mon m ≡ true → is_tree t ≡ true → is_tree u ≡ true →
    is_tree (node (R.Trans m) (tree t (tree u no_trees))) ≡ true
pair_text m t u h k l = and_from (is_mon m) _ h (and_from (is_tree t) _ k (and_from (is_tree u) true l refl))

chained_text : (c : Chain) (m : Mon) (d : Chain) → HasText c → is_mon m ≡ true → HasText d → HasText (chained c m d)
chained_text (single t) m d h k l = (h, k, l)
chained_text (before t n c) m d h k l = (h.0, h.1, chained_text c m d h.2 k l)

paired_text : (c : Chain) → HasText c → HasText (paired c)
paired_text (single t) h = h
paired_text (before t m (single u)) h = pair_text m t u h.1 h.0 h.2
paired_text (before t m (before u n c)) h = (pair_text m t u h.1 h.0 h.2.0, h.2.1, paired_text c h.2.2)

from_text : (b : Bool) (c : Chain) → HasText c → HasText (paired_from b c)
from_text true (single t) h = h
from_text true (before t m c) h = (h.0, h.1, paired_text c h.2)
from_text false c h = paired_text c h

one_text : (k : ℕ) (c : Chain) → HasText c → is_tree (as_one k c) ≡ true
one_text zero (before t m c) h = pair_text m t (as_one zero c) h.1 h.0 (one_text zero c h.2)
one_text (suc k) (before t m c) h = one_text k (round (before t m c)) (from_text (nat_eq (suc (links c) % 2) 0) (before t m c) h)
one_text _ _ h = h

same_count : (ts : Trees Rule) → count (all_balanced ts) ≡ count ts
same_count no_trees = refl
same_count (tree t ts) = ap (λ n. suc n) (same_count ts)

mutual
  steps_text : (t : Tree Rule) → is_tree t ≡ true → HasText (steps_of t)
  steps_text (node (R.Trans m) (tree t (tree u no_trees))) h =
      let p = and_parts (is_mon m) (is_tree t && (is_tree u && true)) h in
      let q = and_parts (is_tree t) (is_tree u && true) p.1 in
      let r = and_parts (is_tree u) true q.1 in
      chained_text (steps_of t) m (steps_of u) (steps_text t q.0) p.0 (steps_text u r.0)
  steps_text (node rule ts) h =
      let p = and_parts (fits (arity rule) (count ts) && has_text rule) (are_trees ts) h in
      and_from (fits (arity rule) (count (all_balanced ts)) && has_text rule) (are_trees (all_balanced ts))
      (subst (λ n. fits (arity rule) n && has_text rule ≡ true) (sym (same_count ts)) p.0) (all_text ts p.1)

  all_text : (ts : Trees Rule) → are_trees ts ≡ true → are_trees (all_balanced ts) ≡ true
  all_text no_trees h = refl
  all_text (tree t ts) h =
      let p = and_parts (is_tree t) (are_trees ts) h in
      and_from (is_tree (built (steps_of t))) (are_trees (all_balanced ts))
      (one_text (links (steps_of t)) (steps_of t) (steps_text t p.0)) (all_text ts p.1)

pub balanced_text : (t : Tree Rule) → is_tree t ≡ true → is_tree (balanced t) ≡ true
balanced_text t h = one_text (links (steps_of t)) (steps_of t) (steps_text t h)
