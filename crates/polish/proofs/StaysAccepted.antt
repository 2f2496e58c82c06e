-- Balanced, a tree takes a program where it took it.
use Rattle.std.proofs.Common.{◌≡◌, ℕ, zero, suc, ◌%◌, Bool, true, false, nat_eq, List, [], ◌∷◌, ◌⊎◌, inl, inr, refl, sym, ◌∙◌, subst}
use Rattle.c_values.proofs.Options.{some_is}
use Rattle.expression_lang.specs.Sort.{Scalar}
use Rattle.monad_lang.specs.Program.{Mon}
use Rattle.rule_trees.specs.RuleTree.{Tree, Trees, node, no_trees, tree, AcceptsAll}
use Rattle.rule_eq.specs.Rule as R
use Rattle.rule_eq.specs.Rule.{Rule, Point, Claim, does}
use Rattle.rule_eq.specs.Table.{Takes, table, row}
use Rattle.rule_walks.specs.Balanced.{Chain, single, before, chained, paired, paired_from, round, links, as_one, built, steps_of, all_balanced, balanced}
use Rattle.polish.proofs.Trees.{Gives}

module _ (at : Point) where
  -- each tree takes its program to the next, and all between give the same scalars
  abbrev Chained : List Scalar → Chain → Mon → Mon → Type 0
  Chained cs (single t) m n = Takes at t m n
  Chained cs (before t k c) m n = Takes at t m k × Gives at k cs × Chained cs c k n

  chained_take : (cs : List Scalar) (c : Chain) (k : Mon) (d : Chain) (m n : Mon) → Chained cs c m k → Gives at k cs →
      Chained cs d k n → Chained cs (chained c k d) m n
  chained_take cs (single t) k d m n h g i = (h, g, i)
  chained_take cs (before t j c) k d m n h g i = (h.0, h.1, chained_take cs c k d j n h.2 g i)

  paired_take : (cs : List Scalar) (c : Chain) (m n : Mon) → Gives at n cs → Chained cs c m n → Chained cs (paired c) m n
  paired_take cs (single t) m n g h = h
  paired_take cs (before t k (single u)) m n g h = ((cs, h.1, g), (h.0, (h.2, tt)))
  paired_take cs (before t k (before u j c)) m n g h =
      (((cs, h.1, h.2.1), (h.0, (h.2.0, tt))), h.2.1, paired_take cs c j n g h.2.2)

  from_take : (cs : List Scalar) (b : Bool) (c : Chain) (m n : Mon) → Gives at n cs → Chained cs c m n → Chained cs (paired_from b c) m n
  from_take cs true (single t) m n g h = h
  from_take cs true (before t k c) m n g h = (h.0, h.1, paired_take cs c k n g h.2)
  from_take cs false c m n g h = paired_take cs c m n g h

  one_takes : (cs : List Scalar) (k : ℕ) (c : Chain) (m n : Mon) → Gives at n cs → Chained cs c m n → Takes at (as_one k c) m n
  one_takes cs zero (before t j c) m n g h = ((cs, h.1, g), (h.0, (one_takes cs zero c j n g h.2, tt)))
  one_takes cs (suc k) (before t j c) m n g h =
      one_takes cs k (round (before t j c)) m n g (from_take cs (nat_eq (suc (links c) % 2) 0) (before t j c) m n g h)
  one_takes _ _ _ _ _ _ h = h

  -- one tree, or several with scalars
  abbrev Steps : Chain → Mon → Mon → Type 0
  Steps c m n = ((t : Tree Rule) × (c ≡ single t) × Takes at t m n) ⊎ ((cs : List Scalar) × Gives at n cs × Chained cs c m n)

  built_takes : (c : Chain) (m n : Mon) → Steps c m n → Takes at (built c) m n
  built_takes c m n (inl h) = subst (λ d. Takes at (built d) m n) (sym h.1) h.2
  built_takes c m n (inr h) = one_takes h.0 (links c) c m n h.1 h.2

  -- the steps before a program that gives the scalars
  with_scalars : (c : Chain) (m n : Mon) (cs : List Scalar) → Gives at n cs → Steps c m n → Chained cs c m n
  with_scalars c m n cs g (inl h) = subst (λ d. Chained cs d m n) (sym h.1) h.2
  with_scalars c m n cs g (inr h) = subst (λ ds. Chained ds c m n) (some_is (sym h.1 ∙ g)) h.2

mutual
  steps_take : (t : Tree Rule) (at : Point) (m n : Mon) → Takes at t m n → Steps at (steps_of t) m n
  steps_take (node (R.Trans k) (tree t (tree u no_trees))) at m n h =
      inr (
        h.0.0,
        h.0.2,
        chained_take at h.0.0 (steps_of t) k (steps_of u) m n
            (with_scalars at (steps_of t) m k h.0.0 h.0.1 (steps_take t at m k h.1.0)) h.0.1
            (with_scalars at (steps_of u) k n h.0.0 h.0.2 (steps_take u at k n h.1.1.0)),
      )
  steps_take (node rule ts) at m n h = inl (node rule (all_balanced ts), refl, (h.0, all_taken ts (row at rule m n).parts h.1))

  all_taken : (ts : Trees Rule) (cs : List Claim) → AcceptsAll table ts cs → AcceptsAll table (all_balanced ts) cs
  all_taken no_trees [] h = tt
  all_taken no_trees (c ∷ cs) h = h
  all_taken (tree t ts) [] h = h
  all_taken (tree t ts) (does at m n ∷ cs) h = (built_takes at (steps_of t) m n (steps_take t at m n h.0), all_taken ts cs h.1)

pub balanced_takes : (t : Tree Rule) (at : Point) (m n : Mon) → Takes at t m n → Takes at (balanced t) m n
balanced_takes t at m n h = built_takes at (steps_of t) m n (steps_take t at m n h)
