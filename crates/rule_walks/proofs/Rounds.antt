-- Steps in pairs, until there is one: rounds enough make it.
use Rattle.std.proofs.Common.{◌≡◌, ℕ, zero, suc, ◌+◌, ◌%◌, ◌<◌, ◌≤◌, Bool, true, false, nat_eq, refl, sym, ◌∙◌, arith}
use Rattle.std.proofs.lemmas.Bool.{eqb-true}
use Rattle.monad_lang.specs.Program.{Mon}
use Rattle.rule_trees.specs.RuleTree.{Tree}
use Rattle.rule_eq.specs.Rule.{Rule}
use Rattle.rule_walks.specs.Balanced.{Chain, single, before, paired, paired_from, round, links, as_one, built}
use Rattle.rule_walks.specs.CodeWalks.{has_links}

paired_halved : (c : Chain) → links (paired c) + links (paired c) ≤ links c
paired_halved (single t) = omega arith
paired_halved (before t m (single u)) = omega arith
paired_halved (before t m (before u n c)) = omega (arith, paired_halved c)

-- the first alone, before an odd number of links
first_alone : (t : Tree Rule) (m : Mon) (c : Chain) → suc (links c) % 2 ≡ 0 →
    suc (links (paired c)) + suc (links (paired c)) ≤ suc (links c)
first_alone t m c h = omega (arith, paired_halved c, h)

from_halved : (b : Bool) (c : Chain) → nat_eq (links c % 2) 0 ≡ b → links (paired_from b c) + links (paired_from b c) ≤ links c
from_halved true (single t) h = omega arith
from_halved true (before t m c) h = first_alone t m c (eqb-true (suc (links c) % 2) 0 h)
from_halved false c h = paired_halved c

-- a round halves what is left
pub halved : (c : Chain) → links (round c) + links (round c) ≤ links c
halved c = from_halved (nat_eq (links c % 2) 0) c refl

links_round : (t : Tree Rule) (m : Mon) (c : Chain) → suc (links (round (before t m c))) ≤ links (before t m c)
links_round t m c = omega (arith, halved (before t m c))

pub same_rounds : (j k : ℕ) (c : Chain) → links c ≤ j → links c ≤ k → as_one j c ≡ as_one k c
same_rounds j k (single t) h i = one_tree j ∙ sym (one_tree k)
  where
    one_tree : (j : ℕ) → as_one j (single t) ≡ t
    one_tree zero = refl
    one_tree (suc j) = refl
same_rounds zero k (before t m c) h i = absurd (omega (arith, h))
same_rounds (suc j) zero (before t m c) h i = absurd (omega (arith, i))
same_rounds (suc j) (suc k) (before t m c) h i =
    same_rounds j k (round (before t m c)) (omega (arith, links_round t m c, h)) (omega (arith, links_round t m c, i))

-- a round
built_round : (t : Tree Rule) (m : Mon) (c : Chain) → built (round (before t m c)) ≡ built (before t m c)
built_round t m c =
    same_rounds (links (round (before t m c))) (links c) (round (before t m c)) (omega arith) (omega (arith, links_round t m c))

-- where there is more than one tree
pub round_same : (c : Chain) → has_links c ≡ true → built (round c) ≡ built c
round_same (single t) h = absurd cc
round_same (before t m c) h = built_round t m c

pub round_fewer : (c : Chain) → has_links c ≡ true → links (round c) < links c
round_fewer (single t) h = absurd cc
round_fewer (before t m c) h = omega (arith, links_round t m c)
