-- Fewer than 2^j + 1 steps at a node, balanced, are higher than the highest of them by j at most.
use Rattle.std.proofs.Common.{◌≡◌, ℕ, zero, suc, ◌+◌, ◌%◌, ◌^◌, ◌<◌, ◌≤◌, Bool, true, false, nat_eq, arith}
use Rattle.rule_trees.specs.RuleTree.{node}
use Rattle.rule_eq.specs.Rule as R
use Rattle.rule_walks.proofs.Rounds.{halved}
use Rattle.rule_walks.specs.Balanced.{Chain, single, before, paired, paired_from, round, links, as_one, height, tallest}

one_higher : (c : Chain) → tallest (paired c) ≤ suc (tallest c)
one_higher (single t) = omega arith
one_higher (before t m (single u)) = omega arith
one_higher (before t m (before u n c)) = omega (arith, one_higher c)

from_higher : (b : Bool) (c : Chain) → tallest (paired_from b c) ≤ suc (tallest c)
from_higher true (single t) = omega arith
from_higher true (before t m c) = omega (arith, one_higher c)
from_higher false c = one_higher c

rounds : (j k : ℕ) (c : Chain) → links c ≤ k → links c < 2 ^ j → height (as_one k c) ≤ j + tallest c
rounds j zero (single t) h i = omega arith
rounds j (suc k) (single t) h i = omega arith
rounds j zero (before t m c) h i = absurd (omega (arith, h))
rounds zero (suc k) (before t m c) h i = absurd (omega (arith, i))
rounds (suc j) (suc k) (before t m c) h i =
    let d = before t m c in
    let p = halved d in
    let r = rounds j k (round d) (omega (arith, p, h)) (omega (arith, p, i, twice j)) in
    omega (arith, r, from_higher (nat_eq (links d % 2) 0) d)
  where
    twice : (j : ℕ) → 2 ^ suc j ≡ 2 ^ j + 2 ^ j
    twice j = omega arith
