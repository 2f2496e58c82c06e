-- Trees of the rules that take exceptions out are read from their texts, and what is read is the tree whose text it is.
use Rattle.std.proofs.Common.{◌≡◌, ℕ, true, inl, Ok, refl}
use Rattle.ac_sx.specs.Tree.{Tree}
use Rattle.expression_text.proofs.LookedUp.{AreFound, looked_up_is}
use Rattle.expression_text.proofs.Behind.{IsReadAs}
use Rattle.rule_exn.specs.Rule as R
use Rattle.rule_trees.specs.RuleTree as rules
use Rattle.rule_text.specs.ExceptionText.{word, all_rules, data_of, text_of, is_tree, words, tree_at}
use Rattle.rule_text.proofs.RuleLaws.{AreWords, reads, spells}

pub rules_found : AreFound word all_rules
rules_found R.Skip = refl
rules_found _ = refl

are_words : AreWords word data_of (λ r. true) words
are_words = record {
  found = λ r fine. inl (record { bare = refl; found = rules_found r });
  plain = λ w r e. record { named = looked_up_is word all_rules w r e; text = refl; fine = refl };
  given = λ w g at t r n e read. absurd cc;
}

pub tree_reads : (t : rules.Tree R.Rule) → is_tree t ≡ true → IsReadAs tree_at (text_of t) t
tree_reads t is = reads word data_of (λ r. true) words are_words t is

pub tree_spells : (t : Tree) (at : ℕ) (x : rules.Tree R.Rule) (n : ℕ) → tree_at at t ≡ Ok (x, n) → (t ≡ text_of x) × (is_tree x ≡ true)
tree_spells t at x n e = spells word data_of (λ r. true) words are_words t at x n e
