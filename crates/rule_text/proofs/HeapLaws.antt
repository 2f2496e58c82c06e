-- Trees of the rules of typed heaps are read from their texts, and what is read is the tree whose text it is.
use Rattle.std.proofs.Common.{◌≡◌, ℕ, Bool, true, false, ◌⊎◌, inl, inr, Some, None, Ok, refl, codes, if◌then◌else◌}
use Rattle.ac_sx.specs.Tree.{Tree, no_trees, more}
use Rattle.c_values.specs.Name.{Name, same_name}
use Rattle.expression_text.specs.Words.{looked_up}
use Rattle.expression_text.proofs.LookedUp.{looked_up_is, name_is}
use Rattle.expression_text.proofs.Behind.{IsReadAs}
use Rattle.expression_text.specs.ExpText.{exp_tree, is_exp}
use Rattle.expression_text.specs.ExpReading.{exp_at}
use Rattle.expression_text.proofs.ExpsText.{exp_reads, exp_spells}
use Rattle.rule_heap.specs.Rule as R
use Rattle.rule_trees.specs.RuleTree as rules
use Rattle.rule_text.specs.Arities.{exactly}
use Rattle.rule_text.specs.RuleReading.{Given}
use Rattle.rule_text.specs.HeapText.{word, plain_rules, is_plain, data_of, has_text, text_of, is_tree, given, words, tree_at}
use Rattle.rule_text.proofs.PlainFound.{looked_up_among}
use Rattle.rule_text.proofs.GivenLaws.{IsForm, form, form_reads, form_spells}
use Rattle.rule_text.proofs.RuleLaws.{IsPlain, IsGiven, IsOf, AreWords, reads, spells}

pub rules_found : (r : R.Rule) → is_plain r ≡ true → looked_up word plain_rules (word r) ≡ Some r
rules_found (R.Drop a) is = absurd cc
rules_found (R.Known a) is = absurd cc
rules_found r is = refl

bare : (r : R.Rule) → is_plain r ≡ true → data_of r ≡ no_trees
bare (R.Drop a) is = absurd cc
bare (R.Known a) is = absurd cc
bare r is = refl

plain_fine : (r : R.Rule) → is_plain r ≡ true → has_text r ≡ true
plain_fine (R.Drop a) is = absurd cc
plain_fine (R.Known a) is = absurd cc
plain_fine r is = refl

drops : IsForm word data_of has_text words (λ a. R.Drop a) exp_at exp_tree is_exp (codes "drop") (exactly 2)
drops = record {
  named = λ x. refl;
  text = λ x. refl;
  fine = λ x. refl;
  arity = λ x. refl;
  reads = exp_reads;
  spells = exp_spells;
}

knowns : IsForm word data_of has_text words (λ a. R.Known a) exp_at exp_tree is_exp (codes "known") (exactly 1)
knowns = record {
  named = λ x. refl;
  text = λ x. refl;
  fine = λ x. refl;
  arity = λ x. refl;
  reads = exp_reads;
  spells = exp_spells;
}

rule_found : (r : R.Rule) → has_text r ≡ true → IsPlain word data_of has_text words r ⊎ IsGiven word data_of has_text words r
rule_found (R.Drop a) fine = inr (form_reads word data_of has_text words (λ a. R.Drop a) exp_at exp_tree is_exp (codes "drop") (exactly 2) drops a fine refl refl)
rule_found (R.Known a) fine = inr (form_reads word data_of has_text words (λ a. R.Known a) exp_at exp_tree is_exp (codes "known") (exactly 1) knowns a fine refl refl)
rule_found r fine = inl (record { bare = refl; found = refl })

rule_given : (w : Name) (g : Given R.Rule) (at : ℕ) (t : Tree) (r : R.Rule) (n : ℕ) → given w ≡ Some g → g.read at t ≡ Ok (r, n) → IsOf word data_of has_text words w (more t no_trees) r × (words.arity r ≡ g.arity)
rule_given w g at t r n e read = by (same_name w (codes "drop")) (same_name w (codes "known")) refl refl e
  where
    by : (b0 b1 : Bool) → same_name w (codes "drop") ≡ b0 → same_name w (codes "known") ≡ b1 → (if b0 then Some (form word data_of has_text words (λ a. R.Drop a) exp_at exp_tree is_exp (codes "drop") (exactly 2)) else (if b1 then Some (form word data_of has_text words (λ a. R.Known a) exp_at exp_tree is_exp (codes "known") (exactly 1)) else None)) ≡ Some g → IsOf word data_of has_text words w (more t no_trees) r × (words.arity r ≡ g.arity)
    by true b1 e0 e1 f = let same : form word data_of has_text words (λ a. R.Drop a) exp_at exp_tree is_exp (codes "drop") (exactly 2) ≡ g = cc in form_spells word data_of has_text words (λ a. R.Drop a) exp_at exp_tree is_exp (codes "drop") (exactly 2) drops w g at t r n (name_is w (codes "drop") e0) same read
    by false true e0 e1 f = let same : form word data_of has_text words (λ a. R.Known a) exp_at exp_tree is_exp (codes "known") (exactly 1) ≡ g = cc in form_spells word data_of has_text words (λ a. R.Known a) exp_at exp_tree is_exp (codes "known") (exactly 1) knowns w g at t r n (name_is w (codes "known") e1) same read
    by false false e0 e1 f = absurd cc

are_words : AreWords word data_of has_text words
are_words = record {
  found = rule_found;
  plain = λ w r e.
      let plain = looked_up_among word is_plain plain_rules w r refl e in
      record { named = looked_up_is word plain_rules w r e; text = bare r plain; fine = plain_fine r plain };
  given = rule_given;
}

pub tree_reads : (t : rules.Tree R.Rule) → is_tree t ≡ true → IsReadAs tree_at (text_of t) t
tree_reads t is = reads word data_of has_text words are_words t is

pub tree_spells : (t : Tree) (at : ℕ) (x : rules.Tree R.Rule) (n : ℕ) → tree_at at t ≡ Ok (x, n) → (t ≡ text_of x) × (is_tree x ≡ true)
tree_spells t at x n e = spells word data_of has_text words are_words t at x n e
