-- Trees of the rules of equality are read from their texts, and what is read is the tree whose text it is.
use Rattle.std.proofs.Common.{◌≡◌, ℕ, ◌^◌, nat_lt, Bool, true, false, ◌⊎◌, inl, inr, Some, None, Ok, refl, arith, codes, if◌then◌else◌}
use Rattle.ac_sx.specs.Tree.{Tree, Atom, no_trees, more}
use Rattle.c_values.specs.Name.{Name, same_name}
use Rattle.expression_text.specs.Words.{looked_up}
use Rattle.expression_text.proofs.LookedUp.{looked_up_is, name_is}
use Rattle.expression_text.proofs.Behind.{IsReadAs}
use Rattle.std.specs.Fmt.{decimal}
use Rattle.std.proofs.lemmas.Bool.{ltb-true, lt-ltb}
use Rattle.expression_text.specs.Numbers.{natural_at}
use Rattle.expression_text.proofs.ListLaws.{IsPart}
use Rattle.expression_text.proofs.TypesText.{natural_reads, natural_spells}
use Rattle.program_text.specs.MonText.{mon_tree, is_mon}
use Rattle.program_text.specs.MonReading.{mon_at}
use Rattle.program_text.proofs.MonLaws.{mon_reads, mon_spells}
use Rattle.rule_eq.specs.Rule as R
use Rattle.rule_trees.specs.RuleTree as rules
use Rattle.rule_text.specs.Arities.{exactly}
use Rattle.rule_text.specs.RuleReading.{Given}
use Rattle.rule_text.specs.EqualityText.{word, plain_rules, is_plain, data_of, has_text, text_of, is_tree, given, words, tree_at}
use Rattle.rule_text.proofs.PlainFound.{looked_up_among}
use Rattle.rule_text.proofs.GivenLaws.{IsForm, form, form_reads, form_spells}
use Rattle.rule_text.proofs.RuleLaws.{IsPlain, IsGiven, IsOf, AreWords, reads, spells}

pub rules_found : (r : R.Rule) → is_plain r ≡ true → looked_up word plain_rules (word r) ≡ Some r
rules_found (R.Trans m) is = absurd cc
rules_found (R.RetOne i) is = absurd cc
rules_found r is = refl

bare : (r : R.Rule) → is_plain r ≡ true → data_of r ≡ no_trees
bare (R.Trans m) is = absurd cc
bare (R.RetOne i) is = absurd cc
bare r is = refl

plain_fine : (r : R.Rule) → is_plain r ≡ true → has_text r ≡ true
plain_fine (R.Trans m) is = absurd cc
plain_fine (R.RetOne i) is = absurd cc
plain_fine r is = refl

-- a position
position_reads : (i : ℕ) → nat_lt i (2 ^ 32) ≡ true → IsReadAs (natural_at (2 ^ 32)) (Atom (decimal i)) i
position_reads i is = natural_reads (2 ^ 32) i (ltb-true i (2 ^ 32) is) (omega arith)

position_spells : (t : Tree) (at i n : ℕ) → natural_at (2 ^ 32) at t ≡ Ok (i, n) → IsPart (λ j. Atom (decimal j)) (λ j. nat_lt j (2 ^ 32)) t i
position_spells t at i n e = let p = natural_spells (2 ^ 32) t at i n e in (p.0, lt-ltb i (2 ^ 32) p.1)

transes : IsForm word data_of has_text words (λ m. R.Trans m) mon_at mon_tree is_mon (codes "trans") (exactly 2)
transes = record {
  named = λ x. refl;
  text = λ x. refl;
  fine = λ x. refl;
  arity = λ x. refl;
  reads = mon_reads;
  spells = λ t at m n e. let p = mon_spells t at m n e in (p.0, p.1);
}

ret_ones : IsForm word data_of has_text words (λ i. R.RetOne i) (natural_at (2 ^ 32)) (λ j. Atom (decimal j)) (λ j. nat_lt j (2 ^ 32)) (codes "ret_one") (exactly 0)
ret_ones = record {
  named = λ x. refl;
  text = λ x. refl;
  fine = λ x. refl;
  arity = λ x. refl;
  reads = position_reads;
  spells = position_spells;
}

rule_found : (r : R.Rule) → has_text r ≡ true → IsPlain word data_of has_text words r ⊎ IsGiven word data_of has_text words r
rule_found (R.Trans m) fine = inr (form_reads word data_of has_text words (λ m. R.Trans m) mon_at mon_tree is_mon (codes "trans") (exactly 2) transes m fine refl refl)
rule_found (R.RetOne i) fine = inr (form_reads word data_of has_text words (λ i. R.RetOne i) (natural_at (2 ^ 32)) (λ j. Atom (decimal j)) (λ j. nat_lt j (2 ^ 32)) (codes "ret_one") (exactly 0) ret_ones i fine refl refl)
rule_found r fine = inl (record { bare = refl; found = refl })

rule_given : (w : Name) (g : Given R.Rule) (at : ℕ) (t : Tree) (r : R.Rule) (n : ℕ) → given w ≡ Some g → g.read at t ≡ Ok (r, n) → IsOf word data_of has_text words w (more t no_trees) r × (words.arity r ≡ g.arity)
rule_given w g at t r n e read = by (same_name w (codes "trans")) (same_name w (codes "ret_one")) refl refl e
  where
    by : (b0 b1 : Bool) → same_name w (codes "trans") ≡ b0 → same_name w (codes "ret_one") ≡ b1 → (if b0 then Some (form word data_of has_text words (λ m. R.Trans m) mon_at mon_tree is_mon (codes "trans") (exactly 2)) else (if b1 then Some (form word data_of has_text words (λ i. R.RetOne i) (natural_at (2 ^ 32)) (λ j. Atom (decimal j)) (λ j. nat_lt j (2 ^ 32)) (codes "ret_one") (exactly 0)) else None)) ≡ Some g → IsOf word data_of has_text words w (more t no_trees) r × (words.arity r ≡ g.arity)
    by true b1 e0 e1 f = let same : form word data_of has_text words (λ m. R.Trans m) mon_at mon_tree is_mon (codes "trans") (exactly 2) ≡ g = cc in form_spells word data_of has_text words (λ m. R.Trans m) mon_at mon_tree is_mon (codes "trans") (exactly 2) transes w g at t r n (name_is w (codes "trans") e0) same read
    by false true e0 e1 f = let same : form word data_of has_text words (λ i. R.RetOne i) (natural_at (2 ^ 32)) (λ j. Atom (decimal j)) (λ j. nat_lt j (2 ^ 32)) (codes "ret_one") (exactly 0) ≡ g = cc in form_spells word data_of has_text words (λ i. R.RetOne i) (natural_at (2 ^ 32)) (λ j. Atom (decimal j)) (λ j. nat_lt j (2 ^ 32)) (codes "ret_one") (exactly 0) ret_ones w g at t r n (name_is w (codes "ret_one") e1) same read
    by false false e0 e1 f = absurd cc

are_words : AreWords word data_of has_text words
are_words = record {
  found = rule_found;
  plain = λ w r e.
      let plain = looked_up_among word is_plain plain_rules w r refl e in
      record { named = looked_up_is word plain_rules w r e; text = bare r plain; fine = plain_fine r plain };
  given = rule_given;
}

pub tree_reads : (t : rules.Tree R.Rule) → is_tree t ≡ true → IsReadAs tree_at (text_of t) t
tree_reads t is = reads word data_of has_text words are_words t is

pub tree_spells : (t : Tree) (at : ℕ) (x : rules.Tree R.Rule) (n : ℕ) → tree_at at t ≡ Ok (x, n) → (t ≡ text_of x) × (is_tree x ≡ true)
tree_spells t at x n e = spells word data_of has_text words are_words t at x n e
