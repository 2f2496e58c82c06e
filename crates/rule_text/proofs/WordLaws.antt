-- Trees of the rules of numbers are read from their texts, and what is read is the tree whose text it is.
use Rattle.std.proofs.Common.{◌≡◌, ℕ, Bool, true, false, ◌⊎◌, inl, inr, List, Some, None, Ok, refl, ap, codes, if◌then◌else◌}
use Rattle.ac_sx.specs.Tree.{Tree, Atom, Node, no_trees, more}
use Rattle.c_values.specs.Name.{Name, same_name}
use Rattle.expression_text.specs.Words.{looked_up}
use Rattle.expression_text.proofs.LookedUp.{looked_up_is, name_is}
use Rattle.expression_text.proofs.Behind.{IsReadAs}
use Rattle.expression_text.specs.Reading.{next}
use Rattle.expression_text.specs.Lists.{each}
use Rattle.expression_text.proofs.ListLaws.{IsPart, list_reads, list_spells}
use Rattle.expression_lang.specs.Sort.{Kind, is_kind}
use Rattle.program_text.specs.Kinds.{kind_tree, kind_at}
use Rattle.program_text.proofs.KindLaws.{kind_reads, kind_spells}
use Rattle.rule_word.specs.Rule as R
use Rattle.rule_trees.specs.RuleTree as rules
use Rattle.rule_text.specs.Arities.{exactly, at_least}
use Rattle.rule_text.specs.RuleReading.{Given}
use Rattle.rule_text.specs.WordText.{word, plain_rules, is_plain, data_of, has_text, text_of, is_tree, given, words, tree_at, kinds_tree, kinds_at}
use Rattle.rule_text.proofs.PlainFound.{looked_up_among}
use Rattle.rule_text.proofs.GivenLaws.{IsForm, form, form_reads, form_spells}
use Rattle.rule_text.proofs.RuleLaws.{IsPlain, IsGiven, IsOf, AreWords, reads, spells}

pub rules_found : (r : R.Rule) → is_plain r ≡ true → looked_up word plain_rules (word r) ≡ Some r
rules_found (R.Bind ks) is = absurd cc
rules_found (R.Loop ks) is = absurd cc
rules_found (R.Recast ks) is = absurd cc
rules_found (R.Word k) is = absurd cc
rules_found (R.Eq k) is = absurd cc
rules_found r is = refl

bare : (r : R.Rule) → is_plain r ≡ true → data_of r ≡ no_trees
bare (R.Bind ks) is = absurd cc
bare (R.Loop ks) is = absurd cc
bare (R.Recast ks) is = absurd cc
bare (R.Word k) is = absurd cc
bare (R.Eq k) is = absurd cc
bare r is = refl

plain_fine : (r : R.Rule) → is_plain r ≡ true → has_text r ≡ true
plain_fine (R.Bind ks) is = absurd cc
plain_fine (R.Loop ks) is = absurd cc
plain_fine (R.Recast ks) is = absurd cc
plain_fine (R.Word k) is = absurd cc
plain_fine (R.Eq k) is = absurd cc
plain_fine r is = refl

kinds_read : (ks : List Kind) → each is_kind ks ≡ true → IsReadAs kinds_at (kinds_tree ks) ks
kinds_read ks is = λ at. list_reads kind_at kind_tree is_kind kind_reads ks is (next at)

kinds_spell : (t : Tree) (at : ℕ) (ks : List Kind) (n : ℕ) → kinds_at at t ≡ Ok (ks, n) → IsPart kinds_tree (each is_kind) t ks
kinds_spell (Atom w) at ks n e = absurd cc
kinds_spell (Node ts) at ks n e = let p = list_spells kind_at kind_tree is_kind kind_spells ts (next at) ks n e in (ap Node p.0, p.1)

binds : IsForm word data_of has_text words (λ ks. R.Bind ks) kinds_at kinds_tree (each is_kind) (codes "bind") (exactly 2)
binds = record {
  named = λ x. refl;
  text = λ x. refl;
  fine = λ x. refl;
  arity = λ x. refl;
  reads = kinds_read;
  spells = kinds_spell;
}

loops : IsForm word data_of has_text words (λ ks. R.Loop ks) kinds_at kinds_tree (each is_kind) (codes "loop") (at_least 3)
loops = record {
  named = λ x. refl;
  text = λ x. refl;
  fine = λ x. refl;
  arity = λ x. refl;
  reads = kinds_read;
  spells = kinds_spell;
}

recasts : IsForm word data_of has_text words (λ ks. R.Recast ks) kinds_at kinds_tree (each is_kind) (codes "recast") (exactly 1)
recasts = record {
  named = λ x. refl;
  text = λ x. refl;
  fine = λ x. refl;
  arity = λ x. refl;
  reads = kinds_read;
  spells = kinds_spell;
}

to_words : IsForm word data_of has_text words (λ k. R.Word k) kind_at kind_tree is_kind (codes "word") (exactly 1)
to_words = record {
  named = λ x. refl;
  text = λ x. refl;
  fine = λ x. refl;
  arity = λ x. refl;
  reads = kind_reads;
  spells = kind_spells;
}

eqs : IsForm word data_of has_text words (λ k. R.Eq k) kind_at kind_tree is_kind (codes "eq") (exactly 2)
eqs = record {
  named = λ x. refl;
  text = λ x. refl;
  fine = λ x. refl;
  arity = λ x. refl;
  reads = kind_reads;
  spells = kind_spells;
}

rule_found : (r : R.Rule) → has_text r ≡ true → IsPlain word data_of has_text words r ⊎ IsGiven word data_of has_text words r
rule_found (R.Bind ks) fine = inr (form_reads word data_of has_text words (λ ks. R.Bind ks) kinds_at kinds_tree (each is_kind) (codes "bind") (exactly 2) binds ks fine refl refl)
rule_found (R.Loop ks) fine = inr (form_reads word data_of has_text words (λ ks. R.Loop ks) kinds_at kinds_tree (each is_kind) (codes "loop") (at_least 3) loops ks fine refl refl)
rule_found (R.Recast ks) fine = inr (form_reads word data_of has_text words (λ ks. R.Recast ks) kinds_at kinds_tree (each is_kind) (codes "recast") (exactly 1) recasts ks fine refl refl)
rule_found (R.Word k) fine = inr (form_reads word data_of has_text words (λ k. R.Word k) kind_at kind_tree is_kind (codes "word") (exactly 1) to_words k fine refl refl)
rule_found (R.Eq k) fine = inr (form_reads word data_of has_text words (λ k. R.Eq k) kind_at kind_tree is_kind (codes "eq") (exactly 2) eqs k fine refl refl)
rule_found r fine = inl (record { bare = refl; found = refl })

rule_given : (w : Name) (g : Given R.Rule) (at : ℕ) (t : Tree) (r : R.Rule) (n : ℕ) → given w ≡ Some g → g.read at t ≡ Ok (r, n) → IsOf word data_of has_text words w (more t no_trees) r × (words.arity r ≡ g.arity)
rule_given w g at t r n e read = by (same_name w (codes "bind")) (same_name w (codes "loop")) (same_name w (codes "recast")) (same_name w (codes "word")) (same_name w (codes "eq")) refl refl refl refl refl e
  where
    by : (b0 b1 b2 b3 b4 : Bool) → same_name w (codes "bind") ≡ b0 → same_name w (codes "loop") ≡ b1 → same_name w (codes "recast") ≡ b2 → same_name w (codes "word") ≡ b3 → same_name w (codes "eq") ≡ b4 → (if b0 then Some (form word data_of has_text words (λ ks. R.Bind ks) kinds_at kinds_tree (each is_kind) (codes "bind") (exactly 2)) else (if b1 then Some (form word data_of has_text words (λ ks. R.Loop ks) kinds_at kinds_tree (each is_kind) (codes "loop") (at_least 3)) else (if b2 then Some (form word data_of has_text words (λ ks. R.Recast ks) kinds_at kinds_tree (each is_kind) (codes "recast") (exactly 1)) else (if b3 then Some (form word data_of has_text words (λ k. R.Word k) kind_at kind_tree is_kind (codes "word") (exactly 1)) else (if b4 then Some (form word data_of has_text words (λ k. R.Eq k) kind_at kind_tree is_kind (codes "eq") (exactly 2)) else None))))) ≡ Some g → IsOf word data_of has_text words w (more t no_trees) r × (words.arity r ≡ g.arity)
    by true b1 b2 b3 b4 e0 e1 e2 e3 e4 f = let same : form word data_of has_text words (λ ks. R.Bind ks) kinds_at kinds_tree (each is_kind) (codes "bind") (exactly 2) ≡ g = cc in form_spells word data_of has_text words (λ ks. R.Bind ks) kinds_at kinds_tree (each is_kind) (codes "bind") (exactly 2) binds w g at t r n (name_is w (codes "bind") e0) same read
    by false true b2 b3 b4 e0 e1 e2 e3 e4 f = let same : form word data_of has_text words (λ ks. R.Loop ks) kinds_at kinds_tree (each is_kind) (codes "loop") (at_least 3) ≡ g = cc in form_spells word data_of has_text words (λ ks. R.Loop ks) kinds_at kinds_tree (each is_kind) (codes "loop") (at_least 3) loops w g at t r n (name_is w (codes "loop") e1) same read
    by false false true b3 b4 e0 e1 e2 e3 e4 f = let same : form word data_of has_text words (λ ks. R.Recast ks) kinds_at kinds_tree (each is_kind) (codes "recast") (exactly 1) ≡ g = cc in form_spells word data_of has_text words (λ ks. R.Recast ks) kinds_at kinds_tree (each is_kind) (codes "recast") (exactly 1) recasts w g at t r n (name_is w (codes "recast") e2) same read
    by false false false true b4 e0 e1 e2 e3 e4 f = let same : form word data_of has_text words (λ k. R.Word k) kind_at kind_tree is_kind (codes "word") (exactly 1) ≡ g = cc in form_spells word data_of has_text words (λ k. R.Word k) kind_at kind_tree is_kind (codes "word") (exactly 1) to_words w g at t r n (name_is w (codes "word") e3) same read
    by false false false false true e0 e1 e2 e3 e4 f = let same : form word data_of has_text words (λ k. R.Eq k) kind_at kind_tree is_kind (codes "eq") (exactly 2) ≡ g = cc in form_spells word data_of has_text words (λ k. R.Eq k) kind_at kind_tree is_kind (codes "eq") (exactly 2) eqs w g at t r n (name_is w (codes "eq") e4) same read
    by false false false false false e0 e1 e2 e3 e4 f = absurd cc

are_words : AreWords word data_of has_text words
are_words = record {
  found = rule_found;
  plain = λ w r e.
      let plain = looked_up_among word is_plain plain_rules w r refl e in
      record { named = looked_up_is word plain_rules w r e; text = bare r plain; fine = plain_fine r plain };
  given = rule_given;
}

pub tree_reads : (t : rules.Tree R.Rule) → is_tree t ≡ true → IsReadAs tree_at (text_of t) t
tree_reads t is = reads word data_of has_text words are_words t is

pub tree_spells : (t : Tree) (at : ℕ) (x : rules.Tree R.Rule) (n : ℕ) → tree_at at t ≡ Ok (x, n) → (t ≡ text_of x) × (is_tree x ≡ true)
tree_spells t at x n e = spells word data_of has_text words are_words t at x n e
