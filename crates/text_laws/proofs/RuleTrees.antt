-- The trees of texts of trees of rules are trees of atoms, where these trees have texts.
use Rattle.std.proofs.Common.{◌≡◌, Bool, true, ◌&&◌, refl}
use Rattle.std.proofs.lemmas.Bool.{and_parts}
use Rattle.c_values.specs.Name.{Name}
use Rattle.expression_lang.specs.Sort.{is_kind}
use Rattle.ac_sx.specs.Tree.{Trees, no_trees, more, IsTree, AreTrees, is_atom}
use Rattle.expression_text.specs.Lists.{joined}
use Rattle.expression_text.proofs.Atoms.{short_atom}
use Rattle.program_text.specs.Kinds.{kind_tree}
use Rattle.rule_trees.specs.RuleTree as rules
use Rattle.rule_exn.specs.Rule as X
use Rattle.rule_local.specs.Rule as L
use Rattle.rule_heap.specs.Rule as H
use Rattle.rule_word.specs.Rule as W
use Rattle.rule_eq.specs.Rule as Q
use Rattle.rule_text.specs.Arities.{fits}
use Rattle.rule_text.specs.RuleText.{word_with, rule_tree, rule_trees, is_tree, are_trees}
use Rattle.rule_text.specs.ExceptionText as exceptions
use Rattle.rule_text.specs.LocalText as locals
use Rattle.rule_text.specs.HeapText as heaps
use Rattle.rule_text.specs.WordText as words
use Rattle.rule_text.specs.EqualityText as equality
use Rattle.text_laws.proofs.ExpTrees.{exp_is_tree, each_is_tree}
use Rattle.text_laws.proofs.ProgramTrees.{mon_is_tree, kind_is_tree}

with_are_trees : (word : Name) (ts : Trees) → is_atom word ≡ true → AreTrees ts → IsTree (word_with word ts)
with_are_trees word no_trees h k = h
with_are_trees word (more t ts) h k = (h, k)

joined_are_trees : (ts us : Trees) → AreTrees ts → AreTrees us → AreTrees (joined ts us)
joined_are_trees no_trees us h k = k
joined_are_trees (more t ts) us h k = (h.0, joined_are_trees ts us h.1 k)

module _ {Rule : Type 0} (word : Rule → Name) (data' : Rule → Trees) (has_text : Rule → Bool)
    (words : (r : Rule) → is_atom (word r) ≡ true) (given : (r : Rule) → has_text r ≡ true → AreTrees (data' r)) where
  mutual
    pub rule_is_tree : (arity : Rule → _) (t : rules.Tree Rule) → is_tree arity has_text t ≡ true →
        IsTree (rule_tree word data' t)
    rule_is_tree arity (rules.node r ts) h =
        let p = and_parts (fits (arity r) (rules.count ts) && has_text r) (are_trees arity has_text ts) h in
        let q = and_parts (fits (arity r) (rules.count ts)) (has_text r) p.0 in
        with_are_trees (word r) (joined (data' r) (rule_trees word data' ts)) (words r)
        (joined_are_trees (data' r) (rule_trees word data' ts) (given r q.1) (rules_are_trees arity ts p.1))

    pub rules_are_trees : (arity : Rule → _) (ts : rules.Trees Rule) → are_trees arity has_text ts ≡ true →
        AreTrees (rule_trees word data' ts)
    rules_are_trees arity rules.no_trees h = tt
    rules_are_trees arity (rules.tree t ts) h =
        let p = and_parts (is_tree arity has_text t) (are_trees arity has_text ts) h in
        (rule_is_tree arity t p.0, rules_are_trees arity ts p.1)

-- The rules of each step

exception_word : (r : X.Rule) → is_atom (exceptions.word r) ≡ true
exception_word X.Skip = refl
exception_word _ = refl

pub exception_is_tree : (t : rules.Tree X.Rule) → exceptions.is_tree t ≡ true → IsTree (exceptions.text_of t)
exception_is_tree t h = rule_is_tree exceptions.word exceptions.data_of (λ r. true) exception_word (λ r k. tt) exceptions.arity t h

local_word : (r : L.Rule) → is_atom (locals.word r) ≡ true
local_word L.Skip = refl
local_word _ = refl

pub local_is_tree : (t : rules.Tree L.Rule) → locals.is_tree t ≡ true → IsTree (locals.text_of t)
local_is_tree t h = rule_is_tree locals.word locals.data_of (λ r. true) local_word (λ r k. tt) locals.arity t h

heap_word : (r : H.Rule) → is_atom (heaps.word r) ≡ true
heap_word H.Ret = refl
heap_word _ = refl

heap_data : (r : H.Rule) → heaps.has_text r ≡ true → AreTrees (heaps.data_of r)
heap_data (H.Drop a) h = (exp_is_tree a h, tt)
heap_data (H.Known a) h = (exp_is_tree a h, tt)
heap_data r h = tt

pub heap_is_tree : (t : rules.Tree H.Rule) → heaps.is_tree t ≡ true → IsTree (heaps.text_of t)
heap_is_tree t h =
    rule_is_tree heaps.word heaps.data_of heaps.has_text heap_word heap_data heaps.arity t h

word_word : (r : W.Rule) → is_atom (words.word r) ≡ true
word_word W.Ret = refl
word_word _ = refl

word_data : (r : W.Rule) → words.has_text r ≡ true → AreTrees (words.data_of r)
word_data (W.Bind ks) h = (each_is_tree is_kind kind_tree kind_is_tree ks h, tt)
word_data (W.Loop ks) h = (each_is_tree is_kind kind_tree kind_is_tree ks h, tt)
word_data (W.Recast ks) h = (each_is_tree is_kind kind_tree kind_is_tree ks h, tt)
word_data (W.Word k) h = (kind_is_tree k h, tt)
word_data (W.Eq k) h = (kind_is_tree k h, tt)
word_data r h = tt

pub word_is_tree : (t : rules.Tree W.Rule) → words.is_tree t ≡ true → IsTree (words.text_of t)
word_is_tree t h =
    rule_is_tree words.word words.data_of words.has_text word_word word_data words.arity t h

equality_word : (r : Q.Rule) → is_atom (equality.word r) ≡ true
equality_word Q.Refl = refl
equality_word _ = refl

equality_data : (r : Q.Rule) → equality.has_text r ≡ true → AreTrees (equality.data_of r)
equality_data (Q.Trans m) h = (mon_is_tree m h, tt)
equality_data (Q.RetOne i) h = (short_atom i h, tt)
equality_data r h = tt

pub equality_is_tree : (t : rules.Tree Q.Rule) → equality.is_tree t ≡ true → IsTree (equality.text_of t)
equality_is_tree t h =
    rule_is_tree equality.word equality.data_of equality.has_text equality_word equality_data equality.arity t h
