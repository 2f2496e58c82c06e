-- The text of a node by its parts, as the writer writes it.
use Rattle.std.proofs.Common.{◌≡◌, suc, ◌+◌, List, [], ◌∷◌, ◌++◌, length, refl, sym, ap, ◌∙◌, arith}
use Rattle.ac_sx.specs.Tree.{Trees, Atom, Node, Tree, no_trees, more}
use Rattle.ac_sx.specs.Writing.{Writing, written, all_written}
use Rattle.c_values.specs.Name.{Name}
use Rattle.expression_text.specs.Lists.{joined}
use Rattle.expression_text.proofs.Writing.{all_joined}
use Rattle.program_text.specs.CodeWriting.{lists_left}
use Rattle.program_text.proofs.Writing.{lists_left_push}
use Rattle.rule_trees.specs.declared.tree.Tree as T
use Rattle.rule_trees.specs.declared.tree.Tree.{out-Tree}
use Rattle.rule_trees.specs.CodeTree as code
use Rattle.rule_trees.specs.CodeNodes.{nodes, nodes_in}
use Rattle.rule_trees.proofs.Parts.{tree_parts}
use Rattle.rule_text.specs.RuleText.{word_with, rule_tree}
use Rattle.rule_text.specs.CodeWriting.{text_in, texts_in}

joined_nothing : (ts : Trees) → joined ts no_trees ≡ ts
joined_nothing no_trees = refl
joined_nothing (more t ts) = ap (λ us. more t us) (joined_nothing ts)

with_last : (word : Name) (data' ts : Trees) (t : Tree) (us : Trees) → word_with word (joined data' (joined ts (more t us))) ≡ Node (more (Atom word) (joined data' (joined ts (more t us))))
with_last word no_trees no_trees t us = refl
with_last _ _ _ _ _ = refl

module _ {R : Type 0} (word : R → Name) (data' : R → Trees) where
  texts_last : (ts : List (T.Tree R)) (t : T.Tree R) → texts_in word data' (ts ++ t ∷ []) ≡ joined (texts_in word data' ts) (more (text_in word data' t) no_trees)
  texts_last [] t = refl
  texts_last (u ∷ ts) t = ap (λ us. more (text_in word data' u) us) (texts_last ts t)

  by_parts : (t : T.Tree R) (ts : List (T.Tree R)) → ts ≡ (out-Tree R t).parts.items → text_in word data' t ≡ word_with (word (out-Tree R t).rule) (joined (data' (out-Tree R t).rule) (texts_in word data' ts))
  by_parts t ts e =
      let r = (out-Tree R t).rule in
      ap (rule_tree word data') (tree_parts (λ r. r) t) ∙ ap (λ us. word_with (word r) (joined (data' r) (texts_in word data' us))) (sym e)

  module _ {S : Type 0} (w : Writing S) where
    -- behind the parts before the last, and the last
    abbrev pub left_in : List (T.Tree R) → T.Tree R → S → S
    left_in others last s = w.left (written w (all_written w s (texts_in word data' others)) (text_in word data' last))

    module _ {A : Type 0} where
      -- a node without parts is its word and its data
      pub leaf_written : (lists : List A) (t : T.Tree R) (ts : List (T.Tree R)) (old new whole : S) → ts ≡ (out-Tree R t).parts.items → length ts ≡ 0 →
          new ≡ written w old (word_with (word (out-Tree R t).rule) (data' (out-Tree R t).rule)) → lists_left w lists (written w old (text_in word data' t)) ≡ whole → lists_left w lists new ≡ whole
      leaf_written lists t (u ∷ us) old new whole e none is so_far = absurd cc
      leaf_written lists t [] old new whole e none is so_far =
          let r = (out-Tree R t).rule in
          ap (lists_left w lists) (is ∙ ap (written w old) (sym (by_parts t [] e ∙ ap (word_with (word r)) (joined_nothing (data' r))))) ∙ so_far

      -- a node with parts begins with its word and its data
      pub node_begun : (lists : List A) (t : T.Tree R) (ts others : List (T.Tree R)) (last : T.Tree R) (old new whole : S) → ts ≡ (out-Tree R t).parts.items → ts ≡ others ++ last ∷ [] →
          new ≡ all_written w (w.put (w.entered old) (word (out-Tree R t).rule)) (data' (out-Tree R t).rule) → lists_left w lists (written w old (text_in word data' t)) ≡ whole → lists_left w lists (left_in others last new) ≡ whole
      node_begun lists t ts others last old new whole e split begun so_far =
          let r = (out-Tree R t).rule in
          let begin = w.put (w.entered old) (word r) in
          let rest = more (text_in word data' last) no_trees in
          ap (λ s. lists_left w lists (left_in others last s)) begun
          ∙ ap (lists_left w lists) (sym (
          ap (written w old) (
          by_parts t ts e
          ∙ ap (λ us. word_with (word r) (joined (data' r) (texts_in word data' us))) split
          ∙ ap (λ us. word_with (word r) (joined (data' r) us)) (texts_last others last)
          ∙ with_last (word r) (data' r) (texts_in word data' others) (text_in word data' last) no_trees
          )
          ∙ ap w.left (all_joined w (data' r) (joined (texts_in word data' others) rest) begin ∙ all_joined w (texts_in word data' others) rest (all_written w begin (data' r)))
          ))
          ∙ so_far

      -- one part more is written
      pub part_written : (lists : List A) (left others : List (T.Tree R)) (part last : T.Tree R) (old new whole : S) → left ≡ part ∷ others → new ≡ written w old (text_in word data' part) →
          lists_left w lists (left_in left last old) ≡ whole → lists_left w lists (left_in others last new) ≡ whole
      part_written lists left others part last old new whole split is so_far =
          ap (λ s. lists_left w lists (left_in others last s)) is
          ∙ ap (λ ts. lists_left w lists (left_in ts last old)) (sym split)
          ∙ so_far

      -- only the last part is left
      pub last_left : (lists now : List A) (list : A) (left : List (T.Tree R)) (last : T.Tree R) (s whole : S) → length left ≡ 0 → now ≡ lists ++ list ∷ [] →
          lists_left w lists (left_in left last s) ≡ whole → lists_left w now (written w s (text_in word data' last)) ≡ whole
      last_left lists now list (u ∷ us) last s whole none pushed so_far = absurd cc
      last_left lists now list [] last s whole none pushed so_far =
          let t = written w s (text_in word data' last) in
          ap (λ xs. lists_left w xs t) pushed ∙ lists_left_push w lists list t ∙ so_far

module _ {R : Type 0} where
  nodes_last : (ts : List (T.Tree R)) (t : T.Tree R) → nodes_in (code.trees_in (λ r. r) (ts ++ t ∷ [])) ≡ nodes_in (code.trees_in (λ r. r) ts) + nodes (code.tree_of (λ r. r) t)
  nodes_last [] t = omega arith
  nodes_last (u ∷ ts) t = let h = nodes_last ts t in omega (arith, h)

  -- the parts of a node have fewer nodes
  pub fewer : (t : T.Tree R) (ts others : List (T.Tree R)) (last : T.Tree R) → ts ≡ (out-Tree R t).parts.items → ts ≡ others ++ last ∷ [] →
      suc (nodes_in (code.trees_in (λ r. r) others) + nodes (code.tree_of (λ r. r) last)) ≡ nodes (code.tree_of (λ r. r) t)
  fewer t ts others last e split =
      ap suc (sym (nodes_last others last) ∙ ap (λ us. nodes_in (code.trees_in (λ r. r) us)) (sym split ∙ e)) ∙ sym (ap nodes (tree_parts (λ r. r) t))

  pub fewer_behind : (left others : List (T.Tree R)) (part : T.Tree R) → left ≡ part ∷ others → nodes_in (code.trees_in (λ r. r) left) ≡ nodes (code.tree_of (λ r. r) part) + nodes_in (code.trees_in (λ r. r) others)
  fewer_behind left others part e = ap (λ ts. nodes_in (code.trees_in (λ r. r) ts)) e
