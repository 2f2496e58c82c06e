-- What is built of a file is its tree.
use Rattle.std.proofs.Common.{◌≡◌, ℕ, true, false, List, [], ◌∷◌, ◌++◌, Some, refl, ap, sym, ◌∙◌, append_assoc, if◌then◌else◌}
use Rattle.std.specs.List.{list_all}
use Rattle.std.proofs.lemmas.Bool.{and_parts, false≢true}
use Rattle.std.proofs.lemmas.List.{append-nil}
use Rattle.ac_sx.specs.Tree.{Tree, Trees, Atom, Node, no_trees, more, IsTree, AreTrees, is_atom_byte, spelling, spellings, file, closing, space, line_end}
use Rattle.ac_sx.specs.CodeSx.{pushed}
use Rattle.ac_sx.specs.CodeBuilder.{Building, nothing, placed, entered, left, flushed, acted, built_from, built}

abbrev pub joined : Trees → Trees → Trees
joined us no_trees = us
joined us (more t ts) = joined (pushed us t) ts

joined-more : (u : Tree) (us ts : Trees) → joined (more u us) ts ≡ more u (joined us ts)
joined-more u us no_trees = refl
joined-more u us (more t ts) = joined-more u (pushed us t) ts

pub joined-none : (ts : Trees) → joined no_trees ts ≡ ts
joined-none no_trees = refl
joined-none (more t ts) = joined-more t no_trees ts ∙ ap (λ us. more t us) (joined-none ts)

-- one byte of an atom
word_byte : (b : Building) (word : List ℕ) (c : ℕ) (cs : List ℕ) → is_atom_byte c ≡ true → built_from b word (c ∷ cs) ≡ built_from b (word ++ c ∷ []) cs
word_byte b word c cs e =
    ap (λ t. built_from (if t then b else acted (flushed b word) c) (if t then word ++ c ∷ [] else []) cs) e

-- any other byte
other_byte : (b : Building) (word : List ℕ) (c : ℕ) (cs : List ℕ) → is_atom_byte c ≡ false → built_from b word (c ∷ cs) ≡ built_from (acted (flushed b word) c) [] cs
other_byte b word c cs e =
    ap (λ t. built_from (if t then b else acted (flushed b word) c) (if t then word ++ c ∷ [] else []) cs) e

word_built : (b : Building) (word w rest : List ℕ) → list_all is_atom_byte w ≡ true → built_from b word (w ++ rest) ≡ built_from b (word ++ w) rest
word_built b word [] rest e = ap (λ x. built_from b x rest) (sym (append-nil word))
word_built b word (c ∷ cs) rest e =
    let h = and_parts (is_atom_byte c) (list_all is_atom_byte cs) e in
    word_byte b word c (cs ++ rest) h.0 ∙ word_built b (word ++ c ∷ []) cs rest h.1 ∙ ap (λ x. built_from b x rest) (append_assoc word (c ∷ []) cs)

abbrev with_parts : Trees → Building → Building
with_parts us b = record { parts = us; around = b.around }

mutual
  tree_built : (t : Tree) → IsTree t → (b : Building) (c : ℕ) → is_atom_byte c ≡ false → (cs : List ℕ) → built_from b [] (spelling t ++ c ∷ cs) ≡ built_from (placed b t) [] (c ∷ cs)
  tree_built (Atom []) is b c other cs = absurd (false≢true is)
  tree_built (Atom (w ∷ ws)) is b c other cs =
      word_built b [] (w ∷ ws) (c ∷ cs) is ∙ other_byte b (w ∷ ws) c cs other ∙ sym (other_byte (placed b (Atom (w ∷ ws))) [] c cs other)
  tree_built (Node ts) is b c other cs =
      ap (built_from (entered b) []) (append_assoc (spellings ts) (closing ∷ []) (c ∷ cs))
      ∙ parts_built ts is (entered b) (c ∷ cs)
      ∙ ap (λ us. built_from (left (record { parts = us; around = b.parts ∷ b.around })) [] (c ∷ cs)) (joined-none ts)

  parts_built : (ts : Trees) → AreTrees ts → (b : Building) (rest : List ℕ) → built_from b [] (spellings ts ++ closing ∷ rest) ≡ built_from (left (record { parts = joined b.parts ts; around = b.around })) [] rest
  parts_built no_trees are b rest = refl
  parts_built (more t no_trees) are b rest = tree_built t are.0 b closing refl rest
  parts_built (more t (more u us)) are b rest =
      ap (built_from b []) (append_assoc (spelling t) (space ∷ spellings (more u us)) (closing ∷ rest))
      ∙ tree_built t are.0 b space refl (spellings (more u us) ++ closing ∷ rest)
      ∙ parts_built (more u us) are.1 (placed b t) rest

pub file_is_built : (t : Tree) → IsTree t → built (file t) ≡ Some t
file_is_built t is = tree_built t is nothing line_end refl []

-- no two trees have one file
pub one_file : (t u : Tree) → IsTree t → IsTree u → file t ≡ file u → t ≡ u
one_file t u is are e = let x = file_is_built t is in let y = file_is_built u are in let z = ap built e in cc
