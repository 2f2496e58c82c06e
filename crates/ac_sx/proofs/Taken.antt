-- What a builder and a speller have behind a tree.
use Rattle.std.proofs.Common.{◌≡◌, ℕ, true, false, List, [], ◌∷◌, ◌++◌, Some, refl, ap, sym, ◌∙◌, append_assoc}
use Rattle.std.proofs.lemmas.List.{append-nil}
use Rattle.ac_sx.specs.Tree.{Tree, Trees, Atom, Node, no_trees, more, spelling, spellings, file, opening, closing, space, line_end}
use Rattle.ac_sx.specs.Writing.{written, all_written}
use Rattle.ac_sx.specs.CodeWriter.{parts_behind}
use Rattle.ac_sx.specs.CodeBuilder.{Building, nothing, placed, entered, left, building, last_of}
use Rattle.ac_sx.specs.CodeSpeller.{Spelt, blank, parted, spelling_out}
use Rattle.ac_sx.proofs.Built.{joined, joined-none}
use Rattle.ac_sx.proofs.Written.{spellings-behind}

mutual
  pub tree_placed : (b : Building) (t : Tree) → written building b t ≡ placed b t
  tree_placed b (Atom word) = refl
  tree_placed b (Node ts) =
      ap left (all_placed (entered b) ts)
      ∙ ap (λ us. placed b (Node us)) (joined-none ts)

  all_placed : (b : Building) (ts : Trees) → all_written building b ts ≡ record { parts = joined b.parts ts; around = b.around }
  all_placed b no_trees = refl
  all_placed b (more t ts) = ap (λ c. all_written building c ts) (tree_placed b t) ∙ all_placed (placed b t) ts

mutual
  pub tree_spelt : (s : Spelt) (t : Tree) → written spelling_out s t ≡ record { text = parted s ++ spelling t; begun = true }
  tree_spelt s (Atom word) = refl
  tree_spelt s (Node ts) =
      ap (λ u. record { text = u ++ closing ∷ []; begun = true }) (list_spelt (parted s ++ opening ∷ []) ts)
      ∙ ap (λ u. record { text = u; begun = true })
      (append_assoc (parted s ++ opening ∷ []) (spellings ts) (closing ∷ []) ∙ append_assoc (parted s) (opening ∷ []) (spellings ts ++ closing ∷ []))

  -- the parts of a list that was entered
  list_spelt : (text : List ℕ) (ts : Trees) → (all_written spelling_out (record { text = text; begun = false }) ts).text ≡ text ++ spellings ts
  list_spelt text no_trees = sym (append-nil text)
  list_spelt text (more t ts) =
      ap (λ s. (all_written spelling_out s ts).text) (tree_spelt (record { text = text; begun = false }) t)
      ∙ rest_spelt (text ++ spelling t) ts
      ∙ append_assoc text (spelling t) (parts_behind ts)
      ∙ ap (λ u. text ++ u) (sym (spellings-behind t ts))

  -- those behind a part
  rest_spelt : (text : List ℕ) (ts : Trees) → (all_written spelling_out (record { text = text; begun = true }) ts).text ≡ text ++ parts_behind ts
  rest_spelt text no_trees = sym (append-nil text)
  rest_spelt text (more t ts) =
      ap (λ s. (all_written spelling_out s ts).text) (tree_spelt (record { text = text; begun = true }) t)
      ∙ rest_spelt ((text ++ space ∷ []) ++ spelling t) ts
      ∙ append_assoc (text ++ space ∷ []) (spelling t) (parts_behind ts)
      ∙ append_assoc text (space ∷ []) (spelling t ++ parts_behind ts)

pub whole_placed : (b : Building) (t : Tree) → b ≡ written building nothing t → last_of b.parts ≡ Some t
whole_placed b t e = ap (λ c. last_of c.parts) (e ∙ tree_placed nothing t)

pub whole_spelt : (s : Spelt) (t : Tree) → s ≡ written spelling_out blank t → s.text ++ line_end ∷ [] ≡ file t
whole_spelt s t e = ap (λ u. u.text ++ line_end ∷ []) (e ∙ tree_spelt blank t)
