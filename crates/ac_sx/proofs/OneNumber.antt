-- In a table no tree has two numbers.
use Rattle.std.proofs.Common.{◌≡◌, ℕ, ◌<◌, true, nat_lt, List, [], ◌∷◌, length, get_or, slice_get, Some, refl, ap, ap₂, sym, ◌∙◌, arith}
use Rattle.std.proofs.lemmas.Bool.{and_parts, ltb-true}
use Rattle.std.proofs.lemmas.Option.{slice_get-get_or, slice_get_within, get_or_from_slice_get}
use Rattle.std.proofs.lemmas.List.{get_or_append_left, length-append}
use Rattle.ac_sx.specs.Tree.{Tree, Trees, Atom, Node, no_trees, more}
use Rattle.ac_sx.specs.Table.{Entry, Word, Parts, trees_at, tree_among, trees_of, are_below, is_below, IsTable, Keeps}
use Rattle.ac_sx.proofs.Tabled.{length-trees_of, trees_of-kept, number_tree, number_below_all, below_at}
use Rattle.ac_sx.proofs.Opened.{raised}

-- what the entry of a number says of its tree
entry_there : (es : List Entry) (i : ℕ) (t : Tree) → IsTable es → slice_get (trees_of es) i ≡ Some t → (e : Entry) × (slice_get es i ≡ Some e) × (tree_among (trees_of es) e ≡ t) × (i < length es)
entry_there es i t table at =
    let long = length-trees_of es in
    let within = slice_get_within (trees_of es) i t at in
    let lt : i < length es = omega (arith, long, within) in
    let e = get_or es i (Word []) in
    let there = slice_get-get_or es i (Word []) lt in
    let tree = number_tree es i e table.in_order there in
    let same : tree_among (trees_of es) e ≡ t = cc in
    (e, there, same, lt)

abbrev word_of : Tree → List ℕ
word_of (Atom w) = w
word_of (Node ts) = []

abbrev listed_in : Tree → Trees
listed_in (Atom w) = no_trees
listed_in (Node ts) = ts

abbrev first_of : Tree → Trees → Tree
first_of t no_trees = t
first_of t (more u us) = u

abbrev rest_of : Trees → Trees
rest_of no_trees = no_trees
rest_of (more t ts) = ts

word_entry : (ts : List Tree) (e : Entry) (w : List ℕ) → tree_among ts e ≡ Atom w → e ≡ Word w
word_entry ts (Word v) w same = ap (λ t. Word (word_of t)) same
word_entry ts (Parts is) w same = absurd cc

parts_entry : (ts : List Tree) (e : Entry) (us : Trees) → tree_among ts e ≡ Node us → (is : List ℕ) × (e ≡ Parts is) × (trees_at ts is ≡ us)
parts_entry ts (Word v) us same = absurd cc
parts_entry ts (Parts is) us same = (is, refl, ap listed_in same)

first_at : (es : List Entry) (i : ℕ) (t : Tree) (is : List ℕ) (ts : Trees) → nat_lt i (length es) ≡ true → trees_at (trees_of es) (i ∷ is) ≡ more t ts → slice_get (trees_of es) i ≡ Some t
first_at es i t is ts lt same =
    let long = length-trees_of es in
    let within = ltb-true i (length es) lt in
    slice_get-get_or (trees_of es) i (Node no_trees) (omega (arith, long, within)) ∙ ap Some (ap (first_of t) same)

mutual
  pub one_number : (t : Tree) (es : List Entry) → IsTable es → (i j : ℕ) → slice_get (trees_of es) i ≡ Some t → slice_get (trees_of es) j ≡ Some t → i ≡ j
  one_number (Atom w) es table i j a b =
      let (e, at_i, tree_i, lt_i) = entry_there es i (Atom w) table a in
      let (f, at_j, tree_j, lt_j) = entry_there es j (Atom w) table b in
      table.once i j (Word w) (at_i ∙ ap Some (word_entry (trees_of es) e w tree_i)) (at_j ∙ ap Some (word_entry (trees_of es) f w tree_j))
  one_number (Node ts) es table i j a b =
      let (e, at_i, tree_i, lt_i) = entry_there es i (Node ts) table a in
      let (f, at_j, tree_j, lt_j) = entry_there es j (Node ts) table b in
      let (is, e_is, trees_i) = parts_entry (trees_of es) e ts tree_i in
      let (js, f_is, trees_j) = parts_entry (trees_of es) f ts tree_j in
      let below_i = ap (is_below i) (sym e_is) ∙ number_below_all es i e table.in_order at_i in
      let below_j = ap (is_below j) (sym f_is) ∙ number_below_all es j f table.in_order at_j in
      let same = same_numbers ts es table is js (raised i (length es) is (omega (arith, lt_i)) below_i) (raised j (length es) js (omega (arith, lt_j)) below_j) trees_i trees_j in
      table.once i j e at_i (at_j ∙ ap Some (f_is ∙ ap Parts (sym same) ∙ sym e_is))

  same_numbers : (ts : Trees) (es : List Entry) → IsTable es → (is js : List ℕ) → are_below (length es) is ≡ true → are_below (length es) js ≡ true → trees_at (trees_of es) is ≡ ts → trees_at (trees_of es) js ≡ ts → is ≡ js
  same_numbers no_trees es table [] [] below_i below_j a b = refl
  same_numbers no_trees es table (i ∷ is) js below_i below_j a b = absurd cc
  same_numbers no_trees es table [] (j ∷ js) below_i below_j a b = absurd cc
  same_numbers (more t ts) es table [] js below_i below_j a b = absurd cc
  same_numbers (more t ts) es table (i ∷ is) [] below_i below_j a b = absurd cc
  same_numbers (more t ts) es table (i ∷ is) (j ∷ js) below_i below_j a b =
      let h = and_parts (nat_lt i (length es)) (are_below (length es) is) below_i in
      let k = and_parts (nat_lt j (length es)) (are_below (length es) js) below_j in
      ap₂ (λ x xs. x ∷ xs)
      (one_number t es table i j (first_at es i t is ts h.0 a) (first_at es j t js ts k.0 b))
      (same_numbers ts es table is js h.1 k.1 (ap rest_of a) (ap rest_of b))

pub tree_kept : (old new : List Entry) → Keeps old new → (i : ℕ) (t : Tree) → slice_get (trees_of old) i ≡ Some t → slice_get (trees_of new) i ≡ Some t
tree_kept old new kept i t at =
    let (rest, same) = trees_of-kept old new kept in
    let within = slice_get_within (trees_of old) i t at in
    let longer = ap length same in
    let both = length-append (trees_of old) rest in
    slice_get-get_or (trees_of new) i t (omega (arith, within, longer, both))
    ∙ ap (λ ts. Some (get_or ts i t)) same
    ∙ ap Some (get_or_append_left (trees_of old) rest t i within ∙ get_or_from_slice_get (trees_of old) i t t at)

-- the parts of a list
pub parts_there : (es : List Entry) → IsTable es → (i : ℕ) (is : List ℕ) → slice_get es i ≡ Some (Parts is) → (slice_get (trees_of es) i ≡ Some (Node (trees_at (trees_of es) is))) × ((k : ℕ) → k < length is → get_or is k 0 < i)
parts_there es table i is at = (
  number_tree es i (Parts is) table.in_order at,
  λ k lt. below_at i is k (number_below_all es i (Parts is) table.in_order at) lt,
)
