-- Values of types that are left, and what is written of them.
use Rattle.std.proofs.Common.{◌≡◌, ℕ, ◌+◌, ◌≤◌, List, [], ◌∷◌, ◌++◌, length, drop, map, reverse, Some, refl, ap, ap₂, sym, ◌∙◌, arith}
use Rattle.std.specs.Prelude.{slice_get, unwrap_or, Vec}
use Rattle.std.specs.declared.alloc.Global.{Global}
use Rattle.c_values.specs.declared.types.CType as C
use Rattle.c_values.specs.CodeTypes.{type_of}
use Rattle.c_values.proofs.Listed.{parts_value}
use Rattle.std.proofs.Math.ListN.{drop_of_length-le}
use Rattle.std.proofs.lemmas.List.{reverse-append, map-append, length-map}
use Rattle.c_values.specs.Types.{CType}
use Rattle.c_values.specs.Layout.{Layout, Shape, shape_of}
use Rattle.c_values.specs.declared.values.Value as V
use Rattle.c_values.specs.Value.{no_values}
use Rattle.c_values.specs.CodeValue.{value_of}
use Rattle.c_values.specs.CodeParts.{values_in}
use Rattle.ac_sx.specs.Tree.{Tree, Atom, Node, no_trees, more, spelling}
use Rattle.memory_text.specs.ValueText.{value_tree, value_trees, parts_of}
use Rattle.memory_text.proofs.ValuesRead.{shape_at}
use Rattle.run_lines.specs.declared.values.Row as R
use Rattle.run_lines.specs.CodeRow.{row_in, rows_in}
use Rattle.run_lines.specs.Shown.{shown, all_shown}

pub rows_in-push : (l : Layout) (rows : List R.Row) (r : R.Row) → rows_in l (rows ++ r ∷ []) ≡ row_in l r ∷ rows_in l rows
rows_in-push l rows r = ap reverse (map-append (row_in l) rows (r ∷ [])) ∙ reverse-append (map (row_in l) rows) (row_in l r ∷ [])

none_shown : (ss : List Shape) → all_shown ss no_values ≡ no_values
none_shown [] = refl
none_shown (s ∷ ss) = refl

-- the types, or the values, have come to their end
pub types_end : (l : Layout) (types : List CType) (k : ℕ) (vs : List V.Value) → length types ≤ k →
    value_trees (all_shown (drop k (map (shape_of l) types)) (values_in vs)) ≡ no_trees
types_end l types k vs le =
    let many : length (map (shape_of l) types) ≡ length types = length-map types (shape_of l) in
    ap (λ ss. value_trees (all_shown ss (values_in vs))) (drop_of_length-le (map (shape_of l) types) (omega (arith, many, le)))

pub values_end : (l : Layout) (types : List CType) (k : ℕ) (vs : List V.Value) → vs ≡ [] →
    value_trees (all_shown (drop k (map (shape_of l) types)) (values_in vs)) ≡ no_trees
values_end l types k vs e =
    let ss = drop k (map (shape_of l) types) in
    ap (λ ws. value_trees (all_shown ss (values_in ws))) e ∙ ap value_trees (none_shown ss)

-- the first value and those behind it
pub values_split : (l : Layout) (types : List CType) (k : ℕ) (t : CType) (vs : List V.Value) (v : V.Value) (others : List V.Value) → slice_get types k ≡ Some t → vs ≡ v ∷ others →
    value_trees (all_shown (drop k (map (shape_of l) types)) (values_in vs))
    ≡ more (value_tree (shown (shape_of l t) (value_of v))) (value_trees (all_shown (drop (k + 1) (map (shape_of l) types)) (values_in others)))
values_split l types k t vs v others there e = ap₂ (λ ss ws. value_trees (all_shown ss (values_in ws))) (shape_at l types k t there) e

-- a value of a type, as it is shown
abbrev pub tree_in : Layout → C.CType → V.Value → Tree
tree_in l t v = value_tree (shown (shape_of l (type_of t)) (value_of v))

-- a value that has parts
pub parts_shown : (l : Layout) (t : C.CType) (v : V.Value) (vs : Vec V.Value Global) (row : R.Row) → v ≡ V.Parts vs → row_in l row ≡ value_trees (all_shown (unwrap_or (parts_of (shape_of l (type_of t))) []) (values_in vs.items)) →
    tree_in l t v ≡ Node (row_in l row)
parts_shown l t v vs row is made = ap (λ w. value_tree (shown (shape_of l (type_of t)) (value_of w))) is ∙ ap (λ w. value_tree (shown (shape_of l (type_of t)) w)) (parts_value vs) ∙ ap Node (sym made)

-- a word at the end of a walk
pub word_written : (text new word : List ℕ) (whole : Tree) (behind all : List ℕ) → whole ≡ Atom word → new ≡ text ++ word → (text ++ spelling whole) ++ behind ≡ all → new ++ behind ≡ all
word_written text new word whole behind all e pushed h = ap (λ x. x ++ behind) pushed ∙ ap (λ t. (text ++ spelling t) ++ behind) (sym e) ∙ h
