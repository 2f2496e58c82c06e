-- The parts of the code's values as lists.
use Rattle.std.proofs.Common.{◌≡◌, List, [], ◌∷◌, refl, ap, ◌∙◌}
use Rattle.std.specs.Prelude.{Vec}
use Rattle.std.specs.declared.alloc.Global.{Global}
use Rattle.c_values.specs.declared.values.Value as V
use Rattle.c_values.specs.declared.values.Value.{Row_of-Value, end_of-Value, more_of-Value, items-the_row-Value, items_hidden-the_row-Value-0}
use Rattle.c_values.specs.Value.{Parts, more}
use Rattle.c_values.specs.CodeValue.{value_of, values_of}
use Rattle.c_values.specs.CodeParts.{values_in, IsLeaf}

row_values : {m : _} (k : Row_of-Value m) → values_of k ≡ values_in (items-the_row-Value m k)
row_values end_of-Value = refl
row_values (more_of-Value v vs) = ap (λ ws. more (value_of v) ws) (row_values vs)

row_parts : {m : _} (k : Row_of-Value m) (xs : List V.Value) → items-the_row-Value m k ≡ xs → Parts (values_of k) ≡ Parts (values_in xs)
row_parts k xs e = ap (λ vs. Parts vs) (row_values k ∙ ap values_in e)

-- the row in a value
abbrev row_of : V.Value → (m : _) × Row_of-Value m
row_of (V.Parts' shape vs) = (_, vs)
row_of (V.Word w) = (_, end_of-Value)
row_of (V.Number n) = (_, end_of-Value)
row_of (V.Truth b) = (_, end_of-Value)

pub parts_value : (v : Vec V.Value Global) → value_of (V.Parts v) ≡ Parts (values_in v.items)
parts_value v =
    let row = row_of (V.Parts v) in
    let same = items_hidden-the_row-Value-0 v in
    row_parts row.1 v.items same

-- the parts of a value that are a list's
pub parts_listed : (v : Vec V.Value Global) (xs : List V.Value) → v.items ≡ xs → value_of (V.Parts v) ≡ Parts (values_in xs)
parts_listed v xs e = parts_value v ∙ ap (λ ys. Parts (values_in ys)) e

-- a leaf's parts are none
pub leaf_parts : (vs : List V.Value) → IsLeaf (Parts (values_in vs)) → Parts (values_in vs) ≡ Parts (values_in [])
leaf_parts [] h = refl
leaf_parts (v ∷ vs) h = absurd h
