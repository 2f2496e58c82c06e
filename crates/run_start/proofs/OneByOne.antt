-- Values that are made words one after the other.
use Rattle.std.proofs.Common.{◌≡◌, ℕ, ◌+◌, ◌<◌, ◌≤◌, List, [], ◌∷◌, ◌++◌, length, get_or, drop, map, Some, None, refl, ap, ap₂, sym, ◌∙◌, arith}
use Rattle.std.specs.Prelude.{slice_get, unwrap_or}
use Rattle.std.proofs.Math.ListN.{drop_of_length-le}
use Rattle.std.proofs.lemmas.List.{at_drop_more, length-map}
use Rattle.c_values.specs.Types.{CType}
use Rattle.c_values.specs.Layout.{Layout, Shape, shape_of}
use Rattle.c_values.specs.declared.values.Value as V
use Rattle.c_values.specs.Value.{Value, Values, Parts, no_values, more}
use Rattle.c_values.specs.CodeValue.{value_of}
use Rattle.c_values.specs.CodeParts.{values_in, joined}
use Rattle.c_values.proofs.Joined.{joined-push, joined-no_values}
use Rattle.memory_text.specs.ValueText.{parts_of}
use Rattle.memory_text.proofs.ValuesRead.{shape_at}
use Rattle.run_start.specs.Start.{as_words, all_as_words}

-- one value more
pub words_more : (l : Layout) (types : List CType) (t : CType) (before now : List V.Value) (w : V.Value) (vs : List V.Value) (k : ℕ) (v : V.Value) (whole : Values) →
    slice_get types k ≡ Some t → k < length vs → v ≡ get_or vs k v → now ≡ before ++ w ∷ [] → value_of w ≡ as_words (shape_of l t) (value_of v) →
    joined (values_in before) (all_as_words (drop k (map (shape_of l) types)) (values_in (drop k vs))) ≡ whole →
    joined (values_in now) (all_as_words (drop (k + 1) (map (shape_of l) types)) (values_in (drop (k + 1) vs))) ≡ whole
words_more l types t before now w vs k v whole there lt is pushed made so_far =
    let others = drop (k + 1) (map (shape_of l) types) in
    let behind = values_in (drop (k + 1) vs) in
    let part = at_drop_more values_in vs k v lt ∙ ap (λ y. more (value_of y) behind) (sym is) in
    ap (λ bs. joined (values_in bs) (all_as_words others behind)) pushed
    ∙ joined-push before w (all_as_words others behind)
    ∙ ap (λ x. joined (values_in before) (more x (all_as_words others behind))) made
    ∙ ap₂ (λ ss ws. joined (values_in before) (all_as_words ss ws)) (sym (shape_at l types k t there)) (sym part)
    ∙ so_far

-- no type is left
pub types_ended : (l : Layout) (types : List CType) (words vs : List V.Value) (k : ℕ) (whole : Values) → length types ≤ k →
    joined (values_in words) (all_as_words (drop k (map (shape_of l) types)) (values_in (drop k vs))) ≡ whole → values_in words ≡ whole
types_ended l types words vs k whole le so_far =
    let shapes = map (shape_of l) types in
    let many : length shapes ≡ length types = length-map types (shape_of l) in
    let none : length shapes ≤ k = omega (arith, many, le) in
    sym (joined-no_values (values_in words)) ∙ ap (λ ss. joined (values_in words) (all_as_words ss (values_in (drop k vs)))) (sym (drop_of_length-le shapes none)) ∙ so_far

-- no value is left
no_words : (ss : List Shape) → all_as_words ss no_values ≡ no_values
no_words [] = refl
no_words (s ∷ ss) = refl

pub values_ended : (l : Layout) (types : List CType) (words vs : List V.Value) (k : ℕ) (whole : Values) → length vs ≤ k →
    joined (values_in words) (all_as_words (drop k (map (shape_of l) types)) (values_in (drop k vs))) ≡ whole → values_in words ≡ whole
values_ended l types words vs k whole le so_far =
    let shapes = drop k (map (shape_of l) types) in
    sym (joined-no_values (values_in words)) ∙ ap (λ ws. joined (values_in words) ws) (sym (no_words shapes))
    ∙ ap (λ ws. joined (values_in words) (all_as_words shapes (values_in ws))) (sym (drop_of_length-le vs le))
    ∙ so_far

-- a value of a shape that has parts, and of one that has none
pub parts_made : (s : Shape) (ss : List Shape) (v : Value) (vs ws : Values) → v ≡ Parts vs → Some ss ≡ parts_of s → ws ≡ all_as_words ss vs → Parts ws ≡ as_words s v
parts_made s ss v vs ws whole shapes made = ap (λ us. Parts us) made ∙ ap (λ o. Parts (all_as_words (unwrap_or o []) vs)) shapes ∙ ap (as_words s) (sym whole)

pub no_parts_made : (s : Shape) (v : Value) (vs : Values) → v ≡ Parts vs → None ≡ parts_of s → Parts no_values ≡ as_words s v
no_parts_made s v vs whole shapes = ap (λ o. Parts (all_as_words (unwrap_or o []) vs)) shapes ∙ ap (as_words s) (sym whole)
