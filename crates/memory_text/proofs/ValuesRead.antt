-- Values that are read one after the other, and of a list.
use Rattle.std.proofs.Common.{◌≡◌, ℕ, suc, ◌+◌, ◌<◌, ◌≤◌, Bool, true, false, cond, List, [], ◌∷◌, ◌++◌, length, get_or, drop, map, Option, Some, Ok, Err, refl, ap, ap₂, sym, ◌∙◌, arith, eqb-true}
use Rattle.std.specs.Prelude.{slice_get, ◌==◌}
use Rattle.std.specs.Option.{option_map}
use Rattle.std.proofs.Math.ListN.{drop_of_length-le}
use Rattle.std.proofs.lemmas.List.{at_drop_more, length-map}
use Rattle.std.proofs.lemmas.Option.{slice_get-map, slice_get_within, get_or_from_slice_get}
use Rattle.c_values.specs.declared.values.Value as C
use Rattle.c_values.specs.Types.{Target, CType}
use Rattle.c_values.specs.Layout.{Layout, Shape, shape_of}
use Rattle.c_values.specs.Value as V
use Rattle.c_values.specs.Value.{Value, Values, Parts}
use Rattle.c_values.specs.CodeValue.{value_of}
use Rattle.c_values.specs.CodeParts.{values_in, joined}
use Rattle.c_values.proofs.Joined.{joined-push, joined-no_values}
use Rattle.ac_sx.specs.declared.sx.Sx as S
use Rattle.ac_sx.specs.Tree.{Tree, Trees, Atom, Node, more}
use Rattle.ac_sx.specs.CodeSx.{tree_of, trees_in, parts_in}
use Rattle.expression_text.specs.declared.fault.TextFault.{TextFault}
use Rattle.expression_text.specs.declared.fault.TextFault.TheVariants as F
use Rattle.expression_text.specs.CodeFault.{Fails}
use Rattle.expression_text.specs.Reading.{Read, next, ◌>>=◌, made}
use Rattle.memory_text.specs.ValueText.{parts_of}
use Rattle.memory_text.proofs.ValueLaws.{counted_as}
use Rattle.memory_text.specs.ValueReading.{tree_count, counted, value_at, values_at}

pub list_given : (g : Target) (s : Shape) (at : ℕ) (t : Tree) (ts : Trees) (o : Option (List Shape)) → Some ts ≡ parts_in t → o ≡ parts_of s → made (λ vs. Parts vs) (counted at ts o (λ ss. values_at g ss (next at) ts)) ≡ value_at g s at t
list_given g s at (Atom w) ts o e f = absurd cc
list_given g s at (Node us) ts o e f = let same : ts ≡ us = cc in ap₂ (λ vs p. made (λ ws. Parts ws) (counted at vs p (λ ss. values_at g ss (next at) vs))) same f

pub count_is : (xs : List S.Sx) → tree_count (trees_in xs) ≡ length xs
count_is [] = refl
count_is (x ∷ xs) = ap suc (count_is xs)

made_more : (before : List C.Value) (a : C.Value) (r : Read Values) → made (joined (values_in (before ++ a ∷ []))) r ≡ made (joined (values_in before)) (r >>= λ y. Ok (V.more (value_of a) y.0, y.1))
made_more before a (Ok (vs, n)) = ap (λ ws. Ok (ws, n)) (joined-push before a vs)
made_more before a (Err n) = refl

pub shape_at : (l : Layout) (types : List CType) (k : ℕ) (t : CType) → slice_get types k ≡ Some t → drop k (map (shape_of l) types) ≡ shape_of l t ∷ drop (k + 1) (map (shape_of l) types)
shape_at l types k t e =
    let shapes = map (shape_of l) types in
    let here = slice_get-map (shape_of l) types k ∙ ap (λ o. option_map (shape_of l) o) e in
    at_drop_more (λ ss. ss) shapes k (shape_of l t) (slice_get_within shapes k (shape_of l t) here) ∙ ap (λ s. s ∷ drop (k + 1) shapes) (get_or_from_slice_get shapes k (shape_of l t) (shape_of l t) here)

pub values_more : (l : Layout) (types : List CType) (t : CType) (before now : List C.Value) (a : C.Value) (at behind : ℕ) (xs : List S.Sx) (k : ℕ) (x : S.Sx) (whole : Read Values) → slice_get types k ≡ Some t → k < length xs → x ≡ get_or xs k x → now ≡ before ++ a ∷ [] →
    value_at l.target (shape_of l t) at (tree_of x) ≡ Ok (value_of a, behind) → made (joined (values_in before)) (values_at l.target (drop k (map (shape_of l) types)) at (trees_in (drop k xs))) ≡ whole →
    made (joined (values_in now)) (values_at l.target (drop (k + 1) (map (shape_of l) types)) behind (trees_in (drop (k + 1) xs))) ≡ whole
values_more l types t before now a at behind xs k x whole there lt is pushed given so_far =
    let g = l.target in
    let others = drop (k + 1) (map (shape_of l) types) in
    let parts = trees_in (drop (k + 1) xs) in
    let part = at_drop_more trees_in xs k x lt ∙ ap (λ y. more (tree_of y) parts) (sym is) in
    ap (λ bs. made (joined (values_in bs)) (values_at g others behind parts)) pushed
    ∙ made_more before a (values_at g others behind parts)
    ∙ ap (λ r. made (joined (values_in before)) (r >>= λ z. values_at g others z.1 parts >>= λ y. Ok (V.more z.0 y.0, y.1))) (sym given)
    ∙ ap₂ (λ ss ts. made (joined (values_in before)) (values_at g ss at ts)) (sym (shape_at l types k t there)) (sym part)
    ∙ so_far

pub values_ended : (l : Layout) (types : List CType) (values : List C.Value) (at inner here : ℕ) (xs : List S.Sx) (k : ℕ) → length xs ≡ length types → length xs ≤ k →
    made (joined (values_in values)) (values_at l.target (drop k (map (shape_of l) types)) here (trees_in (drop k xs))) ≡ values_at l.target (map (shape_of l) types) inner (trees_in xs) →
    counted at (trees_in xs) (Some (map (shape_of l) types)) (λ ss. values_at l.target ss inner (trees_in xs)) ≡ Ok (values_in values, here)
values_ended l types values at inner here xs k same le so_far =
    let g = l.target in
    let shapes = map (shape_of l) types in
    let many : length shapes ≡ length types = length-map types (shape_of l) in
    let none : length shapes ≤ k = omega (arith, many, same, le) in
    counted_as at (trees_in xs) shapes (λ ss. values_at g ss inner (trees_in xs)) (count_is xs ∙ same ∙ sym many)
    ∙ sym so_far
    ∙ ap₂ (λ ss ys. made (joined (values_in values)) (values_at g ss here (trees_in ys))) (drop_of_length-le shapes none) (drop_of_length-le xs le)
    ∙ ap (λ vs. Ok (vs, here)) (joined-no_values (values_in values))

-- too many or too few
pub miscounted : (l : Layout) (types : List CType) (at inner : ℕ) (xs : List S.Sx) → (length xs ≡ length types → ⊥) → counted at (trees_in xs) (Some (map (shape_of l) types)) (λ ss. values_at l.target ss inner (trees_in xs)) ≡ Err at
miscounted l types at inner xs other = let shapes = map (shape_of l) types in by shapes (length-map types (shape_of l)) (tree_count (trees_in xs) == length shapes) refl
  where
    by : (shapes : List Shape) → length shapes ≡ length types → (b : Bool) → (tree_count (trees_in xs) == length shapes) ≡ b → cond {A = Read Values} b (values_at l.target shapes inner (trees_in xs)) (Err at) ≡ Err at
    by shapes many true e = absurd (other (sym (count_is xs) ∙ eqb-true (tree_count (trees_in xs)) (length shapes) e ∙ many))
    by shapes many false e = refl

-- a value is refused, and with it the whole
pub values_refused : (l : Layout) (types : List CType) (t : CType) (before : List C.Value) (fault : TextFault) (at inner here : ℕ) (xs : List S.Sx) (k : ℕ) (x : S.Sx) → slice_get types k ≡ Some t → k < length xs → x ≡ get_or xs k x → length xs ≡ length types →
    Fails fault (value_at l.target (shape_of l t) here (tree_of x)) → made (joined (values_in before)) (values_at l.target (drop k (map (shape_of l) types)) here (trees_in (drop k xs))) ≡ values_at l.target (map (shape_of l) types) inner (trees_in xs) →
    Fails fault (counted at (trees_in xs) (Some (map (shape_of l) types)) (λ ss. values_at l.target ss inner (trees_in xs)))
values_refused l types t before (F.Shape n) at inner here xs k x there lt is same bad so_far =
    let g = l.target in
    let shapes = map (shape_of l) types in
    let others = drop (k + 1) shapes in
    let parts = trees_in (drop (k + 1) xs) in
    let part = at_drop_more trees_in xs k x lt ∙ ap (λ y. more (tree_of y) parts) (sym is) in
    counted_as at (trees_in xs) shapes (λ ss. values_at g ss inner (trees_in xs)) (count_is xs ∙ same ∙ sym (length-map types (shape_of l)))
    ∙ sym so_far
    ∙ ap₂ (λ ss ts. made (joined (values_in before)) (values_at g ss here ts)) (shape_at l types k t there) part
    ∙ ap (λ r. made (joined (values_in before)) (r >>= λ z. values_at g others z.1 parts >>= λ y. Ok (V.more z.0 y.0, y.1))) bad
values_refused l types t before F.Memory at inner here xs k x there lt is same bad so_far = tt
values_refused l types t before F.NotText at inner here xs k x there lt is same bad so_far = bad
values_refused l types t before F.Deep at inner here xs k x there lt is same bad so_far = bad
