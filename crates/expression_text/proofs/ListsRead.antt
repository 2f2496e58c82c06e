-- One part more of a list.
use Rattle.std.proofs.Common.{◌≡◌, ℕ, ◌+◌, ◌<◌, List, [], ◌∷◌, ◌++◌, length, get_or, drop, map, Ok, Err, refl, ap, ap₂, sym, ◌∙◌, append_assoc}
use Rattle.std.proofs.lemmas.List.{at_drop_more, map_push}
use Rattle.c_values.specs.Name.{Name}
use Rattle.ac_sx.specs.declared.sx.Sx as S
use Rattle.ac_sx.specs.Tree.{Tree, more}
use Rattle.ac_sx.specs.CodeSx.{tree_of, trees_in}
use Rattle.expression_text.specs.declared.fault.TextFault.{TextFault}
use Rattle.expression_text.specs.declared.fault.TextFault.TheVariants as F
use Rattle.expression_text.specs.CodeFault.{Fails}
use Rattle.expression_text.specs.Reading.{Read, ◌>>=◌, made}
use Rattle.expression_text.specs.Lists.{list_at, named_at}

parted : (xs : List S.Sx) (k : ℕ) (x : S.Sx) → k < length xs → x ≡ get_or xs k x → trees_in (drop k xs) ≡ more (tree_of x) (trees_in (drop (k + 1) xs))
parted xs k x lt is = at_drop_more trees_in xs k x lt ∙ ap (λ y. more (tree_of y) (trees_in (drop (k + 1) xs))) (sym is)

pub made_more : {A : Type 0} (before : List A) (x : A) (r : Read (List A)) → made (λ ys. (before ++ x ∷ []) ++ ys) r ≡ made (λ ys. before ++ ys) (r >>= λ y. Ok (x ∷ y.0, y.1))
made_more before x (Ok (ys, n)) = ap (λ zs. Ok (zs, n)) (append_assoc before (x ∷ []) ys)
made_more before x (Err n) = refl

pub list_more : {X A : Type 0} (view : X → A) (read : ℕ → Tree → Read A) (before now : List X) (a : X) (at behind : ℕ) (xs : List S.Sx) (k : ℕ) (x : S.Sx) (whole : Read (List A)) → k < length xs → x ≡ get_or xs k x → now ≡ before ++ a ∷ [] → read at (tree_of x) ≡ Ok (view a, behind) →
    made (λ ys. map view before ++ ys) (list_at read at (trees_in (drop k xs))) ≡ whole → made (λ ys. map view now ++ ys) (list_at read behind (trees_in (drop (k + 1) xs))) ≡ whole
list_more view read before now a at behind xs k x whole lt is pushed given so_far =
    let others = trees_in (drop (k + 1) xs) in
    ap (λ bs. made (λ ys. bs ++ ys) (list_at read behind others)) (ap (map view) pushed ∙ map_push view before a)
    ∙ made_more (map view before) (view a) (list_at read behind others)
    ∙ ap (λ r. made (λ ys. map view before ++ ys) (r >>= λ z. list_at read z.1 others >>= λ y. Ok (z.0 ∷ y.0, y.1))) (sym given)
    ∙ ap (λ ts. made (λ ys. map view before ++ ys) (list_at read at ts)) (sym (parted xs k x lt is))
    ∙ so_far

pub named_more : {X A : Type 0} (view : X → A) (name : A → Name) (read : List Name → ℕ → Tree → Read A) (before now : List X) (a : X) (at behind : ℕ) (xs : List S.Sx) (k : ℕ) (x : S.Sx) (whole : Read (List A)) → k < length xs → x ≡ get_or xs k x → now ≡ before ++ a ∷ [] →
    read (map (λ y. name (view y)) before) at (tree_of x) ≡ Ok (view a, behind) → made (λ ys. map view before ++ ys) (named_at name read (map (λ y. name (view y)) before) at (trees_in (drop k xs))) ≡ whole →
    made (λ ys. map view now ++ ys) (named_at name read (map (λ y. name (view y)) now) behind (trees_in (drop (k + 1) xs))) ≡ whole
named_more view name read before now a at behind xs k x whole lt is pushed given so_far =
    let others = trees_in (drop (k + 1) xs) in
    ap (λ bs. made (λ ys. map view bs ++ ys) (named_at name read (map (λ y. name (view y)) bs) behind others)) pushed
    ∙ ap₂ (λ vs ns. made (λ ys. vs ++ ys) (named_at name read ns behind others)) (map_push view before a) (map_push (λ y. name (view y)) before a)
    ∙ made_more (map view before) (view a) (named_at name read (map (λ y. name (view y)) before ++ name (view a) ∷ []) behind others)
    ∙ ap (λ r. made (λ ys. map view before ++ ys) (r >>= λ z. named_at name read (map (λ y. name (view y)) before ++ name z.0 ∷ []) z.1 others >>= λ y. Ok (z.0 ∷ y.0, y.1))) (sym given)
    ∙ ap (λ ts. made (λ ys. map view before ++ ys) (named_at name read (map (λ y. name (view y)) before) at ts)) (sym (parted xs k x lt is))
    ∙ so_far

-- the part is refused, and with it the whole
pub named_refused : {X A : Type 0} (view : X → A) (name : A → Name) (read : List Name → ℕ → Tree → Read A) (before : List X) (fault : TextFault) (at : ℕ) (xs : List S.Sx) (k : ℕ) (x : S.Sx) (whole : Read (List A)) → k < length xs → x ≡ get_or xs k x →
    Fails fault (read (map (λ y. name (view y)) before) at (tree_of x)) → made (λ ys. map view before ++ ys) (named_at name read (map (λ y. name (view y)) before) at (trees_in (drop k xs))) ≡ whole → Fails fault whole
named_refused view name read before (F.Shape n) at xs k x whole lt is bad so_far =
    sym so_far
    ∙ ap (λ ts. made (λ ys. map view before ++ ys) (named_at name read (map (λ y. name (view y)) before) at ts)) (parted xs k x lt is)
    ∙ ap (λ r. made (λ ys. map view before ++ ys) (r >>= λ z. named_at name read (map (λ y. name (view y)) before ++ name z.0 ∷ []) z.1 (trees_in (drop (k + 1) xs)) >>= λ y. Ok (z.0 ∷ y.0, y.1))) bad
named_refused view name read before F.Memory at xs k x whole lt is bad so_far = tt
named_refused view name read before F.NotText at xs k x whole lt is bad so_far = bad
named_refused view name read before F.Deep at xs k x whole lt is bad so_far = bad
