-- The text of lists that are open: what stands before the place where their next parts go.
use Rattle.std.proofs.Common.{◌≡◌, List, [], ◌∷◌, ◌++◌, ℕ, refl, ap, sym, ◌∙◌, append_assoc}
use Rattle.ac_sx.specs.Tree.{Tree, Trees, Node, no_trees, more, IsTree, AreTrees, spelling, spellings, opening, closing, space}
use Rattle.ac_sx.specs.CodeSx.{pushed}

-- each part with a space behind it
abbrev pub spaced : Trees → List ℕ
spaced no_trees = []
spaced (more t ts) = spelling t ++ space ∷ spaced ts

-- the innermost first
abbrev pub openings : List Trees → List ℕ
openings [] = []
openings (ts ∷ outer) = openings outer ++ opening ∷ spaced ts

pub spaced-pushed : (ts : Trees) (t : Tree) → spaced (pushed ts t) ≡ (spaced ts ++ spelling t) ++ space ∷ []
spaced-pushed no_trees t = refl
spaced-pushed (more u us) t =
    ap (λ bs. spelling u ++ space ∷ bs) (spaced-pushed us t)
    ∙ sym (ap (λ bs. bs ++ space ∷ []) (append_assoc (spelling u) (space ∷ spaced us) (spelling t)) ∙ append_assoc (spelling u) (space ∷ (spaced us ++ spelling t)) (space ∷ []))

pub spellings-pushed : (ts : Trees) (t : Tree) → spellings (pushed ts t) ≡ spaced ts ++ spelling t
spellings-pushed no_trees t = refl
spellings-pushed (more u no_trees) t = sym (append_assoc (spelling u) (space ∷ []) (spelling t))
spellings-pushed (more u (more v vs)) t =
    ap (λ bs. spelling u ++ space ∷ bs) (spellings-pushed (more v vs) t) ∙ sym (append_assoc (spelling u) (space ∷ spaced (more v vs)) (spelling t))

pub AreTrees-pushed : (ts : Trees) (t : Tree) → AreTrees ts → IsTree t → AreTrees (pushed ts t)
AreTrees-pushed no_trees t are is = (is, tt)
AreTrees-pushed (more u us) t are is = (are.0, AreTrees-pushed us t are.1 is)

-- a part and the space behind it
pub openings-space : (ts : Trees) (outer : List Trees) (t : Tree) → (openings (ts ∷ outer) ++ spelling t) ++ space ∷ [] ≡ openings (pushed ts t ∷ outer)
openings-space ts outer t =
    ap (λ bs. bs ++ space ∷ []) (append_assoc (openings outer) (opening ∷ spaced ts) (spelling t))
    ∙ append_assoc (openings outer) (opening ∷ (spaced ts ++ spelling t)) (space ∷ [])
    ∙ ap (λ bs. openings outer ++ opening ∷ bs) (sym (spaced-pushed ts t))

-- the last part, and the end of the list
pub openings-close : (ts : Trees) (outer : List Trees) (t : Tree) → (openings (ts ∷ outer) ++ spelling t) ++ closing ∷ [] ≡ openings outer ++ spelling (Node (pushed ts t))
openings-close ts outer t =
    ap (λ bs. bs ++ closing ∷ []) (append_assoc (openings outer) (opening ∷ spaced ts) (spelling t))
    ∙ append_assoc (openings outer) (opening ∷ (spaced ts ++ spelling t)) (closing ∷ [])
    ∙ ap (λ bs. openings outer ++ opening ∷ (bs ++ closing ∷ [])) (sym (spellings-pushed ts t))

-- a list without parts
pub openings-none : (outer : List Trees) → openings (no_trees ∷ outer) ++ closing ∷ [] ≡ openings outer ++ spelling (Node no_trees)
openings-none outer = append_assoc (openings outer) (opening ∷ []) (closing ∷ [])
