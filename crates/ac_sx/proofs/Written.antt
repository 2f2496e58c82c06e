-- What is written and what is left to be written are the text of the tree.
use Rattle.std.proofs.Common.{◌≡◌, ℕ, List, [], ◌∷◌, ◌++◌, map, reverse, Bor, ap, sym, ◌∙◌, append_assoc}
use Rattle.std.specs.Prelude.{Vec}
use Rattle.std.specs.declared.alloc.Global.{Global}
use Rattle.std.proofs.lemmas.List.{append-nil, reverse-append, map-append}
use Rattle.ac_sx.specs.declared.sx.Sx as S
use Rattle.ac_sx.specs.Tree.{Tree, Trees, Node, no_trees, more, spelling, spellings, opening, closing, space}
use Rattle.ac_sx.specs.CodeSx.{tree_of, trees_in}
use Rattle.ac_sx.specs.CodeWriter.{parts_behind, lists_behind, left_of}
use Rattle.ac_sx.proofs.Listed.{list_tree}

pub left_of-push : (xs : List (Bor (List S.Sx))) (p : Bor (List S.Sx)) → left_of (xs ++ p ∷ []) ≡ trees_in p.now ∷ left_of xs
left_of-push xs p =
    let f : Bor (List S.Sx) → Trees = λ q. trees_in q.now in
    ap reverse (map-append f xs (p ∷ [])) ∙ reverse-append (map f xs) (f p ∷ [])

pub spellings-behind : (t : Tree) (ts : Trees) → spellings (more t ts) ≡ spelling t ++ parts_behind ts
spellings-behind t no_trees = sym (append-nil (spelling t))
spellings-behind t (more u us) = ap (λ bs. spelling t ++ space ∷ bs) (spellings-behind u us)

-- a tree is a list of these parts
pub list_parts : (t : S.Sx) (v : Vec S.Sx Global) (first : S.Sx) (others : List S.Sx) → t ≡ S.List v → v.items ≡ first ∷ others → tree_of t ≡ Node (more (tree_of first) (trees_in others))
list_parts t v first others e parts = ap tree_of e ∙ list_tree v ∙ ap (λ xs. Node (trees_in xs)) parts

-- the beginning of a list
pub list_begun : (text new : List ℕ) (whole t : Tree) (ts : Trees) (behind now : List Trees) → whole ≡ Node (more t ts) → new ≡ text ++ opening ∷ [] → now ≡ ts ∷ behind →
    (new ++ spelling t) ++ lists_behind now ≡ (text ++ spelling whole) ++ lists_behind behind
list_begun text new whole t ts behind now e pushed put =
    let rest = parts_behind ts ++ closing ∷ lists_behind behind in
    ap (λ x. (x ++ spelling t) ++ lists_behind now) pushed
    ∙ ap (λ x. ((text ++ opening ∷ []) ++ spelling t) ++ lists_behind x) put
    ∙ ap (λ x. x ++ rest) (append_assoc text (opening ∷ []) (spelling t))
    ∙ append_assoc text (opening ∷ spelling t) rest
    ∙ ap (λ x. text ++ opening ∷ x)
    (sym (append_assoc (spelling t) (parts_behind ts) (closing ∷ lists_behind behind))
    ∙ ap (λ x. x ++ closing ∷ lists_behind behind) (sym (spellings-behind t ts))
    ∙ sym (append_assoc (spellings (more t ts)) (closing ∷ []) (lists_behind behind)))
    ∙ sym (append_assoc text (spelling (Node (more t ts))) (lists_behind behind))
    ∙ ap (λ x. (text ++ spelling x) ++ lists_behind behind) (sym e)

-- a list without parts
pub list_empty : (text new last : List ℕ) (whole : Tree) (behind : List ℕ) → whole ≡ Node no_trees → new ≡ text ++ opening ∷ [] → last ≡ new ++ closing ∷ [] → last ++ behind ≡ (text ++ spelling whole) ++ behind
list_empty text new last whole behind e pushed closed =
    ap (λ x. x ++ behind) (closed ∙ ap (λ x. x ++ closing ∷ []) pushed ∙ append_assoc text (opening ∷ []) (closing ∷ []))
    ∙ ap (λ x. (text ++ spelling x) ++ behind) (sym e)

-- the end of a list
pub list_ended : (text new : List ℕ) (behind now : List Trees) → behind ≡ no_trees ∷ now → new ≡ text ++ closing ∷ [] → new ++ lists_behind now ≡ text ++ lists_behind behind
list_ended text new behind now e pushed = ap (λ x. x ++ lists_behind now) pushed ∙ append_assoc text (closing ∷ []) (lists_behind now) ∙ ap (λ x. text ++ lists_behind x) (sym e)

-- one part more
pub list_goes_on : (text new : List ℕ) (t : Tree) (ts : Trees) (behind now outer : List Trees) → behind ≡ more t ts ∷ outer → now ≡ ts ∷ outer → new ≡ text ++ space ∷ [] → (new ++ spelling t) ++ lists_behind now ≡ text ++ lists_behind behind
list_goes_on text new t ts behind now outer e put pushed =
    let rest = closing ∷ lists_behind outer in
    ap (λ x. (x ++ spelling t) ++ lists_behind now) pushed
    ∙ ap (λ x. ((text ++ space ∷ []) ++ spelling t) ++ lists_behind x) put
    ∙ ap (λ x. x ++ (parts_behind ts ++ rest)) (append_assoc text (space ∷ []) (spelling t))
    ∙ append_assoc text (space ∷ spelling t) (parts_behind ts ++ rest)
    ∙ ap (λ x. text ++ space ∷ x) (sym (append_assoc (spelling t) (parts_behind ts) rest))
    ∙ ap (λ x. text ++ lists_behind x) (sym e)
