-- The parts of a list in a table, as the code's trees.
use Rattle.std.proofs.Common.{◌≡◌, ℕ, zero, suc, ◌+◌, ◌<◌, true, List, [], ◌∷◌, ◌++◌, length, take, get_or, slice_get, Some, refl, ap, sym, ◌∙◌, arith}
use Rattle.std.specs.Prelude.{Vec}
use Rattle.std.specs.declared.alloc.Global.{Global}
use Rattle.std.proofs.lemmas.List.{take_more, length-map}
use Rattle.std.proofs.lemmas.Option.{get_or_from_slice_get}
use Rattle.ac_sx.specs.declared.sx.Sx as S
use Rattle.ac_sx.specs.declared.terms.TermId.{TermId}
use Rattle.ac_sx.specs.declared.terms.Node.{Node}
use Rattle.ac_sx.specs.declared.terms.Node.TheVariants as node
use Rattle.ac_sx.specs.Tree.{Tree, Node as Listed, no_trees}
use Rattle.ac_sx.specs.CodeSx.{tree_of, trees_in, pushed}
use Rattle.ac_sx.specs.Table.{trees_at, are_below, is_below}
use Rattle.ac_sx.specs.CodeTerms.{entry_of}
use Rattle.ac_sx.specs.CodeTermReader.{numbers}
use Rattle.ac_sx.proofs.Listed.{trees_in-push}
use Rattle.ac_sx.proofs.Tabled.{below_at}
use Rattle.ac_sx.proofs.Opened.{trees_at-push}

number_at : (xs : List TermId) (k : ℕ) (d : TermId) → k < length xs → get_or (numbers xs) k 0 ≡ (get_or xs k d).0
number_at [] k d lt = absurd (omega arith)
number_at (x ∷ xs) zero d lt = refl
number_at (x ∷ xs) (suc k) d lt = number_at xs k d (omega arith)

pub part_below : (n : ℕ) (whole : Node) (ids : Vec TermId Global) (xs : List TermId) (k : ℕ) (d : TermId) → is_below n (entry_of whole) ≡ true → whole ≡ node.List ids → xs ≡ ids.items → k < length xs → (get_or xs k d).0 < n
part_below n whole ids xs k d below is same lt =
    let all : are_below n (numbers xs) ≡ true = ap (λ ys. are_below n (numbers ys)) same ∙ ap (λ w. is_below n (entry_of w)) (sym is) ∙ below in
    let long = length-map xs (λ (id : TermId). id.0) in
    let at = below_at n (numbers xs) k all (omega (arith, long, lt)) in
    let number = number_at xs k d lt in
    omega (arith, at, number)

-- one part more
pub part_shown : (ts : List Tree) (ids : List TermId) (k : ℕ) (d : TermId) (parts new : List S.Sx) (part : S.Sx) → k < length ids → new ≡ parts ++ part ∷ [] → trees_in parts ≡ trees_at ts (take k (numbers ids)) →
    slice_get ts (get_or ids k d).0 ≡ Some (tree_of part) → trees_in new ≡ trees_at ts (take (k + 1) (numbers ids))
part_shown ts ids k d parts new part lt put so_far at =
    let long = length-map ids (λ (id : TermId). id.0) in
    let i = (get_or ids k d).0 in
    ap trees_in put
    ∙ trees_in-push parts part
    ∙ ap (λ us. pushed us (tree_of part)) so_far
    ∙ ap (pushed (trees_at ts (take k (numbers ids)))) (sym (get_or_from_slice_get ts i (tree_of part) (Listed no_trees) at))
    ∙ ap (λ n. pushed (trees_at ts (take k (numbers ids))) (get_or ts n (Listed no_trees))) (sym (number_at ids k d lt))
    ∙ sym (trees_at-push ts (take k (numbers ids)) (get_or (numbers ids) k 0))
    ∙ ap (trees_at ts) (sym (take_more (numbers ids) k 0 (omega (arith, long, lt))))
