-- Two nodes are equal where their entries are.
use Rattle.std.proofs.Common.{◌≡◌, ℕ, zero, suc, Bool, true, false, List, [], ◌∷◌, map, ◌&&◌, string_bytes, slice_get, Some, option_map, refl, ap, sym, ◌∙◌, nat_eq, true≢false}
use Rattle.std.specs.Bool.{Decides}
use Rattle.std.specs.Cmp.Lexicographic.{pointwise}
use Rattle.std.specs.List.{IsDistinct, AllByRecursion}
use Rattle.std.proofs.lemmas.Option.{slice_get-map}
use Rattle.std.proofs.lemmas.Slice.Eq.{bytes_eq-Decides}
use Rattle.ac_sx.specs.contracts.terms.NodePartialEq.TheImpl.{eq-value}
use Rattle.ac_sx.specs.declared.terms.TermId.{TermId}
use Rattle.ac_sx.specs.declared.terms.Node.{Node}
use Rattle.ac_sx.specs.declared.terms.Node.TheVariants as node
use Rattle.ac_sx.specs.Table.{Entry, Word, Parts}
use Rattle.ac_sx.specs.CodeTerms.{entry_of, entries_in}

abbrev pub node_eq : Node → Node → Bool
node_eq = eq-value.it

abbrev numbers : List TermId → List ℕ
numbers ids = map (λ (id : TermId). id.0) ids

numbers_eq : (xs ys : List TermId) → pointwise nat_eq (numbers xs) (numbers ys) ≡ pointwise (λ (a b : TermId). nat_eq a.0 b.0) xs ys
numbers_eq [] [] = refl
numbers_eq [] (y ∷ ys) = refl
numbers_eq (x ∷ xs) [] = refl
numbers_eq (x ∷ xs) (y ∷ ys) = ap (λ r. nat_eq x.0 y.0 && r) (numbers_eq xs ys)

abbrev word_of : Entry → List ℕ
word_of (Word w) = w
word_of (Parts is) = []

abbrev parts_of : Entry → List ℕ
parts_of (Word w) = []
parts_of (Parts is) = is

pub node_eq-Decides : (a b : Node) → Decides (node_eq a b) (entry_of a ≡ entry_of b)
node_eq-Decides (node.Atom v) (node.Atom w) =
    let d = bytes_eq-Decides (string_bytes v) (string_bytes w) in
    (λ h. ap Word (d.0 h), λ e. d.1 (ap word_of e))
node_eq-Decides (node.Atom v) (node.List ys) = (λ h. absurd (true≢false (sym h)), λ e. absurd cc)
node_eq-Decides (node.List xs) (node.Atom w) = (λ h. absurd (true≢false (sym h)), λ e. absurd cc)
node_eq-Decides (node.List xs) (node.List ys) =
    let d = bytes_eq-Decides (numbers xs.items) (numbers ys.items) in
    (λ h. ap Parts (d.0 (numbers_eq xs.items ys.items ∙ h)), λ e. sym (numbers_eq xs.items ys.items) ∙ d.1 (ap parts_of e))

absent : (k : Node) (ks : List Node) (j : ℕ) → AllByRecursion (λ y. node_eq k y ≡ false) ks → slice_get (entries_in ks) j ≡ Some (entry_of k) → ⊥
absent k [] j all e = absurd cc
absent k (y ∷ ys) zero all e = let same : entry_of k ≡ entry_of y = cc in true≢false (sym ((node_eq-Decides k y).1 same) ∙ all.0)
absent k (y ∷ ys) (suc j) all e = absent k ys j all.1 e

-- of nodes that differ no entry stands twice
pub once : (ks : List Node) → IsDistinct node_eq ks → (i j : ℕ) (e : Entry) → slice_get (entries_in ks) i ≡ Some e → slice_get (entries_in ks) j ≡ Some e → i ≡ j
unfolding IsDistinct
once [] distinct i j e a b = absurd cc
once (k ∷ ks) distinct zero zero e a b = refl
once (k ∷ ks) distinct zero (suc j) e a b = absurd (absent k ks j distinct.0 (b ∙ sym a))
once (k ∷ ks) distinct (suc i) zero e a b = absurd (absent k ks i distinct.0 (a ∙ sym b))
once (k ∷ ks) distinct (suc i) (suc j) e a b = ap suc (once ks distinct.1 i j e a b)

-- the entry of the node that was found
pub found_there : (ks : List Node) (i : ℕ) (k : Node) → (x : Node) × (slice_get ks i ≡ Some x) × (node_eq k x ≡ true) → slice_get (entries_in ks) i ≡ Some (entry_of k)
found_there ks i k (x, at, same) = slice_get-map entry_of ks i ∙ ap (option_map entry_of) at ∙ ap Some (sym ((node_eq-Decides k x).0 same))
