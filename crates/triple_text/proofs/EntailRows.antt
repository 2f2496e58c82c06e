-- The rows of derivations of assertions, of parts in whatever number.
use Rattle.std.proofs.Common.{◌≡◌, ◌≢◌, ℕ, Option, Some, None, Err, refl, ap, ap₂, sym, ◌∙◌}
use Rattle.c_values.specs.Name.{Name}
use Rattle.ac_sx.specs.Tree.{Tree, Trees, Atom, Node, no_trees, more}
use Rattle.ac_sx.specs.CodeSx.{word_in, headed_in}
use Rattle.expression_text.specs.Reading.{next}
use Rattle.expression_text.specs.Words.{looked_up}
use Rattle.expression_text.proofs.LookedUp.{AreFound, looked_up_from}
use Rattle.triple_text.specs.declared.entail_heads.EntailLeaf.{EntailLeaf}
use Rattle.triple_text.specs.declared.entail_heads.EntailLeaf.TheVariants as L
use Rattle.triple_text.specs.declared.entail_heads.EntailHead.{EntailHead}
use Rattle.triple_text.specs.declared.entail_heads.EntailHead.TheVariants as H
use Rattle.triple_text.specs.Words.{entail_leaf_word, entail_leaves, entail_head_word, entail_heads}
use Rattle.triple_text.specs.EntailReading.{leaf_at, entail_at, built_entail_at}
use Rattle.triple_text.specs.CodeEntailRows.{row_at, word_at, list_at, entail_by}

pub leaves_found : AreFound entail_leaf_word entail_leaves
leaves_found L.Hyp = refl
leaves_found _ = refl

pub heads_found : AreFound entail_head_word entail_heads
heads_found H.And = refl
heads_found _ = refl

-- a word that is a leaf's, and one that isn't
pub leaf_given : (at : ℕ) (word : Name) (l : EntailLeaf) → word ≡ entail_leaf_word l → word_at at word ≡ leaf_at at (Some l)
leaf_given at word l is = ap (leaf_at at) (ap (looked_up entail_leaf_word entail_leaves) is ∙ leaves_found l)

pub leaf_refused : (at : ℕ) (word : Name) → ((l : EntailLeaf) → word ≢ entail_leaf_word l) → word_at at word ≡ Err at
leaf_refused at word no_leaf = ap (leaf_at at) (sym (looked_up_from {X = EntailLeaf} entail_leaf_word entail_leaves (λ l. l) word None leaves_found tt no_leaf))

row_is : (at inner : ℕ) (h : EntailHead) (ts : Trees) → built_entail_at at inner (Some h) ts ≡ row_at at inner h ts
row_is at inner H.And (more t (more u no_trees)) = refl
row_is at inner H.Imp (more t no_trees) = refl
row_is at inner H.Or (more t no_trees) = refl
row_is at inner H.Not (more t no_trees) = refl
row_is at inner H.Between (more t (more u no_trees)) = refl
row_is at inner H.Case (more t (more u (more v no_trees))) = refl
row_is at inner H.Cut (more t (more u (more v no_trees))) = refl
row_is at inner H.Absurd (more t no_trees) = refl
row_is at inner H.Rewrite (more t (more u (more v (more w (more x no_trees))))) = refl
row_is at inner H.Step (more t (more u no_trees)) = refl
row_is _ _ _ _ = refl

none_is : (at inner : ℕ) (ts : Trees) → built_entail_at at inner None ts ≡ Err at
none_is at inner (more t (more u (more v (more w (more x no_trees))))) = refl
none_is _ _ _ = refl

list_is : (at : ℕ) (o : Option EntailHead) (ts : Trees) → built_entail_at at (next (next at)) o ts ≡ list_at at o ts
list_is at None ts = none_is at (next (next at)) ts
list_is at (Some h) ts = row_is at (next (next at)) h ts

entail_is : (at : ℕ) (t : Tree) → entail_at at t ≡ entail_by at (word_in t) (headed_in t)
entail_is at (Node (more (Atom head) ts)) = list_is at (looked_up entail_head_word entail_heads head) ts
entail_is _ _ = refl

pub word_given : (at : ℕ) (word : Name) (t : Tree) → Some word ≡ word_in t → word_at at word ≡ entail_at at t
word_given at word t e = ap (λ (o : Option Name). entail_by at o (headed_in t)) e ∙ sym (entail_is at t)

pub list_given : (at inner : ℕ) (word : Name) (ts : Trees) (t : Tree) (h : EntailHead) → None ≡ word_in t → Some (word, ts) ≡ headed_in t → word ≡ entail_head_word h → inner ≡ next (next at) → row_at at inner h ts ≡ entail_at at t
list_given at inner word ts t h none e is there =
    ap (λ n. row_at at n h ts) there
    ∙ ap (λ o. list_at at o ts) (sym (ap (looked_up entail_head_word entail_heads) is ∙ heads_found h))
    ∙ ap₂ (λ (o : Option Name) (p : Option (Name × Trees)). entail_by at o p) none e
    ∙ sym (entail_is at t)

pub list_refused : (at : ℕ) (word : Name) (ts : Trees) (t : Tree) → None ≡ word_in t → Some (word, ts) ≡ headed_in t → ((h : EntailHead) → word ≢ entail_head_word h) → entail_at at t ≡ Err at
list_refused at word ts t none e no_head =
    entail_is at t
    ∙ ap₂ (λ (o : Option Name) (p : Option (Name × Trees)). entail_by at o p) (sym none) (sym e)
    ∙ ap (λ (o : Option EntailHead). list_at at o ts) (sym (looked_up_from {X = EntailHead} entail_head_word entail_heads (λ h. h) word None heads_found tt no_head))

pub headless : (at : ℕ) (t : Tree) → None ≡ word_in t → None ≡ headed_in t → entail_at at t ≡ Err at
headless at t none e = entail_is at t ∙ ap₂ (λ (o : Option Name) (p : Option (Name × Trees)). entail_by at o p) (sym none) (sym e)
