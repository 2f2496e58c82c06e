-- The parts of a tree's text spell its parts.
use Rattle.std.proofs.Common.{◌≡◌, ◌≤◌, ℕ, ◌+◌, ◌-◌, true, max, List, [], ◌∷◌, ◌++◌, length, take, drop, refl, ap, sym, subst, ◌∙◌, append_assoc, arith}
use Rattle.std.specs.List.{slice_range}
use Rattle.std.proofs.lemmas.List.{length-append}
use Rattle.std.proofs.lemmas.Bool.{false≢true}
use Rattle.std.proofs.Math.Seq.{drop-append_seam, take-append_seam}
use Rattle.ac_sx.specs.Tree.{Tree, Trees, Atom, Node, no_trees, more, IsTree, AreTrees, is_atom, spelling, spellings, file, depth, depths, deepest, opening, closing, space, line_end}
use Rattle.ac_sx.specs.Spans.{parts_from, parts_of}
use Rattle.certificate_text.specs.TextParts.{IsAt, AreAt}

-- what stands between a front and a rest
middle : (front word rest : List ℕ) → slice_range (front ++ (word ++ rest)) (length front) (length front + length word) ≡ word
middle front word rest =
    let n : length front + length word - length front ≡ length word = omega arith in
    ap (λ k. take k (drop (length front) (front ++ (word ++ rest)))) n
    ∙ ap (take (length word)) (drop-append_seam front (word ++ rest))
    ∙ take-append_seam word rest

middle_within : (front word rest : List ℕ) → length front + length word ≤ length (front ++ (word ++ rest))
middle_within front word rest = let e = length-append front (word ++ rest) in let f = length-append word rest in omega (arith, e, f)

one_at : (text front rest : List ℕ) (t : Tree) (n : ℕ) → text ≡ front ++ (spelling t ++ rest) → IsTree t → depth t ≤ deepest →
    IsAt text (length front) (record { start = length front; end = length front + length (spelling t); nodes = n }) t
one_at text front rest t n same is low = record {
  start = refl;
  end = refl;
  within = subst (λ x. length front + length (spelling t) ≤ length x) (sym same) (middle_within front (spelling t) rest);
  spelt = ap (λ x. slice_range x (length front) (length front + length (spelling t))) same ∙ middle front (spelling t) rest;
  atoms = is;
  depth = low;
}

left_max : (m n : ℕ) → max m n ≤ deepest → m ≤ deepest
left_max m n le = omega (arith, le)

right_max : (m n : ℕ) → max m n ≤ deepest → n ≤ deepest
right_max m n le = omega (arith, le)

-- trees behind a front
all_at : (text front rest : List ℕ) (ts : Trees) → text ≡ front ++ (spellings ts ++ rest) → AreTrees ts → depths ts ≤ deepest → AreAt text (length front) (parts_from (length front) ts) ts
all_at text front rest no_trees same are low = tt
all_at text front rest (more t no_trees) same are low = (one_at text front rest t _ same are.0 (left_max (depth t) 0 low), tt)
all_at text front rest (more t (more u us)) same are low =
    let inner = front ++ (spelling t ++ space ∷ []) in
    let others = space ∷ (spellings (more u us) ++ rest) in
    let first = same ∙ ap (λ x. front ++ x) (append_assoc (spelling t) (space ∷ spellings (more u us)) rest) in
    let second = first ∙ ap (λ x. front ++ x) (sym (append_assoc (spelling t) (space ∷ []) (spellings (more u us) ++ rest))) ∙ sym (append_assoc front (spelling t ++ space ∷ []) (spellings (more u us) ++ rest)) in
    let long : length inner ≡ length front + length (spelling t) + 1 = let e = length-append front (spelling t ++ space ∷ []) in let f = length-append (spelling t) (space ∷ []) in omega (arith, e, f) in (
      one_at text front others t _ first are.0 (left_max (depth t) (depths (more u us)) low),
      subst (λ at. AreAt text at (parts_from at (more u us)) (more u us)) long (all_at text inner rest (more u us) second are.1 (right_max (depth t) (depths (more u us)) low)),
    )

-- the parts of a file
pub file_at : (text : List ℕ) (ts : Trees) → text ≡ file (Node ts) → IsTree (Node ts) → depth (Node ts) ≤ deepest → AreAt text 1 (parts_of (Node ts)) ts
file_at text ts same is low =
    let le : depths ts ≤ deepest = omega (arith, low) in
    all_at text (opening ∷ []) (closing ∷ line_end ∷ []) ts (same ∙ ap (λ x. opening ∷ x) (append_assoc (spellings ts) (closing ∷ []) (line_end ∷ []))) is le

-- a word is no list
pub spelt_word : (t : Tree) (word : List ℕ) → is_atom word ≡ true → spelling t ≡ word → t ≡ Atom word
spelt_word (Atom w) word is same = ap Atom same
spelt_word (Node ts) word is same = absurd (false≢true (ap is_atom same ∙ is))
