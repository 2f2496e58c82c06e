-- Somewhere in a tree's text as many lists are open as the tree is deep.
use Rattle.std.proofs.Common.{◌≡◌, ℕ, suc, ◌+◌, ◌==◌, ◌<◌, ◌≤◌, Bool, true, cond, List, [], ◌∷◌, ◌++◌, length, take, max, count_by, inl, inr, refl, ap, sym, subst, ◌∙◌, append_assoc, arith}
use Rattle.std.specs.List.{list_all}
use Rattle.std.proofs.lemmas.Bool.{and_parts, cases_lt, false≢true}
use Rattle.std.proofs.lemmas.List.{take_at}
use Rattle.std.proofs.lemmas.List.Sums.{sum_by-append}
use Rattle.ac_sx.specs.Tree.{Tree, Trees, Atom, Node, no_trees, more, IsTree, AreTrees, is_atom_byte, spelling, spellings, file, depth, depths, opening, closing, space, line_end, deepest}
use Rattle.ac_sx.specs.Front.{IsShallow, nesting}
use Rattle.ac_sx.proofs.Reached.{opened_in, closed_in, atom_byte_is}

both : (p : ℕ → Bool) (xs ys : List ℕ) → count_by p (xs ++ ys) ≡ count_by p xs + count_by p ys
both p xs ys = sum_by-append (λ x. cond (p x) 1 0) xs ys

first : (p : ℕ → Bool) (b : ℕ) (bs : List ℕ) → count_by p (b ∷ bs) ≡ cond (p b) 1 0 + count_by p bs
first p b bs = let e = both p (b ∷ []) bs in omega (arith, e)

-- as many lists are closed as are opened
abbrev pub IsBalanced : List ℕ → Type 0
IsBalanced bs = opened_in bs ≡ closed_in bs

balanced-append : (xs ys : List ℕ) → IsBalanced xs → IsBalanced ys → IsBalanced (xs ++ ys)
balanced-append xs ys e f = let o = both (λ b. b == opening) xs ys in let c = both (λ b. b == closing) xs ys in omega (arith, e, f, o, c)

word_balanced : (w : List ℕ) → list_all is_atom_byte w ≡ true → IsBalanced w
word_balanced [] e = refl
word_balanced (b ∷ bs) e =
    let h = and_parts (is_atom_byte b) (list_all is_atom_byte bs) e in
    let no = atom_byte_is b h.0 in
    let o : opened_in (b ∷ bs) ≡ 0 + opened_in bs = first (λ x. x == opening) b bs ∙ ap (λ t. cond t 1 0 + opened_in bs) no.0 in
    let c : closed_in (b ∷ bs) ≡ 0 + closed_in bs = first (λ x. x == closing) b bs ∙ ap (λ t. cond t 1 0 + closed_in bs) no.1 in
    let rest = word_balanced bs h.1 in
    omega (arith, o, c, rest)

spaced_balanced : (bs : List ℕ) → IsBalanced bs → IsBalanced (space ∷ bs)
spaced_balanced bs e = let o = first (λ x. x == opening) space bs in let c = first (λ x. x == closing) space bs in omega (arith, e, o, c)

listed_balanced : (bs : List ℕ) → IsBalanced bs → IsBalanced (opening ∷ (bs ++ closing ∷ []))
listed_balanced bs e =
    let o = first (λ x. x == opening) opening (bs ++ closing ∷ []) in
    let c = first (λ x. x == closing) opening (bs ++ closing ∷ []) in
    let o' = both (λ x. x == opening) bs (closing ∷ []) in
    let c' = both (λ x. x == closing) bs (closing ∷ []) in
    omega (arith, e, o, c, o', c')

mutual
  balanced : (t : Tree) → IsTree t → IsBalanced (spelling t)
  balanced (Atom []) is = absurd (false≢true is)
  balanced (Atom (b ∷ bs)) is = word_balanced (b ∷ bs) is
  balanced (Node ts) is = listed_balanced (spellings ts) (all_balanced ts is)

  all_balanced : (ts : Trees) → AreTrees ts → IsBalanced (spellings ts)
  all_balanced no_trees are = refl
  all_balanced (more t no_trees) are = balanced t are.0
  all_balanced (more t (more u us)) are = balanced-append (spelling t) (space ∷ spellings (more u us)) (balanced t are.0) (spaced_balanced (spellings (more u us)) (all_balanced (more u us) are.1))

-- behind a front of this text so many lists are open
abbrev pub Reaches : List ℕ → ℕ → Type 0
Reaches bs n = (front : List ℕ) × (rest : List ℕ) × (bs ≡ front ++ rest) × (opened_in front ≡ closed_in front + n)

reaches_behind : (bs cs : List ℕ) (n : ℕ) → Reaches bs n → Reaches (bs ++ cs) n
reaches_behind bs cs n (front, rest, e, c) = (front, rest ++ cs, ap (λ x. x ++ cs) e ∙ append_assoc front rest cs, c)

reaches_before : (xs bs : List ℕ) (n : ℕ) → IsBalanced xs → Reaches bs n → Reaches (xs ++ bs) n
reaches_before xs bs n balanced (front, rest, e, c) =
    let o = both (λ b. b == opening) xs front in
    let d = both (λ b. b == closing) xs front in
    (xs ++ front, rest, ap (λ x. xs ++ x) e ∙ sym (append_assoc xs front rest), omega (arith, balanced, c, o, d))

reaches_within : (bs : List ℕ) (n : ℕ) → Reaches bs n → Reaches (opening ∷ bs) (suc n)
reaches_within bs n (front, rest, e, c) =
    let o = first (λ x. x == opening) opening front in
    let d = first (λ x. x == closing) opening front in
    (opening ∷ front, rest, ap (λ x. opening ∷ x) e, omega (arith, c, o, d))

higher : (bs : List ℕ) (m n : ℕ) → (m < n → Reaches bs n) → (n ≤ m → Reaches bs m) → Reaches bs (max m n)
higher bs m n right left = elim (cases_lt m n) [
  | inl less ↦ let same : n ≡ max m n = omega arith in subst (Reaches bs) same (right less)
  | inr most ↦ let same : m ≡ max m n = omega arith in subst (Reaches bs) same (left most)
]

mutual
  pub reaches : (t : Tree) → IsTree t → Reaches (spelling t) (depth t)
  reaches (Atom w) is = ([], w, refl, refl)
  reaches (Node ts) is = reaches_within (spellings ts ++ closing ∷ []) (depths ts) (reaches_behind (spellings ts) (closing ∷ []) (depths ts) (all_reach ts is))

  all_reach : (ts : Trees) → AreTrees ts → Reaches (spellings ts) (depths ts)
  all_reach no_trees are = ([], [], refl, refl)
  all_reach (more t no_trees) are = let same : depth t ≡ max (depth t) 0 = omega arith in subst (Reaches (spelling t)) same (reaches t are.0)
  all_reach (more t (more u us)) are =
      higher (spellings (more t (more u us))) (depth t) (depths (more u us))
      (λ _. reaches_before (spelling t) (space ∷ spellings (more u us)) (depths (more u us)) (balanced t are.0)
      (reaches_before (space ∷ []) (spellings (more u us)) (depths (more u us)) refl (all_reach (more u us) are.1)))
      (λ _. reaches_behind (spelling t) (space ∷ spellings (more u us)) (depth t) (reaches t are.0))

-- where no list of a file opens too deep, its tree isn't too deep
pub shallow_file : (t : Tree) → IsTree t → IsShallow (file t) → depth t ≤ deepest
shallow_file t is shallow =
    let (front, rest, e, c) = reaches_behind (spelling t) (line_end ∷ []) (depth t) (reaches t is) in
    let at : take (length front) (file t) ≡ front = ap (take (length front)) e ∙ take_at front rest (length front) refl in
    let here : nesting front ≤ deepest = subst (λ x. nesting x ≤ deepest) at (shallow (length front)) in
    omega (arith, c, here)
