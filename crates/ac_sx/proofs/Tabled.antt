-- Tables, and the trees in them.
use Rattle.std.proofs.Common.{◌≡◌, ℕ, zero, suc, ◌+◌, ◌<◌, ◌≤◌, Bool, true, false, nat_lt, List, [], ◌∷◌, ◌++◌, length, get_or, slice_get, Some, ◌⊎◌, inl, inr, refl, ap, ap₂, sym, ◌∙◌, append_assoc, if◌then◌else◌, arith}
use Rattle.std.proofs.lemmas.Bool.{and_parts, and_from, ltb-true}
use Rattle.std.proofs.lemmas.List.{append-nil, length-append, map-append, get_or_append_left}
use Rattle.ac_sx.specs.declared.terms.Node.{Node}
use Rattle.ac_sx.specs.Tree.{Tree, Node as List', no_trees, more}
use Rattle.ac_sx.specs.Table.{Entry, Word, Parts, trees_at, tree_among, trees_from, trees_of, are_below, is_below, are_in_order, Keeps}
use Rattle.ac_sx.specs.CodeTerms.{entry_of, entries_in}

-- a table after a node is put
abbrev pub IsPut : List Entry → Entry → List Entry → Type 0
IsPut old e new = (new ≡ old) ⊎ (new ≡ old ++ e ∷ [])

pub put_keys : (ks new : List Node) (k : Node) (b : Bool) → new ≡ (if b then ks else ks ++ k ∷ []) → IsPut (entries_in ks) (entry_of k) (entries_in new)
put_keys ks new k true e = inl (ap entries_in e)
put_keys ks new k false e = inr (ap entries_in e ∙ map-append entry_of ks (k ∷ []))

pub put_keeps : (old new : List Entry) (e : Entry) → IsPut old e new → Keeps old new
put_keeps old new e (inl same) = ([], same ∙ sym (append-nil old))
put_keeps old new e (inr put) = (e ∷ [], put)

in_order-push : (n : ℕ) (es : List Entry) (e : Entry) → are_in_order n es ≡ true → is_below (n + length es) e ≡ true → are_in_order n (es ++ e ∷ []) ≡ true
in_order-push n [] e all below =
    let same : n + 0 ≡ n = omega arith in
    and_from (is_below n e) true (ap (λ m. is_below m e) (sym same) ∙ below) refl
in_order-push n (x ∷ xs) e all below =
    let h = and_parts (is_below n x) (are_in_order (suc n) xs) all in
    let same : n + length (x ∷ xs) ≡ suc n + length xs = omega arith in
    and_from (is_below n x) (are_in_order (suc n) (xs ++ e ∷ [])) h.0 (in_order-push (suc n) xs e h.1 (ap (λ m. is_below m e) (sym same) ∙ below))

pub put_in_order : (old new : List Entry) (e : Entry) → IsPut old e new → are_in_order 0 old ≡ true → is_below (length old) e ≡ true → are_in_order 0 new ≡ true
put_in_order old new e (inl same) all below = ap (are_in_order 0) same ∙ all
put_in_order old new e (inr put) all below = let none : 0 + length old ≡ length old = omega arith in ap (are_in_order 0) put ∙ in_order-push 0 old e all (ap (λ m. is_below m e) none ∙ below)

pub put_length : (old new : List Entry) (e : Entry) → IsPut old e new → length new ≤ length old + 1
put_length old new e (inl same) = let n = ap length same in omega (arith, n)
put_length old new e (inr put) = let n = ap length put in let m = length-append old (e ∷ []) in omega (arith, n, m)

pub trees_from-append : (ts : List Tree) (es fs : List Entry) → trees_from ts (es ++ fs) ≡ trees_from (trees_from ts es) fs
trees_from-append ts [] fs = refl
trees_from-append ts (e ∷ es) fs = trees_from-append (ts ++ tree_among ts e ∷ []) es fs

trees_from-front : (ts : List Tree) (es : List Entry) → (rest : List Tree) × (trees_from ts es ≡ ts ++ rest)
trees_from-front ts [] = ([], sym (append-nil ts))
trees_from-front ts (e ∷ es) =
    let (rest, same) = trees_from-front (ts ++ tree_among ts e ∷ []) es in
    (tree_among ts e ∷ rest, same ∙ append_assoc ts (tree_among ts e ∷ []) rest)

length-trees_from : (ts : List Tree) (es : List Entry) → length (trees_from ts es) ≡ length ts + length es
length-trees_from ts [] = omega arith
length-trees_from ts (e ∷ es) =
    let all = length-trees_from (ts ++ tree_among ts e ∷ []) es in
    let one = length-append ts (tree_among ts e ∷ []) in
    omega (arith, all, one)

pub length-trees_of : (es : List Entry) → length (trees_of es) ≡ length es
length-trees_of es = let all = length-trees_from [] es in omega (arith, all)

-- the trees of a table that is kept are kept
pub trees_of-kept : (old new : List Entry) → Keeps old new → (rest : List Tree) × (trees_of new ≡ trees_of old ++ rest)
trees_of-kept old new (added, same) =
    let (rest, front) = trees_from-front (trees_of old) added in
    (rest, ap trees_of same ∙ trees_from-append [] old added ∙ front)

pub trees_at-kept : (ts rest : List Tree) (is : List ℕ) → are_below (length ts) is ≡ true → trees_at (ts ++ rest) is ≡ trees_at ts is
trees_at-kept ts rest [] below = refl
trees_at-kept ts rest (i ∷ is) below =
    let h = and_parts (nat_lt i (length ts)) (are_below (length ts) is) below in
    ap (λ t. more t (trees_at (ts ++ rest) is)) (get_or_append_left ts rest (List' no_trees) i (ltb-true i (length ts) h.0))
    ∙ ap (λ us. more (get_or ts i (List' no_trees)) us) (trees_at-kept ts rest is h.1)

tree_among-kept : (ts rest : List Tree) (e : Entry) → is_below (length ts) e ≡ true → tree_among (ts ++ rest) e ≡ tree_among ts e
tree_among-kept ts rest (Word w) below = refl
tree_among-kept ts rest (Parts is) below = ap List' (trees_at-kept ts rest is below)

slice_get_at : (ts : List Tree) (t : Tree) (rest : List Tree) → slice_get (ts ++ t ∷ rest) (length ts) ≡ Some t
slice_get_at [] t rest = refl
slice_get_at (x ∷ xs) t rest = slice_get_at xs t rest

tree_at : (ts : List Tree) (es : List Entry) (i : ℕ) (e : Entry) → are_in_order (length ts) es ≡ true → slice_get es i ≡ Some e → slice_get (trees_from ts es) (length ts + i) ≡ Some (tree_among (trees_from ts es) e)
tree_at ts [] i e all at = absurd cc
tree_at ts (x ∷ xs) zero e all at =
    let h = and_parts (is_below (length ts) x) (are_in_order (suc (length ts)) xs) all in
    let same : x ≡ e = cc in
    let here : length ts + 0 ≡ length ts = omega arith in
    let (rest, front) = trees_from-front (ts ++ tree_among ts x ∷ []) xs in
    let whole : trees_from ts (x ∷ xs) ≡ ts ++ tree_among ts x ∷ rest = front ∙ append_assoc ts (tree_among ts x ∷ []) rest in
    ap (slice_get (trees_from ts (x ∷ xs))) here
    ∙ ap (λ us. slice_get us (length ts)) whole
    ∙ slice_get_at ts (tree_among ts x) rest
    ∙ ap Some (sym (tree_among-kept ts (tree_among ts x ∷ rest) x h.0))
    ∙ ap (λ us. Some (tree_among us x)) (sym whole)
    ∙ ap (λ y. Some (tree_among (trees_from ts (x ∷ xs)) y)) same
tree_at ts (x ∷ xs) (suc i) e all at =
    let h = and_parts (is_below (length ts) x) (are_in_order (suc (length ts)) xs) all in
    let one = length-append ts (tree_among ts x ∷ []) in
    let longer : suc (length ts) ≡ length (ts ++ tree_among ts x ∷ []) = omega (arith, one) in
    let here : length ts + suc i ≡ length (ts ++ tree_among ts x ∷ []) + i = omega (arith, one) in
    ap (slice_get (trees_from ts (x ∷ xs))) here
    ∙ tree_at (ts ++ tree_among ts x ∷ []) xs i e (ap (λ n. are_in_order n xs) (sym longer) ∙ h.1) at

-- the tree of an entry that has been put
pub tree_put : (old new : List Entry) (e : Entry) (i : ℕ) → Keeps old new → is_below (length old) e ≡ true → are_in_order 0 new ≡ true → slice_get new i ≡ Some e → slice_get (trees_of new) i ≡ Some (tree_among (trees_of old) e)
tree_put old new e i kept below all at =
    let none : i ≡ 0 + i = omega arith in
    let (rest, same) = trees_of-kept old new kept in
    ap (slice_get (trees_of new)) none
    ∙ tree_at [] new i e all at
    ∙ ap (λ ts. Some (tree_among ts e)) same
    ∙ ap Some (tree_among-kept (trees_of old) rest e (ap (λ n. is_below n e) (length-trees_of old) ∙ below))

pub number_tree : (es : List Entry) (i : ℕ) (e : Entry) → are_in_order 0 es ≡ true → slice_get es i ≡ Some e → slice_get (trees_of es) i ≡ Some (tree_among (trees_of es) e)
number_tree es i e all at = let none : i ≡ 0 + i = omega arith in ap (slice_get (trees_of es)) none ∙ tree_at [] es i e all at

pub number_below : (n : ℕ) (es : List Entry) (i : ℕ) (e : Entry) → are_in_order n es ≡ true → slice_get es i ≡ Some e → is_below (n + i) e ≡ true
number_below n [] i e all at = absurd cc
number_below n (x ∷ xs) zero e all at =
    let h = and_parts (is_below n x) (are_in_order (suc n) xs) all in
    let none : n + 0 ≡ n = omega arith in
    let same : e ≡ x = cc in
    ap₂ (λ m y. is_below m y) none same ∙ h.0
number_below n (x ∷ xs) (suc i) e all at =
    let h = and_parts (is_below n x) (are_in_order (suc n) xs) all in
    let more_there : n + suc i ≡ suc n + i = omega arith in
    ap (λ m. is_below m e) more_there ∙ number_below (suc n) xs i e h.1 at

pub below_at : (n : ℕ) (is : List ℕ) (k : ℕ) → are_below n is ≡ true → k < length is → get_or is k 0 < n
below_at n [] k below lt = absurd (omega arith)
below_at n (i ∷ is) zero below lt = ltb-true i n (and_parts (nat_lt i n) (are_below n is) below).0
below_at n (i ∷ is) (suc k) below lt = below_at n is k (and_parts (nat_lt i n) (are_below n is) below).1 (omega arith)

pub number_below_all : (es : List Entry) (i : ℕ) (e : Entry) → are_in_order 0 es ≡ true → slice_get es i ≡ Some e → is_below i e ≡ true
number_below_all es i e all at = let none : i ≡ 0 + i = omega arith in ap (λ n. is_below n e) none ∙ number_below 0 es i e all at
