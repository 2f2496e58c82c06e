-- The pass over a file finds the parts of its tree.
use Rattle.std.proofs.Common.{◌≡◌, ℕ, suc, ◌+◌, ◌-◌, ◌==◌, Bool, true, false, not, ◌&&◌, List, [], ◌∷◌, ◌++◌, length, Option, None, Some, Ok, ◌≤◌, refl, ap, sym, ◌∙◌, append_assoc, arith, if◌then◌else◌}
use Rattle.std.specs.Prelude.{◌||◌}
use Rattle.std.specs.List.{list_all}
use Rattle.std.specs.Option.{option_to_list}
use Rattle.std.proofs.lemmas.Bool.{and_parts, cond-true, cond-false, ne_eqb, false≢true}
use Rattle.std.proofs.lemmas.List.{length-append}
use Rattle.ac_sx.specs.declared.spans.Cursor.{Cursor}
use Rattle.ac_sx.specs.declared.spans.SxPart.{SxPart}
use Rattle.ac_sx.specs.Tree.{Tree, Trees, Atom, Node, no_trees, more, IsTree, AreTrees, is_atom_byte, spelling, spellings, file, depth, deepest, nodes, all_nodes, opening, closing, space, line_end}
use Rattle.ac_sx.specs.Spans.{parts_from, parts_of}
use Rattle.ac_sx.specs.CodeSpans.{cursor, begun_at, part, ended, opened, parted, moved, scanned_from, scanned}
use Rattle.ac_sx.specs.CodeRecogniser.{recognised}
use Rattle.ac_sx.proofs.Reached.{atom_byte_is}
use Rattle.ac_sx.proofs.Answered.{tree_there}

-- no part ends here
quiet : (c : Cursor) (at b : ℕ) (bs : List ℕ) (next : Cursor) → ended c at b ≡ None → moved c at b ≡ next → scanned_from c at (b ∷ bs) ≡ scanned_from next (at + 1) bs
quiet c at b bs next none there =
    ap (λ o. option_to_list o ++ scanned_from (moved c at b) (at + 1) bs) none ∙ ap (λ x. scanned_from x (at + 1) bs) there

-- a byte of an atom is no space
atom_byte_no_space : (b : ℕ) → is_atom_byte b ≡ true → (b == space) ≡ false
atom_byte_no_space b e = ne_eqb b space (λ same. let no : is_atom_byte space ≡ true = ap is_atom_byte (sym same) ∙ e in false≢true no)

none_ended : (c : Cursor) (at b : ℕ) → (b == space) ≡ false → (b == closing) ≡ false → ended c at b ≡ None
none_ended c at b no_space no_closing =
    ap (λ t. if (c.lists == 1) && (not (c.nodes == 0) && (t || (b == closing))) then Some (part c.start at c.nodes) else None) no_space
    ∙ ap (λ t. if (c.lists == 1) && (not (c.nodes == 0) && t) then Some (part c.start at c.nodes) else None) no_closing
    ∙ off (c.lists == 1) (not (c.nodes == 0)) (Some (part c.start at c.nodes))
  where
    off : (x y : Bool) (o : Option SxPart) → (if x && (y && false) then o else None) ≡ None
    off true true o = refl
    off _ _ _ = refl

deep_ended : (n : ℕ) (w : Bool) (s k at b : ℕ) → ended (cursor (suc (suc n)) w s k) at b ≡ None
deep_ended n w s k at b =
    let no : (suc (suc n) == 1) ≡ false = ne_eqb (suc (suc n)) 1 (λ e. omega arith) in
    ap (λ t. if t && (not (k == 0) && ((b == space) || (b == closing))) then Some (part s at k) else None) no

atom_moved : (n : ℕ) (w : Bool) (s k at b : ℕ) → is_atom_byte b ≡ true → moved (cursor n w s k) at b ≡ cursor n true s (if w then k else k + 1)
atom_moved n w s k at b e =
    cond-false (b == opening) (opened (cursor n w s k) at) _ (atom_byte_is b e).0
    ∙ cond-false (b == closing) (cursor (n - 1) false s k) _ (atom_byte_is b e).1
    ∙ cond-true (is_atom_byte b) (cursor n true s (if w then k else k + 1)) (parted (cursor n w s k) at) e

-- a byte of an atom
atom_byte : (n : ℕ) (w : Bool) (s k at b : ℕ) (bs : List ℕ) → is_atom_byte b ≡ true → scanned_from (cursor n w s k) at (b ∷ bs) ≡ scanned_from (cursor n true s (if w then k else k + 1)) (at + 1) bs
atom_byte n w s k at b bs e =
    quiet (cursor n w s k) at b bs (cursor n true s (if w then k else k + 1)) (none_ended (cursor n w s k) at b (atom_byte_no_space b e) (atom_byte_is b e).1) (atom_moved n w s k at b e)

word_scanned : (n s k at : ℕ) (w rest : List ℕ) → list_all is_atom_byte w ≡ true → scanned_from (cursor n true s k) at (w ++ rest) ≡ scanned_from (cursor n true s k) (at + length w) rest
word_scanned n s k at [] rest e = let same : at ≡ at + 0 = omega arith in ap (λ i. scanned_from (cursor n true s k) i rest) same
word_scanned n s k at (b ∷ bs) rest e =
    let h = and_parts (is_atom_byte b) (list_all is_atom_byte bs) e in
    let same : at + 1 + length bs ≡ at + length (b ∷ bs) = omega arith in
    atom_byte n true s k at b (bs ++ rest) h.0
    ∙ word_scanned n s k (at + 1) bs rest h.1
    ∙ ap (λ i. scanned_from (cursor n true s k) i rest) same

abbrev is_word : Tree → Bool
is_word (Atom w) = true
is_word (Node ts) = false

-- the opening of a list within the root
list_opened : (n s k at : ℕ) (bs : List ℕ) → scanned_from (cursor (suc n) false s k) at (opening ∷ bs) ≡ scanned_from (cursor (suc (suc n)) false s (k + 1)) (at + 1) bs
list_opened n s k at bs =
    let some : (suc n == 0) ≡ false = ne_eqb (suc n) 0 (λ e. omega arith) in
    let up : suc n + 1 ≡ suc (suc n) = omega arith in
    quiet (cursor (suc n) false s k) at opening bs (cursor (suc (suc n)) false s (k + 1)) (none_ended (cursor (suc n) false s k) at opening refl refl)
    (cond-false (suc n == 0) (begun_at (at + 1)) (cursor (suc n + 1) false s (k + 1)) some ∙ ap (λ m. cursor m false s (k + 1)) up)

-- the end of one
list_closed : (n : ℕ) (w : Bool) (s k at : ℕ) (bs : List ℕ) → scanned_from (cursor (suc (suc n)) w s k) at (closing ∷ bs) ≡ scanned_from (cursor (suc n) false s k) (at + 1) bs
list_closed n w s k at bs =
    let down : suc (suc n) - 1 ≡ suc n = omega arith in
    quiet (cursor (suc (suc n)) w s k) at closing bs (cursor (suc n) false s k) (deep_ended n w s k at closing) (ap (λ m. cursor m false s k) down)

-- a space within such a list
list_parted : (n : ℕ) (w : Bool) (s k at : ℕ) (bs : List ℕ) → scanned_from (cursor (suc (suc n)) w s k) at (space ∷ bs) ≡ scanned_from (cursor (suc (suc n)) false s k) (at + 1) bs
list_parted n w s k at bs =
    let no : (suc (suc n) == 1) ≡ false = ne_eqb (suc (suc n)) 1 (λ e. omega arith) in
    quiet (cursor (suc (suc n)) w s k) at space bs (cursor (suc (suc n)) false s k) (deep_ended n w s k at space)
    (cond-false (suc (suc n) == 1) (begun_at (at + 1)) (cursor (suc (suc n)) false s k) no)

mutual
  -- a tree in the root or in a list within it
  tree_scanned : (t : Tree) → IsTree t → (n s k at : ℕ) (rest : List ℕ) → scanned_from (cursor (suc n) false s k) at (spelling t ++ rest) ≡ scanned_from (cursor (suc n) (is_word t) s (k + nodes t)) (at + length (spelling t)) rest
  tree_scanned (Atom []) is n s k at rest = absurd (false≢true is)
  tree_scanned (Atom (b ∷ bs)) is n s k at rest =
      let h = and_parts (is_atom_byte b) (list_all is_atom_byte bs) is in
      let same : at + 1 + length bs ≡ at + length (b ∷ bs) = omega arith in
      atom_byte (suc n) false s k at b (bs ++ rest) h.0
      ∙ word_scanned (suc n) s (k + 1) (at + 1) bs rest h.1
      ∙ ap (λ i. scanned_from (cursor (suc n) true s (k + 1)) i rest) same
  tree_scanned (Node ts) is n s k at rest =
      let count : k + 1 + all_nodes ts ≡ k + nodes (Node ts) = omega arith in
      let long : at + 1 + length (spellings ts) + 1 ≡ at + length (spelling (Node ts)) = let e = length-append (spellings ts) (closing ∷ []) in omega (arith, e) in
      list_opened n s k at ((spellings ts ++ closing ∷ []) ++ rest)
      ∙ ap (scanned_from (cursor (suc (suc n)) false s (k + 1)) (at + 1)) (append_assoc (spellings ts) (closing ∷ []) rest)
      ∙ parts_scanned ts is n s (k + 1) (at + 1) rest
      ∙ ap (λ m. scanned_from (cursor (suc n) false s m) (at + 1 + length (spellings ts) + 1) rest) count
      ∙ ap (λ i. scanned_from (cursor (suc n) false s (k + nodes (Node ts))) i rest) long

  -- the parts of a list within the root, and its end
  parts_scanned : (ts : Trees) → AreTrees ts → (n s k at : ℕ) (rest : List ℕ) → scanned_from (cursor (suc (suc n)) false s k) at (spellings ts ++ closing ∷ rest) ≡ scanned_from (cursor (suc n) false s (k + all_nodes ts)) (at + length (spellings ts) + 1) rest
  parts_scanned no_trees are n s k at rest =
      let none : k ≡ k + 0 = omega arith in
      let same : at + 1 ≡ at + 0 + 1 = omega arith in
      list_closed n false s k at rest ∙ ap (λ m. scanned_from (cursor (suc n) false s m) (at + 1) rest) none ∙ ap (λ i. scanned_from (cursor (suc n) false s (k + 0)) i rest) same
  parts_scanned (more t no_trees) are n s k at rest =
      let none : k + nodes t ≡ k + (nodes t + 0) = omega arith in
      tree_scanned t are.0 (suc n) s k at (closing ∷ rest)
      ∙ list_closed n (is_word t) s (k + nodes t) (at + length (spelling t)) rest
      ∙ ap (λ m. scanned_from (cursor (suc n) false s m) (at + length (spelling t) + 1) rest) none
  parts_scanned (more t (more u us)) are n s k at rest =
      let count : k + nodes t + all_nodes (more u us) ≡ k + (nodes t + all_nodes (more u us)) = omega arith in
      let long : at + length (spelling t) + 1 + length (spellings (more u us)) + 1 ≡ at + length (spellings (more t (more u us))) + 1 = let e = length-append (spelling t) (space ∷ spellings (more u us)) in omega (arith, e) in
      ap (scanned_from (cursor (suc (suc n)) false s k) at) (append_assoc (spelling t) (space ∷ spellings (more u us)) (closing ∷ rest))
      ∙ tree_scanned t are.0 (suc n) s k at (space ∷ (spellings (more u us) ++ closing ∷ rest))
      ∙ list_parted n (is_word t) s (k + nodes t) (at + length (spelling t)) (spellings (more u us) ++ closing ∷ rest)
      ∙ parts_scanned (more u us) are.1 n s (k + nodes t) (at + length (spelling t) + 1) rest
      ∙ ap (λ m. scanned_from (cursor (suc n) false s m) (at + length (spelling t) + 1 + length (spellings (more u us)) + 1) rest) count
      ∙ ap (λ i. scanned_from (cursor (suc n) false s (k + all_nodes (more t (more u us)))) i rest) long

some_nodes : (t : Tree) → (nodes t == 0) ≡ false
some_nodes (Atom w) = refl
some_nodes (Node ts) = ne_eqb (suc (all_nodes ts)) 0 (λ e. omega arith)

-- a part of the root ends
root_ended : (t : Tree) (s at b : ℕ) → ((b == space) || (b == closing)) ≡ true → ended (cursor 1 (is_word t) s (0 + nodes t)) at b ≡ Some (part s at (nodes t))
root_ended t s at b e =
    let count : 0 + nodes t ≡ nodes t = omega arith in
    ap (λ m. if not (m == 0) && ((b == space) || (b == closing)) then Some (part s at m) else None) count
    ∙ ap (λ z. if not z && ((b == space) || (b == closing)) then Some (part s at (nodes t)) else None) (some_nodes t)
    ∙ ap (λ z. if z then Some (part s at (nodes t)) else None) e

root_byte : (t : Tree) (s at b : ℕ) (bs : List ℕ) (next : Cursor) → ((b == space) || (b == closing)) ≡ true → moved (cursor 1 (is_word t) s (0 + nodes t)) at b ≡ next →
    scanned_from (cursor 1 (is_word t) s (0 + nodes t)) at (b ∷ bs) ≡ part s at (nodes t) ∷ scanned_from next (at + 1) bs
root_byte t s at b bs next e there =
    ap (λ o. option_to_list o ++ scanned_from (moved (cursor 1 (is_word t) s (0 + nodes t)) at b) (at + 1) bs) (root_ended t s at b e)
    ∙ ap (λ c. part s at (nodes t) ∷ scanned_from c (at + 1) bs) there

-- the parts of the root
root_scanned : (ts : Trees) → AreTrees ts → (at : ℕ) → scanned_from (begun_at at) at (spellings ts ++ closing ∷ line_end ∷ []) ≡ parts_from at ts
root_scanned no_trees are at = refl
root_scanned (more t no_trees) are at =
    tree_scanned t are.0 0 at 0 at (closing ∷ line_end ∷ [])
    ∙ root_byte t at (at + length (spelling t)) closing (line_end ∷ []) (cursor 0 false at (0 + nodes t)) refl refl
root_scanned (more t (more u us)) are at =
    ap (scanned_from (begun_at at) at) (append_assoc (spelling t) (space ∷ spellings (more u us)) (closing ∷ line_end ∷ []))
    ∙ tree_scanned t are.0 0 at 0 at (space ∷ (spellings (more u us) ++ closing ∷ line_end ∷ []))
    ∙ root_byte t at (at + length (spelling t)) space (spellings (more u us) ++ closing ∷ line_end ∷ []) (begun_at (at + length (spelling t) + 1)) refl refl
    ∙ ap (λ ps. part at (at + length (spelling t)) (nodes t) ∷ ps) (root_scanned (more u us) are.1 (at + length (spelling t) + 1))

pub file_is_scanned : (t : Tree) → IsTree t → scanned (file t) ≡ parts_of t
file_is_scanned (Atom []) is = absurd (false≢true is)
file_is_scanned (Atom (b ∷ bs)) is =
    let h = and_parts (is_atom_byte b) (list_all is_atom_byte bs) is in
    atom_byte 0 false 0 0 0 b (bs ++ line_end ∷ []) h.0 ∙ word_scanned 0 0 1 1 bs (line_end ∷ []) h.1
file_is_scanned (Node ts) is =
    ap (scanned_from (begun_at 1) 1) (append_assoc (spellings ts) (closing ∷ []) (line_end ∷ []))
    ∙ root_scanned ts is 1

pub found_parts : (text : List ℕ) (u : Unit {0}) (ps : List SxPart) → recognised text ≡ Ok u → ps ≡ scanned text → (t : Tree) × IsTree t × (text ≡ file t) × (depth t ≤ deepest) × (ps ≡ parts_of t)
found_parts text u ps e scanned_is =
    let (t, is, same, low, whole) = tree_there text u e in
    (t, is, same, low, scanned_is ∙ ap scanned same ∙ file_is_scanned t is)

pub only_parts : (text : List ℕ) (t : Tree) (ps : List SxPart) → IsTree t → text ≡ file t → ps ≡ scanned text → ps ≡ parts_of t
only_parts text t ps is same scanned_is = scanned_is ∙ ap scanned same ∙ file_is_scanned t is
