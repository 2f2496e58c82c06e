-- The recogniser, up to any depth, passes the text of each tree that is no deeper.
use Rattle.std.proofs.Common.{◌≡◌, ℕ, suc, ◌+◌, ◌-◌, ◌==◌, ◌≤◌, true, List, [], ◌∷◌, ◌++◌, Option, Some, None, refl, ap, ◌∙◌, append_assoc, arith}
use Rattle.std.specs.Prelude.{nat_lt, if◌then◌else◌}
use Rattle.std.specs.List.{list_all}
use Rattle.std.proofs.lemmas.Bool.{and_parts, cond-true, cond-false, le-ltb, ne_eqb, false≢true}
use Rattle.ac_sx.specs.declared.recogniser.Place.{Place}
use Rattle.ac_sx.specs.declared.recogniser.Place.TheVariants.{Begin, Opened, Word, Ended, Whole}
use Rattle.ac_sx.specs.declared.recogniser.Reading.{Reading}
use Rattle.ac_sx.specs.Tree.{Tree, Trees, Atom, Node, no_trees, more, IsTree, AreTrees, is_atom_byte, spelling, spellings, depth, depths, opening, closing, space, line_end}
use Rattle.ac_sx.specs.CodeRecogniser.{reading, begun, closed, followed, step}
use Rattle.ac_sx.proofs.Reached.{atom_byte_is}

-- where the recogniser is after a text, if it gets there with no more lists open than these
abbrev pub after : ℕ → Reading → List ℕ → Option Reading
after most r [] = Some r
after most r (b ∷ bs) = elim (step r b) [ None ↦ None | Some next ↦ if nat_lt most next.lists then None else after most next bs ]

pub after_step : (most : ℕ) (r : Reading) (b : ℕ) (bs : List ℕ) (next : Reading) → step r b ≡ Some next → next.lists ≤ most → after most r (b ∷ bs) ≡ after most next bs
after_step most r b bs next e le =
    ap (λ (o : Option Reading). elim o as (λ _. Option Reading) [ None ↦ None | Some x ↦ if nat_lt most x.lists then None else after most x bs ]) e
    ∙ cond-false (nat_lt most next.lists) None (after most next bs) (le-ltb most next.lists le)

abbrev pub CanBegin : Place → Type 0
CanBegin Begin = Unit {0}
CanBegin Opened = Unit {0}
CanBegin _ = ⊥

-- behind a tree
abbrev pub behind : Tree → ℕ → Reading
behind (Atom w) n = reading Word n
behind (Node ts) n = reading Ended n

begun_word : (n b : ℕ) → is_atom_byte b ≡ true → begun n b ≡ Some (reading Word n)
begun_word n b e =
    cond-false (b == opening) (Some (reading Opened (n + 1))) (if is_atom_byte b then Some (reading Word n) else None) (atom_byte_is b e).0
    ∙ cond-true (is_atom_byte b) (Some (reading Word n)) None e

word_begins : (place : Place) (n b : ℕ) → CanBegin place → is_atom_byte b ≡ true → step (reading place n) b ≡ Some (reading Word n)
word_begins Begin n b can e = begun_word n b e
word_begins Opened n b can e = cond-false (b == closing) (closed n) (begun n b) (atom_byte_is b e).1 ∙ begun_word n b e
word_begins _ _ _ can _ = absurd can

list_begins : (place : Place) (n : ℕ) → CanBegin place → step (reading place n) opening ≡ Some (reading Opened (n + 1))
list_begins Begin n can = refl
list_begins Opened n can = refl
list_begins _ _ can = absurd can

closed_one : (n : ℕ) → closed (n + 1) ≡ Some (reading Ended n)
closed_one n =
    let less : n + 1 - 1 ≡ n = omega arith in
    cond-false (n + 1 == 0) None (Some (reading Ended (n + 1 - 1))) (ne_eqb (n + 1) 0 (λ e. omega arith)) ∙ ap (λ m. Some (reading Ended m)) less

pub list_ends : (t : Tree) (n : ℕ) → step (behind t (n + 1)) closing ≡ Some (reading Ended n)
list_ends (Atom w) n = closed_one n
list_ends (Node ts) n = closed_one n

next_begins : (t : Tree) (n : ℕ) → step (behind t (n + 1)) space ≡ Some (reading Begin (n + 1))
next_begins (Atom w) n = cond-false (n + 1 == 0) (if space == line_end then Some (reading Whole 0) else None) (Some (reading Begin (n + 1))) (ne_eqb (n + 1) 0 (λ e. omega arith))
next_begins (Node ts) n = cond-false (n + 1 == 0) (if space == line_end then Some (reading Whole 0) else None) (Some (reading Begin (n + 1))) (ne_eqb (n + 1) 0 (λ e. omega arith))

word_walked : (most n : ℕ) (w rest : List ℕ) → n ≤ most → list_all is_atom_byte w ≡ true → after most (reading Word n) (w ++ rest) ≡ after most (reading Word n) rest
word_walked most n [] rest le e = refl
word_walked most n (b ∷ bs) rest le e =
    let h = and_parts (is_atom_byte b) (list_all is_atom_byte bs) e in
    after_step most (reading Word n) b (bs ++ rest) (reading Word n) (cond-true (is_atom_byte b) (Some (reading Word n)) (followed n b) h.0) le
    ∙ word_walked most n bs rest le h.1

-- before these parts of a list
abbrev pub CanGoOn : Trees → Place → Type 0
CanGoOn no_trees place = place ≡ Opened
CanGoOn (more t ts) place = CanBegin place

opened_goes_on : (ts : Trees) → CanGoOn ts Opened
opened_goes_on no_trees = refl
opened_goes_on (more t ts) = tt

mutual
  pub tree_walked : (most : ℕ) (t : Tree) → IsTree t → (place : Place) → CanBegin place → (n : ℕ) → n + depth t ≤ most → (rest : List ℕ) → after most (reading place n) (spelling t ++ rest) ≡ after most (behind t n) rest
  tree_walked most (Atom []) is place can n le rest = absurd (false≢true is)
  tree_walked most (Atom (b ∷ bs)) is place can n le rest =
      let h = and_parts (is_atom_byte b) (list_all is_atom_byte bs) is in
      after_step most (reading place n) b (bs ++ rest) (reading Word n) (word_begins place n b can h.0) (omega arith) ∙ word_walked most n bs rest (omega arith) h.1
  tree_walked most (Node ts) is place can n le rest =
      after_step most (reading place n) opening ((spellings ts ++ closing ∷ []) ++ rest) (reading Opened (n + 1)) (list_begins place n can) (omega arith)
      ∙ ap (after most (reading Opened (n + 1))) (append_assoc (spellings ts) (closing ∷ []) rest)
      ∙ parts_walked most ts is Opened (opened_goes_on ts) n (omega arith) rest

  pub parts_walked : (most : ℕ) (ts : Trees) → AreTrees ts → (place : Place) → CanGoOn ts place → (n : ℕ) → n + suc (depths ts) ≤ most → (rest : List ℕ) →
      after most (reading place (n + 1)) (spellings ts ++ closing ∷ rest) ≡ after most (reading Ended n) rest
  parts_walked most no_trees are place can n le rest =
      after_step most (reading place (n + 1)) closing rest (reading Ended n) (ap (λ p. step (reading p (n + 1)) closing) can ∙ closed_one n) (omega arith)
  parts_walked most (more t no_trees) are place can n le rest =
      tree_walked most t are.0 place can (n + 1) (omega arith) (closing ∷ rest) ∙ after_step most (behind t (n + 1)) closing rest (reading Ended n) (list_ends t n) (omega arith)
  parts_walked most (more t (more u us)) are place can n le rest =
      ap (after most (reading place (n + 1))) (append_assoc (spelling t) (space ∷ spellings (more u us)) (closing ∷ rest))
      ∙ tree_walked most t are.0 place can (n + 1) (omega arith) (space ∷ (spellings (more u us) ++ closing ∷ rest))
      ∙ after_step most (behind t (n + 1)) space (spellings (more u us) ++ closing ∷ rest) (reading Begin (n + 1)) (next_begins t n) (omega arith)
      ∙ parts_walked most (more u us) are.1 Begin tt n (omega arith) rest
