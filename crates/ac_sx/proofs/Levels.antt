-- In what is built of a file no list nests too deep: a part of a list that stands within so many others nests no deeper than they leave room.
use Rattle.std.proofs.Common.{◌≡◌, ℕ, zero, suc, ◌+◌, ◌-◌, ◌==◌, ◌<◌, ◌≤◌, max, Bool, true, false, List, [], ◌∷◌, ◌++◌, length, drop, get_or, slice_get, Some, None, ◌⊎◌, inl, inr, refl, ap, sym, subst, ◌∙◌, eqb-true, if◌then◌else◌, arith}
use Rattle.std.proofs.lemmas.Bool.{cond-false}
use Rattle.std.proofs.lemmas.List.{drop_more}
use Rattle.ac_sx.specs.declared.recogniser.Place.{Place}
use Rattle.ac_sx.specs.declared.recogniser.Place.TheVariants.{Begin, Opened, Word, Ended, Whole}
use Rattle.ac_sx.specs.declared.recogniser.Reading.{Reading}
use Rattle.ac_sx.specs.Tree.{Tree, Trees, Atom, Node, no_trees, more, IsTree, spelling, file, depth, depths, deepest, is_atom_byte, opening, closing, space, line_end}
use Rattle.ac_sx.specs.CodeSx.{pushed}
use Rattle.ac_sx.specs.CodeRecogniser.{reading, begun, closed, followed, step_at}
use Rattle.ac_sx.specs.CodeBuilder.{Building, nothing, placed, entered, left, left_to, flushed, acted}
use Rattle.ac_sx.specs.Table.{Entry, trees_of, tree_among, AreLow}
use Rattle.ac_sx.specs.CodeTermReader.{AreLowAround, IsLow}
use Rattle.ac_sx.proofs.Reached.{branches, atom_byte_is}
use Rattle.ac_sx.proofs.Walked.{after}
use Rattle.ac_sx.proofs.Tabled.{IsPut, trees_from-append}
use Rattle.ac_sx.proofs.Fronts.{after_parts, file_passes}

depths-pushed : (us : Trees) (t : Tree) → depths (pushed us t) ≡ max (depths us) (depth t)
depths-pushed no_trees t = omega arith
depths-pushed (more u us) t = let h = depths-pushed us t in omega (arith, h)

pub low_placed : (b : Building) (t : Tree) → IsLow b → length b.around + depth t ≤ deepest → IsLow (placed b t)
low_placed b t low within =
    let all = depths-pushed b.parts t in
    let here = low.0 in
    (omega (arith, all, here, within), low.1)

pub low_flushed : (b : Building) (w : List ℕ) → IsLow b → IsLow (flushed b w)
low_flushed b [] low = low
low_flushed b (c ∷ cs) low = let here = low.0 in low_placed b (Atom (c ∷ cs)) low (omega (arith, here))

pub around_flushed : (b : Building) (w : List ℕ) → length (flushed b w).around ≡ length b.around
around_flushed b [] = refl
around_flushed b (c ∷ cs) = refl

low_left : (parts : Trees) (around : List Trees) → length around + depths parts ≤ deepest → AreLowAround around → IsLow (left_to parts around)
low_left parts [] here outside = (here, tt)
low_left parts (ts ∷ outer) here outside = low_placed (record { parts = ts; around = outer }) (Node parts) outside (omega (arith, here))

around_left : (parts : Trees) (around : List Trees) → length (left_to parts around).around ≡ length around - 1
around_left parts [] = omega arith
around_left parts (ts ∷ outer) = omega arith

-- how many lists are open behind a byte
abbrev pub lists_behind : ℕ → ℕ → ℕ
lists_behind b n = if b == opening then suc n else if b == closing then n - 1 else n

pub around_acted : (b : Building) (c : ℕ) → length (acted b c).around ≡ lists_behind c (length b.around)
around_acted b c = by (c == opening) (c == closing)
  where
    by : (s t : Bool) → length (if s then entered b else if t then left b else b).around ≡ (if s then suc (length b.around) else if t then length b.around - 1 else length b.around)
    by false true = around_left b.parts b.around
    by _ _ = refl

pub low_acted : (b : Building) (c : ℕ) → IsLow b → lists_behind c (length b.around) ≤ deepest → IsLow (acted b c)
low_acted b c low within = by (c == opening) (c == closing) within
  where
    by : (s t : Bool) → (if s then suc (length b.around) else if t then length b.around - 1 else length b.around) ≤ deepest → IsLow (if s then entered b else if t then left b else b)
    by true t le = (omega (arith, le), low)
    by false true le = low_left b.parts b.around low.0 low.1
    by false false le = low

atom_behind : (b n : ℕ) → is_atom_byte b ≡ true → lists_behind b n ≡ n
atom_behind b n e = cond-false (b == opening) (suc n) (if b == closing then n - 1 else n) (atom_byte_is b e).0 ∙ cond-false (b == closing) (n - 1) n (atom_byte_is b e).1

begun_lists : (n b : ℕ) (next : Reading) → begun n b ≡ Some next → next.lists ≡ lists_behind b n
begun_lists n b next e =
    elim (branches (b == opening) (Some (reading Opened (n + 1))) (if is_atom_byte b then Some (reading Word n) else None) (Some next) e) [
      | inl opens ↦
          let there : reading Opened (n + 1) ≡ next = cc in
          let up : n + 1 ≡ suc n = omega arith in
          sym (ap (λ (r : Reading). r.lists) there) ∙ up ∙ sym (ap (λ t. if t then suc n else if b == closing then n - 1 else n) opens.0)
      | inr other ↦ elim (branches (is_atom_byte b) (Some (reading Word n)) None (Some next) other.1) [
        | inl word ↦ let there : reading Word n ≡ next = cc in sym (ap (λ (r : Reading). r.lists) there) ∙ sym (atom_behind b n word.0)
        | inr none ↦ absurd cc
      ]
    ]

closed_lists : (n b : ℕ) (next : Reading) → b ≡ closing → closed n ≡ Some next → next.lists ≡ lists_behind b n
closed_lists n b next same e =
    elim (branches (n == 0) None (Some (reading Ended (n - 1))) (Some next) e) [
      | inl none ↦ absurd cc
      | inr some ↦ let there : reading Ended (n - 1) ≡ next = cc in sym (ap (λ (r : Reading). r.lists) there) ∙ ap (λ c. lists_behind c n) (sym same)
    ]

followed_lists : (n b : ℕ) (next : Reading) → followed n b ≡ Some next → next.lists ≡ lists_behind b n
followed_lists n b next e =
    elim (branches (b == closing) (closed n) (if n == 0 then (if b == line_end then Some (reading Whole 0) else None) else if b == space then Some (reading Begin n) else None) (Some next) e) [
      | inl closes ↦ closed_lists n b next (eqb-true b closing closes.0) closes.1
      | inr other ↦ elim (branches (n == 0) (if b == line_end then Some (reading Whole 0) else None) (if b == space then Some (reading Begin n) else None) (Some next) other.1) [
        | inl outside ↦ elim (branches (b == line_end) (Some (reading Whole 0)) None (Some next) outside.1) [
          | inl ends ↦
              let there : reading Whole 0 ≡ next = cc in
              sym (ap (λ (r : Reading). r.lists) there) ∙ sym (eqb-true n 0 outside.0) ∙ ap (λ c. lists_behind c n) (sym (eqb-true b line_end ends.0))
          | inr none ↦ absurd cc
        ]
        | inr inside ↦ elim (branches (b == space) (Some (reading Begin n)) None (Some next) inside.1) [
          | inl parts ↦
              let there : reading Begin n ≡ next = cc in
              sym (ap (λ (r : Reading). r.lists) there) ∙ ap (λ c. lists_behind c n) (sym (eqb-true b space parts.0))
          | inr none ↦ absurd cc
        ]
      ]
    ]

step_lists : (place : Place) (n b : ℕ) (next : Reading) → step_at place n b ≡ Some next → next.lists ≡ lists_behind b n
step_lists Begin n b next e = begun_lists n b next e
step_lists Opened n b next e =
    elim (branches (b == closing) (closed n) (begun n b) (Some next) e) [
      | inl closes ↦ closed_lists n b next (eqb-true b closing closes.0) closes.1
      | inr other ↦ begun_lists n b next other.1
    ]
step_lists Word n b next e =
    elim (branches (is_atom_byte b) (Some (reading Word n)) (followed n b) (Some next) e) [
      | inl word ↦ let there : reading Word n ≡ next = cc in sym (ap (λ (r : Reading). r.lists) there) ∙ sym (atom_behind b n word.0)
      | inr other ↦ followed_lists n b next other.1
    ]
step_lists Ended n b next e = followed_lists n b next e
step_lists Whole n b next e = absurd cc

-- from here, with so many lists open, what is left of a file is passed
pub record Passing (level : ℕ) (rest : List ℕ) : Type 0 where
  pub at : Reading
  pub passes : after deepest at rest ≡ Some (reading Whole 0)
  pub level_is : at.lists ≡ level

pub passing_next : (level b : ℕ) (bs : List ℕ) → Passing level (b ∷ bs) → Passing (lists_behind b level) bs × (lists_behind b level ≤ deepest)
passing_next level b bs h =
    let (next, s, le, rest) = after_parts deepest h.at b bs (reading Whole 0) h.passes in
    let lists : next.lists ≡ lists_behind b level = step_lists h.at.place h.at.lists b next s ∙ ap (lists_behind b) h.level_is in
    (record { at = next; passes = rest; level_is = lists }, subst (λ n. n ≤ deepest) lists le)

pub passing_word : (level b : ℕ) (bs : List ℕ) → is_atom_byte b ≡ true → Passing level (b ∷ bs) → Passing level bs
passing_word level b bs e h = subst (λ n. Passing n bs) (atom_behind b level e) (passing_next level b bs h).0

pub passing_file : (t : Tree) → IsTree t → depth t ≤ deepest → Passing 0 (file t)
passing_file t is low = record { at = reading Begin 0; passes = file_passes deepest t is low; level_is = refl }

pub passing_line : (line : List ℕ) → (t : Tree) × IsTree t × (line ≡ spelling t) × (depth t ≤ deepest) → Passing 0 (line ++ line_end ∷ [])
passing_line line (t, is, same, low) = subst (λ (text : List ℕ). Passing 0 (text ++ line_end ∷ [])) (sym same) (passing_file t is low)

pub low_nothing : IsLow nothing
low_nothing = (omega arith, tt)

-- a byte that is none of an atom
pub byte_passed : (before after : Building) (word text tail : List ℕ) (at : ℕ) → at < length text → IsLow before → Passing (length before.around) (drop at text ++ tail) → after ≡ acted (flushed before word) (get_or text at 0) →
    IsLow after × Passing (length after.around) (drop (at + 1) text ++ tail)
byte_passed before after word text tail at lt low passing there =
    let b = get_or text at 0 in
    let mid = flushed before word in
    let (next, within) = passing_next (length before.around) b (drop (at + 1) text ++ tail) (subst (λ bs. Passing (length before.around) (bs ++ tail)) (drop_more text at 0 lt) passing) in
    let same : lists_behind b (length mid.around) ≡ lists_behind b (length before.around) = ap (lists_behind b) (around_flushed before word) in
    let level : length (acted mid b).around ≡ lists_behind b (length before.around) = around_acted mid b ∙ same in (
      subst IsLow (sym there) (low_acted mid b (low_flushed before word low) (subst (λ n. n ≤ deepest) (sym same) within)),
      subst (λ (x : Building). Passing (length x.around) (drop (at + 1) text ++ tail)) (sym there) (subst (λ n. Passing n (drop (at + 1) text ++ tail)) (sym level) next),
    )

-- a byte of an atom
pub word_passed : (level : ℕ) (text tail : List ℕ) (at : ℕ) → at < length text → is_atom_byte (get_or text at 0) ≡ true → Passing level (drop at text ++ tail) → Passing level (drop (at + 1) text ++ tail)
word_passed level text tail at lt is passing = passing_word level (get_or text at 0) (drop (at + 1) text ++ tail) is (subst (λ bs. Passing level (bs ++ tail)) (drop_more text at 0 lt) passing)

-- a table after a tree that isn't too deep is put
slice_get_pushed : (ts : List Tree) (t : Tree) (i : ℕ) (u : Tree) → slice_get (ts ++ t ∷ []) i ≡ Some u → (slice_get ts i ≡ Some u) ⊎ (t ≡ u)
slice_get_pushed [] t zero u e = inr cc
slice_get_pushed [] t (suc i) u e = absurd cc
slice_get_pushed (x ∷ xs) t zero u e = inl e
slice_get_pushed (x ∷ xs) t (suc i) u e = slice_get_pushed xs t i u e

pub put_low : (old new : List Entry) (e : Entry) → IsPut old e new → AreLow old → depth (tree_among (trees_of old) e) ≤ deepest → AreLow new
put_low old new e (inl same) low here = subst AreLow (sym same) low
put_low old new e (inr put) low here = λ i t at. by i t (slice_get_pushed (trees_of old) (tree_among (trees_of old) e) i t (ap (λ ts. slice_get ts i) (sym (ap trees_of put ∙ trees_from-append [] old (e ∷ []))) ∙ at))
  where
    by : (i : ℕ) (t : Tree) → (slice_get (trees_of old) i ≡ Some t) ⊎ (tree_among (trees_of old) e ≡ t) → depth t ≤ deepest
    by i t (inl before) = low i t before
    by i t (inr same) = subst (λ u. depth u ≤ deepest) same here
