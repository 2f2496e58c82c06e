-- Steps of the builder by numbers, before the line's end.
use Rattle.std.proofs.Common.{◌≡◌, ℕ, ◌+◌, ◌-◌, ◌<◌, ◌≤◌, true, false, ◌&&◌, nat_lt, List, [], ◌∷◌, ◌++◌, length, take, drop, get_or, slice_get, Option, Some, None, refl, ap, sym, ◌∙◌, append_assoc, if◌then◌else◌, arith}
use Rattle.std.specs.Prelude.{MatchOption, option_and_then}
use Rattle.std.specs.Option.{option_to_list}
use Rattle.std.specs.List.{list_all, slice_range}
use Rattle.std.proofs.lemmas.Bool.{and_parts, ltb-true}
use Rattle.std.proofs.lemmas.List.{drop_more, append-nil, map-append, length-take}
use Rattle.std.proofs.lemmas.List.Folds.{list_all-append}
use Rattle.std.proofs.lemmas.Option.{slice_get-get_or}
use Rattle.ac_sx.specs.declared.terms.TermId.{TermId}
use Rattle.ac_sx.specs.Tree.{Tree, Node, no_trees, is_atom_byte, line_end}
use Rattle.ac_sx.specs.Table.{Entry, trees_at, are_below, Keeps}
use Rattle.ac_sx.specs.CodeBuilder.{Building, flushed, acted, next_building, next_word, last_of, built_from}
use Rattle.ac_sx.specs.CodeTermReader.{numbers}
use Rattle.ac_sx.proofs.Building.{word_more, word_goes_on, last_of-pushed}
use Rattle.ac_sx.proofs.Opened.{trees_at-push}

pub keeps_trans : (old mid new : List Entry) → Keeps old mid → Keeps mid new → Keeps old new
keeps_trans old mid new (xs, e) (ys, f) = (xs ++ ys, f ∙ ap (λ es. es ++ ys) e ∙ append_assoc old xs ys)

pub keeps_self : (es : List Entry) → Keeps es es
keeps_self es = ([], sym (append-nil es))

pub length-slice_range-le : (xs : List ℕ) (i j : ℕ) → length (slice_range xs i j) ≤ j - i
length-slice_range-le xs i j = let e = length-take (j - i) (drop i xs) in omega (arith, e)

next_byte : (b : Building) (word text tail : List ℕ) (at : ℕ) → at < length text →
    built_from b word (drop at text ++ tail) ≡ built_from (next_building b word (get_or text at 0)) (next_word word (get_or text at 0)) (drop (at + 1) text ++ tail)
next_byte b word text tail at lt = ap (λ bs. built_from b word (bs ++ tail)) (drop_more text at 0 lt)

-- the next byte is one of the atom's
pub line_goes_on : (b : Building) (text tail : List ℕ) (start at : ℕ) (r : Option Tree) → start ≤ at → at < length text → is_atom_byte (get_or text at 0) ≡ true → list_all is_atom_byte (slice_range text start at) ≡ true →
    built_from b (slice_range text start at) (drop at text ++ tail) ≡ r →
    (list_all is_atom_byte (slice_range text start (at + 1)) ≡ true) × (built_from b (slice_range text start (at + 1)) (drop (at + 1) text ++ tail) ≡ r)
line_goes_on b text tail start at r le lt is all e =
    let word = slice_range text start at in
    let c = get_or text at 0 in (
      (word_goes_on b text start at (built_from b word (drop at text)) le lt is all refl).0,
      ap (λ w. built_from b w (drop (at + 1) text ++ tail)) (word_more text start at le lt)
          ∙ sym (ap (λ t. built_from (if t then b else acted (flushed b word) c) (if t then word ++ c ∷ [] else []) (drop (at + 1) text ++ tail)) is)
          ∙ sym (next_byte b word text tail at lt)
          ∙ e,
    )

-- any other byte
pub line_word_ends : (b next : Building) (word text tail : List ℕ) (at : ℕ) (r : Option Tree) → at < length text → is_atom_byte (get_or text at 0) ≡ false → built_from b word (drop at text ++ tail) ≡ r → next ≡ acted (flushed b word) (get_or text at 0) →
    (list_all is_atom_byte (slice_range text (at + 1) (at + 1)) ≡ true) × (built_from next (slice_range text (at + 1) (at + 1)) (drop (at + 1) text ++ tail) ≡ r)
line_word_ends b next word text tail at r lt is e there =
    let c = get_or text at 0 in
    let none : at + 1 - (at + 1) ≡ 0 = omega arith in
    let empty : slice_range text (at + 1) (at + 1) ≡ [] = ap (λ n. take n (drop (at + 1) text)) none in (
      ap (list_all is_atom_byte) empty,
      ap (λ w. built_from next w (drop (at + 1) text ++ tail)) empty
          ∙ ap (λ x. built_from x [] (drop (at + 1) text ++ tail)) there
          ∙ sym (ap (λ t. built_from (if t then b else acted (flushed b word) c) (if t then word ++ c ∷ [] else []) (drop (at + 1) text ++ tail)) is)
          ∙ sym (next_byte b word text tail at lt)
          ∙ e,
    )

-- the line's end
pub line_built : (b next : Building) (word rest : List ℕ) (r : Option Tree) → rest ≡ [] → built_from b word (rest ++ line_end ∷ []) ≡ r → next ≡ flushed b word → last_of next.parts ≡ r
line_built b next word rest r none e there = ap (λ (x : Building). last_of x.parts) there ∙ ap (λ bs. built_from b word (bs ++ line_end ∷ [])) (sym none) ∙ e

-- the last number, that is taken out
pub last_numbered : (ts : List Tree) (xs rest : List TermId) (o : Option TermId) (n m : ℕ) → are_below (length ts) (numbers xs) ≡ true → xs ≡ rest ++ option_to_list o → n ≡ length xs → MatchOption o ((n ≡ 0) × (m ≡ 0)) (λ _. m + 1 ≡ n) →
    option_and_then (λ (id : TermId). slice_get ts id.0) o ≡ last_of (trees_at ts (numbers xs))
last_numbered ts [] rest None n m below e len none = refl
last_numbered ts (x ∷ xs) rest None n m below e len none = absurd (let zero_long = none.0 in omega arith)
last_numbered ts xs rest (Some id) n m below e len some =
    let all : numbers xs ≡ numbers rest ++ id.0 ∷ [] = ap numbers e ∙ map-append (λ (i : TermId). i.0) rest (id ∷ []) in
    let parts = and_parts (are_below (length ts) (numbers rest)) (nat_lt id.0 (length ts) && true) (sym (list_all-append (λ i. nat_lt i (length ts)) (numbers rest) (id.0 ∷ [])) ∙ ap (are_below (length ts)) (sym all) ∙ below) in
    let within = ltb-true id.0 (length ts) (and_parts (nat_lt id.0 (length ts)) true parts.1).0 in
    slice_get-get_or ts id.0 (Node no_trees) within
    ∙ sym (last_of-pushed (trees_at ts (numbers rest)) (get_or ts id.0 (Node no_trees)))
    ∙ ap last_of (sym (trees_at-push ts (numbers rest) id.0))
    ∙ ap (λ is. last_of (trees_at ts is)) (sym all)
