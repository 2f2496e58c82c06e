-- Steps of the builder.
use Rattle.std.proofs.Common.{◌≡◌, ℕ, zero, suc, ◌+◌, ◌-◌, ◌<◌, ◌≤◌, true, false, not, ◌&&◌, List, [], ◌∷◌, ◌++◌, length, take, drop, get_or, refl, ap, sym, ◌∙◌, arith}
use Rattle.std.specs.Prelude.{◌==◌, nat_le, Option, Some, None, MatchOption, option_map, if◌then◌else◌}
use Rattle.std.specs.Option.{option_to_list}
use Rattle.std.specs.List.{list_all, slice_range}
use Rattle.std.specs.Str.{IsAscii}
use Rattle.std.proofs.lemmas.Bool.{and_parts, and_from, leb-true}
use Rattle.std.proofs.lemmas.List.{take_more, get_or-drop, length-drop, drop_more}
use Rattle.std.proofs.lemmas.List.Folds.{list_all-append}
use Rattle.ac_sx.specs.declared.sx.Sx as S
use Rattle.ac_sx.specs.Tree.{Tree, Trees, more, opening, closing, is_atom_byte}
use Rattle.ac_sx.specs.CodeSx.{tree_of, trees_in, pushed}
use Rattle.ac_sx.specs.CodeBuilder.{Building, flushed, acted, next_building, next_word, last_of, built_from}
use Rattle.ac_sx.proofs.Listed.{trees_in-push}

small : (b : ℕ) → is_atom_byte b ≡ true → b < 128
small b e =
    let p = and_parts (nat_le 33 b && nat_le b 126 && not (b == opening)) (not (b == closing)) e in
    let q = and_parts (nat_le 33 b && nat_le b 126) (not (b == opening)) p.0 in
    let r = and_parts (nat_le 33 b) (nat_le b 126) q.0 in
    let le = leb-true b 126 r.1 in
    omega arith

ascii_at : (b : ℕ) (bs : List ℕ) → b < 128 → IsAscii bs → (i : ℕ) → get_or (b ∷ bs) i 0 < 128
ascii_at b bs lt rest zero = lt
ascii_at b bs lt rest (suc i) = rest i

pub word_is_ascii : (w : List ℕ) → list_all is_atom_byte w ≡ true → IsAscii w
word_is_ascii [] e = λ i. omega arith
word_is_ascii (b ∷ bs) e =
    let h = and_parts (is_atom_byte b) (list_all is_atom_byte bs) e in
    ascii_at b bs (small b h.0) (word_is_ascii bs h.1)

pub word_more : (text : List ℕ) (start at : ℕ) → start ≤ at → at < length text → slice_range text start (at + 1) ≡ slice_range text start at ++ get_or text at 0 ∷ []
word_more text start at le lt =
    let more : at + 1 - start ≡ at - start + 1 = omega arith in
    let here : start + (at - start) ≡ at = omega arith in
    let room : at - start < length (drop start text) = let e = length-drop start text in omega (arith, e) in
    ap (λ n. take n (drop start text)) more ∙ take_more (drop start text) (at - start) 0 room
    ∙ ap (λ b. take (at - start) (drop start text) ++ b ∷ []) (get_or-drop start text (at - start) 0 ∙ ap (λ n. get_or text n 0) here)

next_byte : (b : Building) (word text : List ℕ) (at : ℕ) → at < length text →
    built_from b word (drop at text) ≡ built_from (next_building b word (get_or text at 0)) (next_word word (get_or text at 0)) (drop (at + 1) text)
next_byte b word text at lt = ap (built_from b word) (drop_more text at 0 lt)

-- the next byte is one of the atom's
pub word_goes_on : (b : Building) (text : List ℕ) (start at : ℕ) (r : Option Tree) → start ≤ at → at < length text → is_atom_byte (get_or text at 0) ≡ true → list_all is_atom_byte (slice_range text start at) ≡ true →
    built_from b (slice_range text start at) (drop at text) ≡ r →
    (list_all is_atom_byte (slice_range text start (at + 1)) ≡ true) × (built_from b (slice_range text start (at + 1)) (drop (at + 1) text) ≡ r)
word_goes_on b text start at r le lt is all e =
    let word = slice_range text start at in
    let c = get_or text at 0 in
    let more = word_more text start at le lt in (
      ap (list_all is_atom_byte) more ∙ list_all-append is_atom_byte word (c ∷ []) ∙ and_from (list_all is_atom_byte word) (is_atom_byte c && true) all (and_from (is_atom_byte c) true is refl),
      ap (λ w. built_from b w (drop (at + 1) text)) more
          ∙ sym (ap (λ t. built_from (if t then b else acted (flushed b word) c) (if t then word ++ c ∷ [] else []) (drop (at + 1) text)) is)
          ∙ sym (next_byte b word text at lt)
          ∙ e,
    )

-- any other byte
pub word_ends : (b next : Building) (word text : List ℕ) (at : ℕ) (r : Option Tree) → at < length text → is_atom_byte (get_or text at 0) ≡ false → built_from b word (drop at text) ≡ r → next ≡ acted (flushed b word) (get_or text at 0) →
    (list_all is_atom_byte (slice_range text (at + 1) (at + 1)) ≡ true) × (built_from next (slice_range text (at + 1) (at + 1)) (drop (at + 1) text) ≡ r)
word_ends b next word text at r lt is e there =
    let c = get_or text at 0 in
    let none : at + 1 - (at + 1) ≡ 0 = omega arith in
    let empty : slice_range text (at + 1) (at + 1) ≡ [] = ap (λ n. take n (drop (at + 1) text)) none in (
      ap (list_all is_atom_byte) empty,
      ap (λ w. built_from next w (drop (at + 1) text)) empty
          ∙ ap (λ x. built_from x [] (drop (at + 1) text)) there
          ∙ sym (ap (λ t. built_from (if t then b else acted (flushed b word) c) (if t then word ++ c ∷ [] else []) (drop (at + 1) text)) is)
          ∙ sym (next_byte b word text at lt)
          ∙ e,
    )

pub last_of-pushed : (us : Trees) (t : Tree) → last_of (pushed us t) ≡ Some t
last_of-pushed (more u (more v vs)) t = last_of-pushed (more v vs) t
last_of-pushed _ _ = refl

-- the last tree that is taken out
pub last_popped : (xs rest : List S.Sx) (o : Option S.Sx) (n m : ℕ) → xs ≡ rest ++ option_to_list o → n ≡ length xs → MatchOption o ((n ≡ 0) × (m ≡ 0)) (λ _. m + 1 ≡ n) → option_map tree_of o ≡ last_of (trees_in xs)
last_popped [] rest None n m e len none = refl
last_popped (x ∷ xs) rest None n m e len none = absurd (let zero_long = none.0 in omega arith)
last_popped xs rest (Some t) n m e len some = sym (ap (λ ys. last_of (trees_in ys)) e ∙ ap last_of (trees_in-push rest t) ∙ last_of-pushed (trees_in rest) (tree_of t))
