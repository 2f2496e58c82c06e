-- A range of bytes is read from its tree, and what is read is the range whose tree it is.
use Rattle.std.proofs.Common.{◌≡◌, ℕ, zero, suc, ◌+◌, ◌-◌, ◌<◌, ◌≤◌, Bool, true, false, cond, ◌&&◌, List, [], ◌∷◌, length, Option, Some, None, Result, Ok, Err, refl, ap, ap₂, sym, ◌∙◌, arith, if◌then◌else◌}
use Rattle.std.specs.Prelude.{nat_lt, nat_le}
use Rattle.std.specs.Fmt.{decimal}
use Rattle.std.proofs.lemmas.Bool.{and_parts, and_from, cond-true, ltb-true, lt-ltb, leb-true, le-leb}
use Rattle.hex.specs.Hex.{IsBytes, decode_of, encode_lower}
use Rattle.hex.specs.declared.error.FromHexError.{FromHexError}
use Rattle.hex.proofs.HexLemmas.{decode_of-encode_lower, decode_of-ok}
use Rattle.c_values.specs.Name.{Name, same_name}
use Rattle.c_values.specs.Layout.{Layout, space}
use Rattle.c_memory.specs.Ranges.{Run}
use Rattle.ac_sx.specs.Tree.{Tree, Atom, Node}
use Rattle.expression_text.specs.Reading.{Read, next, ◌>>=◌}
use Rattle.expression_text.specs.TypeText.{row}
use Rattle.expression_text.specs.Lists.{each}
use Rattle.expression_text.proofs.Behind.{behind, IsReadAs, bind_ok, kept_ok, value_ok}
use Rattle.expression_text.proofs.LookedUp.{name_is, name_same}
use Rattle.memory_text.specs.MemoryText.{are_bytes, run_end, run_tree, after_run}
use Rattle.memory_text.specs.MemoryReading.{natural_at, bytes_from, bytes_in, bytes_within, bytes_at, address_at, run_row, run_at, pair_in}
use Rattle.memory_text.proofs.ListForms.{pair_is}
use Rattle.memory_text.proofs.NumberLaws.{address_small, natural_reads, natural_spells}

-- bytes
abbrev pub is_byte : ℕ → Bool
is_byte b = nat_lt b 256

pub bytes_below : (bs : List ℕ) → each is_byte bs ≡ true → IsBytes bs
bytes_below [] is k = omega arith
bytes_below (b ∷ bs) is zero = ltb-true b 256 (and_parts (is_byte b) (each is_byte bs) is).0
bytes_below (b ∷ bs) is (suc k) = bytes_below bs (and_parts (is_byte b) (each is_byte bs) is).1 k

each_below : (bs : List ℕ) → IsBytes bs → each is_byte bs ≡ true
each_below [] h = refl
each_below (b ∷ bs) h = and_from (is_byte b) (each is_byte bs) (lt-ltb b 256 (h 0)) (each_below bs (λ k. h (suc k)))

pub some_bytes : (bs : List ℕ) → are_bytes bs ≡ true → (each is_byte bs ≡ true) × (0 < length bs)
some_bytes [] is = absurd cc
some_bytes (b ∷ bs) is = (is, omega arith)

bytes_there : (bs : List ℕ) → nat_lt 0 (length bs) ≡ true → each is_byte bs ≡ true → are_bytes bs ≡ true
bytes_there [] h is = absurd cc
bytes_there (b ∷ bs) h is = is

digits_read : (bs : List ℕ) → each is_byte bs ≡ true → bytes_in (encode_lower bs) ≡ Some bs
digits_read bs is =
    ap (bytes_from (encode_lower bs)) (decode_of-encode_lower bs (bytes_below bs is))
    ∙ cond-true (same_name (encode_lower bs) (encode_lower bs)) (Some bs) None (name_same (encode_lower bs) (encode_lower bs) refl)

digits_spell : (w : Name) (bs : List ℕ) → bytes_in w ≡ Some bs → (w ≡ encode_lower bs) × (each is_byte bs ≡ true)
digits_spell w bs e = by (decode_of w) refl e
  where
    by_word : (cs : List ℕ) (b : Bool) → decode_of w ≡ Ok cs → same_name w (encode_lower cs) ≡ b → cond {A = Option (List ℕ)} b (Some cs) None ≡ Some bs → (w ≡ encode_lower bs) × (each is_byte bs ≡ true)
    by_word cs false f g h = absurd cc
    by_word cs true f g h =
        let same : cs ≡ bs = cc in
        (name_is w (encode_lower cs) g ∙ ap encode_lower same, ap (each is_byte) (sym same) ∙ each_below cs (decode_of-ok w cs f).3)

    by : (r : Result (List ℕ) FromHexError) → decode_of w ≡ r → bytes_from w r ≡ Some bs → (w ≡ encode_lower bs) × (each is_byte bs ≡ true)
    by (Err x) f g = absurd cc
    by (Ok cs) f g = by_word cs (same_name w (encode_lower cs)) f refl g

abbrev fits : ℕ → List ℕ → Bool
fits room bs = nat_lt 0 (length bs) && nat_le (length bs) room

bytes_read : (room : ℕ) (bs : List ℕ) → are_bytes bs ≡ true → length bs ≤ room → IsReadAs (bytes_at room) (Atom (encode_lower bs)) bs
bytes_read room bs is le = λ at.
    let p = some_bytes bs is in
    ap (bytes_within room at) (digits_read bs p.0)
    ∙ cond-true (fits room bs) (Ok (bs, next at)) (Err at) (and_from (nat_lt 0 (length bs)) (nat_le (length bs) room) (lt-ltb 0 (length bs) p.1) (le-leb (length bs) room le))

bytes_spell : (room : ℕ) (t : Tree) (at : ℕ) (bs : List ℕ) (n : ℕ) → bytes_at room at t ≡ Ok (bs, n) → (t ≡ Atom (encode_lower bs)) × (are_bytes bs ≡ true) × (length bs ≤ room)
bytes_spell room (Node ts) at bs n e = absurd cc
bytes_spell room (Atom w) at bs n e = by (bytes_in w) refl e
  where
    by : (o : Option (List ℕ)) → bytes_in w ≡ o → bytes_within room at o ≡ Ok (bs, n) → (Atom w ≡ Atom (encode_lower bs)) × (are_bytes bs ≡ true) × (length bs ≤ room)
    by None f g = absurd cc
    by (Some cs) f g =
        let p = kept_ok (fits room cs) cs (next at) at bs n g in
        let q = and_parts (nat_lt 0 (length cs)) (nat_le (length cs) room) p.0 in
        let d = digits_spell w cs f in
        let le = leb-true (length cs) room q.1 in
        let same = ap length p.1 in
        (ap Atom (d.0 ∙ ap encode_lower p.1), ap are_bytes (sym p.1) ∙ bytes_there cs q.0 d.1, omega (arith, le, same))

-- a range
pub record Follows (l : Layout) (from : ℕ) (r : Run) (e : ℕ) : Type 0 where
  pub behind : nat_le from r.address ≡ true
  pub filled : are_bytes r.bytes ≡ true
  pub within : run_end r ≤ space l
  pub ends : run_end r ≡ e

pub follows : (l : Layout) (from : ℕ) (r : Run) (e : ℕ) → after_run l from r ≡ Some e → Follows l from r e
follows l from r e h = by ((nat_le from r.address && are_bytes r.bytes) && nat_le (run_end r) (space l)) refl h
  where
    by : (b : Bool) → ((nat_le from r.address && are_bytes r.bytes) && nat_le (run_end r) (space l)) ≡ b → cond {A = Option ℕ} b (Some (run_end r)) None ≡ Some e → Follows l from r e
    by false f g = absurd cc
    by true f g =
        let p = and_parts (nat_le from r.address && are_bytes r.bytes) (nat_le (run_end r) (space l)) f in
        let q = and_parts (nat_le from r.address) (are_bytes r.bytes) p.0 in
        let same : run_end r ≡ e = cc in
        record { behind = q.0; filled = q.1; within = leb-true (run_end r) (space l) p.1; ends = same }

following : (l : Layout) (from : ℕ) (r : Run) → nat_le from r.address ≡ true → are_bytes r.bytes ≡ true → run_end r ≤ space l → after_run l from r ≡ Some (run_end r)
following l from r h is le =
    cond-true ((nat_le from r.address && are_bytes r.bytes) && nat_le (run_end r) (space l)) (Some (run_end r)) None
    (and_from (nat_le from r.address && are_bytes r.bytes) (nat_le (run_end r) (space l)) (and_from (nat_le from r.address) (are_bytes r.bytes) h is) (le-leb (run_end r) (space l) le))

abbrev run_with : Layout → ℕ × ℕ → Tree → Read (Run × ℕ)
run_with l x h = bytes_at (space l - x.0) x.1 h >>= λ y. Ok ((record { address = x.0; bytes = y.0 }, x.0 + length y.0), y.1)

pub run_reads : (l : Layout) (from : ℕ) (r : Run) (e : ℕ) → after_run l from r ≡ Some e → (at : ℕ) → run_at l from at (run_tree r) ≡ Ok ((r, e), behind at (run_tree r))
run_reads l from r e h at =
    let f = follows l from r e h in
    let p = some_bytes r.bytes f.filled in
    let within = f.within in
    let some = p.1 in
    let less : r.address < space l = omega (arith, within, some) in
    let room : length r.bytes ≤ space l - r.address = omega (arith, within) in
    ap (λ q. q >>= (λ x. if nat_le from x.0 then Ok x else Err (next at)) >>= λ x. run_with l x (Atom (encode_lower r.bytes))) (natural_reads (space l) r.address (address_small l.target) (lt-ltb r.address (space l) less) (next at))
    ∙ ap (λ q. q >>= λ x. run_with l x (Atom (encode_lower r.bytes))) (cond-true (nat_le from r.address) (Ok (r.address, next (next at))) (Err (next at)) f.behind)
    ∙ ap (λ q. q >>= λ y. Ok ((record { address = r.address; bytes = y.0 }, r.address + length y.0), y.1)) (bytes_read (space l - r.address) r.bytes f.filled room (next (next at)))
    ∙ ap (λ m. Ok ((r, m), behind at (run_tree r))) f.ends

address_spells : (l : Layout) (from : ℕ) (t : Tree) (at a n : ℕ) → address_at l from at t ≡ Ok (a, n) → (t ≡ Atom (decimal a)) × (nat_lt a (space l) ≡ true) × (nat_le from a ≡ true)
address_spells l from t at a n e =
    let (x, first, last) = bind_ok (natural_at (space l) at t) (λ x. if nat_le from x.0 then Ok x else Err at) (a, n) e in
    let p = kept_ok (nat_le from x.0) x.0 x.1 at a n last in
    let q = natural_spells (space l) t at x.0 x.1 first in
    (q.0 ∙ ap (λ i. Atom (decimal i)) p.1, ap (λ i. nat_lt i (space l)) (sym p.1) ∙ q.1, ap (nat_le from) (sym p.1) ∙ p.0)

pub run_spells : (l : Layout) (from : ℕ) (t : Tree) (at : ℕ) (p : Run × ℕ) (n : ℕ) → run_at l from at t ≡ Ok (p, n) → (t ≡ run_tree p.0) × (after_run l from p.0 ≡ Some p.1)
run_spells l from t at p n e = by (pair_in t) refl e
  where
    by : (o : Option (Tree × Tree)) → pair_in t ≡ o → run_row l from at o ≡ Ok (p, n) → (t ≡ run_tree p.0) × (after_run l from p.0 ≡ Some p.1)
    by None f g = absurd cc
    by (Some (a, h)) f g =
        let (x, first, others) = bind_ok (address_at l from (next at) a) (λ x. run_with l x h) (p, n) g in
        let (y, second, last) = bind_ok (bytes_at (space l - x.0) x.1 h) (λ y. Ok ((record { address = x.0; bytes = y.0 }, x.0 + length y.0), y.1)) (p, n) others in
        let r : Run = record { address = x.0; bytes = y.0 } in
        let i = address_spells l from a (next at) x.0 x.1 first in
        let j = bytes_spell (space l - x.0) h x.1 y.0 y.1 second in
        let less = ltb-true x.0 (space l) i.1 in
        let room = j.2 in
        let same = value_ok (r, x.0 + length y.0) y.1 p n last in (
          pair_is t (a, h) f ∙ ap₂ (λ u v. Node (row (u ∷ v ∷ []))) i.0 j.0 ∙ ap (λ (q : Run × ℕ). run_tree q.0) same,
          ap (λ (q : Run × ℕ). after_run l from q.0) (sym same) ∙ following l from r i.2 j.1 (omega (arith, less, room)) ∙ ap (λ (q : Run × ℕ). Some q.1) same,
        )
