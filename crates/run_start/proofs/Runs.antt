-- Ranges and tags that are read are those that a heap is made from.
use Rattle.std.proofs.Common.{◌≡◌, ℕ, zero, suc, ◌+◌, ◌-◌, ◌<◌, ◌≤◌, Bool, true, false, cond, ◌&&◌, List, [], ◌∷◌, length, Option, Some, None, refl, subst, ap, ◌∙◌, arith}
use Rattle.std.specs.Prelude.{nat_lt, nat_le, slice_get, slice_index}
use Rattle.std.proofs.lemmas.Bool.{and_parts, leb-true}
use Rattle.c_values.specs.Layout.{Layout, space, is_object}
use Rattle.c_memory.specs.Memory.{Tag, AreBytes}
use Rattle.c_memory.specs.Ranges.{Run, AreRuns, run_byte}
use Rattle.c_memory.specs.TagFault.{IsRoot}
use Rattle.c_memory.specs.Tags.{is_root_type}
use Rattle.expression_text.specs.Lists.{each}
use Rattle.expression_text.specs.TypeText.{is_type}
use Rattle.memory_text.specs.MemoryText.{after_run, run_end, is_tag, are_chained, goes_on}
use Rattle.memory_text.proofs.RunLaws.{follows, some_bytes, bytes_below}

-- a chain goes on where its next part follows
pub gone_on : {S : Type 0} (o : Option S) (test : S → Bool) → goes_on o test ≡ true → (s : S) × (o ≡ Some s) × (test s ≡ true)
gone_on None test h = absurd cc
gone_on (Some s) test h = (s, refl, h)

pub runs_apart : (l : Layout) (from : ℕ) (rs : List Run) → from ≤ space l → are_chained (after_run l) from rs ≡ true → AreRuns from (space l) rs
runs_apart l from [] le h = le
runs_apart l from (r ∷ rs) le h =
    let (e, there, others) = gone_on (after_run l from r) (λ e. are_chained (after_run l) e rs) h in
    let f = follows l from r e there in
    (leb-true from r.address f.behind, runs_apart l (run_end r) rs f.within (ap (λ n. are_chained (after_run l) n rs) f.ends ∙ others))

byte_by : (b : Bool) (m n : ℕ) → m < 256 → n < 256 → cond b m n < 256
byte_by true m n h k = h
byte_by false m n h k = k

pub runs_of_bytes : (l : Layout) (from : ℕ) (rs : List Run) → are_chained (after_run l) from rs ≡ true → AreBytes (run_byte rs)
runs_of_bytes l from [] h a = omega arith
runs_of_bytes l from (r ∷ rs) h a =
    let (e, there, others) = gone_on (after_run l from r) (λ e. are_chained (after_run l) e rs) h in
    let f = follows l from r e there in
    byte_by (nat_le r.address a && nat_lt a (r.address + length r.bytes)) (slice_index r.bytes (a - r.address)) (run_byte rs a)
    (bytes_below r.bytes (some_bytes r.bytes f.filled).0 (a - r.address)) (runs_of_bytes l e rs others a)

root_of : (l : Layout) (t : Tag) → is_tag l t ≡ true → IsRoot l t
root_of l t h =
    let p = and_parts (nat_lt t.address (space l)) (is_type t.type && (is_root_type t.type && is_object l t.type)) h in
    let q = and_parts (is_type t.type) (is_root_type t.type && is_object l t.type) p.1 in
    let r = and_parts (is_root_type t.type) (is_object l t.type) q.1 in
    record { root = r.0; object = r.1 }

pub tags_are_roots : (l : Layout) (ts : List Tag) → each (is_tag l) ts ≡ true → (k : ℕ) (t : Tag) → slice_get ts k ≡ Some t → IsRoot l t
tags_are_roots l [] h k t e = absurd cc
tags_are_roots l (u ∷ us) h zero t e =
    let same : u ≡ t = cc in
    subst (IsRoot l) same (root_of l u (and_parts (is_tag l u) (each (is_tag l) us) h).0)
tags_are_roots l (u ∷ us) h (suc k) t e = tags_are_roots l us (and_parts (is_tag l u) (each (is_tag l) us) h).1 k t e
