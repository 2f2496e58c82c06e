-- Numbers that follow one another, from behind one on: those of a part behind a scope, up to the scope behind the part.
use Rattle.std.proofs.Common.{◌≡◌, ℕ, suc, ◌+◌, ◌==◌, ◌^◌, ◌<◌, ◌≤◌, true, false, List, [], ◌∷◌, ◌++◌, length, refl, sym, subst, arith, length-append}
use Rattle.std.specs.List.{list_any}
use Rattle.std.proofs.lemmas.Bool.{lt-ltb, or_from, not_from_false, false_from_ne_true, eqb-true}
use Rattle.c_lang.specs.Numbers.{Numbers, no_numbers, joined, are_apart, are_numbers}
use Rattle.typing_rules.specs.Progress.{Progress}
use Rattle.typing_laws.proofs.Tests.{both}

-- the numbers are those behind the one, up to the other
abbrev pub Counts : ℕ → List ℕ → ℕ → Type 0
Counts from [] to = from ≡ to
Counts from (n ∷ ns) to = (n ≡ suc from) × Counts (suc from) ns to

counts_append : (from mid to : ℕ) (ns ms : List ℕ) → Counts from ns mid → Counts mid ms to → Counts from (ns ++ ms) to
counts_append from mid to [] ms h k = subst (λ n. Counts n ms to) (sym h) k
counts_append from mid to (n ∷ ns) ms h k = (h.0, counts_append (suc from) mid to ns ms h.1 k)

counts_length : (from to : ℕ) (ns : List ℕ) → Counts from ns to → to ≡ from + length ns
counts_length from to [] h = omega (arith, h)
counts_length from to (n ∷ ns) h = let e = counts_length (suc from) to ns h.1 in omega (arith, e)

-- a number that comes before isn't among them
not_behind : (from to n : ℕ) (ns : List ℕ) → Counts from ns to → n ≤ from → list_any (λ k. k == n) ns ≡ false
not_behind from to n [] h le = refl
not_behind from to n (m ∷ ns) h le =
    or_from (m == n) (list_any (λ k. k == n) ns) (false_from_ne_true (m == n) (λ e. absurd (other (eqb-true m n e)))) (not_behind (suc from) to n ns h.1 (omega arith))
  where
    other : m ≡ n → ⊥
    other e = let c = h.0 in omega (arith, c, e, le)

counts_apart : (from to : ℕ) (ns : List ℕ) → Counts from ns to → to < 2 ^ 64 → are_apart ns ≡ true
counts_apart from to [] h small = refl
counts_apart from to (n ∷ ns) h small =
    let e = counts_length (suc from) to ns h.1 in
    let c = h.0 in
    both (both (lt-ltb n (2 ^ 64) (omega (arith, e, c))) (not_from_false (list_any (λ k. k == n) ns) (not_behind (suc from) to n ns h.1 (omega (arith, c))))) (counts_apart (suc from) to ns h.1 small)

-- how many there are
abbrev pub size : Numbers → ℕ
size n = length n.calls + length n.switches + length n.do_whiles

-- a part's numbers, so many at most
pub record AreNumbered (n : Numbers) (most : ℕ) (p q : Progress) : Type 0 where
  pub calls : Counts p.calls n.calls q.calls
  pub switches : Counts p.switches n.switches q.switches
  pub do_whiles : Counts p.do_whiles n.do_whiles q.do_whiles
  pub few : size n ≤ most

pub numbered_itself : (p : Progress) → AreNumbered no_numbers 0 p p
numbered_itself p = record { calls = refl; switches = refl; do_whiles = refl; few = omega arith }

pub numbered_joined : (n m : Numbers) (i j : ℕ) (p q r : Progress) → AreNumbered n i p q → AreNumbered m j q r → AreNumbered (joined n m) (i + j) p r
numbered_joined n m i j p q r h k = record {
  calls = counts_append p.calls q.calls r.calls n.calls m.calls h.calls k.calls;
  switches = counts_append p.switches q.switches r.switches n.switches m.switches h.switches k.switches;
  do_whiles = counts_append p.do_whiles q.do_whiles r.do_whiles n.do_whiles m.do_whiles h.do_whiles k.do_whiles;
  few = omega (arith, length-append n.calls m.calls, length-append n.switches m.switches, length-append n.do_whiles m.do_whiles, h.few, k.few);
}

-- behind and in front of what has no numbers
pub numbered_behind : (n : Numbers) (i : ℕ) (p q r : Progress) → AreNumbered no_numbers 0 p q → AreNumbered n i q r → AreNumbered n i p r
numbered_behind n i p q r h k = record {
  calls = subst (λ c. Counts c n.calls r.calls) (sym h.calls) k.calls;
  switches = subst (λ c. Counts c n.switches r.switches) (sym h.switches) k.switches;
  do_whiles = subst (λ c. Counts c n.do_whiles r.do_whiles) (sym h.do_whiles) k.do_whiles;
  few = k.few;
}

pub numbered_before : (n : Numbers) (i : ℕ) (p q r : Progress) → AreNumbered n i p q → AreNumbered no_numbers 0 q r → AreNumbered n i p r
numbered_before n i p q r h k = record {
  calls = subst (λ c. Counts p.calls n.calls c) k.calls h.calls;
  switches = subst (λ c. Counts p.switches n.switches c) k.switches h.switches;
  do_whiles = subst (λ c. Counts p.do_whiles n.do_whiles c) k.do_whiles h.do_whiles;
  few = h.few;
}

pub numbered_more : (n : Numbers) (i j : ℕ) (p q : Progress) → i ≤ j → AreNumbered n i p q → AreNumbered n j p q
numbered_more n i j p q le h = record { calls = h.calls; switches = h.switches; do_whiles = h.do_whiles; few = omega (arith, h.few, le) }

-- numbers that begin with 1, fewer than 2^64
pub numbers_apart : (n : Numbers) (most : ℕ) (p q : Progress) → AreNumbered n most p q → p.calls ≡ 0 → p.switches ≡ 0 → p.do_whiles ≡ 0 → most < 2 ^ 64 → are_numbers n ≡ true
numbers_apart n most p q h a b c small =
    let x = counts_length p.calls q.calls n.calls h.calls in
    let y = counts_length p.switches q.switches n.switches h.switches in
    let z = counts_length p.do_whiles q.do_whiles n.do_whiles h.do_whiles in
    let f = h.few in
    both (both (counts_apart p.calls q.calls n.calls h.calls (omega (arith, x, a, f, small))) (counts_apart p.switches q.switches n.switches h.switches (omega (arith, y, b, f, small))))
    (counts_apart p.do_whiles q.do_whiles n.do_whiles h.do_whiles (omega (arith, z, c, f, small)))
