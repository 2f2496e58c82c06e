-- Bytes that are put piece by piece, and ranges that are put one after the other.
use Rattle.std.proofs.Common.{◌≡◌, ℕ, zero, suc, ◌+◌, ◌-◌, ◌<◌, ◌≤◌, nat_le, nat_lt, ◌⊎◌, inl, inr, Bool, true, false, ◌&&◌, cond, List, [], ◌∷◌, ◌++◌, length, map, take, drop, get_or, slice_index, sym, ap, ◌∙◌, subst, arith, length-take, length-drop, get_or-take, get_or-drop, lit<}
use Rattle.std.proofs.Math.Path.{fun_ext}
use Rattle.std.proofs.lemmas.Bool.{cases_lt, cond-true, cond-false, and_from, le-leb, lt-ltb}
use Rattle.std.proofs.lemmas.Bool.Decides.{nat_tests}
use Rattle.c_memory.specs.Memory.{AreBytes}
use Rattle.c_memory.specs.Ranges.{Run, AreRuns, run_byte}

abbrev pub Here : (ℕ → ℕ) → ℕ → ℕ → List ℕ → Type 0
Here f a n xs = (i : ℕ) → i < n → f (a + i) ≡ slice_index xs i

abbrev pub Elsewhere : (ℕ → ℕ) → (ℕ → ℕ) → ℕ → ℕ → Type 0
Elsewhere f g a n = (x : ℕ) → (x < a) ⊎ (a + n ≤ x) → f x ≡ g x

module _ (xs : List ℕ) (a done count : ℕ) (fits : done + count ≤ length xs) where
  abbrev piece : List ℕ
  piece = take ((done + count) - done) (drop done xs)

  piece_length : length piece ≡ count
  piece_length = let n : (done + count) - done ≡ count = omega arith in rw n (simp (length-take, length-drop) (omega arith))

  piece_at : (i : ℕ) → i < count → slice_index piece i ≡ slice_index xs (done + i)
  piece_at i lt =
      let n : (done + count) - done ≡ count = omega arith in
      ap (λ k. slice_index (take k (drop done xs)) i) n ∙ get_or-take count (drop done xs) i 0 lt ∙ get_or-drop done xs i 0

  pub piece_here : (new old : ℕ → ℕ) → Here new (a + done) (length piece) piece → Elsewhere new old (a + done) (length piece) → Here old a done xs → Here new a (done + count) xs
  piece_here new old here elsewhere before i lt = by_cases (cases_lt i done)
    where
      by_cases : (i < done) ⊎ (done ≤ i) → new (a + i) ≡ slice_index xs i
      by_cases (inl c) = elsewhere (a + i) (inl (omega arith)) ∙ before i c
      by_cases (inr c) =
          let at : a + i ≡ (a + done) + (i - done) = omega arith in
          let back : done + (i - done) ≡ i = omega arith in
          let n = piece_length in
          ap new at ∙ here (i - done) (omega (arith, n)) ∙ piece_at (i - done) (omega arith) ∙ ap (λ k. slice_index xs k) back

  pub piece_elsewhere : (new old first : ℕ → ℕ) → Elsewhere new old (a + done) (length piece) → Elsewhere old first a done → Elsewhere new first a (done + count)
  piece_elsewhere new old first elsewhere before x (inl c) = elsewhere x (inl (omega arith)) ∙ before x (inl c)
  piece_elsewhere new old first elsewhere before x (inr c) =
      let n = piece_length in
      elsewhere x (inr (omega (arith, n))) ∙ before x (inr (omega arith))

-- bytes are put among bytes
pub bytes_put : (xs : List ℕ) (a : ℕ) (new old : ℕ → ℕ) → ((i : ℕ) → slice_index xs i < 256) → Here new a (length xs) xs → Elsewhere new old a (length xs) → AreBytes old → AreBytes new
bytes_put xs a new old small here elsewhere before x = by_cases (cases_lt x a) (cases_lt x (a + length xs))
  where
    by_cases : (x < a) ⊎ (a ≤ x) → (x < a + length xs) ⊎ (a + length xs ≤ x) → new x < 256
    by_cases (inl c) k = subst (λ n. n < 256) (sym (elsewhere x (inl c))) (before x)
    by_cases (inr c) (inr d) = subst (λ n. n < 256) (sym (elsewhere x (inr d))) (before x)
    by_cases (inr c) (inl d) =
        let at : x ≡ a + (x - a) = omega arith in
        subst (λ n. n < 256) (sym (ap new at ∙ here (x - a) (omega arith))) (small (x - a))

pub runs_within : (from to more : ℕ) (rs : List Run) → to ≤ more → AreRuns from to rs → AreRuns from more rs
runs_within from to more [] le h = omega arith
runs_within from to more (r ∷ rs) le h = (h.0, runs_within (r.address + length r.bytes) to more rs le h.1)

-- one byte after the end of no byte
pub no_byte : AreBytes (run_byte [])
no_byte x = lit< tt

abbrev pub is_in : Run → ℕ → Bool
is_in r x = nat_le r.address x && nat_lt x (r.address + length r.bytes)

in_it : (a n x : ℕ) → a ≤ x → x < a + n → (nat_le a x && nat_lt x (a + n)) ≡ true
in_it a n x h k = and_from (nat_le a x) (nat_lt x (a + n)) (le-leb a x h) (lt-ltb x (a + n) k)

not_in_it : (a n x : ℕ) → (x < a) ⊎ (a + n ≤ x) → (nat_le a x && nat_lt x (a + n)) ≡ false
not_in_it a n x (inl h) = grind (arith, nat_tests)
not_in_it a n x (inr h) = grind (arith, nat_tests)

-- the last of ranges in order begins after the others and ends in time
last_run : (from to : ℕ) (rs : List Run) (r : Run) (ys : List Run) → AreRuns from to (rs ++ r ∷ ys) → (from ≤ r.address) × (r.address + length r.bytes ≤ to)
last_run from to [] r ys h = (h.0, after (r.address + length r.bytes) ys h.1)
  where
    after : (from' : ℕ) (zs : List Run) → AreRuns from' to zs → from' ≤ to
    after from' [] k = k
    after from' (z ∷ zs) k = let e = after (z.address + length z.bytes) zs k.1 in let b = k.0 in omega arith
last_run from to (s ∷ rs) r ys h = let e = last_run (s.address + length s.bytes) to rs r ys h.1 in let b = h.0 in (omega (arith, e.0), e.1)

-- an address in the last range
last_byte : (from to : ℕ) (rs : List Run) (r : Run) (ys : List Run) (x : ℕ) → AreRuns from to (rs ++ r ∷ ys) → r.address ≤ x → x < r.address + length r.bytes →
    run_byte (rs ++ r ∷ []) x ≡ slice_index r.bytes (x - r.address)
last_byte from to [] r ys x h low high = cond-true (is_in r x) (slice_index r.bytes (x - r.address)) 0 (in_it r.address (length r.bytes) x low high)
last_byte from to (s ∷ rs) r ys x h low high =
    let begins = (last_run (s.address + length s.bytes) to rs r ys h.1).0 in
    cond-false (is_in s x) (slice_index s.bytes (x - s.address)) (run_byte (rs ++ r ∷ []) x) (not_in_it s.address (length s.bytes) x (inr (omega (arith, begins))))
    ∙ last_byte (s.address + length s.bytes) to rs r ys x h.1 low high

-- an address outside of it
other_byte : (rs : List Run) (r : Run) (x : ℕ) → (x < r.address) ⊎ (r.address + length r.bytes ≤ x) → run_byte (rs ++ r ∷ []) x ≡ run_byte rs x
other_byte [] r x o = cond-false (is_in r x) (slice_index r.bytes (x - r.address)) 0 (not_in_it r.address (length r.bytes) x o)
other_byte (s ∷ rs) r x o = ap (λ b. cond (is_in s x) (slice_index s.bytes (x - s.address)) b) (other_byte rs r x o)

module _ (to : ℕ) (rs : List Run) (r : Run) (ys : List Run) (h : AreRuns 0 to (rs ++ r ∷ ys)) where
  pub run_fits : r.address + length r.bytes ≤ to
  run_fits = (last_run 0 to rs r ys h).1

  pub run_put : (new old : ℕ → ℕ) → old ≡ run_byte rs → Here new r.address (length r.bytes) r.bytes → Elsewhere new old r.address (length r.bytes) → new ≡ run_byte (rs ++ r ∷ [])
  run_put new old before here elsewhere = fun_ext (λ x. by_cases x (cases_lt x r.address) (cases_lt x (r.address + length r.bytes)))
    where
      out : (x : ℕ) → (x < r.address) ⊎ (r.address + length r.bytes ≤ x) → new x ≡ run_byte (rs ++ r ∷ []) x
      out x o = elsewhere x o ∙ ap (λ f. f x) before ∙ sym (other_byte rs r x o)

      by_cases : (x : ℕ) → (x < r.address) ⊎ (r.address ≤ x) → (x < r.address + length r.bytes) ⊎ (r.address + length r.bytes ≤ x) → new x ≡ run_byte (rs ++ r ∷ []) x
      by_cases x (inl c) k = out x (inl c)
      by_cases x (inr c) (inr d) = out x (inr d)
      by_cases x (inr c) (inl d) =
          let at : x ≡ r.address + (x - r.address) = omega arith in
          ap new at ∙ here (x - r.address) (omega arith) ∙ sym (last_byte 0 to rs r ys x h c d)

-- a list around one of its items
pub around : {A B : Type 0} (f : A → B) (xs : List A) (k : ℕ) (x : A) → k < length xs → x ≡ get_or xs k x → map f xs ≡ map f (take k xs) ++ f x ∷ map f (drop (k + 1) xs)
around f [] k x lt e = absurd (omega arith)
around f (y ∷ ys) zero x lt e = ap (λ z. f z ∷ map f ys) (sym e)
around f (y ∷ ys) (suc k) x lt e =
    let n : suc k + 1 ≡ suc (k + 1) = omega arith in
    ap (λ zs. f y ∷ zs) (around f ys k x (omega arith) e) ∙ ap (λ m. f y ∷ (map f (take k ys) ++ f x ∷ map f (drop m (y ∷ ys)))) (sym n)

pub one_longer : {A B : Type 0} (f : A → B) (xs : List A) (k : ℕ) (x : A) → k < length xs → x ≡ get_or xs k x → map f (take (k + 1) xs) ≡ map f (take k xs) ++ f x ∷ []
one_longer f [] k x lt e = absurd (omega arith)
one_longer f (y ∷ ys) zero x lt e = ap (λ z. f z ∷ []) (sym e)
one_longer f (y ∷ ys) (suc k) x lt e =
    let n : suc k + 1 ≡ suc (k + 1) = omega arith in
    ap (λ m. map f (take m (y ∷ ys))) n ∙ ap (λ zs. f y ∷ zs) (one_longer f ys k x (omega arith) e)
