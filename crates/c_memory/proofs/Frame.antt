-- What a store leaves as it was.
use Rattle.std.proofs.Common.{◌≡◌, ◌≢◌, ℕ, zero, suc, ◌+◌, ◌*◌, ◌/◌, ◌%◌, ◌<◌, ◌≤◌, nat_eq, refl, sym, ap, ◌∙◌, subst, arith, add-zero, add_assoc}
use Rattle.std.proofs.lemmas.Bool.{cond-false, ne_eqb}
use Rattle.c_values.specs.Value.{Value, Values, Bits, Parts, more}
use Rattle.c_values.specs.Layout.{Shape, Incomplete, Scalar, Record, Row, Fields, no_fields, field, size}
use Rattle.c_values.proofs.Formed.{IsFormed, AreFormed, members_end}
use Rattle.c_memory.specs.Memory.{with_byte, with_bytes, store, stored_members, stored_elements}

-- x is the address of none of n bytes from a on
abbrev pub Misses : ℕ → ℕ → ℕ → ℕ → Type 0
Misses space a n x = (i : ℕ) → i < n → (a + i) % space ≢ x

abbrev mutual
  -- x is the address of no byte of a scalar of the shape at a
  pub Spares : ℕ → Shape → ℕ → ℕ → Type 0
  Spares space Incomplete a x = Unit {0}
  Spares space (Scalar t width) a x = Misses space a (width / 8) x
  Spares space (Record name n align fs) a x = AllSpare space fs a x
  Spares space (Row e n) a x = (i : ℕ) → i < n → Spares space e (a + i * size e) x

  pub AllSpare : ℕ → Fields → ℕ → ℕ → Type 0
  AllSpare space no_fields a x = Unit {0}
  AllSpare space (field at s fs) a x = Spares space s (a + at) x × AllSpare space fs a x

misses_first : (space a n x : ℕ) → Misses space a (suc n) x → x ≢ a % space
misses_first space a n x h e = h 0 (omega arith) (ap (λ b. b % space) (add-zero a) ∙ sym e)

misses_later : (space a n x : ℕ) → Misses space a (suc n) x → Misses space (a + 1) n x
misses_later space a n x h i lt e = h (suc i) (omega arith) (ap (λ b. b % space) (moved a i) ∙ e)
  where
    moved : (a i : ℕ) → a + suc i ≡ a + 1 + i
    moved a i = omega arith

with_byte_other : (a b : ℕ) (bytes : ℕ → ℕ) (x : ℕ) → x ≢ a → with_byte a b bytes x ≡ bytes x
with_byte_other a b bytes x h = cond-false (nat_eq x a) b (bytes x) (ne_eqb x a h)

pub bytes_frame : (space a n v : ℕ) (bytes : ℕ → ℕ) (x : ℕ) → Misses space a n x → with_bytes space a n v bytes x ≡ bytes x
bytes_frame space a zero v bytes x h = refl
bytes_frame space a (suc n) v bytes x h =
    bytes_frame space (a + 1) n (v / 256) (with_byte (a % space) (v % 256) bytes) x (misses_later space a n x h)
    ∙ with_byte_other (a % space) (v % 256) bytes x (misses_first space a n x h)

module _ (space : ℕ) (x : ℕ) where
  pub elements_frame : (e : Shape) → ((a : ℕ) (v : Value) (bytes : ℕ → ℕ) → Spares space e a x → store space e a v bytes x ≡ bytes x) →
      (a n : ℕ) (vs : Values) (bytes : ℕ → ℕ) → ((i : ℕ) → i < n → Spares space e (a + i * size e) x) →
      stored_elements (λ b v bs. store space e b v bs) (size e) a n vs bytes x ≡ bytes x
  elements_frame e one a (suc n) (more v vs) bytes h =
      elements_frame e one (a + size e) n vs (store space e a v bytes) (λ i lt. subst (λ b. Spares space e b x) (moved a i (size e)) (h (suc i) (omega arith)))
      ∙ one a v bytes (subst (λ b. Spares space e b x) (first a (size e)) (h 0 (omega arith)))
    where
      moved : (a i step : ℕ) → a + suc i * step ≡ a + step + i * step
      moved a i step = omega arith

      first : (a step : ℕ) → a + 0 * step ≡ a
      first a step = omega arith
  elements_frame _ _ _ _ _ _ _ = refl

  mutual
    -- a store changes bytes of scalars alone
    pub store_frame : (s : Shape) (a : ℕ) (v : Value) (bytes : ℕ → ℕ) → Spares space s a x → store space s a v bytes x ≡ bytes x
    store_frame (Scalar t width) a (Bits w) bytes h = bytes_frame space a (width / 8) w.bits bytes x h
    store_frame (Record name n align fs) a (Parts vs) bytes h = members_frame fs a vs bytes h
    store_frame (Row e n) a (Parts vs) bytes h = elements_frame e (λ b v bs k. store_frame e b v bs k) a n vs bytes h
    store_frame _ _ _ _ _ = refl

    pub members_frame : (fs : Fields) (a : ℕ) (vs : Values) (bytes : ℕ → ℕ) → AllSpare space fs a x → stored_members space fs a vs bytes x ≡ bytes x
    members_frame (field at s fs) a (more v vs) bytes h = members_frame fs a vs (store space s (a + at) v bytes) h.1 ∙ store_frame s (a + at) v bytes h.0
    members_frame _ _ _ _ _ = refl

  -- what the whole misses, each scalar in it misses
  misses_within : (a at n m : ℕ) → Misses space a n x → at + m ≤ n → Misses space (a + at) m x
  misses_within a at n m h fit i lt e = h (at + i) (omega arith) (ap (λ b. b % space) (sym (add_assoc a at i)) ∙ e)

  mutual
    pub spares : (s : Shape) (a : ℕ) → IsFormed s → Misses space a (size s) x → Spares space s a x
    spares Incomplete a f h = tt
    spares (Scalar t width) a f h = h
    spares (Record name n align fs) a f h = all_spare fs align n 0 a f.members (λ j from lt. h j lt)
    spares (Row e n) a f h = λ i lt. spares e (a + i * size e) f.element (misses_within a (i * size e) (n * size e) (size e) h (element_fits i n (size e) lt))
      where
        element_fits : (i n step : ℕ) → i < n → i * step + step ≤ n * step
        element_fits i n step lt = grind arith

    pub all_spare : (fs : Fields) (align n at a : ℕ) → AreFormed align n at fs → ((j : ℕ) → at ≤ j → j < n → (a + j) % space ≢ x) → AllSpare space fs a x
    all_spare no_fields align n at a f h = tt
    all_spare (field offset s fs) align n at a f h =
        let end : offset + size s ≤ n = members_end align n (offset + size s) fs f.others in (
          spares s (a + offset) f.first (λ i lt e. h (offset + i) (omega (arith, f.after)) (omega (arith, lt, end)) (ap (λ b. b % space) (sym (add_assoc a offset i)) ∙ e)),
          all_spare fs align n (offset + size s) a f.others (λ j from lt. h j (omega (arith, f.after)) lt),
        )
