-- What is stored is loaded.
use Rattle.std.proofs.Common.{◌≡◌, ℕ, zero, suc, ◌+◌, ◌*◌, ◌/◌, ◌%◌, ◌^◌, ◌<◌, ◌≤◌, nat_eq, refl, sym, ap, ap₂, ◌∙◌, subst, arith, add-zero, add_assoc}
use Rattle.std.proofs.Math.Nat.{mod-add-div}
use Rattle.std.proofs.lemmas.Bool.{cond-true, eq-eqb}
use Rattle.std.proofs.lemmas.Nat.{shr_below}
use Rattle.c_values.specs.Value.{Value, Values, Bits, Parts, no_values, more}
use Rattle.c_values.specs.Layout.{Shape, Incomplete, Scalar, Record, Row, Fields, no_fields, field, size}
use Rattle.c_values.specs.Path.{HasShape, AreMembers, AreElements}
use Rattle.c_values.proofs.Formed.{IsFormed, AreFormed, members_end}
use Rattle.c_memory.specs.Memory.{little_endian, load, loaded_members, loaded_elements, with_byte, with_bytes, store, stored_members, stored_elements}
use Rattle.c_memory.proofs.Modulus.{apart_addresses}
use Rattle.c_memory.proofs.Frame.{Misses, bytes_frame, elements_frame, members_frame, store_frame, spares, all_spare}

-- the same at n bytes from a on
abbrev pub AgreeOn : ℕ → ℕ → ℕ → (ℕ → ℕ) → (ℕ → ℕ) → Type 0
AgreeOn space a n bytes bytes' = (i : ℕ) → i < n → bytes ((a + i) % space) ≡ bytes' ((a + i) % space)

agree_first : (space a n : ℕ) (bytes bytes' : ℕ → ℕ) → AgreeOn space a (suc n) bytes bytes' → bytes (a % space) ≡ bytes' (a % space)
agree_first space a n bytes bytes' h = subst (λ b. bytes (b % space) ≡ bytes' (b % space)) (add-zero a) (h 0 (omega arith))

agree_later : (space a n : ℕ) (bytes bytes' : ℕ → ℕ) → AgreeOn space a (suc n) bytes bytes' → AgreeOn space (a + 1) n bytes bytes'
agree_later space a n bytes bytes' h i lt = subst (λ b. bytes (b % space) ≡ bytes' (b % space)) (moved a i) (h (suc i) (omega arith))
  where
    moved : (a i : ℕ) → a + suc i ≡ a + 1 + i
    moved a i = omega arith

agree_within : (space a at n m : ℕ) (bytes bytes' : ℕ → ℕ) → AgreeOn space a n bytes bytes' → at + m ≤ n → AgreeOn space (a + at) m bytes bytes'
agree_within space a at n m bytes bytes' h fit i lt = subst (λ b. bytes (b % space) ≡ bytes' (b % space)) (sym (add_assoc a at i)) (h (at + i) (omega arith))

little_endian_same : (space : ℕ) (bytes bytes' : ℕ → ℕ) (a n : ℕ) → AgreeOn space a n bytes bytes' → little_endian space bytes a n ≡ little_endian space bytes' a n
little_endian_same space bytes bytes' a zero h = refl
little_endian_same space bytes bytes' a (suc n) h =
    ap₂ (λ b r. b + 256 * r) (agree_first space a n bytes bytes' h) (little_endian_same space bytes bytes' (a + 1) n (agree_later space a n bytes bytes' h))

module _ (space : ℕ) (bytes bytes' : ℕ → ℕ) where
  pub elements_same : (e : Shape) → ((a : ℕ) → AgreeOn space a (size e) bytes bytes' → load space bytes e a ≡ load space bytes' e a) → (a n : ℕ) →
      AgreeOn space a (n * size e) bytes bytes' → loaded_elements (λ b. load space bytes e b) (size e) a n ≡ loaded_elements (λ b. load space bytes' e b) (size e) a n
  elements_same e one a zero h = refl
  elements_same e one a (suc n) h =
      ap₂ (λ v vs. more v vs)
      (one a (subst (λ b. AgreeOn space b (size e) bytes bytes') (add-zero a) (agree_within space a 0 (suc n * size e) (size e) bytes bytes' h (first n (size e)))))
      (elements_same e one (a + size e) n (agree_within space a (size e) (suc n * size e) (n * size e) bytes bytes' h (later n (size e))))
    where
      first : (n step : ℕ) → 0 + step ≤ suc n * step
      first n step = omega arith

      later : (n step : ℕ) → step + n * step ≤ suc n * step
      later n step = omega arith

  mutual
    -- a load reads the bytes of its footprint alone
    pub load_same : (s : Shape) (a : ℕ) → IsFormed s → AgreeOn space a (size s) bytes bytes' → load space bytes s a ≡ load space bytes' s a
    load_same Incomplete a f h = refl
    load_same (Scalar t width) a f h = ap (λ n. Bits (record { width = width; bits = n })) (little_endian_same space bytes bytes' a (width / 8) h)
    load_same (Record x n align fs) a f h = ap (λ vs. Parts vs) (members_same fs align n 0 a f.members (λ i from lt. h i lt))
    load_same (Row e n) a f h = ap (λ vs. Parts vs) (elements_same e (λ b k. load_same e b f.element k) a n h)

    pub members_same : (fs : Fields) (align n at a : ℕ) → AreFormed align n at fs → ((i : ℕ) → at ≤ i → i < n → bytes ((a + i) % space) ≡ bytes' ((a + i) % space)) → loaded_members space bytes fs a ≡ loaded_members space bytes' fs a
    members_same no_fields align n at a f h = refl
    members_same (field offset s fs) align n at a f h =
        let end : offset + size s ≤ n = members_end align n (offset + size s) fs f.others in
        ap₂ (λ v vs. more v vs)
        (load_same s (a + offset) f.first (λ i lt. subst (λ b. bytes (b % space) ≡ bytes' (b % space)) (sym (add_assoc a offset i)) (h (offset + i) (omega (arith, f.after)) (omega (arith, end, lt)))))
        (members_same fs align n (offset + size s) a f.others (λ i from lt. h i (omega (arith, f.after, from)) lt))

pub first_byte : (space a n v : ℕ) (bytes : ℕ → ℕ) → suc n ≤ space → with_bytes space a (suc n) v bytes (a % space) ≡ v % 256
first_byte space a n v bytes fit =
    bytes_frame space (a + 1) n (v / 256) (with_byte (a % space) (v % 256) bytes) (a % space) (λ i lt e. apart_addresses space a 0 (1 + i) (omega arith) (omega arith) (ap (λ b. b % space) (add-zero a) ∙ sym e ∙ ap (λ b. b % space) (add_assoc a 1 i)))
    ∙ cond-true (nat_eq (a % space) (a % space)) (v % 256) (bytes (a % space)) (eq-eqb (a % space) (a % space) refl)

-- the low bytes of a number that has no more
pub number_back : (space a n v : ℕ) (bytes : ℕ → ℕ) → n ≤ space → v < 2 ^ (8 * n) → little_endian space (with_bytes space a n v bytes) a n ≡ v
number_back space a zero v bytes fit small = omega arith
number_back space a (suc n) v bytes fit small =
    ap₂ (λ b r. b + 256 * r) (first_byte space a n v bytes fit)
    (number_back space (a + 1) n (v / 256) (with_byte (a % space) (v % 256) bytes) (omega arith) (shr_below v (8 * n) 8 (subst (λ k. v < 2 ^ k) (bits n) small)))
    ∙ mod-add-div v 256
  where
    bits : (n : ℕ) → 8 * suc n ≡ 8 * n + 8
    bits n = omega arith

module _ (space : ℕ) where
  stored_elements_back : (e : Shape) → IsFormed e → ((a : ℕ) (v : Value) (bytes : ℕ → ℕ) → size e ≤ space → HasShape e v → load space (store space e a v bytes) e a ≡ v) →
      (a n : ℕ) (vs : Values) (bytes : ℕ → ℕ) → n * size e ≤ space → AreElements (λ w. HasShape e w) n vs →
      loaded_elements (λ b. load space (stored_elements (λ b v bs. store space e b v bs) (size e) a n vs bytes) e b) (size e) a n ≡ vs
  stored_elements_back e f one a zero no_values bytes fit h = refl
  stored_elements_back e f one a (suc n) (more v vs) bytes fit h =
      ap₂ (λ w ws. more w ws)
      (load_same space
      (stored_elements (λ b v bs. store space e b v bs) (size e) (a + size e) n vs (store space e a v bytes)) (store space e a v bytes) e a f
      (λ i lt. elements_frame space ((a + i) % space) e (λ b w bs k. store_frame space ((a + i) % space) e b w bs k) (a + size e) n vs (store space e a v bytes)
      (λ j less. spares space ((a + i) % space) e (a + size e + j * size e) f (apart a (size e) n i j fit lt less)))
      ∙ one a v bytes (whole n (size e) fit) h.0)
      (stored_elements_back e f one (a + size e) n vs (store space e a v bytes) (rest n (size e) fit) h.1)
    where
      whole : (n step : ℕ) → suc n * step ≤ space → step ≤ space
      whole n step k = omega arith

      rest : (n step : ℕ) → suc n * step ≤ space → n * step ≤ space
      rest n step k = omega arith

      below : (n step j k : ℕ) → suc n * step ≤ space → j < n → k < step → step + j * step + k < space
      below n step j k fit' less lt = grind arith

      apart : (a step n i j : ℕ) → suc n * step ≤ space → i < step → j < n → Misses space (a + step + j * step) step ((a + i) % space)
      apart a step n i j fit' lt less k lt' e =
          apart_addresses space a i (step + j * step + k) (omega arith) (below n step j k fit' less lt')
          (sym e ∙ ap (λ b. b % space) (grouped a step (j * step) k))
        where
          grouped : (a b c d : ℕ) → a + b + c + d ≡ a + (b + c + d)
          grouped a b c d = omega arith
  stored_elements_back _ _ _ _ _ _ _ _ h = absurd h

  mutual
    -- what is stored is loaded
    pub stored_back : (s : Shape) (a : ℕ) (v : Value) (bytes : ℕ → ℕ) → IsFormed s → size s ≤ space → HasShape s v → load space (store space s a v bytes) s a ≡ v
    stored_back (Scalar t width) a (Bits w) bytes f fit h =
        ap (λ u. Bits u) (ap₂ (λ x n. record { width = x; bits = n }) (sym h.has_width) (number_back space a (width / 8) w.bits bytes fit (subst (λ x. w.bits < 2 ^ x) f.whole h.fits)))
    stored_back (Record x n align fs) a (Parts vs) bytes f fit h = ap (λ ws. Parts ws) (stored_members_back fs align n 0 a vs bytes f.members fit h)
    stored_back (Row e n) a (Parts vs) bytes f fit h =
        ap (λ ws. Parts ws) (stored_elements_back e f.element (λ b w bs g k. stored_back e b w bs f.element g k) a n vs bytes fit h)
    stored_back _ _ _ _ _ _ h = absurd h

    stored_members_back : (fs : Fields) (align n at a : ℕ) (vs : Values) (bytes : ℕ → ℕ) → AreFormed align n at fs → n ≤ space → AreMembers fs vs →
        loaded_members space (stored_members space fs a vs bytes) fs a ≡ vs
    stored_members_back no_fields align n at a no_values bytes f fit h = refl
    stored_members_back (field offset s fs) align n at a (more v vs) bytes f fit h =
        let end : offset + size s ≤ n = members_end align n (offset + size s) fs f.others in
        ap₂ (λ w ws. more w ws)
        (load_same space (stored_members space fs a vs (store space s (a + offset) v bytes)) (store space s (a + offset) v bytes) s (a + offset) f.first
        (λ i lt. members_frame space ((a + offset + i) % space) fs a vs (store space s (a + offset) v bytes)
        (all_spare space ((a + offset + i) % space) fs align n (offset + size s) a f.others
        (λ j from less e. apart_addresses space a (offset + i) j (omega (arith, from, lt)) (omega (arith, less, fit)) (ap (λ b. b % space) (sym (add_assoc a offset i)) ∙ sym e))))
        ∙ stored_back s (a + offset) v bytes f.first (omega (arith, end, fit)) h.0)
        (stored_members_back fs align n (offset + size s) a vs (store space s (a + offset) v bytes) f.others fit h.1)
    stored_members_back _ _ _ _ _ _ _ _ _ h = absurd h
