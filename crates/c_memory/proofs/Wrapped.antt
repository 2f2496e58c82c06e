-- Loads and stores see an address modulo the space.
use Rattle.std.proofs.Common.{◌≡◌, ℕ, zero, suc, ◌+◌, ◌*◌, ◌/◌, ◌%◌, refl, sym, ap, ap₂, ◌∙◌}
use Rattle.std.proofs.Math.Nat.{add-mod}
use Rattle.c_values.specs.Value.{Value, Values, Bits, Parts, more}
use Rattle.c_values.specs.Layout.{Shape, Incomplete, Scalar, Record, Row, Fields, no_fields, field, size}
use Rattle.c_memory.specs.Memory.{little_endian, load, loaded_members, loaded_elements, with_byte, with_bytes, store, stored_members, stored_elements}

module _ (space : ℕ) where
  moved : (a b c : ℕ) → a % space ≡ b % space → (a + c) % space ≡ (b + c) % space
  moved a b c h = add-mod a c space ∙ ap (λ r. (r + c % space) % space) h ∙ sym (add-mod b c space)

  little_endian_wrapped : (bytes : ℕ → ℕ) (a b n : ℕ) → a % space ≡ b % space → little_endian space bytes a n ≡ little_endian space bytes b n
  little_endian_wrapped bytes a b zero h = refl
  little_endian_wrapped bytes a b (suc n) h = ap₂ (λ x r. bytes x + 256 * r) h (little_endian_wrapped bytes (a + 1) (b + 1) n (moved a b 1 h))

  elements_wrapped : (bytes : ℕ → ℕ) (e : Shape) → ((a b : ℕ) → a % space ≡ b % space → load space bytes e a ≡ load space bytes e b) → (a b n : ℕ) → a % space ≡ b % space →
      loaded_elements (λ c. load space bytes e c) (size e) a n ≡ loaded_elements (λ c. load space bytes e c) (size e) b n
  elements_wrapped bytes e one a b zero h = refl
  elements_wrapped bytes e one a b (suc n) h = ap₂ (λ v vs. more v vs) (one a b h) (elements_wrapped bytes e one (a + size e) (b + size e) n (moved a b (size e) h))

  mutual
    pub load_wrapped : (bytes : ℕ → ℕ) (s : Shape) (a b : ℕ) → a % space ≡ b % space → load space bytes s a ≡ load space bytes s b
    load_wrapped bytes Incomplete a b h = refl
    load_wrapped bytes (Scalar t width) a b h = ap (λ n. Bits (record { width = width; bits = n })) (little_endian_wrapped bytes a b (width / 8) h)
    load_wrapped bytes (Record x n align fs) a b h = ap (λ vs. Parts vs) (members_wrapped bytes fs a b h)
    load_wrapped bytes (Row e n) a b h = ap (λ vs. Parts vs) (elements_wrapped bytes e (λ c d k. load_wrapped bytes e c d k) a b n h)

    members_wrapped : (bytes : ℕ → ℕ) (fs : Fields) (a b : ℕ) → a % space ≡ b % space → loaded_members space bytes fs a ≡ loaded_members space bytes fs b
    members_wrapped bytes no_fields a b h = refl
    members_wrapped bytes (field at s fs) a b h = ap₂ (λ v vs. more v vs) (load_wrapped bytes s (a + at) (b + at) (moved a b at h)) (members_wrapped bytes fs a b h)

  with_bytes_wrapped : (a b n v : ℕ) (bytes : ℕ → ℕ) → a % space ≡ b % space → with_bytes space a n v bytes ≡ with_bytes space b n v bytes
  with_bytes_wrapped a b zero v bytes h = refl
  with_bytes_wrapped a b (suc n) v bytes h =
      ap (λ x. with_bytes space (a + 1) n (v / 256) (with_byte x (v % 256) bytes)) h
      ∙ with_bytes_wrapped (a + 1) (b + 1) n (v / 256) (with_byte (b % space) (v % 256) bytes) (moved a b 1 h)

  stored_elements_wrapped : (e : Shape) → ((a b : ℕ) (v : Value) (bytes : ℕ → ℕ) → a % space ≡ b % space → store space e a v bytes ≡ store space e b v bytes) →
      (a b n : ℕ) (vs : Values) (bytes : ℕ → ℕ) → a % space ≡ b % space →
      stored_elements (λ c v bs. store space e c v bs) (size e) a n vs bytes ≡ stored_elements (λ c v bs. store space e c v bs) (size e) b n vs bytes
  stored_elements_wrapped e one a b (suc n) (more v vs) bytes h =
      ap (λ bs. stored_elements (λ c w cs. store space e c w cs) (size e) (a + size e) n vs bs) (one a b v bytes h)
      ∙ stored_elements_wrapped e one (a + size e) (b + size e) n vs (store space e b v bytes) (moved a b (size e) h)
  stored_elements_wrapped _ _ _ _ _ _ _ _ = refl

  mutual
    pub store_wrapped : (s : Shape) (a b : ℕ) (v : Value) (bytes : ℕ → ℕ) → a % space ≡ b % space → store space s a v bytes ≡ store space s b v bytes
    store_wrapped (Scalar t width) a b (Bits w) bytes h = with_bytes_wrapped a b (width / 8) w.bits bytes h
    store_wrapped (Record x n align fs) a b (Parts vs) bytes h = stored_members_wrapped fs a b vs bytes h
    store_wrapped (Row e n) a b (Parts vs) bytes h = stored_elements_wrapped e (λ c d v bs k. store_wrapped e c d v bs k) a b n vs bytes h
    store_wrapped _ _ _ _ _ _ = refl

    stored_members_wrapped : (fs : Fields) (a b : ℕ) (vs : Values) (bytes : ℕ → ℕ) → a % space ≡ b % space → stored_members space fs a vs bytes ≡ stored_members space fs b vs bytes
    stored_members_wrapped (field at s fs) a b (more v vs) bytes h =
        ap (λ bs. stored_members space fs a vs bs) (store_wrapped s (a + at) (b + at) v bytes (moved a b at h))
        ∙ stored_members_wrapped fs a b vs (store space s (b + at) v bytes) h
    stored_members_wrapped _ _ _ _ _ _ = refl
