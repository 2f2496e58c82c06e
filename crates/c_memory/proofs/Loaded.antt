-- What is loaded has its shape, and to store it back changes nothing.
use Rattle.std.proofs.Common.{◌≡◌, ℕ, zero, suc, ◌+◌, ◌*◌, ◌/◌, ◌%◌, ◌^◌, ◌<◌, nat_eq, Bool, true, false, ◌⊎◌, inl, inr, cond, refl, sym, ap, ap₂, ◌∙◌, subst, arith, pow-add}
use Rattle.std.proofs.Math.Path.{fun_ext}
use Rattle.std.proofs.lemmas.Bool.{cond-true, cond-false, cases_Bool, eqb-true}
use Rattle.std.proofs.lemmas.Nat.{mod_below}
use Rattle.c_values.specs.Value.{Value, Values, Bits, Number, Truth, Parts, no_values, more}
use Rattle.c_values.specs.Layout.{Shape, Incomplete, Scalar, Record, Row, Fields, no_fields, field, size}
use Rattle.c_values.specs.Path.{HasShape, AreMembers, AreElements}
use Rattle.c_values.proofs.Formed.{IsFormed, AreFormed}
use Rattle.c_memory.specs.Memory.{AreBytes, little_endian, load, loaded_members, loaded_elements, with_byte, with_bytes, store, stored_members, stored_elements}

same_byte : (a b : ℕ) (bytes : ℕ → ℕ) → b ≡ bytes a → with_byte a b bytes ≡ bytes
same_byte a b bytes h = fun_ext (λ x. at x)
  where
    at : (x : ℕ) → with_byte a b bytes x ≡ bytes x
    at x = by_cases (cases_Bool (nat_eq x a))
      where
        by_cases : (nat_eq x a ≡ true) ⊎ (nat_eq x a ≡ false) → with_byte a b bytes x ≡ bytes x
        by_cases (inl c) = cond-true (nat_eq x a) b (bytes x) c ∙ h ∙ ap bytes (sym (eqb-true x a c))
        by_cases (inr c) = cond-false (nat_eq x a) b (bytes x) c

module _ (space : ℕ) (bytes : ℕ → ℕ) (known : AreBytes bytes) where
  with_bytes_loaded : (a n : ℕ) → with_bytes space a n (little_endian space bytes a n) bytes ≡ bytes
  with_bytes_loaded a zero = refl
  with_bytes_loaded a (suc n) =
      let r = little_endian space bytes (a + 1) n in
      ap₂ (λ v bs. with_bytes space (a + 1) n v bs) (high (bytes (a % space)) r (known (a % space)))
      (same_byte (a % space) ((bytes (a % space) + 256 * r) % 256) bytes (low (bytes (a % space)) r (known (a % space))))
      ∙ with_bytes_loaded (a + 1) n
    where
      high : (b r : ℕ) → b < 256 → (b + 256 * r) / 256 ≡ r
      high b r h = omega arith

      low : (b r : ℕ) → b < 256 → (b + 256 * r) % 256 ≡ b
      low b r h = omega arith

  elements_loaded : (e : Shape) → ((a : ℕ) → store space e a (load space bytes e a) bytes ≡ bytes) → (a n : ℕ) →
      stored_elements (λ b v bs. store space e b v bs) (size e) a n (loaded_elements (λ b. load space bytes e b) (size e) a n) bytes ≡ bytes
  elements_loaded e one a zero = refl
  elements_loaded e one a (suc n) =
      ap (λ bs. stored_elements (λ b v cs. store space e b v cs) (size e) (a + size e) n (loaded_elements (λ b. load space bytes e b) (size e) (a + size e) n) bs) (one a)
      ∙ elements_loaded e one (a + size e) n

  mutual
    -- to store what was loaded changes nothing
    pub store_loaded : (s : Shape) (a : ℕ) → store space s a (load space bytes s a) bytes ≡ bytes
    store_loaded Incomplete a = refl
    store_loaded (Scalar t width) a = with_bytes_loaded a (width / 8)
    store_loaded (Record x n align fs) a = members_loaded fs a
    store_loaded (Row e n) a = elements_loaded e (λ b. store_loaded e b) a n

    members_loaded : (fs : Fields) (a : ℕ) → stored_members space fs a (loaded_members space bytes fs a) bytes ≡ bytes
    members_loaded no_fields a = refl
    members_loaded (field at s fs) a = ap (λ bs. stored_members space fs a (loaded_members space bytes fs a) bs) (store_loaded s (a + at)) ∙ members_loaded fs a

  little_endian_fits : (a n : ℕ) → little_endian space bytes a n < 2 ^ (8 * n)
  little_endian_fits a zero = omega arith
  little_endian_fits a (suc n) =
      grown (bytes (a % space)) (little_endian space bytes (a + 1) n) (2 ^ (8 * n)) (2 ^ (8 * suc n)) (known (a % space)) (little_endian_fits (a + 1) n) (ap (λ k. 2 ^ k) (bits n) ∙ pow-add 2 (8 * n) 8)
    where
      bits : (n : ℕ) → 8 * suc n ≡ 8 * n + 8
      bits n = omega arith

      grown : (b r p q : ℕ) → b < 256 → r < p → q ≡ p * 256 → b + 256 * r < q
      grown b r p q h k e = omega arith

  elements_shaped : (e : Shape) → ((a : ℕ) → HasShape e (load space bytes e a)) → (a n : ℕ) → AreElements (λ w. HasShape e w) n (loaded_elements (λ b. load space bytes e b) (size e) a n)
  elements_shaped e one a zero = tt
  elements_shaped e one a (suc n) = (one a, elements_shaped e one (a + size e) n)

  mutual
    pub load_shaped : (s : Shape) (a : ℕ) → IsFormed s → HasShape s (load space bytes s a)
    load_shaped Incomplete a f = absurd f
    load_shaped (Scalar t width) a f = record { has_width = refl; fits = subst (λ x. little_endian space bytes a (width / 8) < 2 ^ x) (sym f.whole) (little_endian_fits a (width / 8)) }
    load_shaped (Record x n align fs) a f = members_shaped fs align n 0 a f.members
    load_shaped (Row e n) a f = elements_shaped e (λ b. load_shaped e b f.element) a n

    members_shaped : (fs : Fields) (align n at a : ℕ) → AreFormed align n at fs → AreMembers fs (loaded_members space bytes fs a)
    members_shaped no_fields align n at a f = tt
    members_shaped (field offset s fs) align n at a f = (load_shaped s (a + offset) f.first, members_shaped fs align n (offset + size s) a f.others)

-- what is stored are bytes
with_byte_bytes : (a b : ℕ) (bytes : ℕ → ℕ) → b < 256 → AreBytes bytes → AreBytes (with_byte a b bytes)
with_byte_bytes a b bytes h known x = by_cases (nat_eq x a)
  where
    by_cases : (c : Bool) → cond c b (bytes x) < 256
    by_cases true = h
    by_cases false = known x

with_bytes_bytes : (space a n v : ℕ) (bytes : ℕ → ℕ) → AreBytes bytes → AreBytes (with_bytes space a n v bytes)
with_bytes_bytes space a zero v bytes known = known
with_bytes_bytes space a (suc n) v bytes known =
    with_bytes_bytes space (a + 1) n (v / 256) (with_byte (a % space) (v % 256) bytes) (with_byte_bytes (a % space) (v % 256) bytes (mod_below v 256 (omega arith)) known)

module _ (space : ℕ) where
  elements_bytes : (e : Shape) → ((a : ℕ) (v : Value) (bytes : ℕ → ℕ) → AreBytes bytes → AreBytes (store space e a v bytes)) → (a n : ℕ) (vs : Values) (bytes : ℕ → ℕ) → AreBytes bytes →
      AreBytes (stored_elements (λ b v bs. store space e b v bs) (size e) a n vs bytes)
  elements_bytes e one a zero vs bytes known = known
  elements_bytes e one a (suc n) no_values bytes known = known
  elements_bytes e one a (suc n) (more v vs) bytes known = elements_bytes e one (a + size e) n vs (store space e a v bytes) (one a v bytes known)

  mutual
    pub store_bytes : (s : Shape) (a : ℕ) (v : Value) (bytes : ℕ → ℕ) → AreBytes bytes → AreBytes (store space s a v bytes)
    store_bytes Incomplete a v bytes known = known
    store_bytes (Scalar t width) a (Bits w) bytes known = with_bytes_bytes space a (width / 8) w.bits bytes known
    store_bytes (Scalar t width) a (Number n) bytes known = known
    store_bytes (Scalar t width) a (Truth b) bytes known = known
    store_bytes (Scalar t width) a (Parts vs) bytes known = known
    store_bytes (Record x n align fs) a (Parts vs) bytes known = stored_members_bytes fs a vs bytes known
    store_bytes (Record x n align fs) a (Bits w) bytes known = known
    store_bytes (Record x n align fs) a (Number k) bytes known = known
    store_bytes (Record x n align fs) a (Truth b) bytes known = known
    store_bytes (Row e n) a (Parts vs) bytes known = elements_bytes e (λ b v bs k. store_bytes e b v bs k) a n vs bytes known
    store_bytes (Row e n) a (Bits w) bytes known = known
    store_bytes (Row e n) a (Number k) bytes known = known
    store_bytes (Row e n) a (Truth b) bytes known = known

    stored_members_bytes : (fs : Fields) (a : ℕ) (vs : Values) (bytes : ℕ → ℕ) → AreBytes bytes → AreBytes (stored_members space fs a vs bytes)
    stored_members_bytes no_fields a vs bytes known = known
    stored_members_bytes (field at s fs) a no_values bytes known = known
    stored_members_bytes (field at s fs) a (more v vs) bytes known = stored_members_bytes fs a vs (store space s (a + at) v bytes) (store_bytes s (a + at) v bytes known)
