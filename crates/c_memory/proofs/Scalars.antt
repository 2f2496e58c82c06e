-- Numbers of a few bytes, the lowest first.
use Rattle.std.proofs.Common.{◌≡◌, ℕ, zero, suc, ◌+◌, ◌-◌, ◌*◌, ◌/◌, ◌%◌, ◌<◌, ◌≤◌, ◌⊎◌, inl, inr, List, length, slice_index, take, refl, sym, ap, ap₂, ◌∙◌, subst, arith, mod-eq_of_lt, get_or-take, length-take}
use Rattle.std.proofs.Math.Path.{fun_ext}
use Rattle.std.proofs.lemmas.Bool.{cases_lt}
use Rattle.std.specs.Int.{w64, from_le_bytes, to_le_bytes}
use Rattle.c_memory.specs.Memory.{little_endian, with_byte, with_bytes}
use Rattle.c_memory.specs.CodePages.{IsRun}
use Rattle.c_memory.proofs.Frame.{bytes_frame}
use Rattle.c_memory.proofs.RoundTrip.{first_byte}

-- the number of digits to the base 256
abbrev number : (ℕ → ℕ) → ℕ → ℕ
number f zero = 0
number f (suc n) = f 0 + 256 * number (λ i. f (i + 1)) n

number_same : (f g : ℕ → ℕ) (n : ℕ) → ((i : ℕ) → i < n → f i ≡ g i) → number f n ≡ number g n
number_same f g zero h = refl
number_same f g (suc n) h = ap₂ (λ x r. x + 256 * r) (h 0 (omega arith)) (number_same (λ i. f (i + 1)) (λ i. g (i + 1)) n (λ i lt. h (i + 1) (omega arith)))

number_zero : (f : ℕ → ℕ) (n : ℕ) → ((i : ℕ) → f i ≡ 0) → number f n ≡ 0
number_zero f zero h = refl
number_zero f (suc n) h = let r = number_zero (λ i. f (i + 1)) n (λ i. h (i + 1)) in omega (arith, r, h 0)

-- zeros after a number change nothing
number_longer : (f : ℕ → ℕ) (n m : ℕ) → n ≤ m → ((i : ℕ) → n ≤ i → f i ≡ 0) → number f m ≡ number f n
number_longer f zero m le h = number_zero f m (λ i. h i (omega arith))
number_longer f (suc n) zero le h = absurd (omega arith)
number_longer f (suc n) (suc m) le h = ap (λ r. f 0 + 256 * r) (number_longer (λ i. f (i + 1)) n m (omega arith) (λ i k. h (i + 1) (omega arith)))

little_endian_number : (space : ℕ) (bytes : ℕ → ℕ) (a n : ℕ) → little_endian space bytes a n ≡ number (λ i. bytes ((a + i) % space)) n
little_endian_number space bytes a zero = refl
little_endian_number space bytes a (suc n) =
    let first : a ≡ a + 0 = omega arith in
    ap₂ (λ x r. bytes (x % space) + 256 * r) first
    (little_endian_number space bytes (a + 1) n ∙ number_same (λ i. bytes ((a + 1 + i) % space)) (λ i. bytes ((a + (i + 1)) % space)) n (λ i lt. ap (λ x. bytes (x % space)) (let e : a + 1 + i ≡ a + (i + 1) = omega arith in e)))

eight_bytes : (xs : List ℕ) → from_le_bytes w64 xs ≡ number (λ i. slice_index xs i) 8
eight_bytes xs = omega arith

pub scalar_read : (space : ℕ) (bytes : ℕ → ℕ) (a n : ℕ) (xs : List ℕ) → n ≤ 8 → IsRun space bytes a n xs → from_le_bytes w64 xs ≡ little_endian space bytes a n
scalar_read space bytes a n xs le run =
    eight_bytes xs
    ∙ number_longer (λ i. slice_index xs i) n 8 le run.rest
    ∙ number_same (λ i. slice_index xs i) (λ i. bytes ((a + i) % space)) n run.here
    ∙ sym (little_endian_number space bytes a n)

-- the byte of a number at a place
abbrev digit : ℕ → ℕ → ℕ
digit n zero = n % 256
digit n (suc i) = digit (n / 256) i

byte_of_eight : (n i : ℕ) → i < 8 → slice_index (to_le_bytes w64 n) i ≡ digit n i
byte_of_eight n zero lt = refl
byte_of_eight n (suc zero) lt = refl
byte_of_eight n (suc (suc (suc (suc (suc (suc (suc (suc i)))))))) lt = absurd (omega arith)
byte_of_eight n _ lt = omega arith

-- what with_bytes puts at each address of the run
bytes_here : (space a n v i : ℕ) (bytes : ℕ → ℕ) → i < n → n ≤ space → with_bytes space a n v bytes ((a + i) % space) ≡ digit v i
bytes_here space a zero v i bytes lt le = absurd (omega arith)
bytes_here space a (suc n) v zero bytes lt le =
    let e : a + 0 ≡ a = omega arith in
    ap (λ x. with_bytes space a (suc n) v bytes (x % space)) e ∙ first_byte space a n v bytes le
bytes_here space a (suc n) v (suc i) bytes lt le =
    let e : a + suc i ≡ (a + 1) + i = omega arith in
    ap (λ x. with_bytes space a (suc n) v bytes (x % space)) e ∙ bytes_here space (a + 1) n (v / 256) i (with_byte (a % space) (v % 256) bytes) (omega arith) (omega arith)

-- bytes that differ in one run, which doesn't go over the end of the space
pub put_run : (space a n v : ℕ) (old new : ℕ → ℕ) → a + n ≤ space → n ≤ 8 →
    ((i : ℕ) → i < n → new (a + i) ≡ slice_index (to_le_bytes w64 v) i) →
    ((x : ℕ) → (x < a) ⊎ (a + n ≤ x) → new x ≡ old x) →
    new ≡ with_bytes space a n v old
put_run space a n v old new fits le here elsewhere = fun_ext (λ x. at x)
  where
    plain : (i : ℕ) → i < n → (a + i) % space ≡ a + i
    plain i lt = mod-eq_of_lt (omega arith)

    outside : (x : ℕ) → (x < a) ⊎ (a + n ≤ x) → (i : ℕ) → i < n → (a + i) % space ≡ x → ⊥
    outside x (inl h) i lt e = let p = plain i lt in omega (arith, p)
    outside x (inr h) i lt e = let p = plain i lt in omega (arith, p)

    inside : (x i : ℕ) → x ≡ a + i → i < n → new x ≡ with_bytes space a n v old x
    inside x i e lt =
        ap new e
        ∙ here i lt
        ∙ byte_of_eight v i (omega arith)
        ∙ sym (bytes_here space a n v i old lt (omega arith))
        ∙ ap (λ y. with_bytes space a n v old y) (plain i lt ∙ sym e)

    by_cases : (x : ℕ) → (x < a) ⊎ (a ≤ x) → (x < a + n) ⊎ (a + n ≤ x) → new x ≡ with_bytes space a n v old x
    by_cases x (inl h) k = elsewhere x (inl h) ∙ sym (bytes_frame space a n v old x (outside x (inl h)))
    by_cases x (inr h) (inr k) = elsewhere x (inr k) ∙ sym (bytes_frame space a n v old x (outside x (inr k)))
    by_cases x (inr h) (inl k) = inside x (x - a) (omega arith) (omega arith)

    at : (x : ℕ) → new x ≡ with_bytes space a n v old x
    at x = by_cases x (cases_lt x a) (cases_lt x (a + n))

-- the same by the low bytes of the number
pub put_low_bytes : (space a n v : ℕ) (old new : ℕ → ℕ) (ys : List ℕ) → ys ≡ to_le_bytes w64 v → a + n ≤ space → n ≤ 8 →
    ((i : ℕ) → i < length (take n ys) → new (a + i) ≡ slice_index (take n ys) i) →
    ((x : ℕ) → (x < a) ⊎ (a + length (take n ys) ≤ x) → new x ≡ old x) →
    new ≡ with_bytes space a n v old
put_low_bytes space a n v old new ys e fits le here elsewhere =
    let eight : length ys ≡ 8 = ap length e in
    let many : length (take n ys) ≡ n = simp length-take (omega arith) in
    put_run space a n v old new fits le
    (λ i lt. here i (omega arith) ∙ get_or-take n ys i 0 lt ∙ ap (λ zs. slice_index zs i) e)
    (λ x o. elsewhere x (subst (λ k. (x < a) ⊎ (a + k ≤ x)) (sym many) o))

-- one byte after the other
pub put_next : (space a i n rest at b : ℕ) (bytes new : ℕ → ℕ) → i < n → at ≡ (a + i) % space → b ≡ rest % 256 → new ≡ with_byte at b bytes →
    with_bytes space (a + (i + 1)) (n - (i + 1)) (rest / 256) new ≡ with_bytes space (a + i) (n - i) rest bytes
put_next space a i n rest at b bytes new lt e f g =
    let one : n - i ≡ suc (n - (i + 1)) = omega arith in
    let next : a + (i + 1) ≡ (a + i) + 1 = omega arith in
    let put : new ≡ with_byte ((a + i) % space) (rest % 256) bytes = g ∙ ap₂ (λ x y. with_byte x y bytes) e f in
    ap₂ (λ x bs. with_bytes space x (n - (i + 1)) (rest / 256) bs) next put ∙ ap (λ k. with_bytes space (a + i) k rest bytes) (sym one)
