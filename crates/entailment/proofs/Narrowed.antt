-- What narrow numbers are found from.
use Rattle.std.proofs.Common.{◌≡◌, Bool, true, false, cond, Option, Some, None, ℤ, ap, ap₂, subst, refl, ◌∙◌}
use Rattle.std.specs.Prelude.{nat_lt, ◌^◌, unsigned_abs}
use Rattle.entailment.specs.Linear.{Place, IsNarrow, AllNarrow}
use Rattle.entailment.specs.CodeSums.{narrow, of_one, of_two}

-- there is one
abbrev pub IsThere : Option ℤ → Type 0
IsThere o = (n : ℤ) × (o ≡ Some n)

by_test : (b : Bool) (n m : ℤ) → cond b (Some n) None ≡ Some m → (b ≡ true) × (m ≡ n)
by_test true n m h = (refl, cc)
by_test false n m h = absurd cc

pub narrow_some : (n m : ℤ) → narrow n ≡ Some m → IsNarrow n × (m ≡ n)
narrow_some n m h = by_test (nat_lt (unsigned_abs n) (2 ^ 128)) n m h

pub some_narrow : (n : ℤ) → IsNarrow n → narrow n ≡ Some n
some_narrow n h = ap (λ b. cond b (Some n) None) h

pub one_there : (f : ℤ → ℤ) (o : Option ℤ) (m : ℤ) → of_one f o ≡ Some m → (x : ℤ) × (o ≡ Some x) × IsNarrow (f x) × (m ≡ f x)
one_there f None m h = absurd cc
one_there f (Some x) m h = let k = narrow_some (f x) m h in (x, refl, k.0, k.1)

pub two_there : (f : ℤ → ℤ → ℤ) (o p : Option ℤ) (m : ℤ) → of_two f o p ≡ Some m
    → (x : ℤ) × (y : ℤ) × (o ≡ Some x) × (p ≡ Some y) × IsNarrow (f x y) × (m ≡ f x y)
two_there f None p m h = absurd cc
two_there f (Some x) None m h = absurd cc
two_there f (Some x) (Some y) m h = let k = narrow_some (f x y) m h in (x, y, refl, refl, k.0, k.1)

pub there_one : (f : ℤ → ℤ) (o : Option ℤ) (x : ℤ) → o ≡ Some x → IsNarrow (f x) → of_one f o ≡ Some (f x)
there_one f o x h k = ap (of_one f) h ∙ some_narrow (f x) k

pub there_two : (f : ℤ → ℤ → ℤ) (o p : Option ℤ) (x y : ℤ) → o ≡ Some x → p ≡ Some y → IsNarrow (f x y) → of_two f o p ≡ Some (f x y)
there_two f o p x y h i k = ap₂ (of_two f) h i ∙ some_narrow (f x y) k

-- At all places

abbrev pub IsAllThere : (Place → Option ℤ) → Type 0
IsAllThere o = (k : Place) → IsThere (o k)

-- what is found is this
abbrev pub Finds : (Place → Option ℤ) → (Place → ℤ) → Type 0
Finds o x = (k : Place) (m : ℤ) → o k ≡ Some m → m ≡ x k

pub literal_found : (n : ℤ) → Finds (λ k. narrow n) (λ k. n)
literal_found n k m h = (narrow_some n m h).1

pub all_one : (f : ℤ → ℤ) (o : Place → Option ℤ) (x : Place → ℤ) → Finds o x → IsAllThere (λ k. of_one f (o k)) → IsAllThere o × AllNarrow (λ k. f (x k))
all_one f o x h t =
    let parts = λ (k : Place). one_there f (o k) (t k).0 (t k).1 in
    (λ k. ((parts k).0, (parts k).1), λ k. subst (λ n. IsNarrow (f n)) (h k (parts k).0 (parts k).1) (parts k).2)

pub all_two : (f : Place → ℤ → ℤ → ℤ) (o p : Place → Option ℤ) (x y : Place → ℤ) → Finds o x → Finds p y → IsAllThere (λ k. of_two (f k) (o k) (p k))
    → IsAllThere o × IsAllThere p × AllNarrow (λ k. f k (x k) (y k))
all_two f o p x y h i t =
    let parts = λ (k : Place). two_there (f k) (o k) (p k) (t k).0 (t k).1 in (
      λ k. ((parts k).0, (parts k).2),
      λ k. ((parts k).1, (parts k).3),
      λ k. subst (λ n. IsNarrow n) (ap₂ (f k) (h k (parts k).0 (parts k).2) (i k (parts k).1 (parts k).3)) (parts k).4,
    )
