-- Where a step is made, it is made in one of the parts.
use Rattle.std.proofs.Common.{◌≡◌, Option, Some, None, refl, subst}
use Rattle.expression_steps.specs.Rewritten.{or_else, in_one, in_two, in_three}

pub some_same : {A : Type 0} (a b : A) → ◌≡◌ {A = Option A} (Some a) (Some b) → a ≡ b
some_same a b h = cc

module _ {C : Type 0} (r : C) (P : C → Type 0) where
  pub first_case : (o q : Option C) → or_else o q ≡ Some r → (o ≡ Some r → P r) → (q ≡ Some r → P r) → P r
  first_case (Some a) q h i j = i h
  first_case None q h i j = j h

  pub one_case : {A : Type 0} (k : A → C) (o : Option A) → in_one k o ≡ Some r → ((x : A) → o ≡ Some x → P (k x)) → P r
  one_case k (Some a) h i = subst P (some_same (k a) r h) (i a refl)
  one_case k None h i = absurd cc

  pub two_case : {A B : Type 0} (k : A → B → C) (a : A) (b : B) (o : Option A) (q : Option B) → in_two k a b o q ≡ Some r →
      ((x : A) → o ≡ Some x → P (k x b)) →
      ((y : B) → q ≡ Some y → P (k a y)) → P r
  two_case k a b (Some x) q h i j = subst P (some_same (k x b) r h) (i x refl)
  two_case k a b None q h i j = one_case (λ y. k a y) q h j

  pub three_case : {A B D : Type 0} (k : A → B → D → C) (a : A) (b : B) (c : D) (o : Option A) (q : Option B) (s : Option D) →
      in_three k a b c o q s ≡ Some r →
      ((x : A) → o ≡ Some x → P (k x b c)) → ((y : B) → q ≡ Some y → P (k a y c)) → ((z : D) → s ≡ Some z → P (k a b z)) → P r
  three_case k a b c (Some x) q s h i j m = subst P (some_same (k x b c) r h) (i x refl)
  three_case k a b c None q s h i j m = two_case (λ y z. k a y z) b c q s h j m
