-- What is there stays where it is mapped.
use Rattle.std.proofs.Common.{◌≡◌, true, Option, Some, None, refl, subst}
use Rattle.std.specs.Option.{IsSome, is_some, option_map}
use Rattle.std.proofs.lemmas.Bool.{false≢true}

mapped : {A B : Type 0} (f : A → B) (o : Option A) → is_some o ≡ true → IsSome (option_map f o)
mapped f (Some s) h = refl
mapped f None h = absurd (false≢true h)

pub is_there : {A B : Type 0} (f : A → B) (o : Option A) (p : Option B) → option_map f o ≡ p → is_some o ≡ true → IsSome p
is_there f o p e h = subst (λ (q : Option _). IsSome q) e (mapped f o h)
