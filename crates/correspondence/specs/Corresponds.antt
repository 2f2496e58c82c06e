-- Two runs correspond exactly: each end of the one has its twin among the ends of the other, and they stop alike.
use Rattle.std.specs.Prelude.{ℕ, List, [], ◌∷◌, Option, ◌⊎◌}
use Rattle.std.proofs.Common.{inl, inr}
use Rattle.correspondence.specs.Outcome.{Limit, Done, Failed, Stopped, Ends}
use Rattle.correspondence.specs.Bound.{Functions}

pub record Corresponds {A B F G : Type 0} (answers : A → B → Type 0) (faults : F → G → Type 0) (p : Ends A F) (q : Ends B G) : Type 0 where
  pub done : (a : A) → p (Done a) → (b : B) × answers a b × q (Done b)
  pub done_back : (b : B) → q (Done b) → (a : A) × answers a b × p (Done a)
  pub failed : (f : F) → p (Failed f) → (g : G) × faults f g × q (Failed g)
  pub failed_back : (g : G) → q (Failed g) → (f : F) × faults f g × p (Failed f)
  pub stopped : (w : Limit) → p (Stopped w) → q (Stopped w)
  pub stopped_back : (w : Limit) → q (Stopped w) → p (Stopped w)

-- one relation and then another
abbrev pub After : {A B C : Type 0} → (A → B → Type 0) → (B → C → Type 0) → A → C → Type 0
After {A} {B} r s a c = (b : B) × r a b × s b c

-- both go on, or both have ended
abbrev pub Either : {X Y A B : Type 0} → (X → Y → Type 0) → (A → B → Type 0) → X ⊎ A → Y ⊎ B → Type 0
Either next end (inl x) (inl y) = next x y
Either next end (inr a) (inr b) = end a b
Either next end (inl x) (inr b) = ⊥
Either next end (inr a) (inl y) = ⊥

-- as Either, but the right side may need one more look to leave
abbrev pub Leaving : {X Y A B : Type 0} → (X → Y → Type 0) → (A → B → Type 0) → (A → Y → Type 0) → X ⊎ A → Y ⊎ B → Type 0
Leaving next end leaves (inl x) (inl y) = next x y
Leaving next end leaves (inr a) (inr b) = end a b
Leaving next end leaves (inr a) (inl y) = leaves a y
Leaving next end leaves (inl x) (inr b) = ⊥

-- the functions of both sides, bound by bound
abbrev pub Paired : {Function Function' : Type 1} → (Function → Function' → Type 0) → List Function → List Function' → Type 0
Paired same [] [] = Unit {0}
Paired same (f ∷ fs) (g ∷ gs) = same f g × Paired same fs gs
Paired same [] (g ∷ gs) = ⊥
Paired same (f ∷ fs) [] = ⊥

-- two functions correspond at every limit of nested calls and at calls that do
abbrev pub SameFunctions : {Call Call' A B F G : Type 0} → (Call → Call' → Type 0) → (A → B → Type 0) → (F → G → Type 0) → Functions Call A F → Functions Call' B G → Type 0
SameFunctions {Call} {Call'} calls answers faults f g = (depth : Option ℕ) (c : Call) (c' : Call') → calls c c' → Corresponds answers faults (f depth c) (g depth c')
