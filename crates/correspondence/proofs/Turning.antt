-- Loops that correspond, where more is known after the look than before it; and answers that a run reaches.
use Rattle.std.proofs.Common.{List, [], ◌∷◌, ◌⊎◌, inl, inr}
use Rattle.correspondence.specs.Outcome.{Turns, Done, Ends, continued, loop}
use Rattle.correspondence.specs.Corresponds.{Corresponds, Either, Paired}
use Rattle.correspondence.proofs.Corresponds.{done_corresponds, stop_corresponds, then_corresponds}

module _ {Function Function' : Type 1} {X Y A B F G : Type 0} (same : Function → Function' → Type 0) (next inside : X → Y → Type 0) (answers : A → B → Type 0) (faults : F → G → Type 0)
    (enter : X → Ends (X ⊎ A) F) (enter' : Y → Ends (Y ⊎ B) G) (body : List Function → X → Ends (X ⊎ A) F) (body' : List Function' → Y → Ends (Y ⊎ B) G)
    (enters : (x : X) (y : Y) → next x y → Corresponds (Either inside answers) faults (enter x) (enter' y))
    (turn : (fs : List Function) (gs : List Function') → Paired same fs gs → (x : X) (y : Y) → inside x y → Corresponds (Either next answers) faults (body fs x) (body' gs y)) where
  go_on : (holds : X → Y → Type 0) (r : X → Ends A F) (r' : Y → Ends B G) → ((x : X) (y : Y) → holds x y → Corresponds answers faults (r x) (r' y)) →
      (z : X ⊎ A) (z' : Y ⊎ B) → Either holds answers z z' → Corresponds answers faults (continued r z) (continued r' z')
  go_on holds r r' h (inl x) (inl y) e = h x y e
  go_on holds r r' h (inr a) (inr b) e = done_corresponds answers faults a b e
  go_on _ _ _ _ _ _ e = absurd e

  pub turning_corresponds : (fs : List Function) (gs : List Function') → Paired same fs gs → (x : X) (y : Y) → next x y → Corresponds answers faults (loop enter body fs x) (loop enter' body' gs y)
  turning_corresponds [] [] p x y h =
      then_corresponds (Either inside answers) answers faults _ _ _ _ (enters x y h) (go_on inside _ _ (λ x' y' h'. stop_corresponds answers faults Turns))
  turning_corresponds (f ∷ fs) (g ∷ gs) p x y h =
      then_corresponds (Either inside answers) answers faults _ _ _ _ (enters x y h) (go_on inside _ _ (λ x' y' h'.
      then_corresponds (Either next answers) answers faults _ _ _ _ (turn fs gs p.1 x' y' h') (go_on next _ _ (turning_corresponds fs gs p.1))))
  turning_corresponds [] (g ∷ gs) p x y h = absurd p
  turning_corresponds (f ∷ fs) [] p x y h = absurd p

-- related answers, which both runs reach
pub record Reached {A B F G : Type 0} (answers : A → B → Type 0) (p : Ends A F) (q : Ends B G) (a : A) (b : B) : Type 0 where
  pub related : answers a b
  pub left : p (Done a)
  pub right : q (Done b)

pub reached : {A B F G : Type 0} (answers : A → B → Type 0) (faults : F → G → Type 0) (p : Ends A F) (q : Ends B G) → Corresponds answers faults p q → Corresponds (Reached answers p q) faults p q
reached answers faults p q c = record {
  done = λ a x. let y = c.done a x in (y.0, record { related = y.1; left = x; right = y.2 }, y.2);
  done_back = λ b x. let y = c.done_back b x in (y.0, record { related = y.1; left = y.2; right = x }, y.2);
  failed = c.failed;
  failed_back = c.failed_back;
  stopped = c.stopped;
  stopped_back = c.stopped_back;
}
