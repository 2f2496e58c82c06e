-- Calls of functions of two units, where how answers are related depends on the call.
use Rattle.std.proofs.Common.{ℕ, zero, suc, Option, Some, None, List, [], ◌∷◌}
use Rattle.correspondence.specs.Outcome.{Turns, Depth}
use Rattle.correspondence.specs.Bound.{Functions, called, below}
use Rattle.correspondence.specs.Corresponds.{Corresponds, Paired}
use Rattle.correspondence.specs.Related.{Related}
use Rattle.correspondence.proofs.Corresponds.{stop_corresponds}

module _ {Call Call' A B F G : Type 0} (calls : Call → Call' → Type 0) (answers : Call → A → B → Type 0) (faults : F → G → Type 0) where
  abbrev Alike : Functions Call A F → Functions Call' B G → Type 0
  Alike = Related calls answers faults

  pub called_related : (fs : List (Functions Call A F)) (gs : List (Functions Call' B G)) → Paired Alike fs gs → (depth : Option ℕ) (c : Call) (c' : Call') → calls c c' →
      Corresponds (answers c) faults (called fs depth c) (called gs depth c')
  called_related [] [] p depth c c' h = stop_corresponds (answers c) faults Turns
  called_related (f ∷ fs) (g ∷ gs) p None c c' h = p.0 None c c' h
  called_related (f ∷ fs) (g ∷ gs) p (Some zero) c c' h = stop_corresponds (answers c) faults Depth
  called_related (f ∷ fs) (g ∷ gs) p (Some (suc depth)) c c' h = p.0 (Some depth) c c' h
  called_related [] (g ∷ gs) p depth c c' h = absurd p
  called_related (f ∷ fs) [] p depth c c' h = absurd p

  pub below_related : (bodies : List (Functions Call A F) → Functions Call A F) (bodies' : List (Functions Call' B G) → Functions Call' B G) →
      ((fs : List (Functions Call A F)) (gs : List (Functions Call' B G)) → Paired Alike fs gs → Alike (bodies fs) (bodies' gs)) → (n : ℕ) → Paired Alike (below bodies n) (below bodies' n)
  below_related bodies bodies' h zero = tt
  below_related bodies bodies' h (suc n) = let p : Paired Alike (below bodies n) (below bodies' n) = below_related bodies bodies' h n in (h _ _ p, p)
