-- Tests that say the same of each name find the same first name.
use Rattle.std.proofs.Common.{◌≡◌, Bool, List, [], ◌∷◌, Option, Some, None, cond, refl, ap₂}
use Rattle.c_values.specs.Name.{Name}
use Rattle.command_line.specs.Words.{named, or_unknown, first_unknown}

module _ (p q : Name → Bool) (same : (x : Name) → p x ≡ q x) where
  next : (o : Option Name) (l m : Option Name) → l ≡ m → or_unknown p o l ≡ or_unknown q o m
  next None l m e = e
  next (Some x) l m e = ap₂ (λ b o. cond b o (Some x)) (same x) e

  pub same_unknown : (ws : List Name) → first_unknown p ws ≡ first_unknown q ws
  same_unknown [] = refl
  same_unknown (w ∷ ws) = next (named w) (first_unknown p ws) (first_unknown q ws) (same_unknown ws)
