-- What stands at a place of a list in which names are distinct is found by its name.
use Rattle.std.proofs.Common.{◌≡◌, ℕ, zero, suc, ◌<◌, true, not, List, [], ◌∷◌, length, get_or, map, Some, sym, ap, ◌∙◌, subst, arith}
use Rattle.std.proofs.lemmas.Bool.{and_parts, not-true, cond-true, cond-false, or_left, or_right}
use Rattle.std.specs.Prelude.{slice_get}
use Rattle.std.specs.Option.{IsSomeAnd}
use Rattle.c_values.specs.Name.{Name, same_name, is_among, are_distinct}
use Rattle.c_values.specs.Program.{function_named}
use Rattle.c_values.proofs.Laid.{same_name-refl}
use Rattle.global_changes.proofs.Indexed.{apart, get_some}

module _ {F : Type 0} (name : F → Name) where
  among_at : (fs : List F) (k : ℕ) (f : F) → k < length fs → f ≡ get_or fs k f → is_among (name f) (map name fs) ≡ true
  among_at [] k f lt e = absurd (omega arith)
  among_at (g ∷ fs) zero f lt e =
      or_left (same_name (name f) (name g)) (is_among (name f) (map name fs)) (ap (λ h. same_name (name f) (name h)) (sym e) ∙ same_name-refl (name f))
  among_at (g ∷ fs) (suc k) f lt e = or_right (same_name (name f) (name g)) (is_among (name f) (map name fs)) (among_at fs k f (omega arith) e)

  pub found_at : (fs : List F) (k : ℕ) (f : F) → are_distinct (map name fs) ≡ true → k < length fs → f ≡ get_or fs k f → function_named name fs (name f) ≡ Some f
  found_at [] k f d lt e = absurd (omega arith)
  found_at (g ∷ fs) zero f d lt e =
      cond-true (same_name (name g) (name f)) (Some g) (function_named name fs (name f)) (ap (λ h. same_name (name h) (name f)) (sym e) ∙ same_name-refl (name f))
      ∙ ap Some (sym e)
  found_at (g ∷ fs) (suc k) f d lt e =
      let p = and_parts (not (is_among (name g) (map name fs))) (are_distinct (map name fs)) d in
      let lt' : k < length fs = omega arith in
      cond-false (same_name (name g) (name f)) (Some g) (function_named name fs (name f))
      (apart (name g) (name f) (map name fs) (not-true _ p.0) (among_at fs k f lt' e))
      ∙ found_at fs k f p.1 lt' e

-- what is at a place

pub at_place : {X : Type 0} (P : X → Type 0) (xs : List X) (k : ℕ) (x : X) → k < length xs → x ≡ get_or xs k x → P x → IsSomeAnd (slice_get xs k) P
at_place P xs k x lt e h = subst (λ o. IsSomeAnd o P) (sym (get_some xs k x lt e)) h

pub place_at : {X : Type 0} (P : X → Type 0) (xs : List X) (k : ℕ) (x : X) → k < length xs → x ≡ get_or xs k x → IsSomeAnd (slice_get xs k) P → P x
place_at P xs k x lt e h = subst (λ o. IsSomeAnd o P) (get_some xs k x lt e) h
