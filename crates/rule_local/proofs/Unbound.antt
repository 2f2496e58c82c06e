-- What names show, of which none is among others: there are none, or the first is not among them.
use Rattle.std.proofs.Common.{◌≡◌, ◌↔◌, Bool, true, false, List, [], ◌∷◌, length, refl, sym, subst, ap, ◌∙◌, arith}
use Rattle.std.specs.Prelude.{map, ◌||◌}
use Rattle.c_values.specs.Name.{Name, same_name, is_among}
use Rattle.c_values.proofs.Laid.{name_is, same_name-refl}
use Rattle.rule_local.specs.Table.{AreNone}

pub unbound_end : {A : Type 0} (f : A → Name) (xs : List A) (ps : List Name) → length xs ≡ 0 → AreNone (map f xs) ps
unbound_end f [] ps h y e = cc
unbound_end f (x ∷ xs) ps h y e = absurd (omega arith)

-- the first is not among them
go_on : (x : Name) (xs ps : List Name) → is_among x ps ≡ false → AreNone xs ps → AreNone (x ∷ xs) ps
go_on x xs ps h k y e = by_first (same_name y x) refl
  where
    by_first : (b : Bool) → same_name y x ≡ b → is_among y ps ≡ false
    by_first true s = subst (λ z. is_among z ps ≡ false) (sym (name_is y x s)) h
    by_first false s = k y (subst (λ b. (b || is_among y xs) ≡ true) s e)

pub unbound_on : (x : Name) (xs ps : List Name) → is_among x ps ≡ false → AreNone xs ps ↔ AreNone (x ∷ xs) ps
unbound_on x xs ps h = (
  (λ k. go_on x xs ps h k),
  (λ k y e. k y (second (same_name y x) (is_among y xs) e)),
)
  where
    second : (a b : Bool) → b ≡ true → (a || b) ≡ true
    second true b e = refl
    second false b e = e

pub unbound_off : (x : Name) (xs ps : List Name) → is_among x ps ≡ true → AreNone (x ∷ xs) ps → ⊥
unbound_off x xs ps h k = let clash : true ≡ false = sym h ∙ k x (ap (λ b. b || is_among x xs) (same_name-refl x)) in cc
