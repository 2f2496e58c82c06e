-- The names of logical variables: whether they are distinct from each other and from parameters, and their scalars, the last first.
use Rattle.std.proofs.Common.{◌≡◌, Bool, true, cond, not, ◌&&◌, ◌||◌, List, [], ◌∷◌, ◌++◌, map, Some, refl, ap, ◌∙◌}
use Rattle.std.proofs.lemmas.Bool.{and_parts, not-true}
use Rattle.c_values.specs.Name.{Name, same_name, with_name, is_among, are_distinct}
use Rattle.exactness.specs.Triple.{Logical}
use Rattle.triple_lang.specs.Deriv.{Names}
use Rattle.hoare_check.specs.CodeNames.{with_logicals}
use Rattle.hoare_check.proofs.JoinedNames.{among_joined}

-- the first of names with others behind it
pub first_joined : (x : Name) (xs ys : List Name) → are_distinct (x ∷ xs) ≡ true → are_distinct ((x ∷ xs) ++ ys) ≡ (not (is_among x ys) && are_distinct (xs ++ ys))
first_joined x xs ys h =
    let p = and_parts (not (is_among x xs)) (are_distinct xs) h in
    let alone = not-true (is_among x xs) p.0 in
    ap (λ b. not b && are_distinct (xs ++ ys)) (among_joined x xs ys ∙ ap (λ b. b || is_among x ys) alone)

-- logical variables that something stands for
module _ {A : Type 0} (of : A → Logical) where
  last_logical : (others : List A) (x : A) (ns : Names) →
      with_logicals (map of (others ++ (x ∷ []))) ns ≡ with_name (of x).name (Some (of x).sort) (with_logicals (map of others) ns)
  last_logical [] x ns = refl
  last_logical (o ∷ others) x ns = last_logical others x (with_name (of o).name (Some (of o).sort) ns)

  -- the last has the name, or is left out
  pub logical_is : (xs others : List A) (x : A) (y : Name) (ns : Names) (b : Bool) → xs ≡ others ++ (x ∷ []) → same_name (of x).name y ≡ b →
      with_logicals (map of xs) ns y ≡ cond b (Some (of x).sort) (with_logicals (map of others) ns y)
  logical_is xs others x y ns b e here =
      ap (λ zs. with_logicals (map of zs) ns y) e
      ∙ ap (λ (f : Names). f y) (last_logical others x ns)
      ∙ ap (λ c. cond c (Some (of x).sort) (with_logicals (map of others) ns y)) here
