-- Names that are chosen, and that what a loop hands on meets the loop's condition.
use Rattle.std.proofs.Common.{◌≡◌, ℕ, zero, suc, Bool, true, false, cond, ◌&&◌, List, [], ◌∷◌, length, ◌⊎◌, inl, inr, refl, sym, subst}
use Rattle.std.proofs.lemmas.Bool.{false≢true, and_parts, and_from, or_cases, or_left, or_right, cond_both}
use Rattle.c_values.specs.Name.{Name, same_name, is_among}
use Rattle.c_values.proofs.Laid.{name_is}
use Rattle.expression_lang.specs.Expression.{Exp}
use Rattle.simpl_lang.specs.Command.{Condition, Simpl}
use Rattle.monad_lang.specs.Program.{Mon}
use Rattle.rule_local.specs.Assigned.{assigns, Carries}
use Rattle.rule_local.specs.Table.{conj, is_needed}
use Rattle.rule_local.specs.Lifted.{chosen, all_among, settled, handed_on}

there_or_later : (y x : Name) (r : List Name) (b : Bool) → is_among y r ≡ true → is_among y (cond b (x ∷ r) r) ≡ true
there_or_later y x r true h = or_right (same_name y x) (is_among y r) h
there_or_later y x r false h = h

here_first : (y x : Name) (r : List Name) (b : Bool) → same_name y x ≡ true → b ≡ true → is_among y (cond b (x ∷ r) r) ≡ true
here_first y x r true e h = or_left (same_name y x) (is_among y r) e
here_first y x r false e h = absurd (false≢true h)

-- what passes the test is chosen
pub among_chosen : (test : Name → Bool) (y : Name) (xs : List Name) → is_among y xs ≡ true → test y ≡ true → is_among y (chosen test xs) ≡ true
among_chosen test y [] h t = absurd (false≢true h)
among_chosen test y (x ∷ xs) h t = here_or_later (or_cases (same_name y x) (is_among y xs) h) (λ k. among_chosen test y xs k t)
  where
    here_or_later : (same_name y x ≡ true) ⊎ (is_among y xs ≡ true) → (is_among y xs ≡ true → is_among y (chosen test xs) ≡ true) → is_among y (cond (test x) (x ∷ chosen test xs) (chosen test xs)) ≡ true
    here_or_later (inl e) j = here_first y x (chosen test xs) (test x) e (subst (λ z. test z ≡ true) (name_is y x e) t)
    here_or_later (inr k) j = there_or_later y x (chosen test xs) (test x) (j k)

-- what is chosen passes the test, and is one of the names
pub chosen_passes : (test : Name → Bool) (y : Name) (xs : List Name) → is_among y (chosen test xs) ≡ true → (test y ≡ true) × (is_among y xs ≡ true)
chosen_passes test y [] h = absurd (false≢true h)
chosen_passes test y (x ∷ xs) h = by_test (test x) refl (λ k. later (chosen_passes test y xs k)) h
  where
    later : (test y ≡ true) × (is_among y xs ≡ true) → (test y ≡ true) × (is_among y (x ∷ xs) ≡ true)
    later p = (p.0, or_right (same_name y x) (is_among y xs) p.1)

    first_or_later : test x ≡ true → (is_among y (chosen test xs) ≡ true → (test y ≡ true) × (is_among y (x ∷ xs) ≡ true)) → (same_name y x ≡ true) ⊎ (is_among y (chosen test xs) ≡ true) → (test y ≡ true) × (is_among y (x ∷ xs) ≡ true)
    first_or_later t j (inl e) = (subst (λ z. test z ≡ true) (sym (name_is y x e)) t, or_left (same_name y x) (is_among y xs) e)
    first_or_later t j (inr k) = j k

    by_test : (b : Bool) → test x ≡ b → (is_among y (chosen test xs) ≡ true → (test y ≡ true) × (is_among y (x ∷ xs) ≡ true)) → is_among y (cond b (x ∷ chosen test xs) (chosen test xs)) ≡ true → (test y ≡ true) × (is_among y (x ∷ xs) ≡ true)
    by_test true t j k = first_or_later t j (or_cases (same_name y x) (is_among y (chosen test xs)) k)
    by_test false t j k = j k

pub among_all : (y : Name) (xs us : List Name) → all_among xs us ≡ true → is_among y xs ≡ true → is_among y us ≡ true
among_all y [] us h k = absurd (false≢true k)
among_all y (x ∷ xs) us h k =
    let p = and_parts (is_among x us) (all_among xs us) h in here_or_later p.0 (or_cases (same_name y x) (is_among y xs) k) (among_all y xs us p.1)
  where
    here_or_later : is_among x us ≡ true → (same_name y x ≡ true) ⊎ (is_among y xs ≡ true) → (is_among y xs ≡ true → is_among y us ≡ true) → is_among y us ≡ true
    here_or_later p (inl e) r = subst (λ z. is_among z us ≡ true) (sym (name_is y x e)) p
    here_or_later p (inr j) r = r j

-- what holds of all names and of none, and is kept by each step
pub settled_has : (P : List Name → Type 0) (more : List Name → List Name) (all : List Name) → P all → ((us : List Name) → P us → P (more us)) → (n : ℕ) (us : List Name) → P us → P (settled n more all us)
settled_has P more all h k zero us j = h
settled_has P more all h k (suc n) us j = cond_both (all_among (more us) us) us (settled n more all (more us)) P (λ e. j) (λ e. settled_has P more all h k n (more us) (k us j))

-- where it ends no more are needed, or it is all
pub settled_is : (P : List Name → Type 0) (more : List Name → List Name) (all : List Name) → P all → ((us : List Name) → all_among (more us) us ≡ true → P us) → (n : ℕ) (us : List Name) → P (settled n more all us)
settled_is P more all h k zero us = h
settled_is P more all h k (suc n) us = cond_both (all_among (more us) us) us (settled n more all (more us)) P (λ e. k us e) (λ e. settled_is P more all h k n (more us))

module _ (xs : List Name) (a : Simpl) (own : (y : Name) → assigns y a ≡ true → is_among y xs ≡ true) where
  pub chosen_carries : (needed : Name → Bool) → Carries (chosen (λ y. assigns y a && needed y) xs) a needed
  chosen_carries needed y h k = among_chosen (λ z. assigns z a && needed z) y xs (own y h) (and_from (assigns y a) (needed y) h k)

  pub handed_on_carries : (gs : List Condition) (e : Exp) (body : List Name → Mon) (vs : List Name) →
      Carries (handed_on xs gs e a body vs) a (is_needed (conj gs) e (body (handed_on xs gs e a body vs)) vs)
  handed_on_carries gs e body vs =
      settled_is (λ us. Carries us a (is_needed (conj gs) e (body us) vs)) (λ us. chosen (λ y. assigns y a && is_needed (conj gs) e (body us) vs y) xs) (chosen (λ y. assigns y a) xs)
      (λ y h k. among_chosen (λ z. assigns z a) y xs (own y h) h)
      (λ us c y h k. among_all y (chosen (λ z. assigns z a && is_needed (conj gs) e (body us) vs z) xs) us c (chosen_carries (is_needed (conj gs) e (body us) vs) y h k)) (suc (length xs)) []
