-- A loop hands on the least names that meet its condition, and more outputs let more names be looked at.
use Rattle.std.proofs.Common.{◌≡◌, ℕ, zero, suc, ◌+◌, ◌≤◌, Bool, true, false, not, cond, ◌&&◌, ◌||◌, List, [], ◌∷◌, length, Some, None, ◌⊎◌, inl, inr, refl, sym, subst, ap, ◌∙◌, arith}
use Rattle.std.proofs.lemmas.Bool.{false≢true, true≢false, and_parts, and_from, or_left, or_right, not-true, not_from_false, cases_Bool, cond_both, false_from_ne_true}
use Rattle.c_values.specs.Name.{Name, same_name, is_among}
use Rattle.c_values.proofs.Laid.{name_is, same_name-refl}
use Rattle.expression_lang.specs.Expression.{Exp, Var}
use Rattle.expression_lang.specs.Mentions.{names}
use Rattle.expression_lang.specs.Signature.{Binder, names_of}
use Rattle.simpl_lang.specs.Command.{Condition, Simpl, Skip, Throw, Set, SetGlobal, Store, Pick, Seq, Cond, Guard, Catch, While, Call}
use Rattle.simpl_lang.specs.Names.{path_names}
use Rattle.monad_lang.specs.Program as M
use Rattle.monad_lang.specs.Program.{Mon}
use Rattle.monad_lang.specs.Run.{start_names}
use Rattle.monad_lang.specs.Names.{is_free, is_in_some, is_in_start}
use Rattle.rule_local.specs.Assigned.{assigns, Carries}
use Rattle.rule_local.specs.Table.{vars, vars_with, as_starts, conj, is_needed}
use Rattle.rule_local.specs.Lifted.{chosen, all_among, settled, handed_on, set_lifted, lifted}
use Rattle.rule_local.proofs.Parts.{in_vars, starts_named}
use Rattle.rule_local.proofs.HandedOn.{among_chosen, chosen_passes, among_all, settled_is}
use Rattle.rule_local.proofs.LiftedNames.{either}

abbrev pub AllIn : List Name → List Name → Type 0
AllIn us ws = (y : Name) → is_among y us ≡ true → is_among y ws ≡ true

-- how many are chosen

none_chosen : (xs : List Name) → chosen (λ y. false) xs ≡ []
none_chosen [] = refl
none_chosen (x ∷ xs) = none_chosen xs

few_chosen : (test : Name → Bool) (xs : List Name) → length (chosen test xs) ≤ length xs
few_chosen test [] = omega arith
few_chosen test (x ∷ xs) =
    let h : length (chosen test xs) ≤ length xs = few_chosen test xs in cond_both (test x) (x ∷ chosen test xs) (chosen test xs) (λ us. length us ≤ suc (length xs)) (λ e. omega (arith, h)) (λ e. omega (arith, h))

module _ (test more : Name → Bool) (grows : (y : Name) → test y ≡ true → more y ≡ true) where
  chosen_grow : (xs : List Name) → length (chosen test xs) ≤ length (chosen more xs)
  chosen_grow [] = omega arith
  chosen_grow (x ∷ xs) = by_tests (test x) (more x) (grows x) (chosen_grow xs)
    where
      by_tests : (s t : Bool) → (s ≡ true → t ≡ true) → length (chosen test xs) ≤ length (chosen more xs) → length (cond s (x ∷ chosen test xs) (chosen test xs)) ≤ length (cond t (x ∷ chosen more xs) (chosen more xs))
      by_tests true true g h = omega (arith, h)
      by_tests true false g h = absurd (false≢true (g refl))
      by_tests false true g h = omega (arith, h)
      by_tests false false g h = h

  -- one more at least, where not all were there
  chosen_add : (us xs : List Name) → ((y : Name) → test y ≡ true → is_among y xs ≡ true → is_among y us ≡ true) → all_among (chosen more xs) us ≡ false → suc (length (chosen test xs)) ≤ length (chosen more xs)
  chosen_add us [] h k = absurd (true≢false k)
  chosen_add us (x ∷ xs) h k =
      by_tests (test x) (more x) refl (grows x) (chosen_grow xs) (chosen_add us xs (λ y t n. h y t (or_right (same_name y x) (is_among y xs) n))) k
    where
      by_tests : (s t : Bool) → test x ≡ s → (s ≡ true → t ≡ true) → length (chosen test xs) ≤ length (chosen more xs) →
          (all_among (chosen more xs) us ≡ false → suc (length (chosen test xs)) ≤ length (chosen more xs)) → all_among (cond t (x ∷ chosen more xs) (chosen more xs)) us ≡ false →
          suc (length (cond s (x ∷ chosen test xs) (chosen test xs))) ≤ length (cond t (x ∷ chosen more xs) (chosen more xs))
      by_tests true true e g j r n =
          let there = h x e (or_left (same_name x x) (is_among x xs) (same_name-refl x)) in
          let i : suc (length (chosen test xs)) ≤ length (chosen more xs) = r (sym (ap (λ b. b && all_among (chosen more xs) us) there) ∙ n) in omega (arith, i)
      by_tests true false e g j r n = absurd (false≢true (g refl))
      by_tests false true e g j r n = omega (arith, j)
      by_tests false false e g j r n = r n

-- the least names, from none on

module _ (xs : List Name) (tests : List Name → Name → Bool) (mono : (us ws : List Name) → AllIn us ws → (y : Name) → tests us y ≡ true → tests ws y ≡ true) (all : List Name)
    (ws : List Name) (closed : (y : Name) → is_among y xs ≡ true → tests ws y ≡ true → is_among y ws ≡ true) where
  abbrev step : List Name → List Name
  step us = chosen (tests us) xs

  settled_least : (n : ℕ) (t : Name → Bool) → ((y : Name) → t y ≡ true → tests (chosen t xs) y ≡ true) → AllIn (chosen t xs) ws → suc (length xs) ≤ n + length (chosen t xs) → AllIn (settled n step all (chosen t xs)) ws
  settled_least zero t g h k = let f : length (chosen t xs) ≤ length xs = few_chosen t xs in absurd (omega (arith, k, f))
  settled_least (suc n) t g h k =
      cond_both (all_among (step us) us) us (settled n step all (step us)) (λ r. AllIn r ws) (λ e. h)
      (λ e. let add : suc (length us) ≤ length (step us) = chosen_add t (tests us) g us xs (λ y p m. among_chosen t y xs m p) e in
      settled_least n (tests us) (λ y p. mono us (step us) up y p) (λ y m. let p = chosen_passes (tests us) y xs m in closed y p.1 (mono us ws h y p.0)) (omega (arith, k, add)))
    where
      us : List Name
      us = chosen t xs

      up : AllIn (chosen t xs) (chosen (tests (chosen t xs)) xs)
      up y m = let p = chosen_passes t y xs m in among_chosen (tests (chosen t xs)) y xs p.1 (g y p.0)

  pub settled_from_none : AllIn (settled (suc (length xs)) step all []) ws
  settled_from_none =
      subst (λ us. AllIn (settled (suc (length xs)) step all us) ws) (none_chosen xs)
      (settled_least (suc (length xs)) (λ y. false) (λ y p. absurd (false≢true p)) (λ y m. absurd (false≢true (chosen_passes (λ z. false) y xs m).0)) (omega arith))

-- what is looked at grows with what is handed on
abbrev Grows : (List Name → Mon) → Type 0
Grows body = (us ws : List Name) → AllIn us ws → (y : Name) → is_free y (body us) ≡ true → is_free y (body ws) ≡ true

needed_grows : (guard test : Exp) (m n : Mon) (vs ws : List Name) (y : Name) → (is_free y m ≡ true → is_free y n ≡ true) → (is_among y vs ≡ true → is_among y ws ≡ true) → is_needed guard test m vs y ≡ true → is_needed guard test n ws y ≡ true
needed_grows guard test m n vs ws y f g h =
    either (names y guard || names y test || is_free y m) (is_among y vs) h
    (λ k. or_left (names y guard || names y test || is_free y n) (is_among y ws)
    (either (names y guard || names y test) (is_free y m) k (or_left (names y guard || names y test) (is_free y n)) (λ j. or_right (names y guard || names y test) (is_free y n) (f j))))
    (λ k. or_right (names y guard || names y test || is_free y n) (is_among y ws) (g k))

module _ (xs : List Name) (gs : List Condition) (e : Exp) (a : Simpl) (body : List Name → Mon) (vs : List Name) where
  -- what is handed on meets the loop's condition among the locals
  handed_on_closed : (y : Name) → is_among y xs ≡ true → assigns y a ≡ true → is_needed (conj gs) e (body (handed_on xs gs e a body vs)) vs y ≡ true → is_among y (handed_on xs gs e a body vs) ≡ true
  handed_on_closed y m =
      settled_is (λ us. assigns y a ≡ true → is_needed (conj gs) e (body us) vs y ≡ true → is_among y us ≡ true) (λ us. chosen (λ z. assigns z a && is_needed (conj gs) e (body us) vs z) xs) (chosen (λ z. assigns z a) xs)
      (λ h k. among_chosen (λ z. assigns z a) y xs m h)
      (λ us c h k. among_all y (chosen (λ z. assigns z a && is_needed (conj gs) e (body us) vs z) xs) us c
      (among_chosen (λ z. assigns z a && is_needed (conj gs) e (body us) vs z) y xs m (and_from (assigns y a) (is_needed (conj gs) e (body us) vs y) h k))) (suc (length xs)) []

  handed_on_least : Grows body → (ws : List Name) → ((y : Name) → is_among y xs ≡ true → assigns y a ≡ true → is_needed (conj gs) e (body ws) vs y ≡ true → is_among y ws ≡ true) → AllIn (handed_on xs gs e a body vs) ws
  handed_on_least grows ws c =
      settled_from_none xs (λ us y. assigns y a && is_needed (conj gs) e (body us) vs y)
      (λ us ws i y h. let p = and_parts (assigns y a) (is_needed (conj gs) e (body us) vs y) h in
      and_from (assigns y a) (is_needed (conj gs) e (body ws) vs y) p.0 (needed_grows (conj gs) e (body us) (body ws) vs vs y (grows us ws i y) (λ k. k) p.1)) (chosen (λ y. assigns y a) xs) ws
      (λ y m h. let p = and_parts (assigns y a) (is_needed (conj gs) e (body ws) vs y) h in c y m p.0 p.1)

-- a bound part
bound_grows : (y : Name) (us ws : List Name) (p p' q q' : Bool) → (p ≡ true → p' ≡ true) → (q ≡ true → q' ≡ true) → (is_among y ws ≡ true → is_among y us ≡ false → q ≡ true → p' ≡ true) →
    (p || (not (is_among y us) && q)) ≡ true → (p' || (not (is_among y ws) && q')) ≡ true
bound_grows y us ws p p' q q' f g j h =
    either p (not (is_among y us) && q) h (λ k. or_left p' (not (is_among y ws) && q') (f k))
    (λ k. let r = and_parts (not (is_among y us)) q k in by_test (cases_Bool (is_among y ws)) (not-true (is_among y us) r.0) r.1)
  where
    by_test : (is_among y ws ≡ true) ⊎ (is_among y ws ≡ false) → is_among y us ≡ false → q ≡ true → (p' || (not (is_among y ws) && q')) ≡ true
    by_test (inl m) n k = or_left p' (not (is_among y ws) && q') (j m n k)
    by_test (inr m) n k = or_right p' (not (is_among y ws) && q') (and_from (not (is_among y ws)) q' (not_from_false (is_among y ws) m) (g k))

module _ (y : Name) where
  outputs_grow : (vs ws : List Name) → AllIn vs ws → is_in_some y (vars vs) ≡ true → is_in_some y (vars ws) ≡ true
  outputs_grow vs ws i h = in_vars y ws ∙ i y (sym (in_vars y vs) ∙ h)

  -- the expression where its local is an output, and the other outputs
  pub with_exp : (x : Name) (e : Exp) (vs : List Name) → is_among x vs ≡ true → names y e ≡ true → is_in_some y (vars_with x e vs) ≡ true
  with_exp x e [] h k = absurd (false≢true h)
  with_exp x e (v ∷ vs) h k =
      either (same_name x v) (is_among x vs) h (λ t. or_left (names y (cond (same_name x v) e (Var v))) (is_in_some y (vars_with x e vs)) (here (same_name x v) t))
      (λ t. or_right (names y (cond (same_name x v) e (Var v))) (is_in_some y (vars_with x e vs)) (with_exp x e vs t k))
    where
      here : (b : Bool) → b ≡ true → names y (cond b e (Var v)) ≡ true
      here true t = k
      here false t = absurd (false≢true t)

  pub with_other : (x : Name) (e : Exp) (vs : List Name) → is_among y vs ≡ true → same_name x y ≡ false → is_in_some y (vars_with x e vs) ≡ true
  with_other x e [] h k = absurd (false≢true h)
  with_other x e (v ∷ vs) h k =
      either (same_name y v) (is_among y vs) h (λ t. or_left (names y (cond (same_name x v) e (Var v))) (is_in_some y (vars_with x e vs)) (here t))
      (λ t. or_right (names y (cond (same_name x v) e (Var v))) (is_in_some y (vars_with x e vs)) (with_other x e vs t k))
    where
      here : same_name y v ≡ true → names y (cond (same_name x v) e (Var v)) ≡ true
      here t = subst (λ b. names y (cond b e (Var v)) ≡ true) (sym (ap (λ z. same_name x z) (sym (name_is y v t)) ∙ k)) t

  -- and nothing else
  pub with_parts : (x : Name) (e : Exp) (vs : List Name) → is_in_some y (vars_with x e vs) ≡ true → (names y e ≡ true) ⊎ ((is_among y vs ≡ true) × (same_name x y ≡ false))
  with_parts x e [] h = absurd (false≢true h)
  with_parts x e (v ∷ vs) h =
      either (names y (cond (same_name x v) e (Var v))) (is_in_some y (vars_with x e vs)) h (here (same_name x v) refl) (λ k. later (with_parts x e vs k))
    where
      here : (b : Bool) → same_name x v ≡ b → names y (cond b e (Var v)) ≡ true → (names y e ≡ true) ⊎ ((is_among y (v ∷ vs) ≡ true) × (same_name x y ≡ false))
      here true t k = inl k
      here false t k = inr (or_left (same_name y v) (is_among y vs) k, ap (λ z. same_name x z) (name_is y v k) ∙ t)

      later : (names y e ≡ true) ⊎ ((is_among y vs ≡ true) × (same_name x y ≡ false)) → (names y e ≡ true) ⊎ ((is_among y (v ∷ vs) ≡ true) × (same_name x y ≡ false))
      later (inl k) = inl k
      later (inr k) = inr (or_right (same_name y v) (is_among y vs) k.0, k.1)

  set_grows : (x : Name) (e : Exp) (vs ws : List Name) → AllIn vs ws → (b c : Bool) → is_among x vs ≡ b → is_among x ws ≡ c → is_free y (set_lifted b x e vs).right ≡ true → is_free y (set_lifted c x e ws).right ≡ true
  set_grows x e vs ws i true true h k n = of (with_parts x e vs n)
    where
      of : (names y e ≡ true) ⊎ ((is_among y vs ≡ true) × (same_name x y ≡ false)) → is_in_some y (vars_with x e ws) ≡ true
      of (inl t) = with_exp x e ws k t
      of (inr t) = with_other x e ws (i y t.0) t.1
  set_grows x e vs ws i true false h k n = absurd (false≢true (sym k ∙ i x h))
  set_grows x e vs ws i false true h k n = with_other x e ws (i y (sym (in_vars y vs) ∙ n)) (false_from_ne_true (same_name x y) (λ t. true≢false (sym (subst (λ z. is_among z vs ≡ true) (sym (name_is x y t)) (sym (in_vars y vs) ∙ n)) ∙ h)))
  set_grows x e vs ws i false false h k n = outputs_grow vs ws i n

  pub start_of : (us : List Name) → is_among y us ≡ true → is_in_start y (as_starts us) ≡ true
  start_of [] h = h
  start_of (x ∷ xs) h = either (same_name y x) (is_among y xs) h (or_left (same_name y x) (is_in_start y (as_starts xs))) (λ k. or_right (same_name y x) (is_in_start y (as_starts xs)) (start_of xs k))

  pub start_is : (us : List Name) → is_in_start y (as_starts us) ≡ true → is_among y us ≡ true
  start_is [] h = h
  start_is (x ∷ xs) h = either (same_name y x) (is_in_start y (as_starts xs)) h (or_left (same_name y x) (is_among y xs)) (λ k. or_right (same_name y x) (is_among y xs) (start_is xs k))

pub lifted_grows : (bs : List Binder) (a : Simpl) (vs ws : List Name) → AllIn vs ws → (y : Name) → is_free y (lifted bs a vs).right ≡ true → is_free y (lifted bs a ws).right ≡ true
lifted_grows bs Skip vs ws i y h = outputs_grow y vs ws i h
lifted_grows bs Throw vs ws i y h = outputs_grow y vs ws i h
lifted_grows bs (Set x e) vs ws i y h = set_grows y x e vs ws i (is_among x vs) (is_among x ws) refl refl h
lifted_grows bs (SetGlobal x path e) vs ws i y h =
    let q = path_names y path || names y e in either q (is_in_some y (vars vs)) h (or_left q (is_in_some y (vars ws))) (λ k. or_right q (is_in_some y (vars ws)) (outputs_grow y vs ws i k))
lifted_grows bs (Store t p path e) vs ws i y h =
    let q = names y p || path_names y path || names y e in either q (is_in_some y (vars vs)) h (or_left q (is_in_some y (vars ws))) (λ k. or_right q (is_in_some y (vars ws)) (outputs_grow y vs ws i k))
lifted_grows bs (Pick x) vs ws i y h =
    let p = and_parts (not (is_among y (x ∷ []))) (is_in_some y (vars vs)) h in and_from (not (is_among y (x ∷ []))) (is_in_some y (vars ws)) p.0 (outputs_grow y vs ws i p.1)
lifted_grows bs (Seq a b) vs ws i y h =
    let sv = (lifted bs b vs).right in
    let sw = (lifted bs b ws).right in
    let us = chosen (λ z. assigns z a && is_free z sv) (names_of bs) in
    let us' = chosen (λ z. assigns z a && is_free z sw) (names_of bs) in
    let sub : AllIn us us' =
    λ z m. let p = chosen_passes (λ z. assigns z a && is_free z sv) z (names_of bs) m in
    let q = and_parts (assigns z a) (is_free z sv) p.0 in
    among_chosen (λ z. assigns z a && is_free z sw) z (names_of bs) p.1 (and_from (assigns z a) (is_free z sw) q.0 (lifted_grows bs b vs ws i z q.1)) in
    bound_grows y us us' (is_free y (lifted bs a us).right) (is_free y (lifted bs a us').right) (is_free y sv) (is_free y sw) (lifted_grows bs a us us' sub y) (lifted_grows bs b vs ws i y)
    (λ m n k. let p = chosen_passes (λ z. assigns z a && is_free z sw) y (names_of bs) m in
    absurd (true≢false (sym (among_chosen (λ z. assigns z a && is_free z sv) y (names_of bs) p.1 (and_from (assigns y a) (is_free y sv) (and_parts (assigns y a) (is_free y sw) p.0).0 k)) ∙ n))) h
lifted_grows bs (Cond e a b) vs ws i y h =
    let m = is_free y (lifted bs a vs).right in
    let n = is_free y (lifted bs b vs).right in
    let m' = is_free y (lifted bs a ws).right in
    let n' = is_free y (lifted bs b ws).right in
    either (names y e || m) n h (λ k. or_left (names y e || m') n' (either (names y e) m k (or_left (names y e) m') (λ j. or_right (names y e) m' (lifted_grows bs a vs ws i y j))))
    (λ k. or_right (names y e || m') n' (lifted_grows bs b vs ws i y k))
lifted_grows bs (Guard c a) vs ws i y h =
    let m' = is_free y (lifted bs a ws).right in
    either (names y c.exp) (is_free y (lifted bs a vs).right) h (or_left (names y c.exp) m') (λ k. or_right (names y c.exp) m' (lifted_grows bs a vs ws i y k))
lifted_grows bs (Catch a b) vs ws i y h = lifted_grows bs a vs ws i y h
lifted_grows bs (While cs e a) vs ws i y h =
    let body = λ (us : List Name). (lifted bs a us).right in
    let xs = names_of bs in
    let us = handed_on xs cs e a body vs in
    let us' = handed_on xs cs e a body ws in
    let sub : AllIn us us' =
    handed_on_least xs cs e a body vs (lifted_grows bs a) us' (λ z m s k. handed_on_closed xs cs e a body ws z m s (needed_grows (conj cs) e (body us') (body us') vs ws z (λ t. t) (i z) k)) in
    let test = names y (conj cs) || names y e in
    bound_grows y us us' (is_free y (M.Loop (as_starts us) (conj cs) e (body us))) (is_free y (M.Loop (as_starts us') (conj cs) e (body us'))) (is_in_some y (vars vs)) (is_in_some y (vars ws))
    (bound_grows y (start_names (as_starts us)) (start_names (as_starts us')) (is_in_start y (as_starts us)) (is_in_start y (as_starts us')) (test || is_free y (body us)) (test || is_free y (body us'))
    (λ k. start_of y us' (sub y (start_is y us k)))
    (λ k. either test (is_free y (body us)) k (or_left test (is_free y (body us'))) (λ j. or_right test (is_free y (body us')) (lifted_grows bs a us us' sub y j)))
    (λ m n k. start_of y us' (sym (ap (is_among y) (starts_named us')) ∙ m)))
    (outputs_grow y vs ws i)
    (λ m n k. or_left (is_in_start y (as_starts us')) (not (is_among y (start_names (as_starts us'))) && (test || is_free y (body us'))) (start_of y us' m)) h
lifted_grows bs (Call (Some x) f es) vs ws i y h =
    bound_grows y (x ∷ []) (x ∷ []) (is_in_some y es) (is_in_some y es) (is_in_some y (vars vs)) (is_in_some y (vars ws)) (λ k. k) (outputs_grow y vs ws i) (λ m n k. absurd (true≢false (sym m ∙ n))) h
lifted_grows bs (Call None f es) vs ws i y h = either (is_in_some y es) (is_in_some y (vars vs)) h (or_left (is_in_some y es) (is_in_some y (vars ws))) (λ k. or_right (is_in_some y es) (is_in_some y (vars ws)) (outputs_grow y vs ws i k))

-- whatever meets a loop's condition has all that the loop hands on
pub loop_least : (bs : List Binder) (gs : List Condition) (e : Exp) (a : Simpl) (vs ws : List Name) → Carries ws a (is_needed (conj gs) e (lifted bs a ws).right vs) → AllIn (handed_on (names_of bs) gs e a (λ us. (lifted bs a us).right) vs) ws
loop_least bs gs e a vs ws c = handed_on_least (names_of bs) gs e a (λ us. (lifted bs a us).right) vs (lifted_grows bs a) ws (λ y m. c y)
