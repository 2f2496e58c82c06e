-- What a lifted program looks at is named by the command, or is an output.
use Rattle.std.proofs.Common.{◌≡◌, Bool, true, false, not, cond, ◌&&◌, ◌||◌, List, [], ◌∷◌, length, suc, Some, None, ◌⊎◌, inl, inr, sym, ◌∙◌}
use Rattle.std.proofs.lemmas.Bool.{false≢true, and_parts, or_cases, or_left, or_right}
use Rattle.std.specs.Cmp.{second_so}
use Rattle.c_values.specs.Name.{Name, same_name, is_among}
use Rattle.expression_lang.specs.Expression.{Exp, Var}
use Rattle.expression_lang.specs.Mentions.{names}
use Rattle.expression_lang.specs.Signature.{Binder, names_of}
use Rattle.simpl_lang.specs.Command.{Condition, Simpl, Skip, Throw, Set, SetGlobal, Store, Pick, Seq, Cond, Guard, Catch, While, Call}
use Rattle.simpl_lang.specs.Names.{path_names, some_names, conditions_name, is_target, command_names}
use Rattle.monad_lang.specs.Program.{Mon}
use Rattle.monad_lang.specs.Run.{start_names}
use Rattle.monad_lang.specs.Names.{is_free, is_in_some, is_in_start}
use Rattle.rule_local.specs.Assigned.{assigns}
use Rattle.rule_local.specs.Table.{vars, vars_with, as_starts, conj, is_needed}
use Rattle.rule_local.specs.Lifted.{chosen, handed_on, set_lifted, lifted}
use Rattle.rule_local.proofs.Parts.{in_vars}
use Rattle.rule_local.proofs.HandedOn.{chosen_passes, settled_has}

pub either : {P : Type 0} → (p q : Bool) → (p || q) ≡ true → (p ≡ true → P) → (q ≡ true → P) → P
either {P} p q h j k = of (or_cases p q h)
  where
    of : (p ≡ true) ⊎ (q ≡ true) → P
    of (inl e) = j e
    of (inr e) = k e

pub assigned_named : (y : Name) (a : Simpl) → assigns y a ≡ true → command_names y a ≡ true
assigned_named y (Set x e) h = or_left (same_name y x) (names y e) h
assigned_named y (Pick x) h = h
assigned_named y (Seq a b) h =
    either (assigns y a) (assigns y b) h (λ k. or_left (command_names y a) (command_names y b) (assigned_named y a k)) (λ k. or_right (command_names y a) (command_names y b) (assigned_named y b k))
assigned_named y (Cond e a b) h =
    either (assigns y a) (assigns y b) h
    (λ k. or_left (names y e || command_names y a) (command_names y b) (or_right (names y e) (command_names y a) (assigned_named y a k)))
    (λ k. or_right (names y e || command_names y a) (command_names y b) (assigned_named y b k))
assigned_named y (Guard c a) h = or_right (names y c.exp) (command_names y a) (assigned_named y a h)
assigned_named y (Catch a b) h =
    either (assigns y a) (assigns y b) h (λ k. or_left (command_names y a) (command_names y b) (assigned_named y a k)) (λ k. or_right (command_names y a) (command_names y b) (assigned_named y b k))
assigned_named y (While cs e a) h = or_right (conditions_name y cs || names y e) (command_names y a) (assigned_named y a h)
assigned_named y (Call x f es) h = or_left (is_target y x) (some_names y es) h
assigned_named _ _ h = absurd (false≢true h)

-- what a loop hands on is assigned, and is one of the locals
pub handed_on_assigned : (xs : List Name) (gs : List Condition) (e : Exp) (a : Simpl) (body : List Name → Mon) (vs : List Name) (y : Name) → is_among y (handed_on xs gs e a body vs) ≡ true →
    (assigns y a ≡ true) × (is_among y xs ≡ true)
handed_on_assigned xs gs e a body vs y =
    settled_has (λ us. is_among y us ≡ true → (assigns y a ≡ true) × (is_among y xs ≡ true)) (λ us. chosen (λ z. assigns z a && is_needed (conj gs) e (body us) vs z) xs) (chosen (λ z. assigns z a) xs)
    (chosen_passes (λ z. assigns z a) y xs)
    (λ us k h. let p = chosen_passes (λ z. assigns z a && is_needed (conj gs) e (body us) vs z) y xs h in ((and_parts (assigns y a) (is_needed (conj gs) e (body us) vs y) p.0).0, p.1))
    (suc (length xs)) [] (λ h. absurd (false≢true h))

-- the name stands in the command, or is an output
abbrev Known : Name → Simpl → List Name → Type 0
Known y a vs = (command_names y a ≡ true) ⊎ (is_among y vs ≡ true)

module _ (y : Name) where
  with_names : (x : Name) (e : Exp) (vs : List Name) → is_in_some y (vars_with x e vs) ≡ true → (names y e ≡ true) ⊎ (is_among y vs ≡ true)
  with_names x e [] h = inr h
  with_names x e (v ∷ vs) h =
      either (names y (cond (same_name x v) e (Var v))) (is_in_some y (vars_with x e vs)) h (first (same_name x v)) (λ k. further (with_names x e vs k))
    where
      first : (b : Bool) → names y (cond b e (Var v)) ≡ true → (names y e ≡ true) ⊎ (is_among y (v ∷ vs) ≡ true)
      first true k = inl k
      first false k = inr (or_left (same_name y v) (is_among y vs) k)

      further : (names y e ≡ true) ⊎ (is_among y vs ≡ true) → (names y e ≡ true) ⊎ (is_among y (v ∷ vs) ≡ true)
      further (inl k) = inl k
      further (inr k) = inr (or_right (same_name y v) (is_among y vs) k)

  output : {P : Type 0} → (vs : List Name) → is_in_some y (vars vs) ≡ true → P ⊎ (is_among y vs ≡ true)
  output vs h = inr (sym (in_vars y vs) ∙ h)

  start_known : (us : List Name) → is_in_start y (as_starts us) ≡ true → is_among y us ≡ true
  start_known [] h = h
  start_known (x ∷ xs) h = either (same_name y x) (is_in_start y (as_starts xs)) h (or_left (same_name y x) (is_among y xs)) (λ k. or_right (same_name y x) (is_among y xs) (start_known xs k))

  conj_names : (gs : List Condition) → names y (conj gs) ≡ true → conditions_name y gs ≡ true
  conj_names [] h = h
  conj_names (g ∷ []) h = or_left (names y g.exp) false h
  conj_names (g ∷ d ∷ gs) h =
      either (names y g.exp) (names y (conj (d ∷ gs))) h (or_left (names y g.exp) (conditions_name y (d ∷ gs))) (λ k. or_right (names y g.exp) (conditions_name y (d ∷ gs)) (conj_names (d ∷ gs) k))

  some_same : (es : List Exp) → is_in_some y es ≡ true → some_names y es ≡ true
  some_same [] h = h
  some_same (e ∷ es) h = either (names y e) (is_in_some y es) h (or_left (names y e) (some_names y es)) (λ k. or_right (names y e) (some_names y es) (some_same es k))

  set_known : (x : Name) (e : Exp) (vs : List Name) (b : Bool) → is_free y (set_lifted b x e vs).right ≡ true → Known y (Set x e) vs
  set_known x e vs true h = of (with_names x e vs h)
    where
      of : (names y e ≡ true) ⊎ (is_among y vs ≡ true) → Known y (Set x e) vs
      of (inl k) = inl (or_right (same_name y x) (names y e) k)
      of (inr k) = inr k
  set_known x e vs false h = output vs h

  -- of a part: what it looks at is known of the whole
  into : {A B P Q : Type 0} → (A → P) → (B → P ⊎ Q) → A ⊎ B → P ⊎ Q
  into f g (inl h) = inl (f h)
  into f g (inr h) = g h

  pub lifted_names : (bs : List Binder) (a : Simpl) (vs : List Name) → is_free y (lifted bs a vs).right ≡ true → Known y a vs
  lifted_names bs Skip vs h = output vs h
  lifted_names bs Throw vs h = output vs h
  lifted_names bs (Set x e) vs h = set_known x e vs (is_among x vs) h
  lifted_names bs (SetGlobal x path e) vs h = either (path_names y path || names y e) (is_in_some y (vars vs)) h inl (output vs)
  lifted_names bs (Store t p path e) vs h = either (names y p || path_names y path || names y e) (is_in_some y (vars vs)) h inl (output vs)
  lifted_names bs (Pick x) vs h = output vs (second_so (not (is_among y (x ∷ []))) (is_in_some y (vars vs)) h)
  lifted_names bs (Seq a b) vs h =
      let second = (lifted bs b vs).right in
      let us = chosen (λ z. assigns z a && is_free z second) (names_of bs) in
      either (is_free y (lifted bs a us).right) (not (is_among y us) && is_free y second) h
      (λ k. into (or_left (command_names y a) (command_names y b))
      (λ j. inl (or_left (command_names y a) (command_names y b)
      (assigned_named y a (and_parts (assigns y a) (is_free y second) (chosen_passes (λ z. assigns z a && is_free z second) y (names_of bs) j).0).0))) (lifted_names bs a us k))
      (λ k. into (or_right (command_names y a) (command_names y b)) (λ j. inr j) (lifted_names bs b vs (second_so (not (is_among y us)) (is_free y second) k)))
  lifted_names bs (Cond e a b) vs h =
      either (names y e || is_free y (lifted bs a vs).right) (is_free y (lifted bs b vs).right) h
      (λ k. either (names y e) (is_free y (lifted bs a vs).right) k (λ j. inl (or_left (names y e || command_names y a) (command_names y b) (or_left (names y e) (command_names y a) j)))
      (λ j. into (λ i. or_left (names y e || command_names y a) (command_names y b) (or_right (names y e) (command_names y a) i)) (λ i. inr i) (lifted_names bs a vs j)))
      (λ k. into (or_right (names y e || command_names y a) (command_names y b)) (λ i. inr i) (lifted_names bs b vs k))
  lifted_names bs (Guard c a) vs h =
      either (names y c.exp) (is_free y (lifted bs a vs).right) h (λ k. inl (or_left (names y c.exp) (command_names y a) k)) (λ k. into (or_right (names y c.exp) (command_names y a)) (λ i. inr i) (lifted_names bs a vs k))
  lifted_names bs (Catch a b) vs h = into (or_left (command_names y a) (command_names y b)) (λ i. inr i) (lifted_names bs a vs h)
  lifted_names bs (While cs e a) vs h =
      let us = handed_on (names_of bs) cs e a (λ ws. (lifted bs a ws).right) vs in
      let m = (lifted bs a us).right in
      let of_body = or_right (conditions_name y cs || names y e) (command_names y a) in
      let own : is_among y us ≡ true → Known y (While cs e a) vs = λ j. inl (of_body (assigned_named y a (handed_on_assigned (names_of bs) cs e a (λ ws. (lifted bs a ws).right) vs y j).0)) in
      let test = or_left (conditions_name y cs || names y e) (command_names y a) in
      either (is_in_start y (as_starts us) || (not (is_among y (start_names (as_starts us))) && (names y (conj cs) || names y e || is_free y m))) (not (is_among y us) && is_in_some y (vars vs)) h
      (λ k. either (is_in_start y (as_starts us)) (not (is_among y (start_names (as_starts us))) && (names y (conj cs) || names y e || is_free y m)) k (λ j. own (start_known us j))
      (λ j. either (names y (conj cs) || names y e) (is_free y m) (second_so (not (is_among y (start_names (as_starts us)))) (names y (conj cs) || names y e || is_free y m) j)
      (λ i. inl (test (either (names y (conj cs)) (names y e) i (λ t. or_left (conditions_name y cs) (names y e) (conj_names cs t)) (or_right (conditions_name y cs) (names y e)))))
      (λ i. into of_body own (lifted_names bs a us i))))
      (λ k. output vs (second_so (not (is_among y us)) (is_in_some y (vars vs)) k))
  lifted_names bs (Call (Some x) f es) vs h =
      either (is_in_some y es) (not (is_among y (x ∷ [])) && is_in_some y (vars vs)) h (λ k. inl (or_right (same_name y x) (some_names y es) (some_same es k)))
      (λ k. output vs (second_so (not (is_among y (x ∷ []))) (is_in_some y (vars vs)) k))
  lifted_names bs (Call None f es) vs h = either (is_in_some y es) (is_in_some y (vars vs)) h (λ k. inl (some_same es k)) (output vs)
