-- What is live before a command is what the lifted command looks at, and a loop hands on what it assigns and is live at its start.
use Rattle.std.proofs.Common.{◌≡◌, Bool, true, false, not, cond, ◌&&◌, ◌||◌, List, [], ◌∷◌, length, suc, Some, None, ◌⊎◌, inl, inr, refl, sym, subst, ap, ◌∙◌}
use Rattle.std.proofs.lemmas.Bool.{true≢false, and_parts, and_from, or_left, or_right, not-true, not_from_false, cases_Bool, false_from_ne_true}
use Rattle.std.specs.Cmp.{both_ways, second_so}
use Rattle.c_values.specs.Name.{Name, same_name, is_among}
use Rattle.c_values.proofs.Laid.{name_is, same_name-refl, other_name}
use Rattle.expression_lang.specs.Expression.{Exp}
use Rattle.expression_lang.specs.Mentions.{names}
use Rattle.expression_lang.specs.Signature.{Binder, names_of}
use Rattle.simpl_lang.specs.Command.{Condition, Simpl, Skip, Throw, Set, SetGlobal, Store, Pick, Seq, Cond, Guard, Catch, While, Call}
use Rattle.simpl_lang.specs.Names.{path_names}
use Rattle.monad_lang.specs.Program as M
use Rattle.monad_lang.specs.Run.{start_names}
use Rattle.monad_lang.specs.Names.{is_free, is_in_some, is_in_start}
use Rattle.rule_local.specs.Assigned.{assigns}
use Rattle.rule_local.specs.Table.{vars, as_starts, conj, is_needed}
use Rattle.rule_local.specs.Lifted.{chosen, handed_on, set_lifted, lifted}
use Rattle.rule_local.proofs.Parts.{in_vars, starts_named}
use Rattle.rule_local.proofs.HandedOn.{among_chosen, chosen_passes, settled_has, handed_on_carries}
use Rattle.rule_local.proofs.LiftedNames.{either, handed_on_assigned}
use Rattle.rule_local.proofs.LiftedTaken.{AssignsThese}
use Rattle.rule_local.proofs.Least.{AllIn, with_exp, with_other, with_parts, start_of, start_is, loop_least}
use Rattle.local_lift.specs.Live.{none, live}
use Rattle.local_lift.specs.LiftedByLive.{among, carried}
use Rattle.local_lift.proofs.Spread.{Leads, Within, or_both, spread_from, spread_closed, spread_keeps, live_grows, live_from_none, live_from_one, into, live_is_sum, live_stays, OnlyItself, live_for_unassigned}

pub chosen_same : (test other : Name → Bool) (xs : List Name) → ((y : Name) → is_among y xs ≡ true → test y ≡ other y) → chosen test xs ≡ chosen other xs
chosen_same test other [] h = refl
chosen_same test other (x ∷ xs) h =
    ap (λ b. cond b (x ∷ chosen test xs) (chosen test xs)) (h x (or_left (same_name x x) (is_among x xs) (same_name-refl x)))
    ∙ ap (λ us. cond (other x) (x ∷ us) us) (chosen_same test other xs (λ y m. h y (or_right (same_name y x) (is_among y xs) m)))

one_alone : (b : Bool) → not (b || false) ≡ true → not b ≡ true
one_alone true h = h
one_alone false h = h

alone_one : (b : Bool) → not b ≡ true → not (b || false) ≡ true
alone_one true h = h
alone_one false h = h

-- names that are chosen by some test
record Chosen (xs us : List Name) : Type 0 where
  test : Name → Bool
  are : us ≡ chosen test xs

no_names : (xs : List Name) → [] ≡ chosen none xs
no_names [] = refl
no_names (x ∷ xs) = no_names xs

handed_on_chosen : (xs : List Name) (gs : List Condition) (e : Exp) (a : Simpl) (body : List Name → M.Mon) (vs : List Name) → Chosen xs (handed_on xs gs e a body vs)
handed_on_chosen xs gs e a body vs =
    settled_has (Chosen xs) (λ us. chosen (λ z. assigns z a && is_needed (conj gs) e (body us) vs z) xs) (chosen (λ z. assigns z a) xs)
    (record { test = λ z. assigns z a; are = refl }) (λ us c. record { test = λ z. assigns z a && is_needed (conj gs) e (body us) vs z; are = refl })
    (suc (length xs)) [] (record { test = none; are = no_names xs })

module _ (bs : List Binder) where
  abbrev Sound : Simpl → Type 0
  Sound a = (vs : List Name) (y : Name) → is_free y (lifted bs a vs).right ≡ true → live (names_of bs) a (among vs) y ≡ true

  abbrev Complete : Simpl → Type 0
  Complete a = (vs : List Name) (y : Name) → live (names_of bs) a (among vs) y ≡ true → is_free y (lifted bs a vs).right ≡ true

  module _ (gs : List Condition) (e : Exp) (a : Simpl) (owned : AssignsThese bs a) (sound : Sound a) (complete : Complete a) (vs : List Name) where
    abbrev xs : List Name
    xs = names_of bs

    abbrev body : List Name → M.Mon
    body us = (lifted bs a us).right

    abbrev handed : List Name
    handed = handed_on xs gs e a body vs

    abbrev needed : List Name → Name → Bool
    needed us y = is_needed (conj gs) e (body us) vs y

    abbrev tests : Name → Bool
    tests y = names y (conj gs) || names y e

    abbrev leads : Leads
    leads z = live xs a (same_name z)

    abbrev from : Name → Bool
    from y = (tests y || live xs a none y) || is_among y vs

    abbrev at_start : Name → Bool
    at_start = live xs (While gs e a) (among vs)

    abbrev Live : List Name → Type 0
    Live us = (z : Name) → is_among z us ≡ true → (at_start z ≡ true) × (is_among z xs ≡ true)

    needed_live : (us : List Name) → Live us → (y : Name) → needed us y ≡ true → at_start y ≡ true
    needed_live us s y h =
        either (tests y || is_free y (body us)) (is_among y vs) h
        (λ k. either (tests y) (is_free y (body us)) k
        (λ j. spread_from xs leads from y (or_left (tests y || live xs a none y) (is_among y vs) (or_left (tests y) (live xs a none y) j)))
        (λ j. into xs a (among us) y (λ i. spread_from xs leads from y (or_left (tests y || live xs a none y) (is_among y vs) (or_right (tests y) (live xs a none y) i)))
        (λ z m i. let p = s z m in spread_closed xs leads from z y p.1 p.0 i) (live_is_sum xs a (among us) y (sound us y j))))
        (λ k. spread_from xs leads from y (or_right (tests y || live xs a none y) (is_among y vs) k))

    carried_live : Live (carried xs a at_start)
    carried_live z m = let p = chosen_passes (λ y. assigns y a && at_start y) z xs m in ((and_parts (assigns z a) (at_start z) p.0).1, p.1)

    handed_carried : AllIn handed (carried xs a at_start)
    handed_carried =
        loop_least bs gs e a vs (carried xs a at_start)
        (λ y h k. among_chosen (λ z. assigns z a && at_start z) y xs (owned y h) (and_from (assigns y a) (at_start y) h (needed_live (carried xs a at_start) carried_live y k)))

    handed_live : Live handed
    handed_live z m = carried_live z (handed_carried z m)

    abbrev free : Name → Bool
    free y = is_free y (lifted bs (While gs e a) vs).right

    abbrev bound : Name → Bool
    bound y = not (is_among y (start_names (as_starts handed))) && (tests y || is_free y (body handed))

    abbrev in_loop : Name → Bool
    in_loop y = is_in_start y (as_starts handed) || bound y

    abbrev after : Name → Bool
    after y = not (is_among y handed) && is_in_some y (vars vs)

    handed_or_needed : (y : Name) → free y ≡ true → (is_among y handed ≡ true) ⊎ (needed handed y ≡ true)
    handed_or_needed y h =
        either (in_loop y) (after y) h
        (λ k. either (is_in_start y (as_starts handed)) (bound y) k (λ j. inl (start_is y handed j))
        (λ j. inr (or_left (tests y || is_free y (body handed)) (is_among y vs) (second_so (not (is_among y (start_names (as_starts handed)))) (tests y || is_free y (body handed)) j))))
        (λ k. inr (or_right (tests y || is_free y (body handed)) (is_among y vs) (sym (in_vars y vs) ∙ second_so (not (is_among y handed)) (is_in_some y (vars vs)) k)))

    handed_free : (y : Name) → is_among y handed ≡ true → free y ≡ true
    handed_free y m = or_left (in_loop y) (after y) (or_left (is_in_start y (as_starts handed)) (bound y) (start_of y handed m))

    needed_free : (y : Name) → needed handed y ≡ true → free y ≡ true
    needed_free y h = by_handed (cases_Bool (is_among y handed))
      where
        by_handed : (is_among y handed ≡ true) ⊎ (is_among y handed ≡ false) → free y ≡ true
        by_handed (inl m) = handed_free y m
        by_handed (inr n) =
            either (tests y || is_free y (body handed)) (is_among y vs) h
            (λ k. or_left (in_loop y) (after y)
            (or_right (is_in_start y (as_starts handed)) (bound y)
            (and_from (not (is_among y (start_names (as_starts handed)))) (tests y || is_free y (body handed)) (not_from_false (is_among y (start_names (as_starts handed))) (ap (is_among y) (starts_named handed) ∙ n)) k)))
            (λ k. or_right (in_loop y) (after y) (and_from (not (is_among y handed)) (is_in_some y (vars vs)) (not_from_false (is_among y handed) n) (in_vars y vs ∙ k)))

    while_sound : (y : Name) → free y ≡ true → at_start y ≡ true
    while_sound y h = of (handed_or_needed y h)
      where
        of : (is_among y handed ≡ true) ⊎ (needed handed y ≡ true) → at_start y ≡ true
        of (inl m) = (handed_live y m).0
        of (inr k) = needed_live handed handed_live y k

    body_free : (y : Name) → is_free y (body handed) ≡ true → free y ≡ true
    body_free y h = needed_free y (or_left (tests y || is_free y (body handed)) (is_among y vs) (or_right (tests y) (is_free y (body handed)) h))

    none_free : (y : Name) → live xs a none y ≡ true → free y ≡ true
    none_free y h = body_free y (complete handed y (live_from_none xs a (among handed) y h))

    carries : (y : Name) → assigns y a ≡ true → needed handed y ≡ true → is_among y handed ≡ true
    carries = handed_on_carries xs a owned gs e body vs

    step_free : (z y : Name) → free z ≡ true → leads z y ≡ true → free y ≡ true
    step_free z y p l = of (handed_or_needed z p)
      where
        from_handed : is_among z handed ≡ true → free y ≡ true
        from_handed m = body_free y (complete handed y (live_from_one xs a (among handed) z y m l))

        of_itself : OnlyItself xs a z y → free y ≡ true
        of_itself (inl j) = none_free y j
        of_itself (inr j) = subst (λ w. free w ≡ true) (name_is z y j) p

        by_assigned : needed handed z ≡ true → (assigns z a ≡ true) ⊎ (assigns z a ≡ false) → free y ≡ true
        by_assigned k (inl t) = from_handed (carries z t k)
        by_assigned k (inr n) = of_itself (live_for_unassigned xs a z y (λ i. n) l)

        of : (is_among z handed ≡ true) ⊎ (needed handed z ≡ true) → free y ≡ true
        of (inl m) = from_handed m
        of (inr k) = by_assigned k (cases_Bool (assigns z a))

    while_complete : (y : Name) → at_start y ≡ true → free y ≡ true
    while_complete =
        spread_keeps xs leads from (λ y. free y ≡ true)
        (λ y t. either (tests y || live xs a none y) (is_among y vs) t
        (λ k. either (tests y) (live xs a none y) k (λ j. needed_free y (or_left (tests y || is_free y (body handed)) (is_among y vs) (or_left (tests y) (is_free y (body handed)) j))) (none_free y))
        (λ k. needed_free y (or_right (tests y || is_free y (body handed)) (is_among y vs) k))) (λ z y m. step_free z y)

    -- the names that are handed on, in order
    handed_is : handed ≡ carried xs a at_start
    handed_is = of (handed_on_chosen xs gs e a body vs)
      where
        of : Chosen xs handed → handed ≡ carried xs a at_start
        of c =
            c.are
            ∙ chosen_same c.test (λ y. assigns y a && at_start y) xs
            (λ y m. both_ways (c.test y) (assigns y a && at_start y) (λ t. let i = subst (λ us. is_among y us ≡ true) (sym c.are) (among_chosen c.test y xs m t) in
            and_from (assigns y a) (at_start y) (handed_on_assigned xs gs e a body vs y i).0 (handed_live y i).0)
            (λ t. let p = and_parts (assigns y a) (at_start y) t in
            (chosen_passes c.test y xs (subst (λ us. is_among y us ≡ true) c.are (again y p.0 (handed_or_needed y (while_complete y p.1))))).0))
          where
            again : (y : Name) → assigns y a ≡ true → (is_among y handed ≡ true) ⊎ (needed handed y ≡ true) → is_among y handed ≡ true
            again y t (inl m) = m
            again y t (inr k) = carries y t k

  -- a sequence
  module _ (a b : Simpl) (owned : AssignsThese bs a) (sound_first : Sound a) (complete_first : Complete a) (sound_second : Sound b) (complete_second : Complete b) (vs : List Name) where
    abbrev second : M.Mon
    second = (lifted bs b vs).right

    abbrev between : List Name
    between = chosen (λ z. assigns z a && is_free z second) (names_of bs)

    abbrev then : Name → Bool
    then = live (names_of bs) b (among vs)

    abbrev free_first : Name → Bool
    free_first y = is_free y (lifted bs a between).right

    abbrev later : Name → Bool
    later y = not (is_among y between) && is_free y second

    is_between : (y : Name) → assigns y a ≡ true → is_free y second ≡ true → is_among y between ≡ true
    is_between y h k = among_chosen (λ z. assigns z a && is_free z second) y (names_of bs) (owned y h) (and_from (assigns y a) (is_free y second) h k)

    between_then : Within (among between) then
    between_then z m = sound_second vs z (and_parts (assigns z a) (is_free z second) (chosen_passes (λ y. assigns y a && is_free y second) z (names_of bs) m).0).1

    seq_sound : (y : Name) → (free_first y || later y) ≡ true → live (names_of bs) a then y ≡ true
    seq_sound y h =
        either (free_first y) (later y) h (λ k. live_grows (names_of bs) a (among between) then between_then y (sound_first between y k))
        (λ k. let p = and_parts (not (is_among y between)) (is_free y second) k in
        live_stays (names_of bs) a then y (false_from_ne_true (assigns y a) (λ t. true≢false (sym (is_between y t p.1) ∙ not-true (is_among y between) p.0))) (sound_second vs y p.1))

    seq_complete : (y : Name) → live (names_of bs) a then y ≡ true → (free_first y || later y) ≡ true
    seq_complete y h = into (names_of bs) a then y of_none (λ z m l. by_between z m l (cases_Bool (is_among z between))) (live_is_sum (names_of bs) a then y h)
      where
        of_none : live (names_of bs) a none y ≡ true → (free_first y || later y) ≡ true
        of_none k = or_left (free_first y) (later y) (complete_first between y (live_from_none (names_of bs) a (among between) y k))

        of_itself : (z : Name) → is_among z between ≡ false → then z ≡ true → OnlyItself (names_of bs) a z y → (free_first y || later y) ≡ true
        of_itself z n m (inl j) = of_none j
        of_itself z n m (inr j) =
            subst (λ w. (free_first w || later w) ≡ true) (name_is z y j)
            (or_right (free_first z) (later z) (and_from (not (is_among z between)) (is_free z second) (not_from_false (is_among z between) n) (complete_second vs z m)))

        by_between : (z : Name) → then z ≡ true → live (names_of bs) a (same_name z) y ≡ true → (is_among z between ≡ true) ⊎ (is_among z between ≡ false) → (free_first y || later y) ≡ true
        by_between z m l (inl i) = or_left (free_first y) (later y) (complete_first between y (live_from_one (names_of bs) a (among between) z y i l))
        by_between z m l (inr n) =
            of_itself z n m (live_for_unassigned (names_of bs) a z y (λ i. false_from_ne_true (assigns z a) (λ t. true≢false (sym (is_between z t (complete_second vs z m)) ∙ n))) l)

    between_is : between ≡ carried (names_of bs) a then
    between_is =
        chosen_same (λ z. assigns z a && is_free z second) (λ z. assigns z a && then z) (names_of bs)
        (λ y m. ap (λ b. assigns y a && b) (both_ways (is_free y second) (then y) (sound_second vs y) (complete_second vs y)))

  set_sound : (x : Name) (e : Exp) (vs : List Name) → is_among x (names_of bs) ≡ true → (y : Name) (b : Bool) → is_among x vs ≡ b → is_free y (set_lifted b x e vs).right ≡ true → live (names_of bs) (Set x e) (among vs) y ≡ true
  set_sound x e vs i y b h k = by_test b h k
    where
      looked : Bool
      looked = (is_among x (names_of bs) && is_among x vs) && names y e

      kept : Bool
      kept = not (same_name y x) && is_among y vs

      of : is_among x vs ≡ true → (names y e ≡ true) ⊎ ((is_among y vs ≡ true) × (same_name x y ≡ false)) → live (names_of bs) (Set x e) (among vs) y ≡ true
      of h (inl t) =
          or_left ((is_among x (names_of bs) && is_among x vs) && names y e) (not (same_name y x) && is_among y vs)
          (and_from (is_among x (names_of bs) && is_among x vs) (names y e) (and_from (is_among x (names_of bs)) (is_among x vs) i h) t)
      of h (inr t) =
          or_right ((is_among x (names_of bs) && is_among x vs) && names y e) (not (same_name y x) && is_among y vs)
          (and_from (not (same_name y x)) (is_among y vs) (not_from_false (same_name y x) (other_name x y t.1)) t.0)

      by_test : (b : Bool) → is_among x vs ≡ b → is_free y (set_lifted b x e vs).right ≡ true → live (names_of bs) (Set x e) (among vs) y ≡ true
      by_test true h k = of h (with_parts y x e vs k)
      by_test false h k =
          let m : is_among y vs ≡ true = sym (in_vars y vs) ∙ k in
          or_right ((is_among x (names_of bs) && is_among x vs) && names y e) (not (same_name y x) && is_among y vs)
          (and_from (not (same_name y x)) (is_among y vs)
          (not_from_false (same_name y x) (false_from_ne_true (same_name y x) (λ t. true≢false (sym (subst (λ w. is_among w vs ≡ true) (name_is y x t) m) ∙ h)))) m)

  set_complete : (x : Name) (e : Exp) (vs : List Name) (y : Name) (b : Bool) → is_among x vs ≡ b → live (names_of bs) (Set x e) (among vs) y ≡ true → is_free y (set_lifted b x e vs).right ≡ true
  set_complete x e vs y b h k =
      either ((is_among x (names_of bs) && is_among x vs) && names y e) (not (same_name y x) && is_among y vs) k
      (λ j. let p = and_parts (is_among x (names_of bs) && is_among x vs) (names y e) j in
      looked b h (and_parts (is_among x (names_of bs)) (is_among x vs) p.0).1 p.1)
      (λ j. let p = and_parts (not (same_name y x)) (is_among y vs) j in kept b p.1 (other_name y x (not-true (same_name y x) p.0)))
    where
      looked : (b : Bool) → is_among x vs ≡ b → is_among x vs ≡ true → names y e ≡ true → is_free y (set_lifted b x e vs).right ≡ true
      looked true h i t = with_exp y x e vs i t
      looked false h i t = absurd (true≢false (sym i ∙ h))

      kept : (b : Bool) → is_among y vs ≡ true → same_name x y ≡ false → is_free y (set_lifted b x e vs).right ≡ true
      kept true m n = with_other y x e vs m n
      kept false m n = in_vars y vs ∙ m

  record Both (a : Simpl) : Type 0 where
    sound : Sound a
    complete : Complete a

  pub first_owned : (a b : Simpl) → ((y : Name) → (assigns y a || assigns y b) ≡ true → is_among y (names_of bs) ≡ true) → AssignsThese bs a
  first_owned a b h y k = h y (or_left (assigns y a) (assigns y b) k)

  pub second_owned : (a b : Simpl) → ((y : Name) → (assigns y a || assigns y b) ≡ true → is_among y (names_of bs) ≡ true) → AssignsThese bs b
  second_owned a b h y k = h y (or_right (assigns y a) (assigns y b) k)

  to_output : (vs : List Name) (y : Name) → is_in_some y (vars vs) ≡ true → is_among y vs ≡ true
  to_output vs y h = sym (in_vars y vs) ∙ h

  of_output : (vs : List Name) (y : Name) → is_among y vs ≡ true → is_in_some y (vars vs) ≡ true
  of_output vs y h = in_vars y vs ∙ h

  to_unbound : (x : Name) (vs : List Name) (y : Name) → (not (is_among y (x ∷ [])) && is_in_some y (vars vs)) ≡ true → (not (same_name y x) && is_among y vs) ≡ true
  to_unbound x vs y h =
      let p = and_parts (not (is_among y (x ∷ []))) (is_in_some y (vars vs)) h in and_from (not (same_name y x)) (is_among y vs) (one_alone (same_name y x) p.0) (to_output vs y p.1)

  of_unbound : (x : Name) (vs : List Name) (y : Name) → (not (same_name y x) && is_among y vs) ≡ true → (not (is_among y (x ∷ [])) && is_in_some y (vars vs)) ≡ true
  of_unbound x vs y h =
      let p = and_parts (not (same_name y x)) (is_among y vs) h in and_from (not (is_among y (x ∷ []))) (is_in_some y (vars vs)) (alone_one (same_name y x) p.0) (of_output vs y p.1)

  both : (a : Simpl) → AssignsThese bs a → Both a
  both Skip o = record { sound = to_output; complete = of_output }
  both Throw o = record { sound = to_output; complete = of_output }
  both (Set x e) o = record { sound = λ vs y. set_sound x e vs (o x (same_name-refl x)) y (is_among x vs) refl; complete = λ vs y. set_complete x e vs y (is_among x vs) refl }
  both (SetGlobal x path e) o = record {
    sound = λ vs y. let r = path_names y path || names y e in or_both r (is_in_some y (vars vs)) r (is_among y vs) (λ t. t) (to_output vs y);
    complete = λ vs y. let r = path_names y path || names y e in or_both r (is_among y vs) r (is_in_some y (vars vs)) (λ t. t) (of_output vs y);
  }
  both (Store t a path e) o = record {
    sound = λ vs y. let r = names y a || path_names y path || names y e in or_both r (is_in_some y (vars vs)) r (is_among y vs) (λ t. t) (to_output vs y);
    complete = λ vs y. let r = names y a || path_names y path || names y e in or_both r (is_among y vs) r (is_in_some y (vars vs)) (λ t. t) (of_output vs y);
  }
  both (Pick x) o = record { sound = to_unbound x; complete = of_unbound x }
  both (Seq a b) o =
      let p = both a (first_owned a b o) in
      let q = both b (second_owned a b o) in record {
        sound = seq_sound a b (first_owned a b o) p.sound p.complete q.sound q.complete;
        complete = seq_complete a b (first_owned a b o) p.sound p.complete q.sound q.complete;
      }
  both (Cond e a b) o =
      let p = both a (first_owned a b o) in
      let q = both b (second_owned a b o) in record {
        sound = λ vs y. let m = is_free y (lifted bs a vs).right in
            let l = live (names_of bs) a (among vs) y in
            or_both (names y e || m) (is_free y (lifted bs b vs).right) (names y e || l) (live (names_of bs) b (among vs) y) (or_both (names y e) m (names y e) l (λ t. t) (p.sound vs y)) (q.sound vs y);
        complete = λ vs y. let m = is_free y (lifted bs a vs).right in
            let l = live (names_of bs) a (among vs) y in
            or_both (names y e || l) (live (names_of bs) b (among vs) y) (names y e || m) (is_free y (lifted bs b vs).right) (or_both (names y e) l (names y e) m (λ t. t) (p.complete vs y)) (q.complete vs y);
      }
  both (Guard g a) o =
      let p = both a o in record {
        sound = λ vs y. or_both (names y g.exp) (is_free y (lifted bs a vs).right) (names y g.exp) (live (names_of bs) a (among vs) y) (λ t. t) (p.sound vs y);
        complete = λ vs y. or_both (names y g.exp) (live (names_of bs) a (among vs) y) (names y g.exp) (is_free y (lifted bs a vs).right) (λ t. t) (p.complete vs y);
      }
  both (Catch a b) o = let p = both a (first_owned a b o) in record { sound = p.sound; complete = p.complete }
  both (While gs e a) o = let p = both a o in record { sound = while_sound gs e a o p.sound p.complete; complete = while_complete gs e a o p.sound p.complete }
  both (Call (Some x) f es) o = record {
    sound = λ vs y. or_both (is_in_some y es) (not (is_among y (x ∷ [])) && is_in_some y (vars vs)) (is_in_some y es) (not (same_name y x) && is_among y vs) (λ t. t) (to_unbound x vs y);
    complete = λ vs y. or_both (is_in_some y es) (not (same_name y x) && is_among y vs) (is_in_some y es) (not (is_among y (x ∷ [])) && is_in_some y (vars vs)) (λ t. t) (of_unbound x vs y);
  }
  both (Call None f es) o = record {
    sound = λ vs y. or_both (is_in_some y es) (is_in_some y (vars vs)) (is_in_some y es) (is_among y vs) (λ t. t) (to_output vs y);
    complete = λ vs y. or_both (is_in_some y es) (is_among y vs) (is_in_some y es) (is_in_some y (vars vs)) (λ t. t) (of_output vs y);
  }

  pub live_is_free : (a : Simpl) → AssignsThese bs a → (vs : List Name) (y : Name) → is_free y (lifted bs a vs).right ≡ live (names_of bs) a (among vs) y
  live_is_free a o vs y = let p = both a o in both_ways (is_free y (lifted bs a vs).right) (live (names_of bs) a (among vs) y) (p.sound vs y) (p.complete vs y)

  -- what a sequence and a loop hand on
  pub seq_hands_on : (a b : Simpl) → AssignsThese bs a → AssignsThese bs b → (vs : List Name) →
      chosen (λ y. assigns y a && is_free y (lifted bs b vs).right) (names_of bs) ≡ carried (names_of bs) a (live (names_of bs) b (among vs))
  seq_hands_on a b o o' vs = let q = both b o' in chosen_same (λ z. assigns z a && is_free z (lifted bs b vs).right) (λ z. assigns z a && live (names_of bs) b (among vs) z) (names_of bs)
      (λ y m. ap (λ t. assigns y a && t) (live_is_free b o' vs y))

  pub loop_hands_on : (gs : List Condition) (e : Exp) (a : Simpl) → AssignsThese bs a → (vs : List Name) →
      handed_on (names_of bs) gs e a (λ us. (lifted bs a us).right) vs ≡ carried (names_of bs) a (live (names_of bs) (While gs e a) (among vs))
  loop_hands_on gs e a o vs = let p = both a o in handed_is gs e a o p.sound p.complete vs
