-- What is live before the first part of a sequence: what is live before it for the names that it hands on, and what it doesn't
-- assign.
use Rattle.std.proofs.Common.{◌≡◌, Bool, true, false, not, ◌&&◌, ◌||◌, List, ◌⊎◌, inl, inr, sym, subst, ◌∙◌}
use Rattle.std.proofs.lemmas.Bool.{true≢false, and_parts, and_from, or_left, or_right, not-true, not_from_false, cases_Bool}
use Rattle.std.specs.Cmp.{both_ways}
use Rattle.c_values.specs.Name.{Name, same_name, is_among}
use Rattle.c_values.proofs.Laid.{name_is}
use Rattle.simpl_lang.specs.Command.{Simpl}
use Rattle.rule_local.specs.Assigned.{assigns}
use Rattle.rule_local.proofs.HandedOn.{among_chosen, chosen_passes}
use Rattle.rule_local.proofs.LiftedNames.{either}
use Rattle.local_lift.specs.Live.{live}
use Rattle.local_lift.specs.LiftedByLive.{among, carried}
use Rattle.local_lift.proofs.Spread.{live_grows, live_from_none, live_from_one, into, live_is_sum, live_stays, OnlyItself, live_for_unassigned}

-- the locals of a row, and those of another that a third doesn't have
abbrev pub past : (Name → Bool) → (Name → Bool) → (Name → Bool) → Name → Bool
past before p assigned y = before y || (p y && not (assigned y))

module _ (xs : List Name) (a : Simpl) (p : Name → Bool) where
  abbrev us : List Name
  us = carried xs a p

  abbrev Before : Name → Type 0
  Before y = past (live xs a (among us)) p (λ z. assigns z a) y ≡ true

  from_first : (y : Name) → live xs a (among us) y ≡ true → Before y
  from_first y h = or_left (live xs a (among us) y) (p y && not (assigns y a)) h

  from_after : (y : Name) → p y ≡ true → assigns y a ≡ false → Before y
  from_after y h n = or_right (live xs a (among us) y) (p y && not (assigns y a)) (and_from (p y) (not (assigns y a)) h (not_from_false (assigns y a) n))

  by_itself : (y z : Name) → p z ≡ true → assigns z a ≡ false → OnlyItself xs a z y → Before y
  by_itself y z h n (inl k) = from_first y (live_from_none xs a (among us) y k)
  by_itself y z h n (inr e) = let same : z ≡ y = name_is z y e in from_after y (subst (λ w. p w ≡ true) same h) (subst (λ w. assigns w a ≡ false) same n)

  -- what is no local is live for no local
  by_stranger : (y z : Name) → is_among y xs ≡ true → is_among z xs ≡ false → OnlyItself xs a z y → Before y
  by_stranger y z m n (inl k) = from_first y (live_from_none xs a (among us) y k)
  by_stranger y z m n (inr e) = absurd (true≢false (sym m ∙ subst (λ w. is_among w xs ≡ false) (name_is z y e) n))

  by_one : (y z : Name) → is_among y xs ≡ true → p z ≡ true → live xs a (same_name z) y ≡ true → Before y
  by_one y z m h l = by_place (cases_Bool (assigns z a)) (cases_Bool (is_among z xs))
    where
      by_place : (assigns z a ≡ true) ⊎ (assigns z a ≡ false) → (is_among z xs ≡ true) ⊎ (is_among z xs ≡ false) → Before y
      by_place (inr n) i = by_itself y z h n (live_for_unassigned xs a z y (λ j. n) l)
      by_place (inl t) (inl i) = from_first y (live_from_one xs a (among us) z y (among_chosen (λ w. assigns w a && p w) z xs i (and_from (assigns z a) (p z) t h)) l)
      by_place (inl t) (inr n) = by_stranger y z m n (live_for_unassigned xs a z y (λ j. absurd (true≢false (sym j ∙ n))) l)

  after_carried : (y : Name) → is_among y us ≡ true → p y ≡ true
  after_carried y h = (and_parts (assigns y a) (p y) (chosen_passes (λ w. assigns w a && p w) y xs h).0).1

  pub first_live : (y : Name) → is_among y xs ≡ true → live xs a p y ≡ past (live xs a (among us)) p (λ z. assigns z a) y
  first_live y m =
      both_ways (live xs a p y) (past (live xs a (among us)) p (λ z. assigns z a) y) (λ h. into xs a p y (λ k. from_first y (live_from_none xs a (among us) y k)) (λ z h l. by_one y z m h l) (live_is_sum xs a p y h))
      (λ h. either (live xs a (among us) y) (p y && not (assigns y a)) h (live_grows xs a (among us) p after_carried y)
      (λ k. let q = and_parts (p y) (not (assigns y a)) k in live_stays xs a p y (not-true (assigns y a) q.1) q.0))
