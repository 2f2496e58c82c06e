-- Lists of names that have texts: each is a name, no two are the same, and they are few.
use Rattle.std.proofs.Common.{◌≡◌, ◌≤◌, nat_le, Bool, true, false, not, cond, List, [], ◌∷◌, length, refl, ap, arith}
use Rattle.std.proofs.lemmas.Bool.{and_parts, and_from, or_parts, or_from, le-leb, leb-true}
use Rattle.c_values.specs.Name.{Name, same_name, is_among, are_distinct}
use Rattle.expression_text.specs.Names.{is_name}
use Rattle.expression_text.specs.Lists.{each}
use Rattle.rule_local.specs.Lifted.{chosen}
use Rattle.made_texts.specs.Few.{most_names}

pub record AreNames (xs : List Name) : Type 0 where
  pub names : each is_name xs ≡ true
  pub distinct : are_distinct xs ≡ true
  pub few : nat_le (length xs) most_names ≡ true

pub no_names : AreNames []
no_names = record { names = refl; distinct = refl; few = refl }

pub one_name : (x : Name) → is_name x ≡ true → AreNames (x ∷ [])
one_name x h = record { names = and_from (is_name x) true h refl; distinct = refl; few = refl }

module _ (test : Name → Bool) where
  all_chosen : (xs : List Name) → each is_name xs ≡ true → each is_name (chosen test xs) ≡ true
  all_chosen [] h = refl
  all_chosen (x ∷ xs) h =
      let p = and_parts (is_name x) (each is_name xs) h in by_test (test x) p.0 (all_chosen xs p.1)
    where
      by_test : (b : Bool) → is_name x ≡ true → each is_name (chosen test xs) ≡ true →
          each is_name (cond b (x ∷ chosen test xs) (chosen test xs)) ≡ true
      by_test true h k = and_from (is_name x) (each is_name (chosen test xs)) h k
      by_test false h k = k

  none_chosen : (y : Name) (xs : List Name) → is_among y xs ≡ false → is_among y (chosen test xs) ≡ false
  none_chosen y [] h = refl
  none_chosen y (x ∷ xs) h =
      let p = or_parts (same_name y x) (is_among y xs) h in by_test (test x) p.0 (none_chosen y xs p.1)
    where
      by_test : (b : Bool) → same_name y x ≡ false → is_among y (chosen test xs) ≡ false →
          is_among y (cond b (x ∷ chosen test xs) (chosen test xs)) ≡ false
      by_test true h k = or_from (same_name y x) (is_among y (chosen test xs)) h k
      by_test false h k = k

  apart : (b : Bool) → not b ≡ true → b ≡ false
  apart true h = absurd cc
  apart false h = refl

  distinct_chosen : (xs : List Name) → are_distinct xs ≡ true → are_distinct (chosen test xs) ≡ true
  distinct_chosen [] h = refl
  distinct_chosen (x ∷ xs) h =
      let p = and_parts (not (is_among x xs)) (are_distinct xs) h in
      by_test (test x) (none_chosen x xs (apart (is_among x xs) p.0)) (distinct_chosen xs p.1)
    where
      by_test : (b : Bool) → is_among x (chosen test xs) ≡ false → are_distinct (chosen test xs) ≡ true →
          are_distinct (cond b (x ∷ chosen test xs) (chosen test xs)) ≡ true
      by_test true h k = and_from (not (is_among x (chosen test xs))) (are_distinct (chosen test xs)) (ap not h) k
      by_test false h k = k

  fewer_chosen : (xs : List Name) → length (chosen test xs) ≤ length xs
  fewer_chosen [] = omega arith
  fewer_chosen (x ∷ xs) = by_test (test x) (fewer_chosen xs)
    where
      by_test : (b : Bool) → length (chosen test xs) ≤ length xs →
          length (cond b (x ∷ chosen test xs) (chosen test xs)) ≤ length (x ∷ xs)
      by_test true h = omega arith
      by_test false h = omega arith

  pub are_chosen : (xs : List Name) → AreNames xs → AreNames (chosen test xs)
  are_chosen xs h = record {
    names = all_chosen xs h.names;
    distinct = distinct_chosen xs h.distinct;
    few =
        let w = leb-true (length xs) most_names h.few in
        le-leb (length (chosen test xs)) most_names (omega (arith, fewer_chosen xs));
  }
