-- What is kept while a sequence is followed down is what the definition leads to.
use Rattle.std.proofs.Common.{◌≡◌, ℕ, Bool, true, false, cond, List, [], ◌∷◌, Option, Some, None, refl, sym, ap, ◌∙◌}
use Rattle.c_values.specs.Name.{Name}
use Rattle.expression_lang.specs.Expression.{Exp}
use Rattle.monad_lang.specs.Program as M
use Rattle.monad_lang.specs.Program.{Mon}
use Rattle.monad_lang.specs.Form.{is_bind_ret, all_kept}
use Rattle.rule_trees.specs.RuleTree.{Tree}
use Rattle.rule_eq.specs.Rule as R
use Rattle.rule_eq.specs.Rule.{Rule, Point}
use Rattle.rule_eq.specs.Table.{behind}
use Rattle.rule_walks.specs.Walk.{Walk, Stays, Second, walk_of, stays, has_stayed, joined_walks, over_bind, Walked, walked, then_walked, Before, Nothing, after_before, and_led}
use Rattle.expression_steps.specs.Known.{is_known}
use Rattle.polish.specs.Polished.{Polished, Way, leaf, at_once, and_then, first_constant, put_or_settled, turned, bound, then_all, settled, Parted, parted, followed}
use Rattle.polish.specs.Climbed as C
use Rattle.polish.specs.Climbed.{next_of, put_next}
use Rattle.polish.specs.CodeNext as S
use Rattle.polish.specs.CodeNext.{settling_of, stepped}
use Rattle.polish.specs.Seen.{seen, SeenParted, seen_parted}
use Rattle.polish.specs.Descent.{Stage, seen_raised}
use Rattle.polish.specs.SeenFollowed.{led_whole, stage, turn_stage, at_bottom, seen_followed, turns}
use Rattle.polish.proofs.Nexts.{bound_stepped}
use Rattle.polish.proofs.Walks.{parted_seen}
use Rattle.polish.proofs.Descending.{after_led, settled_seen, all_seen, step_seen, turned_seen}

module _ (again : Way) (last : Point → Polished) (n : Mon) where
  puts : (at : Point) (b : Before) (t : Tree Rule) (es : List Exp) (xs : List Name) (o : Option ℕ) →
      after_before b (seen (put_or_settled again last at t es xs n o))
      ≡ at_bottom again (λ a. seen (last a)) at b (walk_of t) (put_next o) (M.Ret es) xs n
  puts at b t es xs None = settled_seen again last at b t (M.Ret es) xs
  puts at b t es xs (Some i) = all_seen again last at b t (M.Ret es) xs n (stepped again at (S.Puts i) (M.Ret es) xs n)

  skips : (at : Point) (b : Before) (t : Tree Rule) (e : Exp) →
      after_before b (seen (then_all t (M.Guard e) [] n (and_then (leaf R.GuardKnown) n (last at))))
      ≡ at_bottom again (λ a. seen (last a)) at b (walk_of t) C.Skips (M.Guard e) [] n
  skips at b t e =
      all_seen again last at b t (M.Guard e) [] n (and_then (leaf R.GuardKnown) n (last at))
      ∙ step_seen again last at (led_whole b (walk_of t) (M.Guard e) [] n) R.GuardKnown n (last at)

  by_guard : (at : Point) (b : Before) (t : Tree Rule) (e : Exp) (known : Bool) →
      after_before b
      (seen
      (cond known (then_all t (M.Guard e) [] n (and_then (leaf R.GuardKnown) n (last at)))
      (settled again last at t (M.Guard e) [])))
      ≡ at_bottom again (λ a. seen (last a)) at b (walk_of t) (cond known C.Skips C.Enters) (M.Guard e) [] n
  by_guard at b t e true = skips at b t e
  by_guard at b t e false = settled_seen again last at b t (M.Guard e) []

  pub followed_seen : (m : Mon) (at : Point) (b : Before) (t : Tree Rule) (o : Mon) (xs : List Name) →
      after_before b (seen (followed again last at t o m xs n))
      ≡ seen_followed again (λ a. seen (last a)) at b (walk_of t) o m xs n
  followed_seen (M.Bind a zs c) at b t o xs =
      by (is_bind_ret (M.Bind a zs c) xs n) (all_kept zs xs n)
      (followed_seen c (behind a zs at) Nothing (parted t o c).tree (parted t o c).second xs)
    where
      part : Parted
      part = parted t o c

      k : SeenParted
      k = seen_parted (walk_of t) o c

      seen_part : SeenParted
      seen_part = record { before = walk_of part.before; second = part.second; walk = walk_of part.tree }

      below : Polished
      below = followed again last (behind a zs at) part.tree part.second c xs n

      goes_below : Type 0
      goes_below = seen below ≡ seen_followed again (λ a. seen (last a)) (behind a zs at) Nothing (walk_of part.tree) part.second c xs n

      turns_on : goes_below → after_before b
          (seen (then_all part.before (M.Bind a zs part.second) xs n (turned a zs part.second xs n below (λ r. bound again at a zs r))))
          ≡ seen_raised again at (turn_stage b k a zs xs n)
          (seen_followed again (λ a. seen (last a)) (behind a zs at) Nothing k.walk k.second c xs n)
      turns_on h =
          all_seen again last at b part.before (M.Bind a zs part.second) xs n
          (turned a zs part.second xs n below (λ r. bound again at a zs r))
          ∙ turned_seen again last at (led_whole b (walk_of part.before) (M.Bind a zs part.second) xs n) a zs part.second xs n below
          ∙ ap (seen_raised again at (turn_stage b seen_part a zs xs n))
          h
          ∙ ap
          (λ j. seen_raised again at (turn_stage b j a zs xs n)
          (seen_followed again (λ a. seen (last a)) (behind a zs at) Nothing j.walk j.second c xs n)) (parted_seen t o c)

      by : (whole kept : Bool) → goes_below →
          after_before b
          (seen
          (cond whole (then_all t (M.Bind a zs c) xs n (at_once R.BindRet (M.Bind a zs c)))
          (cond kept
          (then_all part.before (M.Bind a zs part.second) xs n (turned a zs part.second xs n below (λ r. bound again at a zs r)))
          (settled again last at t (M.Bind a zs c) xs))))
          ≡ cond whole (at_bottom again (λ a. seen (last a)) at b (walk_of t) C.Stands (M.Bind a zs c) xs n)
          (cond kept
          (seen_raised again at (turn_stage b k a zs xs n)
          (seen_followed again (λ a. seen (last a)) (behind a zs at) Nothing k.walk k.second c xs n))
          (at_bottom again (λ a. seen (last a)) at b (walk_of t) C.Enters (M.Bind a zs c) xs n))
      by true kept h = all_seen again last at b t (M.Bind a zs c) xs n (at_once R.BindRet (M.Bind a zs c))
      by false true h = turns_on h
      by false false h = settled_seen again last at b t (M.Bind a zs c) xs
  followed_seen (M.Ret es) at b t o xs = puts at b t es xs (first_constant es xs n)
  followed_seen (M.Guard e) at b t o [] = by_guard at b t e (is_known at.facts e)
  followed_seen (M.Guard e) at b t o (x ∷ xs) = settled_seen again last at b t (M.Guard e) (x ∷ xs)
  followed_seen (M.If e l r) at b t o xs = settled_seen again last at b t (M.If e l r) xs
  followed_seen (M.Write p e) at b t o xs = settled_seen again last at b t (M.Write p e) xs
  followed_seen (M.Loop starts guard test l) at b t o xs = settled_seen again last at b t (M.Loop starts guard test l) xs
  followed_seen (M.Call f es) at b t o xs = settled_seen again last at b t (M.Call f es) xs
  followed_seen (M.Pick j) at b t o xs = settled_seen again last at b t (M.Pick j) xs

-- a step down
pub turned_down : (again : Way) (last : Point → Walked) (at : Point) (b : Before) (w : Walk) (o a : Mon) (zs : List Name) (c : Mon)
    (xs : List Name) (n : Mon) → turns (M.Bind a zs c) xs n ≡ true →
    seen_followed again last at b w o (M.Bind a zs c) xs n
    ≡ seen_raised again at (turn_stage b (seen_parted w o c) a zs xs n)
    (seen_followed again last (behind a zs at) Nothing (seen_parted w o c).walk (seen_parted w o c).second c xs n)
turned_down again last at b w o a zs c xs n = by (is_bind_ret (M.Bind a zs c) xs n) (all_kept zs xs n)
  where
    k : SeenParted
    k = seen_parted w o c

    there : Walked
    there = seen_raised again at (turn_stage b k a zs xs n) (seen_followed again last (behind a zs at) Nothing k.walk k.second c xs n)

    by : (whole kept : Bool) → cond whole false kept ≡ true →
        cond whole (at_bottom again last at b w C.Stands (M.Bind a zs c) xs n)
        (cond kept there (at_bottom again last at b w C.Enters (M.Bind a zs c) xs n))
        ≡ there
    by false true h = refl
    by _ _ h = absurd cc

-- the bottom
pub bottom_there : (again : Way) (last : Point → Walked) (at : Point) (b : Before) (w : Walk) (o m : Mon) (xs : List Name)
    (n : Mon) → turns m xs n ≡ false →
    seen_followed again last at b w o m xs n ≡ at_bottom again last at b w (next_of at m xs n) m xs n
bottom_there again last at b w o (M.Bind a zs c) xs n h = by (is_bind_ret (M.Bind a zs c) xs n) (all_kept zs xs n) h
  where
    k : SeenParted
    k = seen_parted w o c

    there : Walked
    there = seen_raised again at (turn_stage b k a zs xs n) (seen_followed again last (behind a zs at) Nothing k.walk k.second c xs n)

    by : (whole kept : Bool) → cond whole false kept ≡ false →
        cond whole (at_bottom again last at b w C.Stands (M.Bind a zs c) xs n)
        (cond kept there (at_bottom again last at b w C.Enters (M.Bind a zs c) xs n))
        ≡ at_bottom again last at b w (cond whole C.Stands (cond kept (C.Turns a zs c) C.Enters)) (M.Bind a zs c) xs n
    by false true h = absurd cc
    by _ _ _ = refl
bottom_there again last at b w o m xs n h = refl

-- a sequence in first place that isn't turned
pub next_unturned : (at : Point) (a : Mon) (zs : List Name) (c : Mon) (xs : List Name) (n : Mon) →
    turns (M.Bind a zs c) xs n ≡ false →
    next_of at (M.Bind a zs c) xs n ≡ cond (is_bind_ret (M.Bind a zs c) xs n) C.Stands C.Enters
next_unturned at a zs c xs n = by (is_bind_ret (M.Bind a zs c) xs n) (all_kept zs xs n)
  where
    by : (whole kept : Bool) → cond whole false kept ≡ false →
        cond whole C.Stands (cond kept (C.Turns a zs c) C.Enters) ≡ cond whole C.Stands C.Enters
    by false true h = absurd cc
    by _ _ _ = refl

-- One stage up

stays_done : (w v : Walk) (m : Mon) → joined_walks (over_bind w v) m stays ≡ over_bind w v
stays_done (Stays ts) v m = by (has_stayed v)
  where
    by : (b : Bool) → joined_walks (cond b stays (Second ts v)) m stays ≡ cond b stays (Second ts v)
    by true = refl
    by false = refl
stays_done _ _ _ = refl

module _ (again : Way) (at : Point) (v : Stage) (q : Walked) where
  raised_by : seen_raised again at v q
      ≡ after_before v.before
      (then_walked (over_bind v.walk q.walk) (M.Bind v.first v.names q.program)
      (seen (stepped again at (settling_of v.first v.names q.program) v.first v.names q.program)))
  raised_by =
      ap (λ p. after_before v.before (then_walked (over_bind v.walk q.walk) (M.Bind v.first v.names q.program) (seen p)))
      (bound_stepped again at v.first v.names q.program)

  pub raised_stays : settling_of v.first v.names q.program ≡ S.Stays →
      seen_raised again at v q
      ≡ after_before v.before (walked (M.Bind v.first v.names q.program) (over_bind v.walk q.walk))
  raised_stays h =
      raised_by
      ∙ ap
      (λ s. after_before v.before
      (then_walked (over_bind v.walk q.walk) (M.Bind v.first v.names q.program) (seen (stepped again at s v.first v.names q.program))))
      h
      ∙ ap (λ w. after_before v.before (walked (M.Bind v.first v.names q.program) w))
      (stays_done v.walk q.walk (M.Bind v.first v.names q.program))

  pub raised_steps : seen_raised again at v q
      ≡ after_before (and_led v.before (over_bind v.walk q.walk) (M.Bind v.first v.names q.program))
      (seen (stepped again at (settling_of v.first v.names q.program) v.first v.names q.program))
  raised_steps =
      raised_by
      ∙ sym
      (after_led v.before (over_bind v.walk q.walk) (M.Bind v.first v.names q.program)
      (seen (stepped again at (settling_of v.first v.names q.program) v.first v.names q.program)))
