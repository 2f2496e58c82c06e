-- The loops down and back, as the code makes them.
use Rattle.std.proofs.Common.{◌≡◌, ℕ, ◌<◌, ◌≤◌, Bool, true, false, cond, List, [], ◌∷◌, refl, sym, ap, ap₂, ◌∙◌, subst, arith}
use Rattle.c_values.specs.Name.{Name}
use Rattle.ac_expr.specs.Fact.{Fact}
use Rattle.monad_lang.specs.Program as M
use Rattle.monad_lang.specs.Program.{Mon}
use Rattle.monad_lang.specs.CodeProgram.{mon_of}
use Rattle.monad_lang.specs.Form.{is_bind_ret, all_kept}
use Rattle.rule_eq.specs.Rule as R
use Rattle.rule_eq.specs.Rule.{Point}
use Rattle.rule_eq.specs.Table.{behind}
use Rattle.rule_walks.specs.Walk.{Walk, stays, one_walk, Walked, Before, Nothing, after_before, and_led}
use Rattle.rule_walks.specs.CodeWalks.{walk_in, before_in, made_in}
use Rattle.rule_walks.specs.declared.walks.Ahead as A
use Rattle.rule_walks.specs.declared.walks.Walked as P
use Rattle.expression_steps.specs.declared.points.Scoped as N
use Rattle.given_scalars.specs.declared.unit.Unit as U
use Rattle.polish.specs.declared.descent.Level as L
use Rattle.polish.specs.declared.descent.Descent as D
use Rattle.polish.specs.declared.entering.Next as X
use Rattle.polish.specs.declared.following.Here as H
use Rattle.polish.specs.declared.following.Bottom as B
use Rattle.polish.specs.declared.following.Followed as W
use Rattle.polish.specs.Polished.{Polished, leaf, at_once, unchanged, bound, polished, turned}
use Rattle.polish.specs.Climbed as C
use Rattle.polish.specs.Climbed.{Next, next_of}
use Rattle.polish.specs.CodeNext as S
use Rattle.polish.specs.CodeNext.{Settling, settling_of, stepped}
use Rattle.polish.specs.Seen.{seen, SeenParted, seen_parted}
use Rattle.polish.specs.Descent.{seen_raised, seen_climbed}
use Rattle.polish.specs.SeenFollowed.{led_whole, stage, turn_stage, at_bottom, seen_followed, turns}
use Rattle.polish.specs.Weight.{weight}
use Rattle.polish.specs.CodeNextView.{next_in}
use Rattle.polish.specs.CodeDescent.{point_past, stages_in, IsKept, up_from, rebuilt, IsDeeper}
use Rattle.polish.specs.Followed.{leads, heavy, LeadsOn, ending, IsBottom, IsFollowed, IsTurned, IsOnward}
use Rattle.polish.proofs.Unfolded.{of_sequence}
use Rattle.polish.proofs.Nexts.{bound_stepped}
use Rattle.polish.proofs.Descending.{turned_seen}
use Rattle.polish.proofs.FollowedSeen.{followed_seen, turned_down, bottom_there}
use Rattle.polish.proofs.Weighed.{sequence_lighter, polished_lighter}
use Rattle.polish.proofs.Lightened.{program_after, puts_lighter}
use Rattle.polish.proofs.Deeper.{rebuilt_lighter, at_bottom_lighter, none_kept}

module _ (u : U.Unit) (scope : N.Scoped) where
  -- Down a sequence whose first part is tidy

  module _ (xs : List Name) (n : Mon) where
    pub here_first : (h : H.Here) → IsKept u scope h.down → LeadsOn u scope xs n h h
    here_first h k = record { kept = k; same = λ fs. refl; lighter = omega arith }

    pub and_further : (g h i : H.Here) → LeadsOn u scope xs n g h → LeadsOn u scope xs n h i → LeadsOn u scope xs n g i
    and_further g h i a b = record {
      kept = b.kept;
      same = λ fs. b.same fs ∙ a.same fs;
      lighter = omega (arith, a.lighter, b.lighter);
    }

    pub once_turned : (from to : H.Here) (a : Mon) (zs : List Name) (c : Mon) → mon_of from.first.now ≡ M.Bind a zs c →
        turns (mon_of from.first.now) xs n ≡ true →
        IsDeeper u scope from.down (turn_stage (before_in from.ahead) (seen_parted (walk_in from.walk) (mon_of from.raw.now) c) a zs xs n)
        to.down →
        before_in to.ahead ≡ Nothing →
        walk_in to.walk ≡ (seen_parted (walk_in from.walk) (mon_of from.raw.now) c).walk →
        mon_of to.raw.now ≡ (seen_parted (walk_in from.walk) (mon_of from.raw.now) c).second → mon_of to.first.now ≡ c →
        LeadsOn u scope xs n from to
    once_turned from to a zs c e t d b w o f =
        let k = seen_parted (walk_in from.walk) (mon_of from.raw.now) c in
        record {
          kept = d.kept;
          same = λ fs.
              let at = point_past u scope fs from.down.parts.items in
              let under = point_past u scope fs to.down.parts.items in
              ap
              (λ j. up_from u scope fs to.down
              (seen_followed polished (λ a. seen (polished a n)) under j (walk_in to.walk) (mon_of to.raw.now) (mon_of to.first.now) xs n)) b
              ∙ ap₂
              (λ v r. up_from u scope fs to.down
              (seen_followed polished (λ a. seen (polished a n)) under Nothing v r (mon_of to.first.now) xs n)) w o
              ∙ ap
              (λ m. up_from u scope fs to.down
              (seen_followed polished (λ a. seen (polished a n)) under Nothing k.walk k.second m xs n)) f
              ∙ d.climbs fs (seen_followed polished (λ a. seen (polished a n)) under Nothing k.walk k.second c xs n)
              ∙ ap
              (λ p. up_from u scope fs from.down
              (seen_raised polished at (turn_stage (before_in from.ahead) k a zs xs n)
              (seen_followed polished (λ a. seen (polished a n)) p Nothing k.walk k.second c xs n))) (d.point fs)
              ∙ ap (λ s. up_from u scope fs from.down s)
              (sym
              (turned_down polished (λ a. seen (polished a n)) at (before_in from.ahead) (walk_in from.walk) (mon_of from.raw.now) a zs c xs
              n (subst (λ m. turns m xs n ≡ true) e t)))
              ∙ ap
              (λ m. up_from u scope fs from.down
              (seen_followed polished (λ a. seen (polished a n)) at (before_in from.ahead) (walk_in from.walk) (mon_of from.raw.now) m xs n))
              (sym e);
          lighter =
              omega (
                arith,
                ap (λ m. weight (rebuilt to.down.parts.items (M.Bind m xs n))) f,
                ap weight (d.whole (M.Bind c xs n)),
                ap (λ m. weight (rebuilt from.down.parts.items (M.Bind m xs n))) e,
                rebuilt_lighter from.down.parts.items (M.Bind a zs (M.Bind c xs n)) (M.Bind (M.Bind a zs c) xs n) (omega arith),
              );
        }

    -- by the level and the part that the code pushes
    pub turned_by : (from to : H.Here) (v : L.Level) (k : SeenParted) (a : Mon) (zs : List Name) (c : Mon) →
        mon_of from.first.now ≡ M.Bind a zs c → turns (mon_of from.first.now) xs n ≡ true →
        k ≡ seen_parted (walk_in from.walk) (mon_of from.raw.now) c →
        before_in v.before ≡ (turn_stage (before_in from.ahead) k a zs xs n).before → walk_in v.walk ≡ stays →
        IsDeeper u scope from.down (stage (before_in v.before) (walk_in v.walk) a zs) to.down →
        before_in to.ahead ≡ Nothing → walk_in to.walk ≡ k.walk → mon_of to.raw.now ≡ k.second → mon_of to.first.now ≡ c →
        LeadsOn u scope xs n from to
    turned_by from to v k a zs c e t i f g d b w o h =
        once_turned from to a zs c e t
        (subst (λ j. IsDeeper u scope from.down (turn_stage (before_in from.ahead) j a zs xs n) to.down) i
        (subst (λ s. IsDeeper u scope from.down s to.down) (ap₂ (λ p q. stage p q a zs) f g) d))
        b (w ∙ ap (λ j. j.walk) i) (o ∙ ap (λ j. j.second) i) h

    pub bottom_reached : (fs : List Fact) (from h : H.Here) (next : X.Next) → LeadsOn u scope xs n from h →
        turns (mon_of h.first.now) xs n ≡ false →
        next_in next ≡ next_of (point_past u scope fs h.down.parts.items) (mon_of h.first.now) xs n →
        IsBottom u scope fs xs n from (record { here = h; next = next })
    bottom_reached fs from h next l t e = record {
      kept = l.kept;
      same =
          ap (λ j. ending u scope fs xs n h j) e
          ∙ ap (λ s. up_from u scope fs h.down s)
          (sym
          (bottom_there polished (λ a. seen (polished a n)) (point_past u scope fs h.down.parts.items) (before_in h.ahead)
          (walk_in h.walk) (mon_of h.raw.now) (mon_of h.first.now) xs n t))
          ∙ l.same fs;
      lighter = l.lighter;
    }

    pub followed_on : (fs : List Fact) (from : H.Here) (b : B.Bottom) (f : W.Followed) → IsBottom u scope fs xs n from b →
        IsFollowed u scope fs n (ending u scope fs xs n b.here (next_in b.next)) (heavy xs n b.here) f →
        IsFollowed u scope fs n (leads u scope fs xs n from) (heavy xs n from) f
    followed_on fs from b f i j = record {
      kept = j.kept;
      same = j.same ∙ i.same;
      lighter = omega (arith, i.lighter, j.lighter);
    }

    -- What is done at the bottom

    module _ (fs : List Fact) (d : D.Descent) (b : Before) (w : Walk) (m : Mon) where
      abbrev there : Next → Walked
      there next =
          up_from u scope fs d
          (at_bottom polished (λ a. seen (polished a n)) (point_past u scope fs d.parts.items) b w next m xs n)

      abbrev most : ℕ
      most = weight (rebuilt d.parts.items (M.Bind m xs n))

      pub enters_done : (e : D.Descent) → IsDeeper u scope d (stage b w m xs) e →
          IsFollowed u scope fs n (there C.Enters) most (W.TheVariants.Goes e A.TheVariants.Stayed)
      enters_done e i = record {
        kept = i.kept;
        same =
            i.climbs fs (seen (polished (point_past u scope fs e.parts.items) n))
            ∙ ap
            (λ at. up_from u scope fs d
            (seen_raised polished (point_past u scope fs d.parts.items) (stage b w m xs) (seen (polished at n))))
            (i.point fs);
        lighter = omega (arith, ap weight (i.whole n));
      }

      pub skips_done : (a : A.Ahead) → IsKept u scope d →
          before_in a ≡ and_led (led_whole b w m xs n) (one_walk (leaf R.GuardKnown)) n →
          IsFollowed u scope fs n (there C.Skips) most (W.TheVariants.Goes d a)
      skips_done a k e = record {
        kept = k;
        same =
            ap (λ c. up_from u scope fs d (after_before c (seen (polished (point_past u scope fs d.parts.items) n)))) e;
        lighter = rebuilt_lighter d.parts.items n (M.Bind m xs n) (omega arith);
      }

      pub stands_done : (p : P.Walked) → IsKept u scope d →
          made_in p ≡ after_before (led_whole b w m xs n) (seen (at_once R.BindRet m)) →
          IsFollowed u scope fs n (there C.Stands) most (W.TheVariants.Ends d p)
      stands_done p k e = record {
        kept = k;
        same = ap (λ s. up_from u scope fs d s) e;
        lighter =
            rebuilt_lighter d.parts.items (mon_of p.program.value) (M.Bind m xs n)
            (omega (
              arith,
              ap (λ s. weight s.program) e,
              ap weight (program_after (led_whole b w m xs n) (seen (at_once R.BindRet m))),
            ));
      }

      pub puts_done : (i : ℕ) (a : A.Ahead) (q p : P.Walked) → IsKept u scope d → before_in a ≡ led_whole b w m xs n →
          made_in q ≡ seen (stepped polished (point_past u scope fs d.parts.items) (S.Puts i) m xs n) →
          made_in p ≡ after_before (before_in a) (made_in q) →
          IsFollowed u scope fs n (there (C.Puts i)) most (W.TheVariants.Ends d p)
      puts_done i a q p k e f g =
          let s = seen (stepped polished (point_past u scope fs d.parts.items) (S.Puts i) m xs n) in
          let h : made_in p ≡ after_before (led_whole b w m xs n) s = g ∙ ap₂ (λ c r. after_before c r) e f in
          record {
            kept = k;
            same = ap (λ s. up_from u scope fs d s) h;
            lighter =
                rebuilt_lighter d.parts.items (mon_of p.program.value) (M.Bind m xs n)
                (omega (
                  arith,
                  ap (λ s. weight s.program) h,
                  ap weight (program_after (led_whole b w m xs n) s),
                  puts_lighter (point_past u scope fs d.parts.items) i m xs n,
                ));
          }

    -- Sequences in first place that are turned

    bound_turns : (at : Point) (a : Mon) (zs : List Name) (c : Mon) → turns (M.Bind a zs c) xs n ≡ true →
        bound polished at (M.Bind a zs c) xs n
        ≡ turned a zs c xs n (bound polished (behind a zs at) c xs n) (λ r. bound polished at a zs r)
    bound_turns at a zs c = by (is_bind_ret (M.Bind a zs c) xs n) (all_kept zs xs n)
      where
        t : Polished
        t = turned a zs c xs n (bound polished (behind a zs at) c xs n) (λ r. bound polished at a zs r)

        by : (whole kept : Bool) → cond whole false kept ≡ true →
            cond whole (at_once R.BindRet (M.Bind a zs c)) (cond kept t (unchanged (M.Bind (M.Bind a zs c) xs n))) ≡ t
        by false true h = refl
        by _ _ h = absurd cc

    pub turned_first : (none d : D.Descent) (a : Mon) (zs : List Name) (c : Mon) → none.levels.items ≡ [] → none.parts.items ≡ [] →
        IsDeeper u scope none
        (stage (and_led Nothing (one_walk (leaf R.Assoc)) (M.Bind a zs (M.Bind c xs n))) stays a zs) d →
        IsTurned u scope xs n a zs c d c
    turned_first none d a zs c f g i =
        let v = stage (and_led Nothing (one_walk (leaf R.Assoc)) (M.Bind a zs (M.Bind c xs n))) stays a zs in
        record {
          kept = i.kept;
          same = λ fs.
              let root = point_past u scope fs [] in
              i.climbs fs (seen (bound polished (point_past u scope fs d.parts.items) c xs n))
              ∙ ap
              (λ at. up_from u scope fs none (seen_raised polished (point_past u scope fs none.parts.items) v (seen (bound polished at c xs n))))
              (i.point fs)
              ∙ nothing_passed fs none.levels.items none.parts.items f g
              (λ at. seen_raised polished at v (seen (bound polished (behind a zs at) c xs n)))
              ∙ sym
              (turned_seen polished (λ at. polished at n) root Nothing a zs c xs n (bound polished (behind a zs root) c xs n));
          lighter =
              omega (
                arith,
                ap weight (i.whole (M.Bind c xs n)),
                ap (λ ps. weight (rebuilt ps (M.Bind a zs (M.Bind c xs n)))) g,
              );
        }
      where
        nothing_passed : (fs : List Fact) (vs : _) (ps : _) → vs ≡ [] → ps ≡ [] → (s : Point → Walked) →
            seen_climbed polished (point_past u scope fs []) (stages_in vs ps) (s (point_past u scope fs ps))
            ≡ s (point_past u scope fs [])
        nothing_passed fs [] [] f g s = refl
        nothing_passed fs vs (p ∷ ps) f g s = absurd cc
        nothing_passed fs (v ∷ vs) ps f g s = absurd cc

    pub turned_more : (d e : D.Descent) (a : Mon) (zs : List Name) (c m a' : Mon) (zs' : List Name) (c' : Mon) →
        IsTurned u scope xs n a zs c d m → m ≡ M.Bind a' zs' c' → turns m xs n ≡ true →
        IsDeeper u scope d
        (stage (and_led Nothing (one_walk (leaf R.Assoc)) (M.Bind a' zs' (M.Bind c' xs n))) stays a' zs') e →
        IsTurned u scope xs n a zs c e c'
    turned_more d e a zs c m a' zs' c' t h k i =
        let v = stage (and_led Nothing (one_walk (leaf R.Assoc)) (M.Bind a' zs' (M.Bind c' xs n))) stays a' zs' in
        record {
          kept = i.kept;
          same = λ fs.
              let at = point_past u scope fs d.parts.items in
              i.climbs fs (seen (bound polished (point_past u scope fs e.parts.items) c' xs n))
              ∙ ap (λ p. up_from u scope fs d (seen_raised polished at v (seen (bound polished p c' xs n)))) (i.point fs)
              ∙ ap (λ s. up_from u scope fs d s)
              (sym (turned_seen polished (λ at. polished at n) at Nothing a' zs' c' xs n (bound polished (behind a' zs' at) c' xs n)))
              ∙ ap (λ p. up_from u scope fs d (seen p)) (sym (bound_turns at a' zs' c' (subst (λ q. turns q xs n ≡ true) h k)))
              ∙ ap (λ q. up_from u scope fs d (seen (bound polished at q xs n))) (sym h)
              ∙ t.same fs;
          lighter =
              omega (
                arith,
                t.lighter,
                ap (λ q. weight (rebuilt d.parts.items (M.Bind q xs n))) h,
                ap weight (i.whole (M.Bind c' xs n)),
                rebuilt_lighter d.parts.items (M.Bind a' zs' (M.Bind c' xs n)) (M.Bind (M.Bind a' zs' c') xs n) (omega arith),
              );
        }

    module _ (fs : List Fact) (d : D.Descent) (a : Mon) (zs : List Name) (c m : Mon) (t : IsTurned u scope xs n a zs c d m)
        (next : Settling) (p : Walked) (e : next ≡ settling_of m xs n)
        (f : p ≡ seen (stepped polished (point_past u scope fs d.parts.items) next m xs n)) where
      is_bound : p ≡ seen (bound polished (point_past u scope fs d.parts.items) m xs n)
      is_bound =
          f ∙ ap (λ s. seen (stepped polished (point_past u scope fs d.parts.items) s m xs n)) e
          ∙ sym (ap seen (bound_stepped polished (point_past u scope fs d.parts.items) m xs n))

      pub turned_made : up_from u scope fs d p
          ≡ seen
          (turned a zs c xs n (bound polished (behind a zs (point_past u scope fs [])) c xs n)
          (λ r. bound polished (point_past u scope fs []) a zs r))
      turned_made = ap (λ s. up_from u scope fs d s) is_bound ∙ t.same fs

      pub bottom_lighter : weight (rebuilt d.parts.items p.program) < weight (M.Bind (M.Bind a zs c) xs n)
      bottom_lighter =
          omega (
            arith,
            t.lighter,
            rebuilt_lighter d.parts.items p.program (M.Bind m xs n)
                (omega (
                  arith,
                  ap (λ s. weight s.program) is_bound,
                  sequence_lighter polished polished_lighter (point_past u scope fs d.parts.items) m xs n,
                )),
          )

  -- Along a program

  module _ (fs : List Fact) (m : Mon) where
    pub onward_first : (d : D.Descent) → d.levels.items ≡ [] → d.parts.items ≡ [] → IsOnward u scope fs m d Nothing m
    onward_first d f g = record {
      kept = none_kept u scope d f g;
      same = nothing_passed d.levels.items d.parts.items f g;
      lighter = omega (arith, ap (λ ps. weight (rebuilt ps m)) g);
    }
      where
        nothing_passed : (vs : _) (ps : _) → vs ≡ [] → ps ≡ [] →
            seen_climbed polished (point_past u scope fs []) (stages_in vs ps) (seen (polished (point_past u scope fs ps) m))
            ≡ seen (polished (point_past u scope fs []) m)
        nothing_passed [] [] f g = refl
        nothing_passed vs (p ∷ ps) f g = absurd cc
        nothing_passed (v ∷ vs) ps f g = absurd cc

    module _ (d : D.Descent) (b : Before) (r : Mon) (o : IsOnward u scope fs m d b r) where
      pub rest_lighter : weight r ≤ weight m
      rest_lighter = omega (arith, o.lighter, at_bottom_lighter d.parts.items r)

      module _ (p q : Walked) (e : p ≡ seen (polished (point_past u scope fs d.parts.items) r)) (f : q ≡ after_before b p) where
        pub onward_last : up_from u scope fs d q ≡ seen (polished (point_past u scope fs []) m)
        onward_last = ap (λ s. up_from u scope fs d s) (f ∙ ap (λ s. after_before b s) e) ∙ o.same

        pub last_lighter : weight (rebuilt d.parts.items q.program) ≤ weight m
        last_lighter =
            omega (
              arith,
              o.lighter,
              rebuilt_lighter d.parts.items q.program r
                  (omega (
                    arith,
                    ap (λ s. weight s.program) f,
                    ap weight (program_after b p),
                    ap (λ s. weight s.program) e,
                    polished_lighter (point_past u scope fs d.parts.items) r,
                  )),
            )

      module _ (x : Mon) (xs : List Name) (n : Mon) (q : Walked) (h : r ≡ M.Bind x xs n)
          (e : q ≡ seen (polished (point_past u scope fs d.parts.items) x)) where
        pub part_lighter : weight x < weight m
        part_lighter = omega (arith, rest_lighter, ap weight h)

        pub sequence_most : weight (rebuilt d.parts.items (M.Bind q.program xs n)) ≤ weight m
        sequence_most =
            omega (
              arith,
              o.lighter,
              ap (λ a. weight (rebuilt d.parts.items a)) h,
              rebuilt_lighter d.parts.items (M.Bind q.program xs n) (M.Bind x xs n)
                  (omega (arith, ap (λ s. weight s.program) e, polished_lighter (point_past u scope fs d.parts.items) x)),
            )

        followed_same : up_from u scope fs d
            (seen_followed polished (λ a. seen (polished a n)) (point_past u scope fs d.parts.items) b q.walk x q.program xs n)
            ≡ seen (polished (point_past u scope fs []) m)
        followed_same =
            let at = point_past u scope fs d.parts.items in
            let p = polished at x in
            ap
            (λ s. up_from u scope fs d (seen_followed polished (λ a. seen (polished a n)) at b s.walk x s.program xs n)) e
            ∙ ap (λ s. up_from u scope fs d s) (sym (followed_seen polished (λ a. polished a n) n p.program at b p.tree x xs))
            ∙ ap (λ s. up_from u scope fs d (after_before b (seen s))) (sym (of_sequence at x xs n))
            ∙ ap (λ a. up_from u scope fs d (after_before b (seen (polished at a)))) (sym h)
            ∙ o.same

        abbrev goes_to : W.Followed → Type 0
        goes_to f =
            IsFollowed u scope fs n
            (up_from u scope fs d
            (seen_followed polished (λ a. seen (polished a n)) (point_past u scope fs d.parts.items) b q.walk x q.program xs n))
            (weight (rebuilt d.parts.items (M.Bind q.program xs n))) f

        pub onward_more : (e' : D.Descent) (a : A.Ahead) → goes_to (W.TheVariants.Goes e' a) →
            IsOnward u scope fs m e' (before_in a) n
        onward_more e' a g = record {
          kept = g.kept;
          same = g.same ∙ followed_same;
          lighter = omega (arith, g.lighter, sequence_most);
        }

        pub onward_ends : (e' : D.Descent) (p : P.Walked) → goes_to (W.TheVariants.Ends e' p) →
            up_from u scope fs e' (made_in p) ≡ seen (polished (point_past u scope fs []) m)
        onward_ends e' p g = g.same ∙ followed_same

        pub ends_lighter : (e' : D.Descent) (p : P.Walked) → goes_to (W.TheVariants.Ends e' p) →
            weight (rebuilt e'.parts.items (mon_of p.program.value)) ≤ weight m
        ends_lighter e' p g = omega (arith, g.lighter, sequence_most)
