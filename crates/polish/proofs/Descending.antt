-- The loops down a program and back, with what is kept of trees: what was done before is added to at its end, and each step down a
-- sequence leaves the same to be done.
use Rattle.std.proofs.Common.{◌≡◌, Bool, true, false, cond, List, [], ◌∷◌, ◌++◌, refl, sym, ap, ap₂, ◌∙◌}
use Rattle.c_values.specs.Name.{Name}
use Rattle.monad_lang.specs.Program as M
use Rattle.monad_lang.specs.Program.{Mon}
use Rattle.rule_trees.specs.RuleTree.{Tree}
use Rattle.rule_eq.specs.Rule as R
use Rattle.rule_eq.specs.Rule.{Rule, Point}
use Rattle.rule_eq.specs.Table.{behind}
use Rattle.rule_walks.specs.Balanced.{chained}
use Rattle.rule_walks.specs.Walk.{Walk, Goes, walk_of, stays, one_walk, has_stayed, steps_in, joined_walks, over_bind, Walked, walked, then_walked, Before, Nothing, Led, after_before, and_led}
use Rattle.polish.specs.Polished.{Polished, Way, leaf, bind_tree, and_then, turned, bound, then_all, settled}
use Rattle.polish.specs.Seen.{seen}
use Rattle.polish.specs.Descent.{Stage, below, seen_raised, seen_climbed}
use Rattle.polish.proofs.Walks.{chained_on, walk_bind, seen_then}

-- What was done before, and then more

joined_on : (v : Walk) (n : Mon) (w : Walk) (m : Mon) (u : Walk) → has_stayed w ≡ false →
    joined_walks (joined_walks v n w) m u ≡ joined_walks v n (joined_walks w m u)
joined_on v n w m u h = by (has_stayed v) refl (has_stayed u) refl
  where
    by : (a : Bool) → has_stayed v ≡ a → (b : Bool) → has_stayed u ≡ b →
        joined_walks (joined_walks v n w) m u ≡ joined_walks v n (joined_walks w m u)
    by true i b j =
        ap (λ c. joined_walks (cond c w (cond (has_stayed w) v (Goes (chained (steps_in v) n (steps_in w))))) m u) i
        ∙ sym (ap (λ c. cond c (joined_walks w m u)
        (cond (has_stayed (joined_walks w m u)) v (Goes (chained (steps_in v) n (steps_in (joined_walks w m u)))))) i)
    by false i true j =
        last_stays (joined_walks v n w) (both_go v n w i h) j ∙ ap (λ q. joined_walks v n q) (sym (last_stays w h j))
      where
        last_stays : (q : Walk) → has_stayed q ≡ false → has_stayed u ≡ true → joined_walks q m u ≡ q
        last_stays q k l = ap₂ (λ c d. cond c u (cond d q (Goes (chained (steps_in q) m (steps_in u))))) k l

        both_go : (v : Walk) (n : Mon) (w : Walk) → has_stayed v ≡ false → has_stayed w ≡ false →
            has_stayed (joined_walks v n w) ≡ false
        both_go v n w k l = ap₂ (λ c d. has_stayed (cond c w (cond d v (Goes (chained (steps_in v) n (steps_in w)))))) k l
    by false i false j =
        ap (λ q. joined_walks q m u) (go v n w i h) ∙ go (Goes (chained (steps_in v) n (steps_in w))) m u refl j
        ∙ ap Goes (sym (chained_on (steps_in v) (steps_in w) (steps_in u) n m))
        ∙ sym (go v n (Goes (chained (steps_in w) m (steps_in u))) i refl) ∙ ap (λ q. joined_walks v n q) (sym (go w m u h j))
      where
        go : (a : Walk) (k : Mon) (b : Walk) → has_stayed a ≡ false → has_stayed b ≡ false →
            joined_walks a k b ≡ Goes (chained (steps_in a) k (steps_in b))
        go a k b p q = ap₂ (λ c d. cond c b (cond d a (Goes (chained (steps_in a) k (steps_in b))))) p q

pub after_led : (b : Before) (w : Walk) (m : Mon) (s : Walked) → after_before (and_led b w m) s ≡ after_before b (then_walked w m s)
after_led Nothing w m s = by (has_stayed w) refl
  where
    by : (c : Bool) → has_stayed w ≡ c → after_before (cond (has_stayed w) Nothing (Led w m)) s ≡ then_walked w m s
    by true h =
        ap (λ c. after_before (cond c Nothing (Led w m)) s) h
        ∙ sym (ap (λ c. walked s.program
        (cond c s.walk (cond (has_stayed s.walk) w (Goes (chained (steps_in w) m (steps_in s.walk)))))) h)
    by false h = ap (λ c. after_before (cond c Nothing (Led w m)) s) h
after_led (Led v n) w m s = by (has_stayed w) refl
  where
    by : (c : Bool) → has_stayed w ≡ c →
        after_before (cond (has_stayed w) (Led v n) (Led (joined_walks v n w) m)) s ≡ then_walked v n (then_walked w m s)
    by true h =
        ap (λ c. after_before (cond c (Led v n) (Led (joined_walks v n w) m)) s) h
        ∙ sym (ap (λ c. then_walked v n (walked s.program
        (cond c s.walk (cond (has_stayed s.walk) w (Goes (chained (steps_in w) m (steps_in s.walk))))))) h)
    by false h =
        ap (λ c. after_before (cond c (Led v n) (Led (joined_walks v n w) m)) s) h
        ∙ ap (λ q. walked s.program q) (joined_on v n w m s.walk h)

-- Coming back, what was pushed at the end is done first.

pub climbed_push : (again : Way) (vs : List Stage) (v : Stage) (at : Point) (s : Walked) →
    seen_climbed again at (vs ++ (v ∷ [])) s ≡ seen_climbed again at vs (seen_raised again (below vs at) v s)
climbed_push again [] v at s = refl
climbed_push again (w ∷ vs) v at s = ap (λ q. seen_raised again at w q) (climbed_push again vs v (behind w.first w.names at) s)

-- Steps down

module _ (again : Way) (last : Point → Polished) (at : Point) (b : Before) where
  pub settled_seen : (t : Tree Rule) (m : Mon) (xs : List Name) →
      after_before b (seen (settled again last at t m xs))
      ≡ seen_raised again at (record { before = b; walk = walk_of t; first = m; names = xs }) (seen (last (behind m xs at)))
  settled_seen t m xs =
      let q = last (behind m xs at) in
      ap (after_before b)
      (seen_then (bind_tree t q.tree) (M.Bind m xs q.program) (bound again at m xs q.program)
      ∙ ap (λ w. then_walked w (M.Bind m xs q.program) (seen (bound again at m xs q.program))) (walk_bind q.tree t))

  pub all_seen : (t : Tree Rule) (m : Mon) (xs : List Name) (n : Mon) (p : Polished) →
      after_before b (seen (then_all t m xs n p))
      ≡ after_before (and_led b (over_bind (walk_of t) stays) (M.Bind m xs n)) (seen p)
  all_seen t m xs n p =
      ap (after_before b)
      (seen_then (bind_tree t (leaf R.Refl)) (M.Bind m xs n) p
      ∙ ap (λ w. then_walked w (M.Bind m xs n) (seen p)) (walk_bind (leaf R.Refl) t))
      ∙ sym (after_led b (over_bind (walk_of t) stays) (M.Bind m xs n) (seen p))

  pub step_seen : (rule : Rule) (m : Mon) (p : Polished) →
      after_before b (seen (and_then (leaf rule) m p)) ≡ after_before (and_led b (walk_of (leaf rule)) m) (seen p)
  step_seen rule m p =
      ap (after_before b) (seen_then (leaf rule) m p) ∙ sym (after_led b (walk_of (leaf rule)) m (seen p))

  pub turned_seen : (a : Mon) (zs : List Name) (c : Mon) (xs : List Name) (n : Mon) (r : Polished) →
      after_before b (seen (turned a zs c xs n r (λ q. bound again at a zs q)))
      ≡ seen_raised again at
      (record { before = and_led b (one_walk (leaf R.Assoc)) (M.Bind a zs (M.Bind c xs n)); walk = stays; first = a; names = zs })
      (seen r)
  turned_seen a zs c xs n r =
      let q = bound again at a zs r.program in
      step_seen R.Assoc (M.Bind a zs (M.Bind c xs n)) (and_then (bind_tree (leaf R.Refl) r.tree) (M.Bind a zs r.program) q)
      ∙ ap (after_before (and_led b (one_walk (leaf R.Assoc)) (M.Bind a zs (M.Bind c xs n))))
      (seen_then (bind_tree (leaf R.Refl) r.tree) (M.Bind a zs r.program) q
      ∙ ap (λ w. then_walked w (M.Bind a zs r.program) (seen q)) (walk_bind r.tree (leaf R.Refl)))
