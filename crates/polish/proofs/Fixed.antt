-- How many values can be put in at most doesn't matter, from the names that are bound on: so what is made tidy is made tidy by
-- itself, where a value was put in, too.
use Rattle.std.proofs.Common.{◌≡◌, ℕ, zero, suc, ◌+◌, ◌<◌, ◌≤◌, true, false, cond, List, [], ◌∷◌, length, Option, Some, None, refl, sym, ap, ap₂, ◌∙◌, arith}
use Rattle.c_values.specs.Name.{Name}
use Rattle.expression_lang.specs.Expression.{Exp, TruthLit}
use Rattle.ac_expr.specs.Fact.{Whole, NotTrue}
use Rattle.monad_lang.specs.Program as M
use Rattle.monad_lang.specs.Program.{Mon}
use Rattle.monad_lang.specs.Form.{is_bind_ret, all_kept, is_tidy}
use Rattle.program_facts.specs.Substituted.{program_substituted}
use Rattle.rule_trees.specs.RuleTree.{Tree}
use Rattle.rule_eq.specs.Rule as R
use Rattle.rule_eq.specs.Rule.{Rule, Point}
use Rattle.rule_eq.specs.Table.{Taken, taken_at, with_values, knowing, behind, within}
use Rattle.expression_steps.specs.Known.{is_known}
use Rattle.polish.specs.Polished.{Polished, Way, leaf, bind_tree, if_tree, loop_tree, unchanged, at_once, and_then, shortened_in, first_put, first_constant, put_taken, put_at, turned, or_shorter, bound, then_all, settled, put_or_settled, parted, followed, chosen, turning, polished_with, polished_within, positions, polished}
use Rattle.polish.proofs.MadeTidy.{Tidied, positions_put, with_positions, one_fewer, tidy_parts, bound_made, followed_made, polished_made, within_made}

-- what a value was put into binds fewer names
put_fewer : (es : List Exp) (xs : List Name) (n : Mon) (i : ℕ) (k : Taken) → taken_at i es xs ≡ Some k →
    positions (with_values k.exps k.names (program_substituted k.name k.exp n)) < length xs + positions n
put_fewer es xs n i k h =
    let a = with_positions k.exps k.names (program_substituted k.name k.exp n) in
    let b = positions_put k.name k.exp n in
    let c = one_fewer i es xs k h in
    omega (arith, a, b, c)

module _ (again other : Way) (k : ℕ)
    (tidies : (at : Point) (m : Mon) → positions m < k → Tidied (again at m).program (positions m))
    (same : (at : Point) (m : Mon) → positions m < k → again at m ≡ other at m) where
  taken_same : (at : Point) (es : List Exp) (xs : List Name) (n : Mon) (i : ℕ) → length xs + positions n ≤ k →
      (o : Option Taken) →
      taken_at i es xs ≡ o →
      put_taken again at (M.Bind (M.Ret es) xs n) i n o ≡ put_taken other at (M.Bind (M.Ret es) xs n) i n o
  taken_same at es xs n i few None h = refl
  taken_same at es xs n i few (Some t) h =
      let p = with_values t.exps t.names (program_substituted t.name t.exp n) in
      ap (λ q. and_then (leaf (R.RetOne i)) p q) (same at p (omega (arith, put_fewer es xs n i t h, few)))

  at_same : (at : Point) (es : List Exp) (xs : List Name) (n : Mon) → length xs + positions n ≤ k → (o : Option ℕ) →
      put_at again at es xs n o ≡ put_at other at es xs n o
  at_same at es xs n few None = refl
  at_same at es xs n few (Some i) = taken_same at es xs n i few (taken_at i es xs) refl

  turned_same : (at : Point) (a : Mon) (zs : List Name) (b : Mon) (xs : List Name) (n : Mon) (r r' : Polished) → r ≡ r' →
      bound again at a zs r.program ≡ bound other at a zs r.program →
      turned a zs b xs n r (λ s. bound again at a zs s) ≡ turned a zs b xs n r' (λ s. bound other at a zs s)
  turned_same at a zs b xs n r r' e h =
      ap (λ q. and_then (leaf R.Assoc) (M.Bind a zs (M.Bind b xs n))
      (and_then (bind_tree (leaf R.Refl) r.tree) (M.Bind a zs r.program) q)) h
      ∙ ap (λ w. turned a zs b xs n w (λ s. bound other at a zs s)) e

  bound_same : (at : Point) (m : Mon) (xs : List Name) (n : Mon) → is_tidy m ≡ true → is_tidy n ≡ true →
      positions m + length xs + positions n ≤ k → bound again at m xs n ≡ bound other at m xs n
  bound_same at (M.Bind a zs b) xs n h t few =
      let p = tidy_parts a zs b h in
      let r = bound_made again k tidies (behind a zs at) b xs n p.1 t (omega (arith, few)) in
      ap (λ q. or_shorter (M.Bind a zs b) xs n (cond (all_kept zs xs n) q (unchanged (M.Bind (M.Bind a zs b) xs n))))
      (turned_same at a zs b xs n (bound again (behind a zs at) b xs n) (bound other (behind a zs at) b xs n)
      (bound_same (behind a zs at) b xs n p.1 t (omega (arith, few)))
      (bound_same at a zs (bound again (behind a zs at) b xs n).program p.0 r.tidy (omega (arith, few, r.fewer))))
  bound_same at (M.Ret es) xs n h t few =
      ap (λ q. or_shorter (M.Ret es) xs n q) (at_same at es xs n (omega (arith, few)) (first_put [] es xs n))
  bound_same at m xs n h t few = refl

  module _ (last last' : Point → Polished) (n : Mon) (alike : (at : Point) → last at ≡ last' at)
      (lasts : (at : Point) → Tidied (last at).program (positions n)) where
    settled_same : (at : Point) (t : Tree Rule) (m : Mon) (xs : List Name) → is_tidy m ≡ true →
        positions m + length xs + positions n ≤ k → settled again last at t m xs ≡ settled other last' at t m xs
    settled_same at t m xs h few =
        let q = last (behind m xs at) in
        let i = lasts (behind m xs at) in
        ap (λ w. and_then (bind_tree t q.tree) (M.Bind m xs q.program) w)
        (bound_same at m xs q.program h i.tidy (omega (arith, few, i.fewer)))
        ∙ ap (λ r. and_then (bind_tree t r.tree) (M.Bind m xs r.program) (bound other at m xs r.program))
        (alike (behind m xs at))

    put_same : (at : Point) (t : Tree Rule) (es : List Exp) (xs : List Name) (o : Option ℕ) → length xs + positions n ≤ k →
        put_or_settled again last at t es xs n o ≡ put_or_settled other last' at t es xs n o
    put_same at t es xs None few = settled_same at t (M.Ret es) xs refl (omega (arith, few))
    put_same at t es xs (Some i) few = ap (λ q. then_all t (M.Ret es) xs n q) (at_same at es xs n few (Some i))

    followed_same : (at : Point) (t : Tree Rule) (o m : Mon) (xs : List Name) → is_tidy m ≡ true →
        positions m + length xs + positions n ≤ k → followed again last at t o m xs n ≡ followed other last' at t o m xs n
    followed_same at t o (M.Bind a zs b) xs h few =
        let p = tidy_parts a zs b h in
        let part = parted t o b in
        let r = followed again last (behind a zs at) part.tree part.second b xs n in
        let i = followed_tidy (behind a zs at) part.tree part.second b xs p.1 (omega (arith, few)) in
        ap
        (λ w. cond (is_bind_ret (M.Bind a zs b) xs n) (then_all t (M.Bind a zs b) xs n (at_once R.BindRet (M.Bind a zs b))) w)
        (ap₂ (λ v w. cond (all_kept zs xs n) v w)
        (ap (λ q. then_all part.before (M.Bind a zs part.second) xs n q)
        (turned_same at a zs part.second xs n r (followed other last' (behind a zs at) part.tree part.second b xs n)
        (followed_same (behind a zs at) part.tree part.second b xs p.1 (omega (arith, few)))
        (bound_same at a zs r.program p.0 i.tidy (omega (arith, few, i.fewer)))))
        (settled_same at t (M.Bind a zs b) xs h few))
      where
        followed_tidy : (at : Point) (t : Tree Rule) (o m : Mon) (xs : List Name) → is_tidy m ≡ true →
            positions m + length xs + positions n ≤ k →
            Tidied (followed again last at t o m xs n).program (positions m + length xs + positions n)
        followed_tidy = followed_made again k tidies last n lasts
    followed_same at t o (M.Ret es) xs h few = put_same at t es xs (first_constant es xs n) (omega (arith, few))
    followed_same at t o (M.Guard e) [] h few =
        ap₂ (λ v w. cond (is_known at.facts e) v w)
        (ap (λ q. then_all t (M.Guard e) [] n (and_then (leaf R.GuardKnown) n q)) (alike at))
        (settled_same at t (M.Guard e) [] h few)
    followed_same at t o m xs h few = settled_same at t m xs h few

  chosen_same : (at : Point) (x : Mon) (f f' g g' : Point → Polished) → ((a : Point) → f a ≡ f' a) →
      ((a : Point) → g a ≡ g' a) → chosen at x f g ≡ chosen at x f' g'
  chosen_same at (M.If (TruthLit true) m n) f f' g g' h i = ap (λ p. and_then (leaf R.IfConst) m p) (h at)
  chosen_same at (M.If (TruthLit false) m n) f f' g g' h i = ap (λ p. and_then (leaf R.IfConst) n p) (i at)
  chosen_same at (M.If e m n) f f' g g' h i =
      ap₂ (λ p q. record { program = M.If e p.program q.program; tree = if_tree p.tree q.tree }) (h (knowing (Whole e) at))
      (i (knowing (NotTrue e) at))
  chosen_same at x f f' g g' h i = refl

  turning_same : (at : Point) (x : Mon) (f f' : Point → Polished) → ((a : Point) → f a ≡ f' a) →
      turning at x f ≡ turning at x f'
  turning_same at (M.Loop starts guard test m) f f' h =
      ap (λ p. record { program = M.Loop starts guard test p.program; tree = loop_tree p.tree })
      (h (within starts (Whole test ∷ Whole guard ∷ []) at))
  turning_same at x f f' h = refl

  polished_same : (m : Mon) (at : Point) → positions m ≤ k → polished_with again m at ≡ polished_with other m at
  polished_same (M.Bind m xs n) at few =
      let p = polished_with again m at in
      let i = polished_made again k tidies m at (omega (arith, few)) in
      followed_same (polished_with again n) (polished_with other n) n (λ a. polished_same n a (omega (arith, few)))
      (λ a. polished_made again k tidies n a (omega (arith, few))) at p.tree m p.program xs i.tidy (omega (arith, few, i.fewer))
      ∙ ap (λ q. followed other (polished_with other n) at q.tree m q.program xs n) (polished_same m at (omega (arith, few)))
  polished_same (M.If e m n) at few =
      let f = shortened_in at (M.If e m n) in
      ap (λ q. and_then f.tree f.program q)
      (chosen_same at f.program (polished_with again m) (polished_with other m) (polished_with again n) (polished_with other n)
      (λ a. polished_same m a (omega (arith, few))) (λ a. polished_same n a (omega (arith, few))))
  polished_same (M.Loop starts guard test m) at few =
      let f = shortened_in at (M.Loop starts guard test m) in
      ap (λ q. and_then f.tree f.program q)
      (turning_same at f.program (polished_with again m) (polished_with other m) (λ a. polished_same m a few))
  polished_same m at few = refl

within_same : (j k : ℕ) (at : Point) (m : Mon) → positions m ≤ j → positions m ≤ k →
    polished_within j at m ≡ polished_within k at m
within_same zero zero at m h i = refl
within_same zero (suc k) at m h i =
    polished_same (λ a n. unchanged n) (polished_within k) 0 (λ a n q. absurd (omega (arith, q)))
    (λ a n q. absurd (omega (arith, q))) m at h
within_same (suc j) zero at m h i =
    sym
    (polished_same (λ a n. unchanged n) (polished_within j) 0 (λ a n q. absurd (omega (arith, q)))
    (λ a n q. absurd (omega (arith, q))) m at i)
within_same (suc j) (suc k) at m h i =
    polished_same (polished_within j) (polished_within k) (positions m) (λ a n q. within_made j a n (omega (arith, q, h)))
    (λ a n q. within_same j k a n (omega (arith, q, h)) (omega (arith, q, i))) m at (omega arith)

-- What a value was put into is made tidy as any program is.
pub polished_fixed : (at : Point) (m : Mon) → polished at m ≡ polished_with polished m at
polished_fixed at m = by_number (positions m) refl
  where
    by_number : (k : ℕ) → positions m ≡ k → polished_within (positions m) at m ≡ polished_with polished m at
    by_number zero e =
        ap (λ j. polished_within j at m) e
        ∙ polished_same (λ a n. unchanged n) polished 0 (λ a n q. absurd (omega (arith, q)))
        (λ a n q. absurd (omega (arith, q)))
        m at (omega (arith, e))
    by_number (suc k) e =
        ap (λ j. polished_within j at m) e
        ∙ polished_same (polished_within k) polished (suc k) (λ a n q. within_made k a n (omega (arith, q)))
        (λ a n q. within_same k (positions n) a n (omega (arith, q)) (omega arith)) m at (omega (arith, e))
