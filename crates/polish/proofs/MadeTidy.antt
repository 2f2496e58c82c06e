-- What programs are polished to is tidy, and binds no more names.
use Rattle.std.proofs.Common.{◌≡◌, ℕ, zero, suc, ◌+◌, ◌<◌, ◌≤◌, Bool, true, false, not, cond, ◌||◌, List, [], ◌∷◌, ◌++◌, length, Option, Some, None, refl, sym, ap, ◌∙◌, subst, arith}
use Rattle.std.proofs.lemmas.Bool.{and_parts, and_from, or_from, cond_both}
use Rattle.c_values.specs.Name.{Name, is_among}
use Rattle.expression_lang.specs.Expression.{Exp, TruthLit}
use Rattle.monad_lang.specs.Program as M
use Rattle.monad_lang.specs.Program.{Mon}
use Rattle.monad_lang.specs.Run.{start_names}
use Rattle.monad_lang.specs.Form.{is_bind_ret, all_kept, is_assoc, is_true_guard, can_be_put, some_can_be_put, is_ret_one, is_tidy}
use Rattle.ac_expr.specs.Substituted.{substituted}
use Rattle.program_facts.specs.Substituted.{starts_substituted, program_substituted}
use Rattle.rule_eq.specs.Rule as R
use Rattle.rule_eq.specs.Rule.{Rule, Point}
use Rattle.rule_eq.specs.Table.{Taken, before, taken_at, with_values, knowing, behind, within}
use Rattle.rule_trees.specs.RuleTree.{Tree}
use Rattle.ac_expr.specs.Fact.{Whole, NotTrue}
use Rattle.rule_eq.proofs.PutIn.{some_taken}
use Rattle.expression_steps.specs.Rewritten.{direct_nodes}
use Rattle.expression_steps.specs.Shortened.{shortened}
use Rattle.expression_steps.specs.Known.{is_known}
use Rattle.polish.specs.Polished.{Polished, Way, leaf, unchanged, at_once, and_then, shortened_in, what_is_bound, one_later, first_put, first_constant, put_taken, put_at, turned, or_shorter, bound, then_all, settled, put_or_settled, parted, followed, chosen, turning, polished_with, polished_within, positions, polished}
use Rattle.polish.specs.Parts.{IsIf, IsLoop}
use Rattle.polish.proofs.Alike.{IsLeaf, Alike, steps_alike}
use Rattle.polish.proofs.Accepted.{Put, constant_put, first_is_put}

pub record Tidied (m : Mon) (n : ℕ) : Type 0 where
  pub tidy : is_tidy m ≡ true
  pub fewer : positions m ≤ n

pub more_positions : (m : Mon) (i j : ℕ) → i ≤ j → Tidied m i → Tidied m j
more_positions m i j h t = record { tidy = t.tidy; fewer = omega (arith, t.fewer, h) }

-- Positions

module _ (x : Name) (e : Exp) where
  pub positions_put : (m : Mon) → positions (program_substituted x e m) ≡ positions m
  positions_put (M.Bind m xs n) =
      cond_both (is_among x xs) n (program_substituted x e n)
      (λ q. positions (program_substituted x e m) + length xs + positions q ≡ positions m + length xs + positions n)
      (λ i. ap (λ k. k + length xs + positions n) (positions_put m))
      (λ i.
      ap (λ k. k + length xs + positions (program_substituted x e n)) (positions_put m) ∙ ap
      (λ k. positions m + length xs + k) (positions_put n))
  positions_put (M.If a m n) =
      ap (λ k. k + positions (program_substituted x e n)) (positions_put m) ∙ ap (λ k. positions m + k) (positions_put n)
  positions_put (M.Loop starts guard test m) =
      cond_both (is_among x (start_names starts)) (M.Loop (starts_substituted x e starts) guard test m)
      (M.Loop (starts_substituted x e starts) (substituted x e guard) (substituted x e test) (program_substituted x e m))
      (λ q. positions q ≡ positions m)
      (λ i. refl) (λ i. positions_put m)
  positions_put _ = refl

pub with_positions : (es : List Exp) (xs : List Name) (m : Mon) → positions (with_values es xs m) ≤ length xs + positions m
with_positions [] xs m = omega arith
with_positions (e ∷ es) xs m = omega arith

pub one_fewer : (i : ℕ) (es : List Exp) (xs : List Name) (k : Taken) → taken_at i es xs ≡ Some k →
    length xs ≡ suc (length k.names)
one_fewer zero (e ∷ es) (x ∷ xs) k h = ap (λ t. suc (length t.names)) (some_taken h)
one_fewer (suc i) (e ∷ es) (x ∷ xs) k h = ap (λ n. suc n) (by_taken (taken_at i es xs) refl h (λ j f. one_fewer i es xs j f))
  where
    by_taken : (o : Option Taken) → taken_at i es xs ≡ o → before e x o ≡ Some k →
        ((j : Taken) → taken_at i es xs ≡ Some j → length xs ≡ suc (length j.names)) → length xs ≡ length k.names
    by_taken None f g r = absurd cc
    by_taken (Some j) f g r = r j f ∙ ap (λ t. length t.names) (some_taken g)
one_fewer zero [] xs k h = absurd cc
one_fewer zero (e ∷ es) [] k h = absurd cc
one_fewer (suc i) [] xs k h = absurd cc
one_fewer (suc i) (e ∷ es) [] k h = absurd cc

-- A sequence

bind_tidy : (m : Mon) (xs : List Name) (n : Mon) → is_bind_ret m xs n ≡ false → is_assoc m xs n ≡ false →
    is_true_guard m xs ≡ false → is_ret_one m xs n ≡ false → is_tidy m ≡ true → is_tidy n ≡ true → is_tidy
    (M.Bind m xs n) ≡ true
bind_tidy m xs n a b c d e f =
    and_from _ (is_tidy n)
    (and_from _ (is_tidy m)
    (and_from _ (not (is_ret_one m xs n))
    (and_from _ (not (is_true_guard m xs)) (and_from (not (is_bind_ret m xs n)) (not (is_assoc m xs n)) (ap not a) (ap not b))
    (ap not c))
    (ap not d)) e) f

pub tidy_parts : (m : Mon) (xs : List Name) (n : Mon) → is_tidy (M.Bind m xs n) ≡ true → (is_tidy m ≡ true) × (is_tidy n ≡ true)
tidy_parts m xs n h = let p = and_parts _ (is_tidy n) h in ((and_parts _ (is_tidy m) p.0).1, p.1)

bound_tidied : (m : Mon) (xs : List Name) (n : Mon) → is_tidy m ≡ true → is_tidy n ≡ true →
    Tidied (what_is_bound m xs n) (positions m + length xs + positions n)
bound_tidied (M.Ret []) [] n h k = record { tidy = k; fewer = omega arith }
bound_tidied m xs n h k = record { tidy = h; fewer = omega arith }

shorter_tidied : (m : Mon) (xs : List Name) (n : Mon) (p : Polished) → is_tidy m ≡ true → is_tidy n ≡ true →
    (is_bind_ret m xs n ≡ false → is_true_guard m xs ≡ false → Tidied p.program (positions m + length xs + positions n)) →
    Tidied
    (or_shorter m xs n p).program (positions m + length xs + positions n)
shorter_tidied m xs n p h k r =
    cond_both (is_bind_ret m xs n) (at_once R.BindRet (what_is_bound m xs n))
    (cond (is_true_guard m xs) (at_once R.GuardKnown n) p) (λ q. Tidied q.program (positions m + length xs + positions n))
    (λ i. bound_tidied m xs n h k)
    (λ i.
    cond_both (is_true_guard m xs) (at_once R.GuardKnown n) p (λ q. Tidied q.program (positions m + length xs + positions n))
    (λ j. record { tidy = k; fewer = omega arith }) (λ j. r i j))

later_none : (o : Option ℕ) → one_later o ≡ None → o ≡ None
later_none None h = refl
later_none (Some i) h = absurd cc

none_put : (front : List Name) (es : List Exp) (xs : List Name) (n : Mon) → first_put front es xs n ≡ None →
    some_can_be_put front es xs n ≡ false
none_put front (e ∷ es) (x ∷ xs) n h = by_test (can_be_put e x (front ++ xs) n) refl h (λ k. none_put (x ∷ front) es xs n k)
  where
    by_test : (b : Bool) → can_be_put e x (front ++ xs) n ≡ b →
        cond b (Some zero) (one_later (first_put (x ∷ front) es xs n)) ≡ None →
        (first_put (x ∷ front) es xs n ≡ None → some_can_be_put (x ∷ front) es xs n ≡ false) →
        (can_be_put e x (front ++ xs) n || some_can_be_put (x ∷ front) es xs n) ≡ false
    by_test true c k r = absurd cc
    by_test false c k r =
        or_from (can_be_put e x (front ++ xs) n) (some_can_be_put (x ∷ front) es xs n) c
        (r (later_none (first_put (x ∷ front) es xs n) k))
none_put front [] xs n h = refl
none_put front (e ∷ es) [] n h = refl

-- with what makes programs tidy where they bind fewer names than k
module _ (again : Way) (k : ℕ)
    (tidies : (at : Point) (m : Mon) → positions m < k → Tidied (again at m).program (positions m)) where
  put_tidied : (at : Point) (es : List Exp) (xs : List Name) (n : Mon) (i : ℕ) → length xs + positions n ≤ k →
      Put [] i es xs n →
      Tidied (put_taken again at (M.Bind (M.Ret es) xs n) i n (taken_at i es xs)).program (length xs + positions n)
  put_tidied at es xs n i few p =
      subst (λ o. Tidied (put_taken again at (M.Bind (M.Ret es) xs n) i n o).program (length xs + positions n)) (sym p.taken)
      (let m = program_substituted p.value.name p.value.exp n in
      let w = with_values p.value.exps p.value.names m in
      let a = with_positions p.value.exps p.value.names m in
      let b = positions_put p.value.name p.value.exp n in
      let c = one_fewer i es xs p.value p.taken in
      more_positions (again at w).program (positions w) (length xs + positions n) (omega (arith, a, b, c))
      (tidies at w (omega (arith, a, b, c, few))))

  at_tidied : (at : Point) (es : List Exp) (xs : List Name) (n : Mon) (o : Option ℕ) → first_put [] es xs n ≡ o →
      is_tidy n ≡ true →
      is_bind_ret (M.Ret es) xs n ≡ false → length xs + positions n ≤ k →
      Tidied (put_at again at es xs n o).program (length xs + positions n)
  at_tidied at es xs n None e t a few =
      record { tidy = bind_tidy (M.Ret es) xs n a refl refl (none_put [] es xs n e) refl t; fewer = omega arith }
  at_tidied at es xs n (Some i) e t a few = put_tidied at es xs n i few (first_is_put [] i es xs n e)

  pub bound_made : (at : Point) (m : Mon) (xs : List Name) (n : Mon) → is_tidy m ≡ true → is_tidy n ≡ true →
      positions m + length xs + positions n ≤ k →
      Tidied (bound again at m xs n).program (positions m + length xs + positions n)
  bound_made at (M.Bind a zs b) xs n h t few =
      let w = bound again (behind a zs at) b xs n in
      shorter_tidied (M.Bind a zs b) xs n
      (cond (all_kept zs xs n) (turned a zs b xs n w (λ r. bound again at a zs r)) (unchanged (M.Bind (M.Bind a zs b) xs n)))
      h t
      (λ i j.
      cond_both (all_kept zs xs n) (turned a zs b xs n w (λ r. bound again at a zs r))
      (unchanged (M.Bind (M.Bind a zs b) xs n))
      (λ q. Tidied q.program (positions a + length zs + positions b + length xs + positions n))
      (λ e.
      let p = tidy_parts a zs b h in
      let r = bound_made (behind a zs at) b xs n p.1 t (omega (arith, few)) in
      let q = bound_made at a zs w.program p.0 r.tidy (omega (arith, few, r.fewer)) in
      more_positions (bound again at a zs w.program).program (positions a + length zs + positions w.program) _
      (omega (arith, r.fewer)) q)
      (λ e. record { tidy = bind_tidy (M.Bind a zs b) xs n i e j refl h t; fewer = omega arith }))
  bound_made at (M.Ret es) xs n h t few =
      shorter_tidied (M.Ret es) xs n (put_at again at es xs n (first_put [] es xs n)) h t
      (λ i j.
      more_positions _ (length xs + positions n) _ (omega arith)
      (at_tidied at es xs n (first_put [] es xs n) refl t i (omega (arith, few))))
  bound_made at m xs n h t few =
      shorter_tidied m xs n (unchanged (M.Bind m xs n)) h t
      (λ i j. record { tidy = bind_tidy m xs n i refl j refl h t; fewer = omega arith })

  -- a sequence whose second part is made tidy

  module _ (last : Point → Polished) (n : Mon) (lasts : (at : Point) → Tidied (last at).program (positions n)) where
    settled_made : (at : Point) (t : Tree Rule) (m : Mon) (xs : List Name) → is_tidy m ≡ true →
        positions m + length xs + positions n ≤ k →
        Tidied (settled again last at t m xs).program (positions m + length xs + positions n)
    settled_made at t m xs h few =
        let q = last (behind m xs at) in
        let i = lasts (behind m xs at) in
        more_positions (bound again at m xs q.program).program (positions m + length xs + positions q.program) _
        (omega (arith, i.fewer)) (bound_made at m xs q.program h i.tidy (omega (arith, few, i.fewer)))

    put_or_settled_made : (at : Point) (t : Tree Rule) (es : List Exp) (xs : List Name) (o : Option ℕ) →
        first_constant es xs n ≡ o → length xs + positions n ≤ k →
        Tidied (put_or_settled again last at t es xs n o).program (length xs + positions n)
    put_or_settled_made at t es xs None e few =
        more_positions _ (positions (M.Ret es) + length xs + positions n) _ (omega arith)
        (settled_made at t (M.Ret es) xs refl (omega (arith, few)))
    put_or_settled_made at t es xs (Some i) e few = put_tidied at es xs n i few (constant_put i es xs n e)

    pub followed_made : (at : Point) (t : Tree Rule) (o m : Mon) (xs : List Name) → is_tidy m ≡ true →
        positions m + length xs + positions n ≤ k →
        Tidied (followed again last at t o m xs n).program (positions m + length xs + positions n)
    followed_made at t o (M.Bind a zs b) xs h few =
        let part = parted t o b in
        let w = followed again last (behind a zs at) part.tree part.second b xs n in
        let turn = then_all part.before (M.Bind a zs part.second) xs n
        (turned a zs part.second xs n w (λ r. bound again at a zs r)) in
        cond_both (is_bind_ret (M.Bind a zs b) xs n) (then_all t (M.Bind a zs b) xs n (at_once R.BindRet (M.Bind a zs b)))
        (cond (all_kept zs xs n) turn (settled again last at t (M.Bind a zs b) xs))
        (λ q. Tidied q.program (positions a + length zs + positions b + length xs + positions n))
        (λ e. record { tidy = h; fewer = omega arith })
        (λ e.
        cond_both (all_kept zs xs n) turn (settled again last at t (M.Bind a zs b) xs)
        (λ q. Tidied q.program (positions a + length zs + positions b + length xs + positions n))
        (λ i.
        let p = tidy_parts a zs b h in
        let r = followed_made (behind a zs at) part.tree part.second b xs p.1 (omega (arith, few)) in
        let q = bound_made at a zs w.program p.0 r.tidy (omega (arith, few, r.fewer)) in
        more_positions (bound again at a zs w.program).program (positions a + length zs + positions w.program) _
        (omega (arith, r.fewer)) q)
        (λ i. settled_made at t (M.Bind a zs b) xs h few))
    followed_made at t o (M.Ret es) xs h few =
        more_positions _ (length xs + positions n) _ (omega arith)
        (put_or_settled_made at t es xs (first_constant es xs n) refl (omega (arith, few)))
    followed_made at t o (M.Guard e) [] h few =
        cond_both (is_known at.facts e) (then_all t (M.Guard e) [] n (and_then (leaf R.GuardKnown) n (last at)))
        (settled again last at t (M.Guard e) [])
        (λ q. Tidied q.program (0 + length {A = Name} [] + positions n))
        (λ e'. more_positions _ (positions n) _ (omega arith) (lasts at))
        (λ e'. settled_made at t (M.Guard e) [] h few)
    followed_made at t o m xs h few = settled_made at t m xs h few

  -- whole programs

  leaf_tidied : (m : Mon) → IsLeaf m → Tidied m 0
  leaf_tidied (M.Bind m xs n) h = absurd h
  leaf_tidied (M.If e m n) h = absurd h
  leaf_tidied (M.Loop starts guard test m) h = absurd h
  leaf_tidied m h = record { tidy = refl; fewer = omega arith }

  chosen_tidied : (at : Point) (x m n : Mon) (first second : Point → Polished) → IsIf m n x →
      ((a : Point) → Tidied (first a).program (positions m)) → ((a : Point) → Tidied (second a).program (positions n)) →
      Tidied (chosen at x first second).program (positions m + positions n)
  chosen_tidied at (M.If (TruthLit true) a b) m n first second i h t =
      more_positions (first at).program (positions m) (positions m + positions n) (omega arith) (h at)
  chosen_tidied at (M.If (TruthLit false) a b) m n first second i h t =
      more_positions (second at).program (positions n) (positions m + positions n) (omega arith) (t at)
  chosen_tidied at (M.If e a b) m n first second i h t =
      let p = h (knowing (Whole e) at) in
      let q = t (knowing (NotTrue e) at) in
      record {
        tidy = and_from (is_tidy (first (knowing (Whole e) at)).program) (is_tidy (second (knowing (NotTrue e) at)).program)
            p.tidy q.tidy;
        fewer = omega (arith, p.fewer, q.fewer);
      }
  chosen_tidied at x m n first second i h t = absurd i

  turning_tidied : (at : Point) (x m : Mon) (body : Point → Polished) → IsLoop m x →
      ((a : Point) → Tidied (body a).program (positions m)) → Tidied (turning at x body).program (positions m)
  turning_tidied at (M.Loop starts guard test a) m body i h =
      let p = h (within starts (Whole test ∷ Whole guard ∷ []) at) in record { tidy = p.tidy; fewer = p.fewer }
  turning_tidied at x m body i h = absurd i

  short_alike : (at : Point) (m : Mon) → Alike m (shortened_in at m).program
  short_alike at m = steps_alike shortened at (direct_nodes m) m

  pub polished_made : (m : Mon) (at : Point) → positions m ≤ k → Tidied (polished_with again m at).program (positions m)
  polished_made (M.Bind m xs n) at few =
      let p = polished_made m at (omega (arith, few)) in
      more_positions _ (positions (polished_with again m at).program + length xs + positions n) _ (omega (arith, p.fewer))
      (followed_made (polished_with again n) n (λ a. polished_made n a (omega (arith, few))) at (polished_with again m at).tree m
      (polished_with again m at).program xs p.tidy (omega (arith, few, p.fewer)))
  polished_made (M.If e m n) at few =
      chosen_tidied at (shortened_in at (M.If e m n)).program m n (polished_with again m) (polished_with again n)
      (short_alike at (M.If e m n))
      (λ a. polished_made m a (omega (arith, few))) (λ a. polished_made n a (omega (arith, few)))
  polished_made (M.Loop starts guard test m) at few =
      turning_tidied at (shortened_in at (M.Loop starts guard test m)).program m (polished_with again m)
      (short_alike at (M.Loop starts guard test m)) (λ a. polished_made m a few)
  polished_made (M.Ret es) at few = leaf_tidied (shortened_in at (M.Ret es)).program (short_alike at (M.Ret es))
  polished_made (M.Guard e) at few = leaf_tidied (shortened_in at (M.Guard e)).program (short_alike at (M.Guard e))
  polished_made (M.Write q e) at few = leaf_tidied (shortened_in at (M.Write q e)).program (short_alike at (M.Write q e))
  polished_made (M.Call f es) at few = leaf_tidied (shortened_in at (M.Call f es)).program (short_alike at (M.Call f es))
  polished_made (M.Pick j) at few = leaf_tidied (shortened_in at (M.Pick j)).program (short_alike at (M.Pick j))

pub within_made : (k : ℕ) (at : Point) (m : Mon) → positions m ≤ k → Tidied (polished_within k at m).program (positions m)
within_made zero at m few = polished_made (λ a n. unchanged n) 0 (λ a n i. absurd (omega (arith, i))) m at few
within_made (suc k) at m few =
    polished_made (polished_within k) (suc k) (λ a n i. within_made k a n (omega (arith, i))) m at few

pub made_tidy : (at : Point) (m : Mon) → is_tidy (polished at m).program ≡ true
made_tidy at m = (within_made (positions m) at m (omega arith)).tidy
