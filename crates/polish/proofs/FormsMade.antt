-- What programs are polished to keeps the forms of programs on bytes, on typed heaps and on numbers.
use Rattle.std.proofs.Common.{◌≡◌, ℕ, zero, suc, Bool, true, false, not, cond, ◌||◌, List, [], ◌∷◌, Option, Some, None, refl, sym, ap, subst}
use Rattle.std.proofs.lemmas.Bool.{and_parts, and_from, or_parts, or_from, not-true, cond_both}
use Rattle.c_values.specs.Name.{Name}
use Rattle.expression_lang.specs.Expression.{Exp, WordLit, NumberLit, TruthLit}
use Rattle.expression_lang.specs.Form.{has, is_load, is_read, is_word_arithmetic}
use Rattle.expression_lang.specs.Sort.{Scope}
use Rattle.ac_expr.specs.Fact.{Fact, Whole, NotTrue}
use Rattle.ac_expr.specs.Heads.{head, hole}
use Rattle.monad_lang.specs.Program as M
use Rattle.monad_lang.specs.Program.{Mon, Place, Start}
use Rattle.monad_lang.specs.Form.{some_has, start_has, place_has, program_has, is_stored, is_written, no_place, is_heaps, is_bind_ret, all_kept, is_true_guard}
use Rattle.program_facts.specs.Substituted.{program_substituted}
use Rattle.program_facts.specs.Places.{place_head}
use Rattle.rule_eq.specs.Rule as R
use Rattle.rule_eq.specs.Rule.{Rule, Point}
use Rattle.rule_trees.specs.RuleTree.{Tree}
use Rattle.rule_eq.specs.Table.{AreTaken, taken_at, with_values, knowing, behind, within}
use Rattle.rule_eq.specs.Tidy.{KeepsForms}
use Rattle.rule_eq.proofs.SimplerForms.{simpler_free}
use Rattle.rule_eq.proofs.TidyPlaces.{put_stands}
use Rattle.rule_eq.proofs.FormsKept.{written_head, stored_head, arithmetic_head, read_head, load_head, by_head}
use Rattle.expression_steps.specs.Rewritten.{Choice, first_step, list_step, start_step, place_step, direct_nodes}
use Rattle.polish.specs.Direct.{direct_step, more, direct_steps}
use Rattle.expression_steps.specs.Shortened.{shortened}
use Rattle.expression_steps.specs.Known.{is_known}
use Rattle.polish.specs.Polished.{Polished, Way, leaf, unchanged, at_once, and_then, last_of, shortened_in, what_is_bound, first_put, first_constant, put_taken, put_at, turned, or_shorter, bound, then_all, settled, put_or_settled, parted, followed, chosen, turning, polished_with, polished_within, positions, polished}
use Rattle.polish.proofs.Cases.{one_case, two_case, three_case}
use Rattle.polish.proofs.TestsKept.{KeepsFree, step_has, path_has_step, two_free}
use Rattle.polish.proofs.Closed.{one_weaker, two_weaker, three_weaker}
use Rattle.polish.specs.Parts.{IsIf, IsLoop}
use Rattle.polish.proofs.Alike.{steps_alike}
use Rattle.polish.proofs.Accepted.{Put, constant_put, first_is_put, bound_holds}
use Rattle.polish.proofs.Folds.{IsConstant}
use Rattle.polish.proofs.Shortened.{shortened_free}

-- tests that look at heads alone
module _ (test : Exp → Bool) (place_test : Place → Bool) (alike : (a b : Exp) → head b ≡ head a → test b ≡ test a)
    (place_alike : (q q' : Place) → place_head q' ≡ place_head q → place_test q' ≡ place_test q) where
  abbrev Free : Mon → Type 0
  Free m = program_has test place_test m ≡ false

  -- steps of expressions

  module _ (f : Choice) (free : KeepsFree test f) where
    step_free : (fs : List Fact) (a r : Exp) → first_step f fs a ≡ Some r → has test a ≡ false → has test r ≡ false
    step_free = step_has test alike f free

    list_free : (fs : List Fact) (es r : List Exp) → list_step f fs es ≡ Some r → some_has test es ≡ false →
        some_has test r ≡ false
    list_free fs [] r h c = absurd cc
    list_free fs (e ∷ es) r h c =
        two_case r (λ q. some_has test q ≡ false) (λ x xs. x ∷ xs) e es _ _ h
        (λ x j. one_weaker _ _ _ _ (step_free fs e x j) (λ k. k) c) (λ y j. one_weaker _ _ _ _ (λ k. k) (list_free fs es y j) c)

    start_free : (fs : List Fact) (ss r : List Start) → start_step f fs ss ≡ Some r → start_has test ss ≡ false →
        start_has test r ≡ false
    start_free fs [] r h c = absurd cc
    start_free fs (s ∷ ss) r h c =
        two_case r (λ q. start_has test q ≡ false) (λ x xs. record { name = s.name; exp = x } ∷ xs) s.exp ss _ _ h
        (λ x j. one_weaker _ _ _ _ (step_free fs s.exp x j) (λ k. k) c)
        (λ y j. one_weaker _ _ _ _ (λ k. k) (start_free fs ss y j) c)

    abbrev KeepsPlace : Place → Place → Type 0
    KeepsPlace q r = (place_head r ≡ place_head q) × (place_has test q ≡ false → place_has test r ≡ false)

    place_free : (fs : List Fact) (place r : Place) → place_step f fs place ≡ Some r → KeepsPlace place r
    place_free fs (M.Stored t p path) r h =
        two_case r (λ q. KeepsPlace (M.Stored t p path) q) (λ x y. M.Stored t x y) p path _ _ h
        (λ x j. (refl, λ c. one_weaker _ _ _ _ (step_free fs p x j) (λ k. k) c))
        (λ y j.
        let i = path_has_step test alike f free fs path y j in
        (ap (λ w. M.Stored t hole w) i.0, λ c. one_weaker _ _ _ _ (λ k. k) i.1 c))
    place_free fs (M.Written t p path) r h =
        two_case r (λ q. KeepsPlace (M.Written t p path) q) (λ x y. M.Written t x y) p path _ _ h
        (λ x j. (refl, λ c. one_weaker _ _ _ _ (step_free fs p x j) (λ k. k) c))
        (λ y j.
        let i = path_has_step test alike f free fs path y j in
        (ap (λ w. M.Written t hole w) i.0, λ c. one_weaker _ _ _ _ (λ k. k) i.1 c))
    place_free fs (M.Global x path) r h =
        one_case r (λ q. KeepsPlace (M.Global x path) q) (λ y. M.Global x y) _ h
        (λ y j. let i = path_has_step test alike f free fs path y j in (ap (λ w. M.Global x w) i.0, i.1))

  module _ (f : Scope → Choice) (free : (g : Scope) → KeepsFree test (f g)) where
    abbrev inner : List Start → Point → Scope
    inner starts at = (within starts [] at).setting.scope

    abbrev here : Point → Choice
    here at = f at.setting.scope

    abbrev kept : (at : Point) → KeepsFree test (here at)
    kept at = free at.setting.scope

    direct_free : (at : Point) (m r : Mon) → direct_step f at m ≡ Some r → Free m → Free r
    direct_free at (M.Ret es) r h c = one_case r (λ q. Free q) (λ xs. M.Ret xs) _ h
        (λ x j. list_free (here at) (kept at) at.facts es x j c)
    direct_free at (M.Guard e) r h c = one_case r (λ q. Free q) (λ x. M.Guard x) _ h
        (λ x j. step_free (here at) (kept at) at.facts e x j c)
    direct_free at (M.If e m n) r h c =
        one_case r (λ q. Free q) (λ x. M.If x m n) _ h
        (λ x j. two_weaker _ _ _ _ _ _ (step_free (here at) (kept at) at.facts e x j) (λ k. k) (λ k. k) c)
    direct_free at (M.Write place e) r h c =
        two_case r (λ q. Free q) (λ x y. M.Write x y) place e _ _ h
        (λ x j. let i = place_free (here at) (kept at) at.facts place x j in two_free _ _ _ _ _ _
        (place_alike place x i.0) c i.1 (λ k. k))
        (λ y j.
        two_weaker (place_test place) (place_test place) (place_has test place) (place_has test place) _ _ (λ k. k) (λ k. k)
        (step_free (here at) (kept at) at.facts e y j) c)
    direct_free at (M.Loop starts guard test' m) r h c =
        three_case r (λ q. Free q) (λ x y z. M.Loop x y z m) starts guard test' _ _ _ h
        (λ x j.
        three_weaker _ _ (has test guard) (has test guard) (has test test') (has test test') (program_has test place_test m)
        (program_has test place_test m) (start_free (here at) (kept at) at.facts starts x j) (λ k. k) (λ k. k) (λ k. k) c)
        (λ y j.
        three_weaker (start_has test starts) (start_has test starts) _ _ (has test test') (has test test')
        (program_has test place_test m) (program_has test place_test m) (λ k. k)
        (step_free (f (inner starts at)) (free (inner starts at)) [] guard y j) (λ k. k) (λ k. k) c)
        (λ z j.
        three_weaker (start_has test starts) (start_has test starts) (has test guard) (has test guard) _ _
        (program_has test place_test m) (program_has test place_test m) (λ k. k) (λ k. k)
        (step_free (f (inner starts at)) (free (inner starts at)) (Whole guard ∷ []) test' z j) (λ k. k) c)
    direct_free at (M.Call g es) r h c = one_case r (λ q. Free q) (λ xs. M.Call g xs) _ h
        (λ x j. list_free (here at) (kept at) at.facts es x j c)
    direct_free at _ r h c = absurd cc

    pub steps_free : (at : Point) (n : ℕ) (m : Mon) → Free m → Free (last_of m (direct_steps f at n m))
    steps_free at zero m c = c
    steps_free at (suc n) m c = by_step (direct_step f at m) refl (λ x i. steps_free at n x i)
      where
        by_step : (o : Option Mon) → direct_step f at m ≡ o → ((x : Mon) → Free x → Free (last_of x (direct_steps f at n x))) →
            Free (last_of m (more o (λ x. direct_steps f at n x)))
        by_step None e r = c
        by_step (Some x) e r = r x (direct_free at m x e c)

  -- steps at a sequence

  abbrev Keeps : Mon → Polished → Type 0
  Keeps m p = Free m → Free p.program

  module _ (at : Point) where
    guard_keeps : (m : Mon) (xs : List Name) (n : Mon) → is_true_guard m xs ≡ true → Free (M.Bind m xs n) → Free n
    guard_keeps m xs n h c = (or_parts (program_has test place_test m) (program_has test place_test n) c).1

    shorter_keeps : (m : Mon) (xs : List Name) (n : Mon) (p : Polished) → Keeps (M.Bind m xs n) p →
        Keeps (M.Bind m xs n) (or_shorter m xs n p)
    shorter_keeps m xs n p h c =
        cond_both (is_bind_ret m xs n) (at_once R.BindRet (what_is_bound m xs n))
        (cond (is_true_guard m xs) (at_once R.GuardKnown n) p) (λ q. Free q.program)
        (λ e.
        simpler_free test place_test alike place_alike at R.BindRet (M.Bind m xs n) (what_is_bound m xs n) tt
        (bound_holds at m xs n e) c)
        (λ e.
        cond_both (is_true_guard m xs) (at_once R.GuardKnown n) p (λ q. Free q.program) (λ i. guard_keeps m xs n i c)
        (λ i. h c))

  module _ (again : Way) (keeps : (at : Point) (m : Mon) → Keeps m (again at m)) where
    put_keeps : (at : Point) (es : List Exp) (xs : List Name) (n : Mon) (i : ℕ) → Put [] i es xs n →
        Keeps (M.Bind (M.Ret es) xs n) (put_taken again at (M.Bind (M.Ret es) xs n) i n (taken_at i es xs))
    put_keeps at es xs n i k c =
        subst (λ o. Free (put_taken again at (M.Bind (M.Ret es) xs n) i n o).program) (sym k.taken)
        (let m' = with_values k.value.exps k.value.names (program_substituted k.value.name k.value.exp n) in
        let s = put_stands k.value.exp k.value.name k.value.exps k.value.names n k.put in
        let h : AreTaken (taken_at i es xs) n m' = subst (λ o. AreTaken o n m') (sym k.taken) (s.1, refl) in
        keeps at m' (simpler_free test place_test alike place_alike at (R.RetOne i) (M.Bind (M.Ret es) xs n) m' tt h c))

    at_keeps : (at : Point) (es : List Exp) (xs : List Name) (n : Mon) (o : Option ℕ) → first_put [] es xs n ≡ o →
        Keeps (M.Bind (M.Ret es) xs n) (put_at again at es xs n o)
    at_keeps at es xs n None e c = c
    at_keeps at es xs n (Some i) e c = put_keeps at es xs n i (first_is_put [] i es xs n e) c

    -- with another second part, and turned
    second_keeps : (a : Mon) (zs : List Name) (b : Mon) (xs : List Name) (n : Mon) (r : Polished) (first : Mon → Polished) →
        Keeps (M.Bind b xs n) r → ((m : Mon) → Keeps (M.Bind a zs m) (first m)) →
        Free (M.Bind (M.Bind a zs b) xs n) → Free (first r.program).program
    second_keeps a zs b xs n r first h k c =
        let p = or_parts (program_has test place_test a || program_has test place_test b) (program_has test place_test n) c in
        let q = or_parts (program_has test place_test a) (program_has test place_test b) p.0 in
        k r.program
        (or_from (program_has test place_test a) (program_has test place_test r.program) q.0
        (h (or_from (program_has test place_test b) (program_has test place_test n) q.1 p.1)))

    bound_keeps : (at : Point) (m : Mon) (xs : List Name) (n : Mon) → Keeps (M.Bind m xs n) (bound again at m xs n)
    bound_keeps at (M.Bind a zs b) xs n =
        let r = bound again (behind a zs at) b xs n in
        shorter_keeps at (M.Bind a zs b) xs n
        (cond (all_kept zs xs n) (turned a zs b xs n r (λ r. bound again at a zs r)) (unchanged (M.Bind (M.Bind a zs b) xs n)))
        (cond_both (all_kept zs xs n) (turned a zs b xs n r (λ r. bound again at a zs r))
        (unchanged (M.Bind (M.Bind a zs b) xs n)) (λ q. Keeps (M.Bind (M.Bind a zs b) xs n) q)
        (λ e.
        second_keeps a zs b xs n r (λ r. bound again at a zs r) (bound_keeps (behind a zs at) b xs n)
        (λ r. bound_keeps at a zs r))
        (λ e c. c))
    bound_keeps at (M.Ret es) xs n =
        shorter_keeps at (M.Ret es) xs n (put_at again at es xs n (first_put [] es xs n))
        (at_keeps at es xs n (first_put [] es xs n) refl)
    bound_keeps at m xs n = shorter_keeps at m xs n (unchanged (M.Bind m xs n)) (λ c. c)

    module _ (last : Point → Polished) (n : Mon) (lasts : (at : Point) → Keeps n (last at)) where
      settled_keeps : (at : Point) (t : Tree Rule) (m : Mon) (xs : List Name) →
          Keeps (M.Bind m xs n) (settled again last at t m xs)
      settled_keeps at t m xs c =
          let p = or_parts (program_has test place_test m) (program_has test place_test n) c in
          bound_keeps at m xs (last (behind m xs at)).program
          (or_from (program_has test place_test m) (program_has test place_test (last (behind m xs at)).program) p.0
          (lasts (behind m xs at) p.1))

      put_or_settled_keeps : (at : Point) (t : Tree Rule) (es : List Exp) (xs : List Name) (o : Option ℕ) →
          first_constant es xs n ≡ o → Keeps (M.Bind (M.Ret es) xs n) (put_or_settled again last at t es xs n o)
      put_or_settled_keeps at t es xs None e = settled_keeps at t (M.Ret es) xs
      put_or_settled_keeps at t es xs (Some i) e = put_keeps at es xs n i (constant_put i es xs n e)

      followed_keeps : (at : Point) (t : Tree Rule) (o m : Mon) (xs : List Name) →
          Keeps (M.Bind m xs n) (followed again last at t o m xs n)
      followed_keeps at t o (M.Bind a zs b) xs =
          let part = parted t o b in
          let r = followed again last (behind a zs at) part.tree part.second b xs n in
          let turn = then_all part.before (M.Bind a zs part.second) xs n
          (turned a zs part.second xs n r (λ r. bound again at a zs r)) in
          cond_both (is_bind_ret (M.Bind a zs b) xs n)
          (then_all t (M.Bind a zs b) xs n (at_once R.BindRet (M.Bind a zs b)))
          (cond (all_kept zs xs n) turn (settled again last at t (M.Bind a zs b) xs))
          (λ q. Keeps (M.Bind (M.Bind a zs b) xs n) q)
          (λ e c. (or_parts (program_has test place_test (M.Bind a zs b)) (program_has test place_test n) c).0)
          (λ e.
          cond_both (all_kept zs xs n) turn (settled again last at t (M.Bind a zs b) xs)
          (λ q. Keeps (M.Bind (M.Bind a zs b) xs n) q)
          (λ i.
          second_keeps a zs b xs n r (λ r. bound again at a zs r)
          (followed_keeps (behind a zs at) part.tree part.second b xs) (λ r. bound_keeps at a zs r))
          (λ i. settled_keeps at t (M.Bind a zs b) xs))
      followed_keeps at t o (M.Ret es) xs = put_or_settled_keeps at t es xs (first_constant es xs n) refl
      followed_keeps at t o (M.Guard e) [] =
          cond_both (is_known at.facts e) (then_all t (M.Guard e) [] n (and_then (leaf R.GuardKnown) n (last at)))
          (settled again last at t (M.Guard e) [])
          (λ q. Keeps (M.Bind (M.Guard e) [] n) q)
          (λ k c. lasts at (or_parts (has test e) (program_has test place_test n) c).1)
          (λ k. settled_keeps at t (M.Guard e) [])
      followed_keeps at t o m xs = settled_keeps at t m xs

    -- whole programs

    if_parts : (e : Exp) (a b : Mon) → Free (M.If e a b) → (has test e ≡ false) × (Free a) × (Free b)
    if_parts e a b c =
        let u = or_parts (has test e || program_has test place_test a) (program_has test place_test b) c in
        let v = or_parts (has test e) (program_has test place_test a) u.0 in (v.0, v.1, u.1)

    chosen_keeps : (at : Point) (x m n : Mon) (first second : Point → Polished) → IsIf m n x → Free x →
        ((a : Point) → Keeps m (first a)) → ((a : Point) → Keeps n (second a)) → Free (chosen at x first second).program
    chosen_keeps at (M.If (TruthLit true) a b) m n first second i c h k =
        h at (subst (λ z. Free z) i.0 (if_parts (TruthLit true) a b c).1)
    chosen_keeps at (M.If (TruthLit false) a b) m n first second i c h k =
        k at (subst (λ z. Free z) i.1 (if_parts (TruthLit false) a b c).2)
    chosen_keeps at (M.If e a b) m n first second i c h k =
        two_weaker _ _ _ _ _ _ (λ w. w) (λ w. h (knowing (Whole e) at) (subst (λ z. Free z) i.0 w))
        (λ w. k (knowing (NotTrue e) at) (subst (λ z. Free z) i.1 w)) c
    chosen_keeps at x m n first second i c h k = absurd i

    turning_keeps : (at : Point) (x m : Mon) (body : Point → Polished) → IsLoop m x → Free x →
        ((a : Point) → Keeps m (body a)) → Free (turning at x body).program
    turning_keeps at (M.Loop starts guard test' a) m body i c h =
        three_weaker (start_has test starts) (start_has test starts) (has test guard) (has test guard) (has test test')
        (has test test') _ _
        (λ w. w) (λ w. w) (λ w. w)
        (λ w. h (within starts (Whole test' ∷ Whole guard ∷ []) at) (subst (λ z. Free z) i w)) c
    turning_keeps at x m body i c h = absurd i

    module _ (constants : (e : Exp) → IsConstant e → has test e ≡ false) where
      short_keeps : (at : Point) (m : Mon) → Keeps m (shortened_in at m)
      short_keeps at m c = steps_free shortened (λ g. shortened_free test constants g) at (direct_nodes m) m c

      polished_keeps : (m : Mon) (at : Point) → Keeps m (polished_with again m at)
      polished_keeps (M.Bind m xs n) at c =
          let p = or_parts (program_has test place_test m) (program_has test place_test n) c in
          followed_keeps (polished_with again n) n (polished_keeps n) at (polished_with again m at).tree m
          (polished_with again m at).program xs
          (or_from (program_has test place_test (polished_with again m at).program) (program_has test place_test n)
          (polished_keeps m at p.0) p.1)
      polished_keeps (M.If e m n) at c =
          chosen_keeps at (shortened_in at (M.If e m n)).program m n (polished_with again m) (polished_with again n)
          (steps_alike shortened at (direct_nodes (M.If e m n)) (M.If e m n)) (short_keeps at (M.If e m n) c)
          (polished_keeps m) (polished_keeps n)
      polished_keeps (M.Loop starts guard test' m) at c =
          let w = M.Loop starts guard test' m in
          turning_keeps at (shortened_in at w).program m (polished_with again m)
          (steps_alike shortened at (direct_nodes w) w) (short_keeps at w c) (polished_keeps m)
      polished_keeps m at c = short_keeps at m c

  module _ (constants : (e : Exp) → IsConstant e → has test e ≡ false) where
    pub within_keeps : (k : ℕ) (at : Point) (m : Mon) → Keeps m (polished_within k at m)
    within_keeps zero at m = polished_keeps (λ a n. unchanged n) (λ a n c. c) constants m at
    within_keeps (suc k) at m = polished_keeps (polished_within k) (within_keeps k) constants m at

-- The forms

load_constant : (e : Exp) → IsConstant e → has is_load e ≡ false
load_constant (WordLit w) c = refl
load_constant (NumberLit n) c = refl
load_constant (TruthLit b) c = refl
load_constant e c = absurd c

read_constant : (e : Exp) → IsConstant e → has is_read e ≡ false
read_constant (WordLit w) c = refl
read_constant (NumberLit n) c = refl
read_constant (TruthLit b) c = refl
read_constant e c = absurd c

arithmetic_constant : (e : Exp) → IsConstant e → has is_word_arithmetic e ≡ false
arithmetic_constant (WordLit w) c = refl
arithmetic_constant (NumberLit n) c = refl
arithmetic_constant (TruthLit b) c = refl
arithmetic_constant e c = absurd c

module _ (at : Point) (m : Mon) where
  none : (test : Exp → Bool) (place_test : Place → Bool) → ((e : Exp) → test (head e) ≡ test e) →
      ((q : Place) → place_test (place_head q) ≡ place_test q) → ((e : Exp) → IsConstant e → has test e ≡ false) →
      not (program_has test place_test m) ≡ true → not (program_has test place_test (polished at m).program) ≡ true
  none test place_test k j c f =
      ap not
      (within_keeps test place_test (by_head test head k) (by_head place_test place_head j) c (positions m) at m
      (not-true (program_has test place_test m) f))

  pub forms_made : KeepsForms m (polished at m).program
  forms_made = record {
    bytes = none is_read is_written read_head written_head read_constant;
    heaps = none is_load is_stored load_head stored_head load_constant;
    numbers = λ f.
        let p = and_parts (is_heaps m) (not (program_has is_word_arithmetic no_place m)) f in
        and_from (is_heaps (polished at m).program) (not (program_has is_word_arithmetic no_place (polished at m).program))
        (none is_load is_stored load_head stored_head load_constant p.0)
        (none is_word_arithmetic no_place arithmetic_head (λ q. refl) arithmetic_constant p.1);
  }
