-- What is tidy, where no step of its expressions is left and no guard in first place is known, stays as it is, by the rule refl.
use Rattle.std.proofs.Common.{◌≡◌, Bool, sym, ℕ, zero, suc, true, false, not, cond, ◌&&◌, List, [], ◌∷◌, ◌++◌, Some, None, refl, ap, ap₂, ◌∙◌}
use Rattle.std.proofs.lemmas.Bool.{true≢false, and_parts, or_parts, not-true, cond-false}
use Rattle.c_values.specs.Name.{Name}
use Rattle.expression_lang.specs.Expression.{Exp, TruthLit}
use Rattle.monad_lang.specs.Program as M
use Rattle.monad_lang.specs.Program.{Mon}
use Rattle.monad_lang.specs.Names.{is_free}
use Rattle.polish.proofs.Accepted.{literal_put}
use Rattle.monad_lang.specs.Form.{is_bind_ret, all_kept, is_assoc, is_true_guard, is_constant_truth, can_be_put, some_can_be_put, is_ret_one, is_tidy}
use Rattle.ac_expr.specs.Fact.{Whole, NotTrue}
use Rattle.rule_eq.specs.Rule as R
use Rattle.rule_eq.specs.Rule.{Point}
use Rattle.rule_eq.specs.Table.{knowing, behind, within}
use Rattle.expression_steps.specs.Rewritten.{direct_nodes}
use Rattle.polish.specs.Direct.{direct_step, more, direct_steps}
use Rattle.expression_steps.specs.Shortened.{shortened}
use Rattle.expression_steps.specs.Known.{is_known}
use Rattle.polish.specs.Polished.{Polished, Way, leaf, exp_tree, bind_tree, last_of, unchanged, at_once, and_then, shortened_in, what_is_bound, one_later, first_put, is_literal, first_constant, put_at, turned, or_shorter, bound, then_all, settled, put_or_settled, followed, chosen, turning, in_choice, in_loop, polished_with, polished_within, positions, polished}

none_first : (front : List Name) (es : List Exp) (xs : List Name) (n : Mon) → some_can_be_put front es xs n ≡ false →
    first_put front es xs n ≡ None
none_first front (e ∷ es) (x ∷ xs) n h =
    let p = or_parts (can_be_put e x (front ++ xs) n) (some_can_be_put (x ∷ front) es xs n) h in
    cond-false (can_be_put e x (front ++ xs) n) (Some zero) (one_later (first_put (x ∷ front) es xs n)) p.0
    ∙ ap (λ o. one_later o) (none_first (x ∷ front) es xs n p.1)
none_first front [] xs n h = refl
none_first front (e ∷ es) [] n h = refl

no_constant : (front : List Name) (es : List Exp) (xs : List Name) (n : Mon) → some_can_be_put front es xs n ≡ false →
    first_constant es xs n ≡ None
no_constant front (e ∷ es) (x ∷ xs) n h =
    let p = or_parts (can_be_put e x (front ++ xs) n) (some_can_be_put (x ∷ front) es xs n) h in
    cond-false (is_literal e && is_free x n) (Some zero) (one_later (first_constant es xs n))
    (not_literal (is_literal e) refl p.0)
    ∙ ap (λ o. one_later o) (no_constant (x ∷ front) es xs n p.1)
  where
    not_literal : (b : Bool) → is_literal e ≡ b → can_be_put e x (front ++ xs) n ≡ false → (b && is_free x n) ≡ false
    not_literal true i k = absurd (true≢false (sym (literal_put e x (front ++ xs) n i) ∙ k))
    not_literal false i k = refl
no_constant front [] xs n h = refl
no_constant front (e ∷ es) [] n h = refl

shorter_stays : (m : Mon) (xs : List Name) (n : Mon) (p : Polished) → is_bind_ret m xs n ≡ false → is_true_guard m xs ≡ false →
    or_shorter m xs n p ≡ p
shorter_stays m xs n p h k =
    cond-false (is_bind_ret m xs n) (at_once R.BindRet (what_is_bound m xs n))
    (cond (is_true_guard m xs) (at_once R.GuardKnown n) p) h
    ∙ cond-false (is_true_guard m xs) (at_once R.GuardKnown n) p k

record Apart (m : Mon) (xs : List Name) (n : Mon) : Type 0 where
  pub no_ret : is_bind_ret m xs n ≡ false
  pub no_assoc : is_assoc m xs n ≡ false
  pub no_guard : is_true_guard m xs ≡ false
  pub no_put : is_ret_one m xs n ≡ false
  pub first : is_tidy m ≡ true
  pub second : is_tidy n ≡ true

tidy_tests : (m : Mon) (xs : List Name) (n : Mon) → is_tidy (M.Bind m xs n) ≡ true → Apart m xs n
tidy_tests m xs n h =
    let a = and_parts _ (is_tidy n) h in
    let b = and_parts _ (is_tidy m) a.0 in
    let c = and_parts _ (not (is_ret_one m xs n)) b.0 in
    let d = and_parts _ (not (is_true_guard m xs)) c.0 in
    let e = and_parts (not (is_bind_ret m xs n)) (not (is_assoc m xs n)) d.0 in
    record {
      no_ret = not-true (is_bind_ret m xs n) e.0;
      no_assoc = not-true (is_assoc m xs n) e.1;
      no_guard = not-true (is_true_guard m xs) d.1;
      no_put = not-true (is_ret_one m xs n) c.1;
      first = b.1;
      second = a.1;
    }

abbrev after_steps : Mon → List Mon → Polished
after_steps m ms = record { program = last_of m ms; tree = exp_tree ms }

-- a guard in first place isn't known
abbrev IsUnknown : Point → Mon → List Name → Type 0
IsUnknown at (M.Guard e) [] = is_known at.facts e ≡ false
IsUnknown at m xs = Unit {0}

-- no step of the expressions that stand in it is left, and no guard in first place is known
abbrev pub IsSettled : Point → Mon → Type 0
IsSettled at (M.Bind m xs n) = IsSettled at m × IsSettled (behind m xs at) n × IsUnknown at m xs
IsSettled at (M.If e m n) =
    (direct_step shortened at (M.If e m n) ≡ None) × IsSettled (knowing (Whole e) at) m × IsSettled (knowing (NotTrue e) at) n
IsSettled at (M.Loop starts guard test m) =
    (direct_step shortened at (M.Loop starts guard test m) ≡ None)
    × IsSettled (within starts (Whole test ∷ Whole guard ∷ []) at) m
IsSettled at m = direct_step shortened at m ≡ None

no_steps : (at : Point) (k : ℕ) (m : Mon) → direct_step shortened at m ≡ None → direct_steps shortened at k m ≡ []
no_steps at zero m h = refl
no_steps at (suc k) m h = ap (λ o. more o (λ x. direct_steps shortened at k x)) h

short_stays : (at : Point) (m : Mon) → direct_step shortened at m ≡ None → shortened_in at m ≡ unchanged m
short_stays at m h = ap (λ ms. after_steps m ms) (no_steps at (direct_nodes m) m h)

choice_stays : (at : Point) (e : Exp) (m n : Mon) (f g : Point → Polished) → is_constant_truth e ≡ false →
    f (knowing (Whole e) at) ≡ unchanged m → g (knowing (NotTrue e) at) ≡ unchanged n →
    chosen at (M.If e m n) f g ≡ unchanged (M.If e m n)
choice_stays at (TruthLit b) m n f g h i j = absurd cc
choice_stays at e m n f g h i j = ap₂ (λ p q. chosen at (M.If e m n) (λ a. p) (λ a. q)) i j

module _ (again : Way) where
  bound_stays : (at : Point) (m : Mon) (xs : List Name) (n : Mon) → Apart m xs n →
      bound again at m xs n ≡ unchanged (M.Bind m xs n)
  bound_stays at (M.Bind a zs b) xs n h =
      let r = bound again (behind a zs at) b xs n in
      shorter_stays (M.Bind a zs b) xs n
      (cond (all_kept zs xs n) (turned a zs b xs n r (λ r. bound again at a zs r)) (unchanged (M.Bind (M.Bind a zs b) xs n)))
      h.no_ret h.no_guard
      ∙ cond-false (all_kept zs xs n) (turned a zs b xs n r (λ r. bound again at a zs r))
      (unchanged (M.Bind (M.Bind a zs b) xs n)) h.no_assoc
  bound_stays at (M.Ret es) xs n h =
      shorter_stays (M.Ret es) xs n (put_at again at es xs n (first_put [] es xs n)) h.no_ret h.no_guard
      ∙ ap (λ o. put_at again at es xs n o) (none_first [] es xs n h.no_put)
  bound_stays at m xs n h = shorter_stays m xs n (unchanged (M.Bind m xs n)) h.no_ret h.no_guard

  module _ (last : Point → Polished) (n : Mon) where
    settled_stays : (at : Point) (m : Mon) (xs : List Name) → last (behind m xs at) ≡ unchanged n → Apart m xs n →
        settled again last at (leaf R.Refl) m xs ≡ unchanged (M.Bind m xs n)
    settled_stays at m xs h k =
        ap (λ q. and_then (bind_tree (leaf R.Refl) q.tree) (M.Bind m xs q.program) (bound again at m xs q.program)) h
        ∙ bound_stays at m xs n k

    followed_stays : (at : Point) (m : Mon) (xs : List Name) → last (behind m xs at) ≡ unchanged n → Apart m xs n →
        IsUnknown at m xs → followed again last at (leaf R.Refl) m m xs n ≡ unchanged (M.Bind m xs n)
    followed_stays at (M.Bind a zs b) xs h k u =
        let r = followed again last (behind a zs at) (leaf R.Refl) b b xs n in
        let turn = then_all (leaf R.Refl) (M.Bind a zs b) xs n (turned a zs b xs n r (λ r. bound again at a zs r)) in
        let rest = settled again last at (leaf R.Refl) (M.Bind a zs b) xs in
        cond-false (is_bind_ret (M.Bind a zs b) xs n)
        (then_all (leaf R.Refl) (M.Bind a zs b) xs n (at_once R.BindRet (M.Bind a zs b)))
        (cond (all_kept zs xs n) turn rest) k.no_ret
        ∙ cond-false (all_kept zs xs n) turn rest k.no_assoc
        ∙ settled_stays at (M.Bind a zs b) xs h k
    followed_stays at (M.Ret es) xs h k u =
        ap (λ o. put_or_settled again last at (leaf R.Refl) es xs n o) (no_constant [] es xs n k.no_put)
        ∙ settled_stays at (M.Ret es) xs h k
    followed_stays at (M.Guard e) [] h k u =
        cond-false (is_known at.facts e)
        (then_all (leaf R.Refl) (M.Guard e) [] n (and_then (leaf R.GuardKnown) n (last at)))
        (settled again last at (leaf R.Refl) (M.Guard e) []) u
        ∙ settled_stays at (M.Guard e) [] h k
    followed_stays at m xs h k u = settled_stays at m xs h k

  with_stays : (m : Mon) (at : Point) → is_tidy m ≡ true → IsSettled at m → polished_with again m at ≡ unchanged m
  with_stays (M.Bind m xs n) at h k =
      let t = tidy_tests m xs n h in
      ap (λ p. followed again (polished_with again n) at p.tree m p.program xs n) (with_stays m at t.first k.0)
      ∙ followed_stays (polished_with again n) n at m xs (with_stays n (behind m xs at) t.second k.1) t k.2
  with_stays (M.If e m n) at h k =
      let a = and_parts (not (is_constant_truth e) && is_tidy m) (is_tidy n) h in
      let b = and_parts (not (is_constant_truth e)) (is_tidy m) a.0 in
      ap (λ f. in_choice f at (polished_with again m) (polished_with again n)) (short_stays at (M.If e m n) k.0)
      ∙ choice_stays at e m n (polished_with again m) (polished_with again n) (not-true (is_constant_truth e) b.0)
      (with_stays m (knowing (Whole e) at) b.1 k.1) (with_stays n (knowing (NotTrue e) at) a.1 k.2)
  with_stays (M.Loop starts guard test m) at h k =
      ap (λ f. in_loop f at (polished_with again m)) (short_stays at (M.Loop starts guard test m) k.0)
      ∙ ap (λ p. turning at (M.Loop starts guard test m) (λ a. p))
      (with_stays m (within starts (Whole test ∷ Whole guard ∷ []) at) h k.1)
  with_stays (M.Ret es) at h k = short_stays at (M.Ret es) k
  with_stays (M.Guard e) at h k = short_stays at (M.Guard e) k
  with_stays (M.Write q e) at h k = short_stays at (M.Write q e) k
  with_stays (M.Call f es) at h k = short_stays at (M.Call f es) k
  with_stays (M.Pick j) at h k = short_stays at (M.Pick j) k

pub tidy_stays : (at : Point) (m : Mon) → is_tidy m ≡ true → IsSettled at m → polished at m ≡ unchanged m
tidy_stays at m h k = within (positions m)
  where
    within : (j : ℕ) → polished_within j at m ≡ unchanged m
    within zero = with_stays (λ a n. unchanged n) m at h k
    within (suc j) = with_stays (polished_within j) m at h k
