-- A program is tidy exactly where no place of it is the left side of a rule that makes programs simpler.
use Rattle.std.proofs.Common.{◌≡◌, ℕ, zero, suc, Bool, true, false, not, ◌&&◌, ◌||◌, List, [], ◌∷◌, ◌++◌, map, Option, Some, None, ◌⊎◌, inl, inr, ◌↔◌, refl, sym, ap, ap₂, ◌∙◌, subst}
use Rattle.std.proofs.lemmas.Bool.{and_parts, and_from, or_parts, or_from, or_left, not-true, true≢false, false_from_ne_true, or_cases, or_right}
use Rattle.c_values.specs.Name.{Name, same_name, is_among}
use Rattle.c_values.proofs.Laid.{name_is, same_name-refl, other_name}
use Rattle.expression_lang.specs.Expression.{Exp, Var, WordLit, NumberLit, TruthLit}
use Rattle.expression_lang.specs.Mentions.{names}
use Rattle.ac_expr.specs.Lasting.{is_unnamed}
use Rattle.monad_lang.specs.Program as M
use Rattle.monad_lang.specs.Program.{Mon}
use Rattle.monad_lang.specs.Names.{is_captured}
use Rattle.monad_lang.specs.Form.{are_vars, is_bind_ret, is_assoc, is_true_guard, is_constant_truth, can_be_put, some_can_be_put, is_ret_one, is_tidy}
use Rattle.rule_eq.specs.Rule as R
use Rattle.rule_eq.specs.Rule.{Point}
use Rattle.program_facts.specs.Substituted.{program_substituted}
use Rattle.rule_eq.specs.Table.{Taken, before, taken_at, CanStand, AreTaken, with_values}
use Rattle.rule_eq.specs.Tidy.{IsLeftOf, IsAtom, TakesAtom, AtomAt, GuardsTrue, IsSimplified, by_bind_ret, by_assoc, by_if_const, by_guard_known, by_ret_one, AtSomePlace}
use Rattle.rule_eq.proofs.PutIn.{some_taken}

abbrev vars : List Name → List Exp
vars xs = map (λ x. Var x) xs

-- names that are given back

vars_are : (xs : List Name) (es : List Exp) → are_vars xs es ≡ true → es ≡ vars xs
vars_are [] [] h = refl
vars_are (x ∷ xs) (Var y ∷ es) h =
    let p = and_parts (same_name x y) (are_vars xs es) h in ap₂ (λ z zs. Var z ∷ zs) (sym (name_is x y p.0)) (vars_are xs es p.1)
vars_are _ _ h = absurd (true≢false (sym h))

are_own_vars : (xs : List Name) → are_vars xs (vars xs) ≡ true
are_own_vars [] = refl
are_own_vars (x ∷ xs) = and_from (same_name x x) (are_vars xs (vars xs)) (same_name-refl x) (are_own_vars xs)

own_given : (m : Mon) (xs : List Name) → is_bind_ret m xs (M.Ret (vars xs)) ≡ true
own_given (M.Ret []) [] = refl
own_given m xs = are_own_vars xs

-- The test of each rule at a place of a program, and the rule.
module _ (at : Point) where
  back_left : (m : Mon) (xs : List Name) (n : Mon) → is_bind_ret m xs n ≡ true → IsLeftOf at R.BindRet (M.Bind m xs n)
  back_left (M.Ret []) [] n h = (n, inr (refl, refl, refl))
  back_left m xs (M.Ret es) h = (m, inl (ap (λ q. M.Ret q) (vars_are xs es h), refl))
  back_left m xs n h = absurd (true≢false (sym h))

  left_back : (m : Mon) (xs : List Name) (n : Mon) → IsLeftOf at R.BindRet (M.Bind m xs n) → is_bind_ret m xs n ≡ true
  left_back m xs n (m', inl h) = subst (λ q. is_bind_ret m xs q ≡ true) (sym h.0) (own_given m xs)
  left_back m xs n (m', inr h) =
      subst (λ q. is_bind_ret q xs n ≡ true) (sym h.0) (subst (λ q. is_bind_ret (M.Ret []) q n ≡ true) (sym h.1) refl)

  assoc_left : (m : Mon) (xs : List Name) (n : Mon) → is_assoc m xs n ≡ true → IsLeftOf at R.Assoc (M.Bind m xs n)
  assoc_left (M.Bind a zs b) xs n h = (M.Bind a zs (M.Bind b xs n), (h, refl))
  assoc_left m xs n h = absurd (true≢false (sym h))

  left_assoc : (m : Mon) (xs : List Name) (n : Mon) → IsLeftOf at R.Assoc (M.Bind m xs n) → is_assoc m xs n ≡ true
  left_assoc (M.Bind a zs b) xs n h = h.1.0
  left_assoc m xs n h = absurd h.1

  guard_left : (m : Mon) (xs : List Name) (n : Mon) → is_true_guard m xs ≡ true →
      GuardsTrue (M.Bind m xs n) × IsLeftOf at R.GuardKnown (M.Bind m xs n)
  guard_left (M.Guard (TruthLit true)) [] n h = (tt, (n, (inl refl, refl)))
  guard_left m xs n h = absurd (true≢false (sym h))

  left_guard : (m : Mon) (xs : List Name) (n : Mon) → GuardsTrue (M.Bind m xs n) → is_true_guard m xs ≡ true
  left_guard (M.Guard (TruthLit true)) [] n g = refl
  left_guard m xs n g = absurd g

  choice_left : (e : Exp) (m n : Mon) → is_constant_truth e ≡ true → IsLeftOf at R.IfConst (M.If e m n)
  choice_left (TruthLit true) m n h = (m, refl)
  choice_left (TruthLit false) m n h = (n, refl)
  choice_left e m n h = absurd (true≢false (sym h))

  left_choice : (e : Exp) (m n : Mon) → IsLeftOf at R.IfConst (M.If e m n) → is_constant_truth e ≡ true
  left_choice (TruthLit true) m n h = refl
  left_choice (TruthLit false) m n h = refl
  left_choice e m n h = absurd h.1

-- Values that can be put in

unnamed_var : (y : Name) (xs : List Name) → is_among y xs ≡ false → is_unnamed xs (Var y) ≡ true
unnamed_var y [] h = refl
unnamed_var y (x ∷ xs) h =
    let p = or_parts (same_name y x) (is_among y xs) h in
    and_from (not (same_name x y)) (is_unnamed xs (Var y)) (ap not (other_name y x p.0)) (unnamed_var y xs p.1)

var_unnamed : (y : Name) (xs : List Name) → is_unnamed xs (Var y) ≡ true → is_among y xs ≡ false
var_unnamed y [] h = refl
var_unnamed y (x ∷ xs) h =
    let p = and_parts (not (same_name x y)) (is_unnamed xs (Var y)) h in
    or_from (same_name y x) (is_among y xs) (other_name x y (not-true (same_name x y) p.0)) (var_unnamed y xs p.1)

abbrev one : Exp → Name → List Exp → List Name → Taken
one e x es xs = record { exp = e; name = x; exps = es; names = xs }

unnamed_word : (xs : List Name) (e : Exp) → ((y : Name) → names y e ≡ false) → is_unnamed xs e ≡ true
unnamed_word [] e h = refl
unnamed_word (x ∷ xs) e h = and_from (not (names x e)) (is_unnamed xs e) (ap not (h x)) (unnamed_word xs e h)

pub put_stands : (e : Exp) (x : Name) (es : List Exp) (xs : List Name) (n : Mon) → can_be_put e x xs n ≡ true →
    IsAtom e × CanStand (one e x es xs) n
put_stands (WordLit w) x es xs n h = (
  tt,
  record
      { state = inl refl; others = unnamed_word xs (WordLit w) (λ y. refl); captured = λ y q. absurd (true≢false (sym q)) },
)
put_stands (NumberLit k) x es xs n h = (
  tt,
  record
      { state = inl refl; others = unnamed_word xs (NumberLit k) (λ y. refl); captured = λ y q. absurd (true≢false (sym q)) },
)
put_stands (TruthLit b) x es xs n h = (
  tt,
  record
      { state = inl refl; others = unnamed_word xs (TruthLit b) (λ y. refl); captured = λ y q. absurd (true≢false (sym q)) },
)
put_stands (Var y) x es xs n h =
    let p = and_parts (not (is_among y xs)) (not (is_captured y x n)) h in (
      tt,
      record {
        state = inl refl;
        others = unnamed_var y xs (not-true (is_among y xs) p.0);
        captured = λ z q. ap (λ a. is_captured a x n) (name_is z y q) ∙ not-true (is_captured y x n) p.1;
      },
    )
put_stands e x es xs n h = absurd (true≢false (sym h))

stands_put : (e : Exp) (x : Name) (es : List Exp) (xs : List Name) (n : Mon) → IsAtom e → CanStand (one e x es xs) n →
    can_be_put e x xs n ≡ true
stands_put (WordLit w) x es xs n a c = refl
stands_put (NumberLit k) x es xs n a c = refl
stands_put (TruthLit b) x es xs n a c = refl
stands_put (Var y) x es xs n a c =
    and_from (not (is_among y xs)) (not (is_captured y x n)) (ap not (var_unnamed y xs c.others))
    (ap not (c.captured y (same_name-refl y)))
stands_put e x es xs n a c = absurd a

-- the order of the other names doesn't matter
pub put_alike : (e : Exp) (x : Name) (xs ys : List Name) (n : Mon) → ((y : Name) → is_among y xs ≡ is_among y ys) →
    can_be_put e x xs n ≡ can_be_put e x ys n
put_alike (Var y) x xs ys n h = ap (λ b. not b && not (is_captured y x n)) (h y)
put_alike e x xs ys n h = refl

pub one_in : (y x : Name) (xs ys : List Name) → is_among y (x ∷ (xs ++ ys)) ≡ is_among y (xs ++ (x ∷ ys))
one_in y x [] ys = refl
one_in y x (z ∷ zs) ys =
    swapped (same_name y x) (same_name y z) (is_among y (zs ++ ys)) ∙ ap (λ b. same_name y z || b) (one_in y x zs ys)
  where
    swapped : (a b c : Bool) → (a || (b || c)) ≡ (b || (a || c))
    swapped true true c = refl
    swapped _ _ _ = refl

-- the value at a position, which can be put in
record Found (front : List Name) (es : List Exp) (xs : List Name) (n : Mon) : Type 0 where
  pub position : ℕ
  pub value : Taken
  pub taken : taken_at position es xs ≡ Some value
  pub put : can_be_put value.exp value.name (front ++ value.names) n ≡ true

found : (front : List Name) (es : List Exp) (xs : List Name) (n : Mon) → some_can_be_put front es xs n ≡ true →
    Found front es xs n
found front (e ∷ es) (x ∷ xs) n h =
    either (or_cases (can_be_put e x (front ++ xs) n) (some_can_be_put (x ∷ front) es xs n) h) (λ k. found (x ∷ front) es xs n k)
  where
    either : (can_be_put e x (front ++ xs) n ≡ true) ⊎ (some_can_be_put (x ∷ front) es xs n ≡ true) →
        (some_can_be_put (x ∷ front) es xs n ≡ true → Found (x ∷ front) es xs n) → Found front (e ∷ es) (x ∷ xs) n
    either (inl k) r = record { position = zero; value = one e x es xs; taken = refl; put = k }
    either (inr k) r =
        let f = r k in
        record {
          position = suc f.position;
          value = record { exp = f.value.exp; name = f.value.name; exps = e ∷ f.value.exps; names = x ∷ f.value.names };
          taken = ap (λ o. before e x o) f.taken;
          put =
              sym
              (put_alike f.value.exp f.value.name (x ∷ (front ++ f.value.names)) (front ++ (x ∷ f.value.names)) n
              (λ y. one_in y x front f.value.names))
              ∙ f.put;
        }
found front es xs n h = absurd (true≢false (sym h))

some_found : (front : List Name) (i : ℕ) (es : List Exp) (xs : List Name) (n : Mon) (k : Taken) → taken_at i es xs ≡ Some k →
    can_be_put k.exp k.name (front ++ k.names) n ≡ true → some_can_be_put front es xs n ≡ true
some_found front zero (e ∷ es) (x ∷ xs) n k h p =
    ap (λ b. b || some_can_be_put (x ∷ front) es xs n)
    (subst (λ q. can_be_put q.exp q.name (front ++ q.names) n ≡ true) (sym (some_taken h)) p)
some_found front (suc i) (e ∷ es) (x ∷ xs) n k h p =
    or_right (can_be_put e x (front ++ xs) n) (some_can_be_put (x ∷ front) es xs n)
    (behind (taken_at i es xs) refl h (λ j f q. some_found (x ∷ front) i es xs n j f q))
  where
    behind : (o : Option Taken) → taken_at i es xs ≡ o → before e x o ≡ Some k →
        ((j : Taken) → taken_at i es xs ≡ Some j → can_be_put j.exp j.name ((x ∷ front) ++ j.names) n ≡ true → some_can_be_put
        (x ∷ front) es xs n ≡ true)
        →
        some_can_be_put (x ∷ front) es xs n ≡ true
    behind None f g r = absurd cc
    behind (Some j) f g r =
        r j f
        (put_alike j.exp j.name (x ∷ (front ++ j.names)) (front ++ (x ∷ j.names)) n (λ y. one_in y x front j.names)
        ∙ subst (λ q. can_be_put q.exp q.name (front ++ q.names) n ≡ true) (sym (some_taken g)) p)
some_found front i es xs n k h p = absurd cc

-- a place of a sequence, as the four tests see it
abbrev simple_bind : Mon → List Name → Mon → Bool
simple_bind m xs n = ((is_bind_ret m xs n || is_assoc m xs n) || is_true_guard m xs) || is_ret_one m xs n

four_not : (a b c d e f : Bool) → (not a && not b && not c && not d && e && f) ≡ true →
    ((((a || b) || c) || d) ≡ false) × (e ≡ true) × (f ≡ true)
four_not false false false false true true h = (refl, refl, refl)
four_not _ _ _ _ _ _ h = absurd (true≢false (sym h))

not_four : (a b c d e f : Bool) → (((a || b) || c) || d) ≡ false → e ≡ true → f ≡ true →
    (not a && not b && not c && not d && e && f) ≡ true
not_four false false false false true true h i j = refl
not_four a b c d e f h i j = cc

module _ (at : Point) where
  ret_left : (m : Mon) (xs : List Name) (n : Mon) → is_ret_one m xs n ≡ true → IsSimplified at (M.Bind m xs n)
  ret_left (M.Ret es) xs n h =
      let f = found [] es xs n h in
      let s = put_stands f.value.exp f.value.name f.value.exps f.value.names n f.put in
      let m' = with_values f.value.exps f.value.names (program_substituted f.value.name f.value.exp n) in
      by_ret_one f.position
      (subst (λ o. TakesAtom o) (sym f.taken) s.0)
      (m', subst (λ o. AreTaken o n m') (sym f.taken) (s.1, refl))
  ret_left m xs n h = absurd (true≢false (sym h))

  left_ret : (i : ℕ) (m : Mon) (xs : List Name) (n : Mon) → AtomAt i (M.Bind m xs n) → IsLeftOf at (R.RetOne i) (M.Bind m xs n) →
      is_ret_one m xs n ≡ true
  left_ret i (M.Ret es) xs n a h = by_taken (taken_at i es xs) refl a h.1
    where
      by_taken : (o : Option Taken) → taken_at i es xs ≡ o → TakesAtom o → AreTaken o n h.0 → some_can_be_put [] es xs n ≡ true
      by_taken None e b t = absurd b
      by_taken (Some k) e b t = some_found [] i es xs n k e (stands_put k.exp k.name k.exps k.names n b t.0)
  left_ret i m xs n a h = absurd a

  seen_bind : (m : Mon) (xs : List Name) (n : Mon) → IsSimplified at (M.Bind m xs n) → simple_bind m xs n ≡ true
  seen_bind m xs n (by_bind_ret h) =
      or_left _ (is_ret_one m xs n) (or_left _ (is_true_guard m xs) (or_left _ (is_assoc m xs n) (left_back at m xs n h)))
  seen_bind m xs n (by_assoc h) =
      or_left _ (is_ret_one m xs n) (or_left _ (is_true_guard m xs) (or_right (is_bind_ret m xs n) _ (left_assoc at m xs n h)))
  seen_bind m xs n (by_if_const h) = absurd h.1
  seen_bind m xs n (by_guard_known g h) =
      or_left _ (is_ret_one m xs n) (or_right (is_bind_ret m xs n || is_assoc m xs n) _ (left_guard at m xs n g))
  seen_bind m xs n (by_ret_one i a h) =
      or_right ((is_bind_ret m xs n || is_assoc m xs n) || is_true_guard m xs) _ (left_ret i m xs n a h)

  bind_seen : (m : Mon) (xs : List Name) (n : Mon) → simple_bind m xs n ≡ true → IsSimplified at (M.Bind m xs n)
  bind_seen m xs n h = first (or_cases ((is_bind_ret m xs n || is_assoc m xs n) || is_true_guard m xs) (is_ret_one m xs n) h)
    where
      third : (is_bind_ret m xs n ≡ true) ⊎ (is_assoc m xs n ≡ true) → IsSimplified at (M.Bind m xs n)
      third (inl k) = by_bind_ret (back_left at m xs n k)
      third (inr k) = by_assoc (assoc_left at m xs n k)

      second : ((is_bind_ret m xs n || is_assoc m xs n) ≡ true) ⊎ (is_true_guard m xs ≡ true) → IsSimplified at (M.Bind m xs n)
      second (inl k) = third (or_cases (is_bind_ret m xs n) (is_assoc m xs n) k)
      second (inr k) = let g = guard_left at m xs n k in by_guard_known g.0 g.1

      first : (((is_bind_ret m xs n || is_assoc m xs n) || is_true_guard m xs) ≡ true) ⊎ (is_ret_one m xs n ≡ true) →
          IsSimplified at (M.Bind m xs n)
      first (inl k) = second (or_cases (is_bind_ret m xs n || is_assoc m xs n) (is_true_guard m xs) k)
      first (inr k) = ret_left m xs n k

  seen_choice : (e : Exp) (m n : Mon) → IsSimplified at (M.If e m n) → is_constant_truth e ≡ true
  seen_choice e m n (by_bind_ret h) = absurd h.1
  seen_choice e m n (by_assoc h) = absurd h.1
  seen_choice e m n (by_if_const h) = left_choice at e m n h
  seen_choice e m n (by_guard_known g h) = absurd g
  seen_choice e m n (by_ret_one i a h) = absurd a

  -- what is no sequence and no choice is the left side of no such rule
  abbrev IsPlain : Mon → Type 0
  IsPlain (M.Bind m xs n) = ⊥
  IsPlain (M.If e m n) = ⊥
  IsPlain m = Unit {0}

  no_left : (m : Mon) → IsPlain m →
      (IsLeftOf at R.BindRet m → ⊥) × (IsLeftOf at R.Assoc m → ⊥) × (IsLeftOf at R.IfConst m → ⊥) × (GuardsTrue m → ⊥) ×
      ((i : ℕ) → AtomAt i m → ⊥)
  no_left (M.Bind m xs n) p = absurd p
  no_left (M.If e m n) p = absurd p
  no_left m p = (λ h. h.1, λ h. h.1, λ h. h.1, λ g. g, λ i a. a)

  plain : (m : Mon) → IsPlain m → IsSimplified at m → ⊥
  plain m p (by_bind_ret h) = (no_left m p).0 h
  plain m p (by_assoc h) = (no_left m p).1 h
  plain m p (by_if_const h) = (no_left m p).2 h
  plain m p (by_guard_known g h) = (no_left m p).3 g
  plain m p (by_ret_one i a h) = (no_left m p).4 i a

  -- whole programs

  abbrev Simple : Mon → Type 0
  Simple m = AtSomePlace (IsSimplified at) m

  tidy_none : (m : Mon) → is_tidy m ≡ true → Simple m → ⊥
  tidy_none (M.Ret es) h s = plain (M.Ret es) tt s
  tidy_none (M.Guard e) h s = plain (M.Guard e) tt s
  tidy_none (M.Write q e) h s = plain (M.Write q e) tt s
  tidy_none (M.Call f es) h s = plain (M.Call f es) tt s
  tidy_none (M.Pick k) h s = plain (M.Pick k) tt s
  tidy_none (M.Bind m xs n) h s =
      let k = four_not (is_bind_ret m xs n) (is_assoc m xs n) (is_true_guard m xs) (is_ret_one m xs n) (is_tidy m) (is_tidy n) h
      in
      which s k.0 (tidy_none m k.1) (tidy_none n k.2)
    where
      which : Simple (M.Bind m xs n) → simple_bind m xs n ≡ false → (Simple m → ⊥) → (Simple n → ⊥) → ⊥
      which (inl q) f a b = true≢false (sym (seen_bind m xs n q) ∙ f)
      which (inr (inl q)) f a b = a q
      which (inr (inr q)) f a b = b q
  tidy_none (M.If e m n) h s =
      let k = and_parts (not (is_constant_truth e) && is_tidy m) (is_tidy n) h in
      let j = and_parts (not (is_constant_truth e)) (is_tidy m) k.0 in
      which s (not-true (is_constant_truth e) j.0) (tidy_none m j.1) (tidy_none n k.1)
    where
      which : Simple (M.If e m n) → is_constant_truth e ≡ false → (Simple m → ⊥) → (Simple n → ⊥) → ⊥
      which (inl q) f a b = true≢false (sym (seen_choice e m n q) ∙ f)
      which (inr (inl q)) f a b = a q
      which (inr (inr q)) f a b = b q
  tidy_none (M.Loop starts guard test m) h s = which s (tidy_none m h)
    where
      which : Simple (M.Loop starts guard test m) → (Simple m → ⊥) → ⊥
      which (inl q) a = plain (M.Loop starts guard test m) tt q
      which (inr q) a = a q

  none_tidy : (m : Mon) → (Simple m → ⊥) → is_tidy m ≡ true
  none_tidy (M.Bind m xs n) h =
      not_four (is_bind_ret m xs n) (is_assoc m xs n) (is_true_guard m xs) (is_ret_one m xs n) (is_tidy m) (is_tidy n)
      (false_from_ne_true (simple_bind m xs n) (λ b. h (inl (bind_seen m xs n b))))
      (none_tidy m (λ s. h (inr (inl s)))) (none_tidy n (λ s. h (inr (inr s))))
  none_tidy (M.If e m n) h =
      and_from (not (is_constant_truth e) && is_tidy m) (is_tidy n)
      (and_from (not (is_constant_truth e)) (is_tidy m)
      (ap not (false_from_ne_true (is_constant_truth e) (λ b. h (inl (by_if_const (choice_left at e m n b))))))
      (none_tidy m (λ s. h (inr (inl s)))))
      (none_tidy n (λ s. h (inr (inr s))))
  none_tidy (M.Loop starts guard test m) h = none_tidy m (λ s. h (inr s))
  none_tidy _ _ = refl

pub tidy_exactly : (at : Point) (m : Mon) → (is_tidy m ≡ true) ↔ (AtSomePlace (IsSimplified at) m → ⊥)
tidy_exactly at m = (tidy_none at m, none_tidy at m)
